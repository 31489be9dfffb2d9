-- The call of papers 01 and 02 that each case of the code's enum stands for.
-- Assumes nothing.
use Rattle.replay.specs.declared.call.Call.{Call}
use Rattle.replay.specs.declared.call.Call.TheVariants as Calls
use Rattle.book.specs.Call as calls

abbrev pub said : Call → calls.Call
said (Calls.Admit p role) = calls.on p (calls.admit role)
said (Calls.Lodge p k holding) = calls.on p (calls.lodge k holding)
said (Calls.Release p k amount) = calls.on p (calls.release k amount)
said (Calls.Settle p month figures) = calls.on p (calls.settle month.0 figures.now)
said (Calls.AnnualRun p) = calls.on p calls.annual_run
said (Calls.Advance day budget) = calls.advance day.0 budget
said (Calls.Statement p) = calls.statement p
said (Calls.Load file) = calls.batch file.now
said (Calls.Delete p) = calls.on p calls.delete
said Calls.CallsMade = calls.calls_made
