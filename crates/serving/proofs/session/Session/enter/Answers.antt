-- `serving::session::Session::enter` meets its contract: the bytes handed over are the line, which is one line and asks for the batch of the file.
-- Assumes nothing.
use Rattle.std.proofs.Common.{map, pos, arith}
use Rattle.serving.proofs.LoadLaws.{same-room, is-line, entered, entered-grown, loads}
use Rattle.serving.proofs.session.Session.enter.Goals as goal

pub returns-clause-entered : goal.returns-clause-entered
returns-clause-entered c =
    let line = c.put_line.ensures in
    let same = same-room c.args.desk.now.numbers _ (map pos c.args.file.bytes.now) line.numbers_after in
    let is =
    is-line c.args.file.bytes.now _ _ _ _ (omega (arith, c.args.file.few, c.large_buffer-text.ensures)) c.new-line.ensures line.put c.written.ensures in
    entered _ _ _ same _ _ _ is line.are_bytes _ _ c.in_ok-drain.ensures.drained

pub returns-clause-grown : goal.returns-clause-grown
returns-clause-grown c =
    let line = c.put_line.ensures in
    let same = same-room c.args.desk.now.numbers _ (map pos c.args.file.bytes.now) line.numbers_after in
    let is =
    is-line c.args.file.bytes.now _ _ _ _ (omega (arith, c.args.file.few, c.large_buffer-text.ensures)) c.new-line.ensures line.put c.written.ensures in
    entered-grown _ _ _ same _ _ _ is _ _ _ c.in_ok-drain.ensures.grown

pub returns-clause-loads : goal.returns-clause-loads
returns-clause-loads c = loads _ _ _ _ c.put_line.ensures.are_bytes

pub returns-in_err-desk-clause-loads : goal.returns-in_err-desk-clause-loads
returns-in_err-desk-clause-loads c = loads _ _ _ _ c.put_line.ensures.are_bytes

pub returns-in_err-drain-clause-loads : goal.returns-in_err-drain-clause-loads
returns-in_err-drain-clause-loads c = loads _ _ _ _ c.put_line.ensures.are_bytes
