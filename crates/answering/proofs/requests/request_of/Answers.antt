-- `answering::requests::request_of` meets its contract: the numbers that the parser leaves at the front are those that the request has.
-- Assumes nothing.
use Rattle.std.proofs.Common.{rules}
use Rattle.answering.proofs.ParsedLines.{long_line, parsed_line}
use Rattle.answering.proofs.requests.request_of.Goals as goal

pub returns-then-long : goal.returns-then-long
returns-then-long c = search (long_line, rules)

pub returns-else-long : goal.returns-else-long
returns-else-long c = search (parsed_line, rules)
