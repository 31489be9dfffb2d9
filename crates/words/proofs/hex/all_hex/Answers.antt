-- `words::hex::all_hex` meets its contract: each byte is a hexadecimal digit where the definition says so.
-- Assumes nothing.
use Rattle.std.proofs.Common.{rules, ◌∙◌}
use Rattle.std.specs.Char.{is_ascii_hexdigit}
use Rattle.std.proofs.lemmas.Iterator.{YieldsList-from_slice}
use Rattle.std.proofs.lemmas.Iterator.Search.{all_from_yields_List}
use borrow.Author.Tests.{tests}
use Rattle.words.proofs.HexLaws.{each_hex}
use Rattle.words.proofs.hex.all_hex.Goals as goal

pub returns : goal.returns
returns c =
    all_from_yields_List is_ascii_hexdigit _ _ _ c.all.ensures.ran (YieldsList-from_slice c.args.w.now cc) (λ x b q k. search (rules, tests))
    ∙ each_hex c.args.w.now
