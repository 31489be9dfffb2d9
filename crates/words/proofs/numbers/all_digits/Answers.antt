-- `words::numbers::all_digits` meets its contract: each byte is a digit where the definition says so.
-- Assumes nothing.
use Rattle.std.proofs.Common.{rules, ◌∙◌}
use Rattle.std.specs.Char.{is_ascii_digit}
use Rattle.std.proofs.lemmas.Iterator.{YieldsList-from_slice}
use Rattle.std.proofs.lemmas.Iterator.Search.{all_from_yields_List}
use borrow.Author.Tests.{tests}
use Rattle.words.specs.Bytes.{digit}
use Rattle.words.proofs.Scans.{each_all}
use Rattle.words.proofs.numbers.all_digits.Goals as goal

pub returns : goal.returns
unfolding digit
returns c =
    all_from_yields_List is_ascii_digit _ _ _ c.all.ensures.ran (YieldsList-from_slice c.args.w.now cc) (λ x b q k. search (rules, tests))
    ∙ each_all digit c.args.w.now
