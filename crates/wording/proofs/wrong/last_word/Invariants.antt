-- `wording::wrong::last_word`: the last of the words that are left, behind the one that was taken last, is the last of all.
-- Assumes nothing.
use Rattle.std.proofs.Common.{◌≡◌, []}
use Rattle.words.specs.Words.{words, left}
use Rattle.wording.specs.WrongWord.{last_from}
use Rattle.wording.proofs.wrong.last_word.Given as goal

abbrev pub invariant-loop-word : goal.invariant-loop-word
invariant-loop-word l = last_from l.last (left l.words) ≡ last_from [] (words l.text)
