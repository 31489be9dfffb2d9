-- What an accepted deletion gives on words: the file that it leaves.
-- Assumes nothing.
use Prim.Native.Nat.{ℕ, ◌≤◌}
use mathlib.Core.Path.{◌≡◌, refl, sym, ◌∙◌}
use mathlib.Core.Bool.{true}
use mathlib.Core.List.{List}
use Rattle.file.specs.declared.File.{File}
use Rattle.file.specs.declared.Deletion.{Deletion}
use Rattle.file.specs.Answer.{deletion}
use Rattle.file.specs.Deletion.{deletion_answer, deleted_file}
use Rattle.layout.specs.Files.{Put}
use Rattle.layout.specs.Words.{place, file_in_words, today_in}
use Rattle.layout.specs.WellFormed.{WellFormed}
use Rattle.book.specs.Call.{delete, on}
use Rattle.book.specs.Account.{file_answer, file_after}
use Rattle.book.specs.InWords.{GivenWords}
use Rattle.book.proofs.Functions.OnWords.{seen, own-answered, left-after, given-left, given-unknown, given-refused}

pub given-deletion : (l l' m : List ℕ) (p p' : ℕ) (d : Deletion) (g : File) → WellFormed l → l' ≡ l → p' ≡ p → p ≤ 63
    → (file_in_words l p).admitted ≡ true → deletion d.amount d.called ≡ deletion_answer (file_in_words l' p') (today_in l')
    → g ≡ deleted_file (file_in_words l' p') (today_in l') → Put l (place p) g m
    → GivenWords l (on p delete) (deletion d.amount d.called) m
unfolding file_after
given-deletion l l' m p p' d g w words same low known e file put =
    let t = today_in l in
    let x = deletion d.amount d.called in
    let is : x ≡ file_answer (file_in_words l p) t delete = own-answered l l' p p' delete x words same known refl e in
    given-left l p w low m g put delete x refl is
    (seen l l' p p' words same deleted_file g file ∙ sym (left-after (file_in_words l p) t delete is refl))

pub ruleset deletes = (given-unknown, given-refused, given-deletion)
