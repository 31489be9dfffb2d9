-- What the question answers, from the file that is read of a book's words; and that a call for an amount answers as the file does.
-- Assumes nothing.
use Rattle.std.specs.Prelude.{ℕ, ◌≤◌, ◌<◌, ◌≡◌, refl, true, false, List, Ok, Err}
use Rattle.std.proofs.Common.{sym, ap, ◌∙◌, lt-ltb, le-ltb}
use Rattle.refusal.specs.declared.Refusal.TheVariants.{NoSuchParticipant, NotAdmitted, NoSuchPosition}
use Rattle.calendar.specs.declared.Day.{Day}
use Rattle.file.specs.declared.File.{File}
use Rattle.file.specs.Answer.{accepted}
use Rattle.file.specs.Release.{release_answer}
use Rattle.file.specs.Sound.{Sound}
use Rattle.layout.specs.Book.{Book}
use Rattle.layout.specs.Words.{book_of_words, file_in_words}
use Rattle.layout.specs.WellFormed.{WellFormed}
use Rattle.book.specs.Call.{release, on}
use Rattle.book.specs.Rule.{new_rule}
use Rattle.book.specs.Account.{file_at, file_answer, answer}
use Rattle.book.proofs.Functions.OnFile.{known-answer, is-admitted}
use Rattle.book.proofs.Functions.OnWords.{file-there}
use Rattle.book.proofs.Functions.SoundBook.{sound-file}
use Rattle.inquiry.specs.Releasable.{is_accepted, is_released, releasable_at, releasable_in, Most}
use Rattle.inquiry.proofs.Held.{releasable-is}

-- ---- the calls

module _ (b : Book) (p k : ℕ) (low : p ≤ 63) (known : (file_at b p).admitted ≡ true) where
  -- The call that releases an amount answers as the file does.
  answers : (a : ℕ) → release_answer (file_at b p) b.today.0 k a ≡ answer new_rule b (on p (release k a))
  unfolding file_answer
  answers a = known-answer b p (release k a) (release_answer (file_at b p) b.today.0 k a) (le-ltb 63 p low) refl (is-admitted (file_at b p) _ _ known refl)

  same : (a : ℕ) → is_released b p k a ≡ is_accepted (file_at b p) b.today.0 k a
  same a = sym (ap accepted (answers a))

  pub most-is : Most b p k (releasable_at (file_at b p) b.today.0 k)
  most-is =
      let n = releasable_at (file_at b p) b.today.0 k in
      let r = releasable-is (file_at b p) b.today.0 k in
      record {
        file = r;
        calls =
            record {
              within = λ a least most allowed. same a ∙ r.within a least most allowed;
              above = λ a h. same a ∙ r.above a h;
              itself = λ h. same n ∙ r.itself h;
            };
      }

-- ---- the question

module _ (l : List ℕ) (p k : ℕ) where
  pub no-participant : 63 < p → Err NoSuchParticipant ≡ releasable_in (book_of_words l) p k
  unfolding releasable_in
  no-participant h = rw (lt-ltb 63 p h) refl

  module _ (f : File) (low : p ≤ 63) (is : f ≡ file_in_words l p) where
    there : f ≡ file_at (book_of_words l) p
    there = is ∙ sym (file-there l p low)

    pub not-admitted : f.admitted ≡ false → Err NotAdmitted ≡ releasable_in (book_of_words l) p k
    unfolding releasable_in
    not-admitted e = rw (le-ltb 63 p low, sym (ap (λ (z : File). z.admitted) there) ∙ e) refl

    module _ (known : f.admitted ≡ true) where
      admitted-there : (file_at (book_of_words l) p).admitted ≡ true
      admitted-there = sym (ap (λ (z : File). z.admitted) there) ∙ known

      pub no-position : 7 < k → Err NoSuchPosition ≡ releasable_in (book_of_words l) p k
      unfolding releasable_in
      no-position h = rw (le-ltb 63 p low, admitted-there, lt-ltb 7 k h) refl

    module _ (today : Day) (day : today ≡ (book_of_words l).today) where
      pub sound-there : WellFormed l → Sound today.0 f
      sound-there w = rw (day, there) (sound-file (book_of_words l) p w.sound)

      module _ (known : f.admitted ≡ true) (n : ℕ) (amount : n ≡ releasable_at f today.0 k) where
        amount-there : n ≡ releasable_at (file_at (book_of_words l) p) (book_of_words l).today.0 k
        amount-there = amount ∙ (λ i. releasable_at (there i) (day i).0 k)

        pub answered : k ≤ 7 → Ok n ≡ releasable_in (book_of_words l) p k
        unfolding releasable_in file_at
        answered h = rw (le-ltb 63 p low, admitted-there known, le-ltb 7 k h) (ap Ok amount-there)

        pub most-there : Most (book_of_words l) p k n
        most-there = rw amount-there (most-is (book_of_words l) p k low (admitted-there known))

pub ruleset questions = (no-participant, not-admitted, no-position, sound-there, answered)
