-- The iterator of a text's words: the next one stands behind the blanks, up to the next blank.
-- Assumes nothing.
use Rattle.std.proofs.Common.{◌-◌, length, take, drop, arith, ap}
use Rattle.words.proofs.WordLaws.{blanks_few, solid_few, word_found, word_ended}
use Rattle.words.proofs.line.WordsIterator.next.Goals as goal

pub slice_bounds-text-count : goal.slice_bounds-text-count
slice_bounds-text-count c = omega (arith, blanks_few c.args.self.now.text.now)

pub slice_bounds-text-start : goal.slice_bounds-text-start
slice_bounds-text-start c = omega (arith, blanks_few c.args.self.now.text.now)

pub split_at-requires : goal.split_at-requires
split_at-requires c = omega (arith, solid_few (take (length c.args.self.now.text.now - c.blanks.result) (drop c.blanks.result c.args.self.now.text.now)))

pub returns-then-is_empty-clause-steps : goal.returns-then-is_empty-clause-steps
returns-then-is_empty-clause-steps c =
    word_ended c.args.self.now.text.now _ _ c.blanks.ensures c.solid.ensures _ c.split_at.ensures.back (grind (arith, c.split_at.ensures.front_len))

pub returns-else-is_empty-clause-steps : goal.returns-else-is_empty-clause-steps
returns-else-is_empty-clause-steps c =
    word_found c.args.self.now.text.now _ _ c.blanks.ensures c.solid.ensures _ _ c.split_at.ensures.front c.split_at.ensures.back
    (grind (arith, c.split_at.ensures.front_len))

pub returns-else-is_empty-clause-goes : goal.returns-else-is_empty-clause-goes
returns-else-is_empty-clause-goes c =
    record { on = λ _. (tt, tt, omega (arith, ap length (returns-else-is_empty-clause-steps c))); keeps = tt; rests = λ _. tt }
