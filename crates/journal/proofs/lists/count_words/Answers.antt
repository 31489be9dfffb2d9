-- `journal::lists::count_words` meets its contract: a text has no more words than bytes, which a slice's length bounds.
-- Assumes nothing.
use Rattle.std.proofs.Common.{rules, arith, inl, length, ◌<◌}
use Rattle.words.proofs.WordLaws.{words_few}
use Rattle.journal.proofs.lists.count_words.Goals as goal

pub count-requires-clause-fits : goal.count-requires-clause-fits
count-requires-clause-fits c =
    let n : length c.args.text.now < 18446744073709551616 = search rules in
    inl (omega (arith, words_few c.args.text.now))
