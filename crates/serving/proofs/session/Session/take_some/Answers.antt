-- `serving::session::Session::take_some` meets its contract: no byte is taken only where no line is.
-- Assumes nothing.
use Rattle.std.proofs.Common.{sym, ap, ◌∙◌, arith}
use Rattle.std.proofs.lemmas.Result.{err_from_is_err_and}
use Rattle.serving.specs.Delivery.{left}
use Rattle.serving.proofs.PartLaws.{stepped, some_taken}
use Rattle.serving.proofs.GrowthLaws.{took, none-refused}
use Rattle.serving.proofs.session.Session.take_some.Goals as goal

pub returns-clause-step : goal.returns-clause-step
returns-clause-step c =
    let given = c.answer-used.ensures in
    stepped _ _ _ _ _ _ _ _ given.answers (omega (arith, given.space.0, c.args.desk.now.kept_room))
    (omega (arith, given.space.1, c.args.desk.now.out_room))

pub returns-clause-grown : goal.returns-clause-grown
returns-clause-grown c =
    let given = c.answer-used.ensures in
    rw (ap left (sym given.others.0 ∙ c.in_ok-journal.was))
    (took _ _ _ _ _ _ _ c.deliver.ensures c.in_ok-forced.was (c.written.ensures ∙ given.answers.taken.journal))

-- Also where the lines' bytes could not be delivered the lines are taken.
pub returns-in_err-journal-clause-taken : goal.returns-in_err-journal-clause-taken
returns-in_err-journal-clause-taken c =
    let given = c.answer-used.ensures in
    let e = err_from_is_err_and c.from_residual.result c.from_residual.ensures.1 in
    rw e.1
    (some_taken _ _ _ _ _ _ _ _ given.answers (omega (arith, given.space.0, c.args.desk.now.kept_room))
    (omega (arith, given.space.1, c.args.desk.now.out_room)))

pub returns-in_err-forced-clause-taken : goal.returns-in_err-forced-clause-taken
returns-in_err-forced-clause-taken c =
    let given = c.answer-used.ensures in
    let e = err_from_is_err_and c.from_residual-in_err-forced.result c.from_residual-in_err-forced.ensures.1 in
    rw e.1
    (some_taken _ _ _ _ _ _ _ _ given.answers (omega (arith, given.space.0, c.args.desk.now.kept_room))
    (omega (arith, given.space.1, c.args.desk.now.out_room)))

pub returns-clause-on : goal.returns-clause-on
returns-clause-on c = none-refused _ _ _ _ _ _ c.deliver.ensures c.in_ok-forced.was
