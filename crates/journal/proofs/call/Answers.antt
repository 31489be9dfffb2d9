-- `journal::call` meets its contract: the first of the names that the word is.
-- Assumes nothing.
use Rattle.std.proofs.Common.{ap, ◌∙◌}
use Rattle.std.specs.Cmp.Lexicographic.{pointwise}
use lib.Dec.{eqb}
use Rattle.journal.specs.Names.{call_names}
use Rattle.journal.specs.Grammar.{named_call, calls_of}
use Rattle.journal.proofs.LineLaws.{here, later, no_more, call_at, no_call, plain_is}
use Rattle.journal.proofs.call.Goals as goal

pub returns-then-eq : goal.returns-then-eq
unfolding named_call calls_of call_names
returns-then-eq c =
    call_at 0 _ _ _ _ _
    (here _ _ _ _ (c.eq.ensures ∙ ap (pointwise eqb c.args.name.now) c.as_slice.ensures) c.if-eq.true)
    (plain_is _ _ _ c.fresh.ensures)

pub returns-then-eq-2 : goal.returns-then-eq-2
unfolding named_call calls_of call_names
returns-then-eq-2 c =
    call_at 1 _ _ _ _ _
    (later _ _ _ _ _ (c.eq.ensures ∙ ap (pointwise eqb c.args.name.now) c.as_slice.ensures) c.if-eq.false
    (here _ _ _ _ (c.eq-else-eq.ensures ∙ ap (pointwise eqb c.args.name.now) c.as_slice-else-eq.ensures) c.if-eq-2.true))
    (plain_is _ _ _ c.admit.ensures)

pub returns-then-eq-3 : goal.returns-then-eq-3
unfolding named_call calls_of call_names
returns-then-eq-3 c =
    call_at 2 _ _ _ _ _
    (later _ _ _ _ _ (c.eq.ensures ∙ ap (pointwise eqb c.args.name.now) c.as_slice.ensures) c.if-eq.false
    (later _ _ _ _ _ (c.eq-else-eq.ensures ∙ ap (pointwise eqb c.args.name.now) c.as_slice-else-eq.ensures) c.if-eq-2.false
    (here _ _ _ _ (c.eq-else-eq-2.ensures ∙ ap (pointwise eqb c.args.name.now) c.as_slice-else-eq-2.ensures) c.if-eq-3.true)))
    (plain_is _ _ _ c.lodge.ensures)

pub returns-then-eq-4 : goal.returns-then-eq-4
unfolding named_call calls_of call_names
returns-then-eq-4 c =
    call_at 3 _ _ _ _ _
    (later _ _ _ _ _ (c.eq.ensures ∙ ap (pointwise eqb c.args.name.now) c.as_slice.ensures) c.if-eq.false
    (later _ _ _ _ _ (c.eq-else-eq.ensures ∙ ap (pointwise eqb c.args.name.now) c.as_slice-else-eq.ensures) c.if-eq-2.false
    (later _ _ _ _ _ (c.eq-else-eq-2.ensures ∙ ap (pointwise eqb c.args.name.now) c.as_slice-else-eq-2.ensures) c.if-eq-3.false
    (here _ _ _ _ (c.eq-else-eq-3.ensures ∙ ap (pointwise eqb c.args.name.now) c.as_slice-else-eq-3.ensures) c.if-eq-4.true))))
    (plain_is _ _ _ c.release.ensures)

pub returns-then-eq-5 : goal.returns-then-eq-5
unfolding named_call calls_of call_names
returns-then-eq-5 c =
    call_at 4 _ _ _ _ _
    (later _ _ _ _ _ (c.eq.ensures ∙ ap (pointwise eqb c.args.name.now) c.as_slice.ensures) c.if-eq.false
    (later _ _ _ _ _ (c.eq-else-eq.ensures ∙ ap (pointwise eqb c.args.name.now) c.as_slice-else-eq.ensures) c.if-eq-2.false
    (later _ _ _ _ _ (c.eq-else-eq-2.ensures ∙ ap (pointwise eqb c.args.name.now) c.as_slice-else-eq-2.ensures) c.if-eq-3.false
    (later _ _ _ _ _ (c.eq-else-eq-3.ensures ∙ ap (pointwise eqb c.args.name.now) c.as_slice-else-eq-3.ensures) c.if-eq-4.false
    (here _ _ _ _ (c.eq-else-eq-4.ensures ∙ ap (pointwise eqb c.args.name.now) c.as_slice-else-eq-4.ensures) c.if-eq-5.true)))))
    c.settle.ensures

pub returns-then-eq-6 : goal.returns-then-eq-6
unfolding named_call calls_of call_names
returns-then-eq-6 c =
    call_at 5 _ _ _ _ _
    (later _ _ _ _ _ (c.eq.ensures ∙ ap (pointwise eqb c.args.name.now) c.as_slice.ensures) c.if-eq.false
    (later _ _ _ _ _ (c.eq-else-eq.ensures ∙ ap (pointwise eqb c.args.name.now) c.as_slice-else-eq.ensures) c.if-eq-2.false
    (later _ _ _ _ _ (c.eq-else-eq-2.ensures ∙ ap (pointwise eqb c.args.name.now) c.as_slice-else-eq-2.ensures) c.if-eq-3.false
    (later _ _ _ _ _ (c.eq-else-eq-3.ensures ∙ ap (pointwise eqb c.args.name.now) c.as_slice-else-eq-3.ensures) c.if-eq-4.false
    (later _ _ _ _ _ (c.eq-else-eq-4.ensures ∙ ap (pointwise eqb c.args.name.now) c.as_slice-else-eq-4.ensures) c.if-eq-5.false
    (here _ _ _ _ (c.eq-else-eq-5.ensures ∙ ap (pointwise eqb c.args.name.now) c.as_slice-else-eq-5.ensures) c.if-eq-6.true))))))
    (plain_is _ _ _ c.annual.ensures)

pub returns-then-eq-7 : goal.returns-then-eq-7
unfolding named_call calls_of call_names
returns-then-eq-7 c =
    call_at 6 _ _ _ _ _
    (later _ _ _ _ _ (c.eq.ensures ∙ ap (pointwise eqb c.args.name.now) c.as_slice.ensures) c.if-eq.false
    (later _ _ _ _ _ (c.eq-else-eq.ensures ∙ ap (pointwise eqb c.args.name.now) c.as_slice-else-eq.ensures) c.if-eq-2.false
    (later _ _ _ _ _ (c.eq-else-eq-2.ensures ∙ ap (pointwise eqb c.args.name.now) c.as_slice-else-eq-2.ensures) c.if-eq-3.false
    (later _ _ _ _ _ (c.eq-else-eq-3.ensures ∙ ap (pointwise eqb c.args.name.now) c.as_slice-else-eq-3.ensures) c.if-eq-4.false
    (later _ _ _ _ _ (c.eq-else-eq-4.ensures ∙ ap (pointwise eqb c.args.name.now) c.as_slice-else-eq-4.ensures) c.if-eq-5.false
    (later _ _ _ _ _ (c.eq-else-eq-5.ensures ∙ ap (pointwise eqb c.args.name.now) c.as_slice-else-eq-5.ensures) c.if-eq-6.false
    (here _ _ _ _ (c.eq-else-eq-6.ensures ∙ ap (pointwise eqb c.args.name.now) c.as_slice-else-eq-6.ensures) c.if-eq-7.true)))))))
    (plain_is _ _ _ c.advance.ensures)

pub returns-then-eq-8 : goal.returns-then-eq-8
unfolding named_call calls_of call_names
returns-then-eq-8 c =
    call_at 7 _ _ _ _ _
    (later _ _ _ _ _ (c.eq.ensures ∙ ap (pointwise eqb c.args.name.now) c.as_slice.ensures) c.if-eq.false
    (later _ _ _ _ _ (c.eq-else-eq.ensures ∙ ap (pointwise eqb c.args.name.now) c.as_slice-else-eq.ensures) c.if-eq-2.false
    (later _ _ _ _ _ (c.eq-else-eq-2.ensures ∙ ap (pointwise eqb c.args.name.now) c.as_slice-else-eq-2.ensures) c.if-eq-3.false
    (later _ _ _ _ _ (c.eq-else-eq-3.ensures ∙ ap (pointwise eqb c.args.name.now) c.as_slice-else-eq-3.ensures) c.if-eq-4.false
    (later _ _ _ _ _ (c.eq-else-eq-4.ensures ∙ ap (pointwise eqb c.args.name.now) c.as_slice-else-eq-4.ensures) c.if-eq-5.false
    (later _ _ _ _ _ (c.eq-else-eq-5.ensures ∙ ap (pointwise eqb c.args.name.now) c.as_slice-else-eq-5.ensures) c.if-eq-6.false
    (later _ _ _ _ _ (c.eq-else-eq-6.ensures ∙ ap (pointwise eqb c.args.name.now) c.as_slice-else-eq-6.ensures) c.if-eq-7.false
    (here _ _ _ _ (c.eq-else-eq-7.ensures ∙ ap (pointwise eqb c.args.name.now) c.as_slice-else-eq-7.ensures) c.if-eq-8.true))))))))
    (plain_is _ _ _ c.statement.ensures)

pub returns-then-eq-9 : goal.returns-then-eq-9
unfolding named_call calls_of call_names
returns-then-eq-9 c =
    call_at 8 _ _ _ _ _
    (later _ _ _ _ _ (c.eq.ensures ∙ ap (pointwise eqb c.args.name.now) c.as_slice.ensures) c.if-eq.false
    (later _ _ _ _ _ (c.eq-else-eq.ensures ∙ ap (pointwise eqb c.args.name.now) c.as_slice-else-eq.ensures) c.if-eq-2.false
    (later _ _ _ _ _ (c.eq-else-eq-2.ensures ∙ ap (pointwise eqb c.args.name.now) c.as_slice-else-eq-2.ensures) c.if-eq-3.false
    (later _ _ _ _ _ (c.eq-else-eq-3.ensures ∙ ap (pointwise eqb c.args.name.now) c.as_slice-else-eq-3.ensures) c.if-eq-4.false
    (later _ _ _ _ _ (c.eq-else-eq-4.ensures ∙ ap (pointwise eqb c.args.name.now) c.as_slice-else-eq-4.ensures) c.if-eq-5.false
    (later _ _ _ _ _ (c.eq-else-eq-5.ensures ∙ ap (pointwise eqb c.args.name.now) c.as_slice-else-eq-5.ensures) c.if-eq-6.false
    (later _ _ _ _ _ (c.eq-else-eq-6.ensures ∙ ap (pointwise eqb c.args.name.now) c.as_slice-else-eq-6.ensures) c.if-eq-7.false
    (later _ _ _ _ _ (c.eq-else-eq-7.ensures ∙ ap (pointwise eqb c.args.name.now) c.as_slice-else-eq-7.ensures) c.if-eq-8.false
    (here _ _ _ _ (c.eq-else-eq-8.ensures ∙ ap (pointwise eqb c.args.name.now) c.as_slice-else-eq-8.ensures) c.if-eq-9.true)))))))))
    (plain_is _ _ _ c.closed.ensures.whole)

pub returns-then-eq-10 : goal.returns-then-eq-10
unfolding named_call calls_of call_names
returns-then-eq-10 c =
    call_at 9 _ _ _ _ _
    (later _ _ _ _ _ (c.eq.ensures ∙ ap (pointwise eqb c.args.name.now) c.as_slice.ensures) c.if-eq.false
    (later _ _ _ _ _ (c.eq-else-eq.ensures ∙ ap (pointwise eqb c.args.name.now) c.as_slice-else-eq.ensures) c.if-eq-2.false
    (later _ _ _ _ _ (c.eq-else-eq-2.ensures ∙ ap (pointwise eqb c.args.name.now) c.as_slice-else-eq-2.ensures) c.if-eq-3.false
    (later _ _ _ _ _ (c.eq-else-eq-3.ensures ∙ ap (pointwise eqb c.args.name.now) c.as_slice-else-eq-3.ensures) c.if-eq-4.false
    (later _ _ _ _ _ (c.eq-else-eq-4.ensures ∙ ap (pointwise eqb c.args.name.now) c.as_slice-else-eq-4.ensures) c.if-eq-5.false
    (later _ _ _ _ _ (c.eq-else-eq-5.ensures ∙ ap (pointwise eqb c.args.name.now) c.as_slice-else-eq-5.ensures) c.if-eq-6.false
    (later _ _ _ _ _ (c.eq-else-eq-6.ensures ∙ ap (pointwise eqb c.args.name.now) c.as_slice-else-eq-6.ensures) c.if-eq-7.false
    (later _ _ _ _ _ (c.eq-else-eq-7.ensures ∙ ap (pointwise eqb c.args.name.now) c.as_slice-else-eq-7.ensures) c.if-eq-8.false
    (later _ _ _ _ _ (c.eq-else-eq-8.ensures ∙ ap (pointwise eqb c.args.name.now) c.as_slice-else-eq-8.ensures) c.if-eq-9.false
    (here _ _ _ _ (c.eq-else-eq-9.ensures ∙ ap (pointwise eqb c.args.name.now) c.as_slice-else-eq-9.ensures) c.if-eq-10.true))))))))))
    c.special.ensures

pub returns-then-eq-11 : goal.returns-then-eq-11
unfolding named_call calls_of call_names
returns-then-eq-11 c =
    call_at 10 _ _ _ _ _
    (later _ _ _ _ _ (c.eq.ensures ∙ ap (pointwise eqb c.args.name.now) c.as_slice.ensures) c.if-eq.false
    (later _ _ _ _ _ (c.eq-else-eq.ensures ∙ ap (pointwise eqb c.args.name.now) c.as_slice-else-eq.ensures) c.if-eq-2.false
    (later _ _ _ _ _ (c.eq-else-eq-2.ensures ∙ ap (pointwise eqb c.args.name.now) c.as_slice-else-eq-2.ensures) c.if-eq-3.false
    (later _ _ _ _ _ (c.eq-else-eq-3.ensures ∙ ap (pointwise eqb c.args.name.now) c.as_slice-else-eq-3.ensures) c.if-eq-4.false
    (later _ _ _ _ _ (c.eq-else-eq-4.ensures ∙ ap (pointwise eqb c.args.name.now) c.as_slice-else-eq-4.ensures) c.if-eq-5.false
    (later _ _ _ _ _ (c.eq-else-eq-5.ensures ∙ ap (pointwise eqb c.args.name.now) c.as_slice-else-eq-5.ensures) c.if-eq-6.false
    (later _ _ _ _ _ (c.eq-else-eq-6.ensures ∙ ap (pointwise eqb c.args.name.now) c.as_slice-else-eq-6.ensures) c.if-eq-7.false
    (later _ _ _ _ _ (c.eq-else-eq-7.ensures ∙ ap (pointwise eqb c.args.name.now) c.as_slice-else-eq-7.ensures) c.if-eq-8.false
    (later _ _ _ _ _ (c.eq-else-eq-8.ensures ∙ ap (pointwise eqb c.args.name.now) c.as_slice-else-eq-8.ensures) c.if-eq-9.false
    (later _ _ _ _ _ (c.eq-else-eq-9.ensures ∙ ap (pointwise eqb c.args.name.now) c.as_slice-else-eq-9.ensures) c.if-eq-10.false
    (here _ _ _ _ (c.eq-else-eq-10.ensures ∙ ap (pointwise eqb c.args.name.now) c.as_slice-else-eq-10.ensures) c.if-eq-11.true)))))))))))
    (plain_is _ _ _ c.closed-then-eq-11.ensures.whole)

pub returns-then-eq-12 : goal.returns-then-eq-12
unfolding named_call calls_of call_names
returns-then-eq-12 c =
    call_at 11 _ _ _ _ _
    (later _ _ _ _ _ (c.eq.ensures ∙ ap (pointwise eqb c.args.name.now) c.as_slice.ensures) c.if-eq.false
    (later _ _ _ _ _ (c.eq-else-eq.ensures ∙ ap (pointwise eqb c.args.name.now) c.as_slice-else-eq.ensures) c.if-eq-2.false
    (later _ _ _ _ _ (c.eq-else-eq-2.ensures ∙ ap (pointwise eqb c.args.name.now) c.as_slice-else-eq-2.ensures) c.if-eq-3.false
    (later _ _ _ _ _ (c.eq-else-eq-3.ensures ∙ ap (pointwise eqb c.args.name.now) c.as_slice-else-eq-3.ensures) c.if-eq-4.false
    (later _ _ _ _ _ (c.eq-else-eq-4.ensures ∙ ap (pointwise eqb c.args.name.now) c.as_slice-else-eq-4.ensures) c.if-eq-5.false
    (later _ _ _ _ _ (c.eq-else-eq-5.ensures ∙ ap (pointwise eqb c.args.name.now) c.as_slice-else-eq-5.ensures) c.if-eq-6.false
    (later _ _ _ _ _ (c.eq-else-eq-6.ensures ∙ ap (pointwise eqb c.args.name.now) c.as_slice-else-eq-6.ensures) c.if-eq-7.false
    (later _ _ _ _ _ (c.eq-else-eq-7.ensures ∙ ap (pointwise eqb c.args.name.now) c.as_slice-else-eq-7.ensures) c.if-eq-8.false
    (later _ _ _ _ _ (c.eq-else-eq-8.ensures ∙ ap (pointwise eqb c.args.name.now) c.as_slice-else-eq-8.ensures) c.if-eq-9.false
    (later _ _ _ _ _ (c.eq-else-eq-9.ensures ∙ ap (pointwise eqb c.args.name.now) c.as_slice-else-eq-9.ensures) c.if-eq-10.false
    (later _ _ _ _ _ (c.eq-else-eq-10.ensures ∙ ap (pointwise eqb c.args.name.now) c.as_slice-else-eq-10.ensures) c.if-eq-11.false
    (here _ _ _ _ (c.eq-else-eq-11.ensures ∙ ap (pointwise eqb c.args.name.now) c.as_slice-else-eq-11.ensures) c.if-eq-12.true))))))))))))
    c.batch.ensures

pub returns-then-eq-13 : goal.returns-then-eq-13
unfolding named_call calls_of call_names
returns-then-eq-13 c =
    call_at 12 _ _ _ _ _
    (later _ _ _ _ _ (c.eq.ensures ∙ ap (pointwise eqb c.args.name.now) c.as_slice.ensures) c.if-eq.false
    (later _ _ _ _ _ (c.eq-else-eq.ensures ∙ ap (pointwise eqb c.args.name.now) c.as_slice-else-eq.ensures) c.if-eq-2.false
    (later _ _ _ _ _ (c.eq-else-eq-2.ensures ∙ ap (pointwise eqb c.args.name.now) c.as_slice-else-eq-2.ensures) c.if-eq-3.false
    (later _ _ _ _ _ (c.eq-else-eq-3.ensures ∙ ap (pointwise eqb c.args.name.now) c.as_slice-else-eq-3.ensures) c.if-eq-4.false
    (later _ _ _ _ _ (c.eq-else-eq-4.ensures ∙ ap (pointwise eqb c.args.name.now) c.as_slice-else-eq-4.ensures) c.if-eq-5.false
    (later _ _ _ _ _ (c.eq-else-eq-5.ensures ∙ ap (pointwise eqb c.args.name.now) c.as_slice-else-eq-5.ensures) c.if-eq-6.false
    (later _ _ _ _ _ (c.eq-else-eq-6.ensures ∙ ap (pointwise eqb c.args.name.now) c.as_slice-else-eq-6.ensures) c.if-eq-7.false
    (later _ _ _ _ _ (c.eq-else-eq-7.ensures ∙ ap (pointwise eqb c.args.name.now) c.as_slice-else-eq-7.ensures) c.if-eq-8.false
    (later _ _ _ _ _ (c.eq-else-eq-8.ensures ∙ ap (pointwise eqb c.args.name.now) c.as_slice-else-eq-8.ensures) c.if-eq-9.false
    (later _ _ _ _ _ (c.eq-else-eq-9.ensures ∙ ap (pointwise eqb c.args.name.now) c.as_slice-else-eq-9.ensures) c.if-eq-10.false
    (later _ _ _ _ _ (c.eq-else-eq-10.ensures ∙ ap (pointwise eqb c.args.name.now) c.as_slice-else-eq-10.ensures) c.if-eq-11.false
    (later _ _ _ _ _ (c.eq-else-eq-11.ensures ∙ ap (pointwise eqb c.args.name.now) c.as_slice-else-eq-11.ensures) c.if-eq-12.false
    (here _ _ _ _ (c.eq-else-eq-12.ensures ∙ ap (pointwise eqb c.args.name.now) c.as_slice-else-eq-12.ensures) c.if-eq-13.true)))))))))))))
    (plain_is _ _ _ c.closed-then-eq-13.ensures.whole)

pub returns-then-eq-14 : goal.returns-then-eq-14
unfolding named_call calls_of call_names
returns-then-eq-14 c =
    call_at 13 _ _ _ _ _
    (later _ _ _ _ _ (c.eq.ensures ∙ ap (pointwise eqb c.args.name.now) c.as_slice.ensures) c.if-eq.false
    (later _ _ _ _ _ (c.eq-else-eq.ensures ∙ ap (pointwise eqb c.args.name.now) c.as_slice-else-eq.ensures) c.if-eq-2.false
    (later _ _ _ _ _ (c.eq-else-eq-2.ensures ∙ ap (pointwise eqb c.args.name.now) c.as_slice-else-eq-2.ensures) c.if-eq-3.false
    (later _ _ _ _ _ (c.eq-else-eq-3.ensures ∙ ap (pointwise eqb c.args.name.now) c.as_slice-else-eq-3.ensures) c.if-eq-4.false
    (later _ _ _ _ _ (c.eq-else-eq-4.ensures ∙ ap (pointwise eqb c.args.name.now) c.as_slice-else-eq-4.ensures) c.if-eq-5.false
    (later _ _ _ _ _ (c.eq-else-eq-5.ensures ∙ ap (pointwise eqb c.args.name.now) c.as_slice-else-eq-5.ensures) c.if-eq-6.false
    (later _ _ _ _ _ (c.eq-else-eq-6.ensures ∙ ap (pointwise eqb c.args.name.now) c.as_slice-else-eq-6.ensures) c.if-eq-7.false
    (later _ _ _ _ _ (c.eq-else-eq-7.ensures ∙ ap (pointwise eqb c.args.name.now) c.as_slice-else-eq-7.ensures) c.if-eq-8.false
    (later _ _ _ _ _ (c.eq-else-eq-8.ensures ∙ ap (pointwise eqb c.args.name.now) c.as_slice-else-eq-8.ensures) c.if-eq-9.false
    (later _ _ _ _ _ (c.eq-else-eq-9.ensures ∙ ap (pointwise eqb c.args.name.now) c.as_slice-else-eq-9.ensures) c.if-eq-10.false
    (later _ _ _ _ _ (c.eq-else-eq-10.ensures ∙ ap (pointwise eqb c.args.name.now) c.as_slice-else-eq-10.ensures) c.if-eq-11.false
    (later _ _ _ _ _ (c.eq-else-eq-11.ensures ∙ ap (pointwise eqb c.args.name.now) c.as_slice-else-eq-11.ensures) c.if-eq-12.false
    (later _ _ _ _ _ (c.eq-else-eq-12.ensures ∙ ap (pointwise eqb c.args.name.now) c.as_slice-else-eq-12.ensures) c.if-eq-13.false
    (here _ _ _ _ (c.eq-else-eq-13.ensures ∙ ap (pointwise eqb c.args.name.now) c.as_slice-else-eq-13.ensures) c.if-eq-14.true))))))))))))))
    (plain_is _ _ _ c.delete.ensures)

pub returns-then-eq-15 : goal.returns-then-eq-15
unfolding named_call calls_of call_names
returns-then-eq-15 c =
    call_at 14 _ _ _ _ _
    (later _ _ _ _ _ (c.eq.ensures ∙ ap (pointwise eqb c.args.name.now) c.as_slice.ensures) c.if-eq.false
    (later _ _ _ _ _ (c.eq-else-eq.ensures ∙ ap (pointwise eqb c.args.name.now) c.as_slice-else-eq.ensures) c.if-eq-2.false
    (later _ _ _ _ _ (c.eq-else-eq-2.ensures ∙ ap (pointwise eqb c.args.name.now) c.as_slice-else-eq-2.ensures) c.if-eq-3.false
    (later _ _ _ _ _ (c.eq-else-eq-3.ensures ∙ ap (pointwise eqb c.args.name.now) c.as_slice-else-eq-3.ensures) c.if-eq-4.false
    (later _ _ _ _ _ (c.eq-else-eq-4.ensures ∙ ap (pointwise eqb c.args.name.now) c.as_slice-else-eq-4.ensures) c.if-eq-5.false
    (later _ _ _ _ _ (c.eq-else-eq-5.ensures ∙ ap (pointwise eqb c.args.name.now) c.as_slice-else-eq-5.ensures) c.if-eq-6.false
    (later _ _ _ _ _ (c.eq-else-eq-6.ensures ∙ ap (pointwise eqb c.args.name.now) c.as_slice-else-eq-6.ensures) c.if-eq-7.false
    (later _ _ _ _ _ (c.eq-else-eq-7.ensures ∙ ap (pointwise eqb c.args.name.now) c.as_slice-else-eq-7.ensures) c.if-eq-8.false
    (later _ _ _ _ _ (c.eq-else-eq-8.ensures ∙ ap (pointwise eqb c.args.name.now) c.as_slice-else-eq-8.ensures) c.if-eq-9.false
    (later _ _ _ _ _ (c.eq-else-eq-9.ensures ∙ ap (pointwise eqb c.args.name.now) c.as_slice-else-eq-9.ensures) c.if-eq-10.false
    (later _ _ _ _ _ (c.eq-else-eq-10.ensures ∙ ap (pointwise eqb c.args.name.now) c.as_slice-else-eq-10.ensures) c.if-eq-11.false
    (later _ _ _ _ _ (c.eq-else-eq-11.ensures ∙ ap (pointwise eqb c.args.name.now) c.as_slice-else-eq-11.ensures) c.if-eq-12.false
    (later _ _ _ _ _ (c.eq-else-eq-12.ensures ∙ ap (pointwise eqb c.args.name.now) c.as_slice-else-eq-12.ensures) c.if-eq-13.false
    (later _ _ _ _ _ (c.eq-else-eq-13.ensures ∙ ap (pointwise eqb c.args.name.now) c.as_slice-else-eq-13.ensures) c.if-eq-14.false
    (here _ _ _ _ (c.eq-else-eq-14.ensures ∙ ap (pointwise eqb c.args.name.now) c.as_slice-else-eq-14.ensures) c.if-eq-15.true)))))))))))))))
    (plain_is _ _ _ c.file.ensures)

pub returns-then-eq-16 : goal.returns-then-eq-16
unfolding named_call calls_of call_names
returns-then-eq-16 c =
    call_at 15 _ _ _ _ _
    (later _ _ _ _ _ (c.eq.ensures ∙ ap (pointwise eqb c.args.name.now) c.as_slice.ensures) c.if-eq.false
    (later _ _ _ _ _ (c.eq-else-eq.ensures ∙ ap (pointwise eqb c.args.name.now) c.as_slice-else-eq.ensures) c.if-eq-2.false
    (later _ _ _ _ _ (c.eq-else-eq-2.ensures ∙ ap (pointwise eqb c.args.name.now) c.as_slice-else-eq-2.ensures) c.if-eq-3.false
    (later _ _ _ _ _ (c.eq-else-eq-3.ensures ∙ ap (pointwise eqb c.args.name.now) c.as_slice-else-eq-3.ensures) c.if-eq-4.false
    (later _ _ _ _ _ (c.eq-else-eq-4.ensures ∙ ap (pointwise eqb c.args.name.now) c.as_slice-else-eq-4.ensures) c.if-eq-5.false
    (later _ _ _ _ _ (c.eq-else-eq-5.ensures ∙ ap (pointwise eqb c.args.name.now) c.as_slice-else-eq-5.ensures) c.if-eq-6.false
    (later _ _ _ _ _ (c.eq-else-eq-6.ensures ∙ ap (pointwise eqb c.args.name.now) c.as_slice-else-eq-6.ensures) c.if-eq-7.false
    (later _ _ _ _ _ (c.eq-else-eq-7.ensures ∙ ap (pointwise eqb c.args.name.now) c.as_slice-else-eq-7.ensures) c.if-eq-8.false
    (later _ _ _ _ _ (c.eq-else-eq-8.ensures ∙ ap (pointwise eqb c.args.name.now) c.as_slice-else-eq-8.ensures) c.if-eq-9.false
    (later _ _ _ _ _ (c.eq-else-eq-9.ensures ∙ ap (pointwise eqb c.args.name.now) c.as_slice-else-eq-9.ensures) c.if-eq-10.false
    (later _ _ _ _ _ (c.eq-else-eq-10.ensures ∙ ap (pointwise eqb c.args.name.now) c.as_slice-else-eq-10.ensures) c.if-eq-11.false
    (later _ _ _ _ _ (c.eq-else-eq-11.ensures ∙ ap (pointwise eqb c.args.name.now) c.as_slice-else-eq-11.ensures) c.if-eq-12.false
    (later _ _ _ _ _ (c.eq-else-eq-12.ensures ∙ ap (pointwise eqb c.args.name.now) c.as_slice-else-eq-12.ensures) c.if-eq-13.false
    (later _ _ _ _ _ (c.eq-else-eq-13.ensures ∙ ap (pointwise eqb c.args.name.now) c.as_slice-else-eq-13.ensures) c.if-eq-14.false
    (later _ _ _ _ _ (c.eq-else-eq-14.ensures ∙ ap (pointwise eqb c.args.name.now) c.as_slice-else-eq-14.ensures) c.if-eq-15.false
    (here _ _ _ _ (c.eq-else-eq-15.ensures ∙ ap (pointwise eqb c.args.name.now) c.as_slice-else-eq-15.ensures) c.if-eq-16.true))))))))))))))))
    (plain_is _ _ _ c.releasable.ensures)

pub returns-then-eq-17 : goal.returns-then-eq-17
unfolding named_call calls_of call_names
returns-then-eq-17 c =
    call_at 16 _ _ _ _ _
    (later _ _ _ _ _ (c.eq.ensures ∙ ap (pointwise eqb c.args.name.now) c.as_slice.ensures) c.if-eq.false
    (later _ _ _ _ _ (c.eq-else-eq.ensures ∙ ap (pointwise eqb c.args.name.now) c.as_slice-else-eq.ensures) c.if-eq-2.false
    (later _ _ _ _ _ (c.eq-else-eq-2.ensures ∙ ap (pointwise eqb c.args.name.now) c.as_slice-else-eq-2.ensures) c.if-eq-3.false
    (later _ _ _ _ _ (c.eq-else-eq-3.ensures ∙ ap (pointwise eqb c.args.name.now) c.as_slice-else-eq-3.ensures) c.if-eq-4.false
    (later _ _ _ _ _ (c.eq-else-eq-4.ensures ∙ ap (pointwise eqb c.args.name.now) c.as_slice-else-eq-4.ensures) c.if-eq-5.false
    (later _ _ _ _ _ (c.eq-else-eq-5.ensures ∙ ap (pointwise eqb c.args.name.now) c.as_slice-else-eq-5.ensures) c.if-eq-6.false
    (later _ _ _ _ _ (c.eq-else-eq-6.ensures ∙ ap (pointwise eqb c.args.name.now) c.as_slice-else-eq-6.ensures) c.if-eq-7.false
    (later _ _ _ _ _ (c.eq-else-eq-7.ensures ∙ ap (pointwise eqb c.args.name.now) c.as_slice-else-eq-7.ensures) c.if-eq-8.false
    (later _ _ _ _ _ (c.eq-else-eq-8.ensures ∙ ap (pointwise eqb c.args.name.now) c.as_slice-else-eq-8.ensures) c.if-eq-9.false
    (later _ _ _ _ _ (c.eq-else-eq-9.ensures ∙ ap (pointwise eqb c.args.name.now) c.as_slice-else-eq-9.ensures) c.if-eq-10.false
    (later _ _ _ _ _ (c.eq-else-eq-10.ensures ∙ ap (pointwise eqb c.args.name.now) c.as_slice-else-eq-10.ensures) c.if-eq-11.false
    (later _ _ _ _ _ (c.eq-else-eq-11.ensures ∙ ap (pointwise eqb c.args.name.now) c.as_slice-else-eq-11.ensures) c.if-eq-12.false
    (later _ _ _ _ _ (c.eq-else-eq-12.ensures ∙ ap (pointwise eqb c.args.name.now) c.as_slice-else-eq-12.ensures) c.if-eq-13.false
    (later _ _ _ _ _ (c.eq-else-eq-13.ensures ∙ ap (pointwise eqb c.args.name.now) c.as_slice-else-eq-13.ensures) c.if-eq-14.false
    (later _ _ _ _ _ (c.eq-else-eq-14.ensures ∙ ap (pointwise eqb c.args.name.now) c.as_slice-else-eq-14.ensures) c.if-eq-15.false
    (later _ _ _ _ _ (c.eq-else-eq-15.ensures ∙ ap (pointwise eqb c.args.name.now) c.as_slice-else-eq-15.ensures) c.if-eq-16.false
    (here _ _ _ _ (c.eq-else-eq-16.ensures ∙ ap (pointwise eqb c.args.name.now) c.as_slice-else-eq-16.ensures) c.if-eq-17.true)))))))))))))))))
    (plain_is _ _ _ c.closed-then-eq-17.ensures.whole)

pub returns-else-eq-17 : goal.returns-else-eq-17
unfolding call_names
returns-else-eq-17 c =
    no_call _ _ _
    (later _ _ _ _ _ (c.eq.ensures ∙ ap (pointwise eqb c.args.name.now) c.as_slice.ensures) c.if-eq.false
    (later _ _ _ _ _ (c.eq-else-eq.ensures ∙ ap (pointwise eqb c.args.name.now) c.as_slice-else-eq.ensures) c.if-eq-2.false
    (later _ _ _ _ _ (c.eq-else-eq-2.ensures ∙ ap (pointwise eqb c.args.name.now) c.as_slice-else-eq-2.ensures) c.if-eq-3.false
    (later _ _ _ _ _ (c.eq-else-eq-3.ensures ∙ ap (pointwise eqb c.args.name.now) c.as_slice-else-eq-3.ensures) c.if-eq-4.false
    (later _ _ _ _ _ (c.eq-else-eq-4.ensures ∙ ap (pointwise eqb c.args.name.now) c.as_slice-else-eq-4.ensures) c.if-eq-5.false
    (later _ _ _ _ _ (c.eq-else-eq-5.ensures ∙ ap (pointwise eqb c.args.name.now) c.as_slice-else-eq-5.ensures) c.if-eq-6.false
    (later _ _ _ _ _ (c.eq-else-eq-6.ensures ∙ ap (pointwise eqb c.args.name.now) c.as_slice-else-eq-6.ensures) c.if-eq-7.false
    (later _ _ _ _ _ (c.eq-else-eq-7.ensures ∙ ap (pointwise eqb c.args.name.now) c.as_slice-else-eq-7.ensures) c.if-eq-8.false
    (later _ _ _ _ _ (c.eq-else-eq-8.ensures ∙ ap (pointwise eqb c.args.name.now) c.as_slice-else-eq-8.ensures) c.if-eq-9.false
    (later _ _ _ _ _ (c.eq-else-eq-9.ensures ∙ ap (pointwise eqb c.args.name.now) c.as_slice-else-eq-9.ensures) c.if-eq-10.false
    (later _ _ _ _ _ (c.eq-else-eq-10.ensures ∙ ap (pointwise eqb c.args.name.now) c.as_slice-else-eq-10.ensures) c.if-eq-11.false
    (later _ _ _ _ _ (c.eq-else-eq-11.ensures ∙ ap (pointwise eqb c.args.name.now) c.as_slice-else-eq-11.ensures) c.if-eq-12.false
    (later _ _ _ _ _ (c.eq-else-eq-12.ensures ∙ ap (pointwise eqb c.args.name.now) c.as_slice-else-eq-12.ensures) c.if-eq-13.false
    (later _ _ _ _ _ (c.eq-else-eq-13.ensures ∙ ap (pointwise eqb c.args.name.now) c.as_slice-else-eq-13.ensures) c.if-eq-14.false
    (later _ _ _ _ _ (c.eq-else-eq-14.ensures ∙ ap (pointwise eqb c.args.name.now) c.as_slice-else-eq-14.ensures) c.if-eq-15.false
    (later _ _ _ _ _ (c.eq-else-eq-15.ensures ∙ ap (pointwise eqb c.args.name.now) c.as_slice-else-eq-15.ensures) c.if-eq-16.false
    (later _ _ _ _ _ (c.eq-else-eq-16.ensures ∙ ap (pointwise eqb c.args.name.now) c.as_slice-else-eq-16.ensures) c.if-eq-17.false
    (no_more _))))))))))))))))))
