-- `answering::rows::put_made` meets its contract: what is made of the values that are left, put from place i on, gives what all of them give.
-- Assumes nothing.
use Rattle.std.proofs.Common.{◌≡◌, map, length, drop}
use lib.Seq.{sets}
use Rattle.answering.proofs.rows.put_made.Given as goal

abbrev pub invariant-loop-i : goal.invariant-loop-i
invariant-loop-i g l =
    (length l.made ≡ length l.initial.made)
    × ((rule : g.row.S.Denot → g.row.T.Denot) → ((x : g.row.S.Denot) (y : g.row.T.Denot) → goal.F-post g l.rule x y → y ≡ rule x)
    → sets l.made l.i (map rule (drop l.i l.row)) ≡ sets l.initial.made 0 (map rule l.row))
