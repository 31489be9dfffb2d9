-- `layout::rows::read_rows` meets its contract: each call reads a row, and the rows stand one after the other.
-- Assumes nothing.
use mathlib.Core.Path.{◌∙◌, sym, ap}
use Prim.Native.Nat.{ℕ, ◌+◌, ◌*◌}
use Rattle.std.proofs.Common.{rules}
use Rattle.laws.specs.Lists.{table}
use Rattle.layout.proofs.Made.{made}
use Rattle.layout.proofs.rows.read_rows.Goals as goal

pub returns : goal.returns
returns g c =
    let words = c.args.words.now in
    let at = c.args.at in
    let r = g.R.Row in
    made _ _ (λ (k : ℕ). r.row_in words (at + (r.PLACE + r.WORDS * k))) _ (λ k y q h e. search rules) _ c.from_fn.ensures.items
    ∙ ap (λ (n : ℕ). table n (λ (k : ℕ). r.row_in words (at + (r.PLACE + r.WORDS * k)))) c.requires.1
    ∙ sym (g.met.R.Row.in_turn words at)
