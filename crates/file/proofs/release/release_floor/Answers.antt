-- `file::release::release_floor` meets its contract: the largest of amounts is the same from either end.
-- Assumes nothing.
use mathlib.Core.Path.{◌≡◌, ◌∙◌}
use Prim.Native.Nat.{max}
use Rattle.std.proofs.Common.{rules}
use Rattle.std.proofs.iter.runs.Made.{chains}
use Rattle.std.specs.List.{fold}
use Rattle.file.specs.declared.OpenCall.{OpenCall}
use Rattle.file.proofs.Releases.{largest-fold}
use Rattle.file.proofs.release.release_floor.Goals as goal

pub returns : goal.returns
returns c =
    let e : c.fold.result ≡ fold (λ top (k : OpenCall). max top k.amount) (max c.args.firm c.args.next) c.args.calls.now = search (rules, chains) in
    e ∙ largest-fold c.args.firm c.args.next c.args.calls.now
