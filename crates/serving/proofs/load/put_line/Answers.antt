-- `serving::load::put_line` meets its contract: the numbers at the front are the bytes, so that the kept line is theirs.
-- Assumes nothing.
use Rattle.std.proofs.Common.{pos, refl}
use Rattle.serving.proofs.LoadLaws.{are-bytes, line-put}
use Rattle.serving.proofs.load.put_line.Goals as goal

pub returns : goal.returns
returns c =
    let numbers = c.put_made.ensures.whole pos (λ x y e. e) in
    record {
      numbers_after = numbers;
      put = line-put _ _ _ c.requires numbers _ _ _ refl c.put_kept.ensures;
      are_bytes = are-bytes _ c.type_inv.bytes;
    }
