-- The facts at the bounds, together.
-- Assumes nothing.
use Rattle.figures.specs.Boundaries.{Boundaries}
use Rattle.figures.proofs.Dates.{dates}
use Rattle.figures.proofs.Positions.{positions}
use Rattle.figures.proofs.Settlements.{settlements}
use Rattle.figures.proofs.Guarantees.{guarantees}
use Rattle.figures.proofs.Decisions.{decisions}
use Rattle.figures.proofs.Deposits.{deposits}
use Rattle.figures.proofs.Files.{files}
use Rattle.figures.proofs.Batches.{batches}
use Rattle.figures.proofs.Deletions.{deletions}
use Rattle.figures.proofs.UnderDeletion.{under-deletion}
use Rattle.figures.proofs.DeletionLaws.{deletion-laws}
use Rattle.figures.proofs.Retirement.{retirement}
use Rattle.figures.proofs.RetirementLaws.{retirement-laws}
use Rattle.figures.proofs.Counts.{counts}

pub boundaries : Boundaries
boundaries =
    record {
      dates = dates;
      positions = positions;
      settlements = settlements;
      guarantees = guarantees;
      decisions = decisions;
      deposits = deposits;
      files = files;
      batches = batches;
      deletions = deletions;
      under_deletion = under-deletion;
      deletion_laws = deletion-laws;
      retirement = retirement;
      retirement_laws = retirement-laws;
      counts = counts;
    }
