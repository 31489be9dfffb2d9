-- Facts worked out by hand on each side of every bound and condition of the definitions that the book's account and the reading of the history
-- share, and of the special guarantee, which has one account. A mistake in one of these would be the same in both accounts, so that the claim
-- about all histories could not show it. Each fact has the sentence of paper 01 or 02 that it is worked out from; proofs/Boundaries.antt closes them.
-- `RetirementLaws` and `DeletionLaws` have, beside the facts about Asks 3 and 4, what holds of every history; `Counts` has both of Ask 6.
-- Assumes nothing.
use Rattle.figures.specs.Dates.{Dates}
use Rattle.figures.specs.Positions.{Positions}
use Rattle.figures.specs.Settlements.{Settlements}
use Rattle.figures.specs.Guarantees.{Guarantees}
use Rattle.figures.specs.Decisions.{Decisions}
use Rattle.figures.specs.Deposits.{Deposits}
use Rattle.figures.specs.Files.{Files}
use Rattle.figures.specs.Batches.{Batches}
use Rattle.figures.specs.Deletions.{Deletions}
use Rattle.figures.specs.UnderDeletion.{UnderDeletion}
use Rattle.figures.specs.DeletionLaws.{DeletionLaws}
use Rattle.figures.specs.Retirement.{Retirement}
use Rattle.figures.specs.RetirementLaws.{RetirementLaws}
use Rattle.figures.specs.Counts.{Counts}

pub record Boundaries : Type 0 where
  pub dates : Dates
  pub positions : Positions
  pub settlements : Settlements
  pub guarantees : Guarantees
  pub decisions : Decisions
  pub deposits : Deposits
  pub files : Files
  pub batches : Batches
  pub deletions : Deletions
  pub under_deletion : UnderDeletion
  pub deletion_laws : DeletionLaws
  pub retirement : Retirement
  pub retirement_laws : RetirementLaws
  pub counts : Counts
