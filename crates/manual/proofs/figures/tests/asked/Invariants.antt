-- `manual::figures::tests::asked` meets its contract: the figures are those of the slice. Assumes nothing.
use Rattle.manual.proofs.figures.tests.asked.Given as goal

abbrev pub ghost-sum_of_figures : goal.ghost-sum_of_figures
ghost-sum_of_figures a = a.figure.0.now
