use Rattle.std.proofs.Common.{arith}
use Rattle.std.proofs.lemmas.Bool.Decides.{nat_tests}
use Rattle.rules.specs.Label.{out_of_bounds}
use Rattle.label_bounds.proofs.out_of_bounds.Goals as goal

pub returns-then-end-ge-BATCH_BIT : goal.returns-then-end-ge-BATCH_BIT
unfolding out_of_bounds
returns-then-end-ge-BATCH_BIT c = grind (arith, nat_tests)

pub returns-else-end-ge-BATCH_BIT : goal.returns-else-end-ge-BATCH_BIT
unfolding out_of_bounds
returns-else-end-ge-BATCH_BIT c = grind (arith, nat_tests)
