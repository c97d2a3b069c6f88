use native.Mathlib.Omega.{arith}
use Rattle.rules.proofs.LayoutLaws.{used-length}
use Rattle.write_decision.proofs.too_many.Goals as goal

pub overflow_add-result : goal.overflow_add-result
overflow_add-result c =
    omega (arith, c.used-used.ensures, used-length c.args.table.now, c.requires.1, c.well_formed)
