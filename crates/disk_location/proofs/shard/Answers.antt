use native.Mathlib.Omega.{arith}
use lib.Count.{leading_le}
use Rattle.disk_location.proofs.Laws.{leading-digits}
use Rattle.disk_location.proofs.shard.Goals as goal

pub overflow_sub-result : goal.overflow_sub-result
overflow_sub-result c = omega (arith, leading_le 64 c.args.length)

pub returns : goal.returns
returns c = omega (arith, leading-digits 64 c.args.length)
