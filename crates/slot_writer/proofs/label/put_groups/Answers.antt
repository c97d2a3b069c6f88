use mathlib.Core.Path.{ap}
use Rattle.numbers.specs.Groups.{groups_of}
use Rattle.numbers.proofs.Lent.{lent}
use Rattle.numbers.specs.GroupLaws.{groups-length}
use Prim.Native.Nat.{ℕ, ◌+◌}
use native.Mathlib.Omega.{arith}
use Rattle.slot_writer.proofs.label.put_groups.Goals as goal

pub overflow_add-result : goal.overflow_add-result
overflow_add-result c = omega (arith, c.encode.ensures.counts, groups-length 10 c.args.x)

pub returns : goal.returns
returns c =
    let a = c.args in record {
      answers = ap (λ (n : ℕ). a.at + n) c.encode.ensures.counts;
      writes = lent a.label.now _ (groups_of 10 a.x) a.at (omega (arith, c.requires, groups-length 10 a.x)) c.encode.ensures.writes;
    }
