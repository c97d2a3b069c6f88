use Rattle.std.proofs.Common.{◌≡◌, ◌^◌, ◌<◌, List, ℕ, ◌++◌, length, take}
use Rattle.numbers.specs.LittleEndian.{le_value}
use Rattle.numbers.proofs.little_endian.get.Given as goal

abbrev pub invariant-loop-b : goal.invariant-loop-b
invariant-loop-b l = (seen : List ℕ) × (take l.n l.s ≡ l.b-iterator.iter.rest.now ++ seen) × (l.v ≡ le_value seen) × (l.v < 256 ^ length seen)
