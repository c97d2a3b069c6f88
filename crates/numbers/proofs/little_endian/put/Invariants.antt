use Rattle.std.proofs.Common.{◌≡◌, ◌-◌, take}
use Rattle.numbers.specs.LittleEndian.{le_bytes}
use Rattle.numbers.specs.Parts.{front, put_at}
use Rattle.numbers.proofs.little_endian.put.Given as goal

abbrev pub invariant-loop-b : goal.invariant-loop-b
invariant-loop-b l = put_at l.b-items l.b-index (le_bytes (l.n - l.b-index) l.rest) ≡ front (le_bytes l.n l.x) (take l.n l.fn.s)
