use Rattle.std.proofs.Common.{◌≡◌, ◌*◌, ◌/◌, take, drop, length}
use Rattle.numbers.specs.Parts.{front, put_at}
use Rattle.script.specs.Hex.{bytes_of}
use Rattle.script.proofs.hex.put_bytes.Given as goal

abbrev pub invariant-loop-k : goal.invariant-loop-k
invariant-loop-k l = put_at l.b-items l.k (bytes_of (drop (l.k * 2) l.word)) ≡ front (bytes_of l.word) (take (length l.word / 2) l.fn.out)
