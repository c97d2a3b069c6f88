use Rattle.std.proofs.Common.{◌≡◌, ◌*◌, drop}
use Rattle.numbers.specs.Parts.{front, put_at}
use Rattle.script.specs.Hex.{text_of}
use Rattle.script.proofs.hex.put_text.Given as goal

abbrev pub invariant-loop-k : goal.invariant-loop-k
invariant-loop-k l = put_at l.out (l.k * 2) (text_of (drop l.k l.bytes)) ≡ front (text_of l.bytes) l.initial.out
