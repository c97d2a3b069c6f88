use Rattle.std.proofs.Common.{◌≡◌, drop}
use Rattle.script.proofs.Digits.{said_from}
use Rattle.script.proofs.words.number.Given as goal

abbrev pub invariant-loop-b : goal.invariant-loop-b
invariant-loop-b l = said_from l.n (drop l.b-index l.word) ≡ said_from 0 l.word
