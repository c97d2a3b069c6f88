use mathlib.Core.List.{◌++◌}
use Prim.Native.Nat.{◌*◌, ◌+◌, ◌-◌}
use lib.ListN.{take, length}
use Rattle.as_numbers.specs.StateWords.{records_from}
use mathlib.Core.Path.{◌≡◌}
use Rattle.as_numbers.proofs.state_words.files_in.Given as goal

abbrev pub invariant-loop-k : goal.invariant-loop-k
invariant-loop-k l = (length l.r-items ≡ 256) × (take l.k l.r-items ++ records_from (256 - l.k) l.words (8 + 7 * l.k) ≡ records_from 256 l.words 8)
