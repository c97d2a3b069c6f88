use Prim.Native.Nat.{◌*◌, ◌+◌}
use lib.ListN.{drop, length}
use Rattle.numbers.specs.Parts.{put_at}
use Rattle.as_numbers.specs.StateWords.{records_words}
use mathlib.Core.Path.{◌≡◌}
use Rattle.as_numbers.proofs.state_words.put_records.Given as goal

abbrev pub invariant-loop-k : goal.invariant-loop-k
invariant-loop-k l = (length l.words ≡ 1801) × (put_at l.words (8 + 7 * l.k) (records_words (drop l.k l.files.records)) ≡ put_at l.initial.words 8 (records_words l.files.records))
