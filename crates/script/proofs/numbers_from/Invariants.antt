use Rattle.std.proofs.Common.{◌≤◌, length, take, drop}
use Rattle.script.specs.Asked.{no_numbers}
use Rattle.script.specs.Words.{words_of}
use Rattle.script.proofs.Taken.{Underway}
use Rattle.script.proofs.numbers_from.Given as goal

abbrev pub invariant-loop-value : goal.invariant-loop-value
invariant-loop-value l =
    (l.at ≤ length l.text) × Underway l.n l.value-index (words_of (drop l.from l.text)) (words_of (drop l.at l.text)) (take l.n no_numbers) l.value-items
