use Prim.Native.Nat.{◌≤◌, ◌*◌}
use mathlib.Core.Path.{◌≡◌}
use lib.ListN.{drop}
use Rattle.rules.specs.Counts.{counts_of}
use Rattle.file_map.proofs.RecordTurns.{counts_from}
use Rattle.file_map.proofs.counts.Given as goal

abbrev pub invariant-loop-r : goal.invariant-loop-r
invariant-loop-r l =
    let i = l.r-index in
    let rs = l.fn.m.records in
    (l.files ≤ i) × (l.bytes ≤ i * 1048576) × (l.present ≤ i * 1048576) × (l.live ≤ i * 65536)
    × (counts_of rs ≡ counts_from l.files l.bytes l.present l.live (drop i rs))
