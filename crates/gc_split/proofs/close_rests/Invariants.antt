use Prim.Native.Nat.{◌*◌, ◌^◌, ◌+◌, ◌≤◌}
use lib.ListN.{drop, length}
use Rattle.gc_split.specs.Tally.{closing_rests}
use mathlib.Core.Path.{◌≡◌}
use Rattle.gc_split.proofs.close_rests.Given as goal

abbrev pub invariant-loop-size : goal.invariant-loop-size
invariant-loop-size l = let n = length l.yielded in
    (l.t.files ≤ 65536 + n)
    × (l.t.positions ≤ 2 ^ 55 + n * 2 ^ 41)
    × (closing_rests l.slot_bytes l.counts l.sizes l.initial.t ≡ closing_rests l.slot_bytes (drop n l.counts) (drop n l.sizes) l.t)
