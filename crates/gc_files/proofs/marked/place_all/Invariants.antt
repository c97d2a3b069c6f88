use lib.ListN.{drop, length, get_or}
use Rattle.numbers.specs.Parts.{front, put_at}
use Rattle.rules.specs.Layout.{table_locations}
use Rattle.gc_files.specs.Places.{places_for}
use Prim.Native.Nat.{ℕ, ◌≤◌}
use mathlib.Core.Path.{◌≡◌}
use Rattle.gc_files.proofs.marked.place_all.Given as goal

abbrev pub invariant-loop-i : goal.invariant-loop-i
invariant-loop-i l = (l.i-end ≤ length (table_locations l.table))
    × (put_at l.places l.i (places_for l.slot_bytes l.lsns (drop l.i (table_locations l.table)) (drop l.i l.marks)) ≡ front (places_for l.slot_bytes l.lsns (table_locations l.table) l.marks) l.initial.places)
    × (length l.places ≡ length l.initial.places)
    × ((k : ℕ) → l.i-end ≤ k → get_or l.places k 0 ≡ 0)
