-- Files that 4, 5 and 7 do not refuse: room and positions for each, one after the other.
use Rattle.std.specs.Prelude.{◌≡◌, ◌≤◌, ◌<◌, ◌∷◌, ◌++◌, ◌+◌, ◌^◌}
use Rattle.std.proofs.Common.{arith}
use Rattle.rules.specs.Base.{List, ℕ, length, sum}
use Rattle.rules.specs.Refusal.{NoneHolds}
use Rattle.rules.proofs.RefusalLaws.{none_first, none_rest}
use Rattle.rules.specs.Ops.{Op, objects_of, file_bytes}
use Rattle.rules.specs.Install.{room_tests, position_tests}
use Rattle.rules.specs.InstallLaws.{Room}
use Rattle.rules.proofs.InstallLaws.{room-clear, positions-clear}

-- "T + 1"
abbrev pub span : List Op → ℕ
span f = length (objects_of f) + 1

-- slots of that size, that many empty ones, and positions from a base on do for these files
pub record Fitting (slot_size empty_ones base : ℕ) (files : List (List Op)) : Type 0 where
  pub room : Room slot_size empty_ones files
  pub positions : 0 < length files → base + sum span files ≤ 2 ^ 62

-- 4, 5 and 7 do not hold
pub fitting-clear : (slot_size empty_ones base : ℕ) (files : List (List Op)) → NoneHolds (room_tests slot_size empty_ones files ++ position_tests base files)
    → Fitting slot_size empty_ones base files
fitting-clear slot_size empty_ones base files none = record {
  room = room-clear slot_size empty_ones files (none_first (room_tests slot_size empty_ones files) (position_tests base files) none);
  positions = positions-clear base files (none_rest (room_tests slot_size empty_ones files) (position_tests base files) none);
}

-- ---- the first of them, and the others after it
module _ (slot_size empty_ones base : ℕ) (f : List Op) (fs : List (List Op)) (w : Fitting slot_size empty_ones base (f ∷ fs)) where
  -- it fits its slot
  pub first_fits : 64 + length (file_bytes f) ≤ slot_size
  first_fits = w.room.fits.0

  -- there is one
  pub first-room : 0 < empty_ones
  first-room = omega (arith, w.room.slots)

  -- and positions for it
  pub first-positions : base + span f ≤ 2 ^ 62
  unfolding sum
  first-positions = omega (arith, w.positions (omega arith))

  -- as for the others, once it was added
  pub fitting-rest : (empty_after next : ℕ) → empty_after + 1 ≡ empty_ones → next ≡ base + span f → Fitting slot_size empty_after next fs
  unfolding sum
  fitting-rest empty_after next e d = record {
    room = record { fits = w.room.fits.1; slots = omega (arith, w.room.slots) };
    positions = λ some. omega (arith, w.positions (omega arith));
  }
