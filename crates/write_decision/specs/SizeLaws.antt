-- The sizes of a file, by count and T, and its new ids.
use Rattle.std.specs.Prelude.{◌≡◌, refl, Some, None, ◌*◌, ◌<◌, ◌≤◌, ◌+◌}
use Rattle.std.proofs.Common.{arith, lt-ltb, le-ltb, ltb-true, ltb-false}
use Rattle.rules.specs.Base.{Bool, true, false, List, ℕ, length, ltb, pick}
use Rattle.rules.specs.declared.Entry.{Entry}
use Rattle.rules.specs.Ops.{Op, objects_of, file_bytes}
use Rattle.rules.proofs.OpsLaws.{file-length}
use Rattle.table_merge.specs.NewIds.{new_ids}
use Rattle.write_decision.specs.NewIds.{ids_of}
use Rattle.write_decision.specs.Sizes.{sizes_of}
use Rattle.write_decision.specs.declared.BatchSizes.{BatchSizes}

pub sizes-fit : (slot_size : ℕ) (table : List Entry) (ops : List Op) {count total new : ℕ} → count ≡ length ops → total ≡ length (objects_of ops)
    → new ≡ new_ids table (ids_of ops) → 76 + total + 16 * count ≤ slot_size → Some (record { count = count; total = total; new = new }) ≡ sizes_of slot_size table ops
unfolding sizes_of
sizes-fit slot_size table ops c t n h =
    let inside : 64 + length (file_bytes ops) ≤ slot_size = omega (arith, file-length ops) in
    rw (le-ltb slot_size (64 + length (file_bytes ops)) inside, c, t, n)

pub sizes-large : (slot_size : ℕ) (table : List Entry) (ops : List Op) → slot_size < 76 + length (objects_of ops) + 16 * length ops
    → None ≡ sizes_of slot_size table ops
unfolding sizes_of
sizes-large slot_size table ops h =
    let over : slot_size < 64 + length (file_bytes ops) = omega (arith, file-length ops) in
    rw (lt-ltb slot_size (64 + length (file_bytes ops)) over)

-- ---- what a call of `sizes` tells
pub record Told (slot_size : ℕ) (table : List Entry) (ops : List Op) (n : BatchSizes) : Type 0 where
  pub fits : 64 + length (file_bytes ops) ≤ slot_size
  pub entries : n.count ≡ length ops
  pub objects : n.total ≡ length (objects_of ops)
  pub ids : n.new ≡ new_ids table (ids_of ops)

module _ (slot_size : ℕ) (table : List Entry) (ops : List Op) where
  sizes_here : BatchSizes
  sizes_here = record { count = length ops; total = length (objects_of ops); new = new_ids table (ids_of ops) }

  pub fits_told : (n : BatchSizes) → sizes_of slot_size table ops ≡ Some n → Told slot_size table ops n
  unfolding sizes_of sizes_here
  fits_told n e = go (ltb slot_size (64 + length (file_bytes ops))) refl e
    where
      go : (t : Bool) → ltb slot_size (64 + length (file_bytes ops)) ≡ t → pick t None (Some sizes_here) ≡ Some n → Told slot_size table ops n
      go true t e = absurd (let z : ◌≡◌ {A = ℕ} 0 1 = cc in omega arith)
      go false t e =
          let same : sizes_here ≡ n = cc in
          rw (← same) (record { fits = ltb-false slot_size (64 + length (file_bytes ops)) t; entries = refl; objects = refl; ids = refl })

  pub large-told : sizes_of slot_size table ops ≡ None → slot_size < 64 + length (file_bytes ops)
  unfolding sizes_of sizes_here
  large-told e = go (ltb slot_size (64 + length (file_bytes ops))) refl e
    where
      go : (t : Bool) → ltb slot_size (64 + length (file_bytes ops)) ≡ t → pick t None (Some sizes_here) ≡ None → slot_size < 64 + length (file_bytes ops)
      go true t e = ltb-true slot_size (64 + length (file_bytes ops)) t
      go false t e = absurd (let z : ◌≡◌ {A = ℕ} 0 1 = cc in omega arith)
