-- One turn of the lookup over the lsns, and its end.
use Rattle.std.specs.Prelude.{None, Some}
use mathlib.Core.Path.{◌≡◌}
use mathlib.Core.List.{List}
use Prim.Native.Nat.{ℕ, ◌+◌, ◌*◌, ◌/◌, ◌<◌, ◌≤◌}
use native.Mathlib.Numerals.{add-one}
use native.Mathlib.Omega.{arith}
use lib.ListN.{get_or, length, drop, drop_of_length-le}
use lib.Seq.{drop-cons}
use borrow.Author.Tests.{lt-ltb, le-ltb, le-leb, lt-leb, eq-eqb, ne_eqb}
use Rattle.rules.specs.Types.{Slot}
use Rattle.rules.specs.FileMap.{Lead}
use Rattle.file_lists.specs.Lists.{leads_lsn, lead_lsn, slot_of}

-- the lead after one more of the lsns
module _ (ns : List ℕ) (i location : ℕ) (b : Lead) where
  pub lead-next : i < length ns → lead_lsn (drop i ns) i location b ≡ lead_lsn (drop (i + 1) ns) (i + 1) location (leads_lsn (get_or ns i 0) i location b)
  unfolding lead_lsn
  lead-next h = rw (drop-cons ns i 0 h, add-one i)

  pub lead-end : length ns ≤ i → lead_lsn (drop i ns) i location b ≡ b
  unfolding lead_lsn
  lead-end h = rw (drop_of_length-le ns h)

module _ (n i location : ℕ) (b : Lead) where
  pub leads-took : b.lsn < n → n ≤ location / 2 → leads_lsn n i location b ≡ record { lsn = n; slot = i }
  unfolding leads_lsn
  leads-took h k = simp (lt-ltb _ _ h, le-leb (2 * n) location (omega arith))

  pub leads-far : b.lsn < n → location / 2 < n → leads_lsn n i location b ≡ b
  unfolding leads_lsn
  leads-far h k = simp (lt-ltb _ _ h, lt-leb (2 * n) location (omega arith))

  pub leads-less : n ≤ b.lsn → leads_lsn n i location b ≡ b
  unfolding leads_lsn
  leads-less h = simp (le-ltb _ _ h)

-- the lead that a loop holds as its lsn and its slot
abbrev pub lead_of : ℕ → Slot → Lead
lead_of lsn slot = record { lsn = lsn; slot = number slot }
  where
    number : Slot → ℕ
    number (Some k) = k
    number None = 0

-- what a lead says
pub slot-none : (b : Lead) → b.lsn ≡ 0 → slot_of b ≡ None
unfolding slot_of
slot-none b h = simp (eq-eqb _ _ h)

pub slot-some : (b : Lead) → (b.lsn ≡ 0 → ⊥) → slot_of b ≡ Some b.slot
unfolding slot_of
slot-some b h = simp (ne_eqb _ _ h)
