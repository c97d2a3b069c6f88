-- What a search in the table keeps, and what it has shown when it stops: any search, one entry after another or by halving.
use Rattle.std.specs.Prelude.{Err, Ok}
use mathlib.Core.Path.{◌≡◌, sym, ap}
use mathlib.Core.Logic.{◌⊎◌, inl, inr}
use Prim.Native.Nat.{ℕ, zero, suc, ◌+◌, ◌*◌, ◌^◌, ◌<◌, ◌≤◌, zero-le}
use native.Mathlib.Nat.{not-suc-le-zero, eq-or-lt_of_le, lt_irrefl, pow-suc}
use native.Mathlib.Omega.{arith}
use lib.ListN.{length, get_or}
use Rattle.disk_location.specs.Locations.{digits_in}
use Rattle.disk_location.proofs.LocationLaws.{digits-hold, digits-least}
use Rattle.rules.specs.Table.{no_entry}
use Rattle.rules.specs.Layout.{Table, table_ids, table_locations, capacity_of, used_entries}
use Rattle.rules.proofs.LayoutLaws.{used-length}
use Rattle.location_table.specs.Places.{place}
use Rattle.location_table.specs.Tables.{Formed}
use Rattle.location_table.specs.Halving.{halvings}
use Rattle.location_table.specs.EntryLaws.{rising-lt, place_found, place-gap}
use Rattle.location_table.specs.LayoutLaws.{used-id, used-rising, zero-unused, not-zero-used}

-- all before k is below x
pub record Below (t : Table) (x k : ℕ) : Type 0 where
  pub within : k ≤ length (used_entries t)
  pub less : (j : ℕ) → j < k → (get_or (used_entries t) j no_entry).id < x

-- an entry at k, if there is one, is not below x
pub record NotBelow (t : Table) (x k : ℕ) : Type 0 where
  pub least : k < length (used_entries t) → x ≤ (get_or (used_entries t) k no_entry).id

module _ (t : Table) (x : ℕ) where
  pub below-start : Below t x 0
  below-start = record { within = zero-le; less = λ j h. absurd (not-suc-le-zero h) }

  module _ (formed : Formed t) where
    -- a used entry below x has all before it below x
    pub below-past : (m : ℕ) → (get_or (table_locations t) m 0 ≡ 0 → ⊥) → get_or (table_ids t) m 0 < x → Below t x (m + 1)
    below-past m z h = record { within = omega (arith, u); less = λ j q. go j (eq-or-lt_of_le {n = j} {m = m} (omega arith)) }
      where
        u : m < length (used_entries t)
        u = not-zero-used t formed m z

        e : get_or (table_ids t) m 0 ≡ (get_or (used_entries t) m no_entry).id
        e = used-id t m u

        go : (j : ℕ) → (j ≡ m) ⊎ (j < m) → (get_or (used_entries t) j no_entry).id < x
        go j (inl q) = rw q (omega (arith, e))
        go j (inr q) =
            let r : (get_or (used_entries t) j no_entry).id < (get_or (used_entries t) m no_entry).id = rising-lt 0 (used_entries t) (used-rising t formed) j m q u in
            omega (arith, e)

    pub not-below-end : NotBelow t x (capacity_of t)
    not-below-end = record { least = λ h. absurd (lt_irrefl 0 (let q = used-length t in omega arith)) }

    pub not-below-free : (m : ℕ) → get_or (table_locations t) m 0 ≡ 0 → NotBelow t x m
    not-below-free m z = record { least = λ h. absurd (lt_irrefl 0 (let q = zero-unused t formed m z in omega arith)) }

    pub not-below-here : (m : ℕ) → x ≤ get_or (table_ids t) m 0 → NotBelow t x m
    not-below-here m h = record { least = λ u. let e = used-id t m u in omega arith }

    pub gap-end : (k : ℕ) → Below t x k → capacity_of t ≤ k → Err k ≡ place (used_entries t) x
    gap-end k b h =
        let q = used-length t in
        sym (place-gap (used_entries t) k x b.less b.within (λ u. absurd (lt_irrefl 0 (omega arith))))

    pub gap-free : (k : ℕ) → Below t x k → get_or (table_locations t) k 0 ≡ 0 → Err k ≡ place (used_entries t) x
    gap-free k b z =
        let q = zero-unused t formed k z in
        sym (place-gap (used_entries t) k x b.less b.within (λ u. absurd (lt_irrefl 0 (omega arith))))

    -- a used entry of the id is its place, however it was met
    pub found_here : (k : ℕ) → (get_or (table_locations t) k 0 ≡ 0 → ⊥) → x ≡ get_or (table_ids t) k 0 → Ok k ≡ place (used_entries t) x
    found_here k z h =
        let u = not-zero-used t formed k z in
        let e = used-id t k u in
        let before : (j : ℕ) → j < k → (get_or (used_entries t) j no_entry).id < x =
        λ j l. let r = rising-lt 0 (used_entries t) (used-rising t formed) j k l u in omega arith in
        sym (place_found (used_entries t) k x before u (omega arith))

    -- where the ends of a halving meet at an entry that is another
    pub gap-met : (k : ℕ) → Below t x k → NotBelow t x k → (get_or (table_locations t) k 0 ≡ 0 → ⊥) → (x ≡ get_or (table_ids t) k 0 → ⊥) → Err k ≡ place (used_entries t) x
    gap-met k b n z h =
        let u = not-zero-used t formed k z in
        let e = used-id t k u in
        let l = n.least u in
        sym (place-gap (used_entries t) k x b.less b.within (λ v. strict (eq-or-lt_of_le {n = x} {m = get_or (table_ids t) k 0} (omega arith)) e))
      where
        strict : (x ≡ get_or (table_ids t) k 0) ⊎ (x < get_or (table_ids t) k 0) → get_or (table_ids t) k 0 ≡ (get_or (used_entries t) k no_entry).id → x < (get_or (used_entries t) k no_entry).id
        strict (inl q) e = absurd (h q)
        strict (inr q) e = omega arith

-- ---- how often it looks
-- so many looks so far, and so many places left of all
pub record Left (all left looked : ℕ) : Type 0 where
  pub enough : looked + halvings left ≤ halvings all

pub left-all : (all left : ℕ) → left ≡ all → Left all left 0
left-all all left e = record { enough = let d = ap halvings e in omega arith }

-- a look that leaves at most half
pub left-half : (all n half looked : ℕ) → n < 2 ^ 64 → 0 < n → 2 * half ≤ n → Left all n looked → Left all half (looked + 1)
left-half all n half looked small some h q = record { enough = omega (arith, q.enough, fewer (digits_in 64 n) (digits-hold 64 n small)) }
  where
    fewer : (d : ℕ) → n < 2 ^ d → digits_in 64 half + 1 ≤ d
    fewer zero w = absurd (omega arith)
    fewer (suc d) w = let l = digits-least 64 half d (omega (arith, pow-suc 2 d)) in omega arith

-- never more than 64
pub left-few : (all left looked : ℕ) → all < 2 ^ 64 → Left all left looked → looked ≤ 64
left-few all left looked small q = omega (arith, q.enough, digits-least 64 all 64 small)

-- when it stops
pub left_end : (all left looked n : ℕ) → all ≡ n → Left all left looked → looked ≤ halvings n
left_end all left looked n e q = let d = ap halvings e in omega (arith, q.enough)
