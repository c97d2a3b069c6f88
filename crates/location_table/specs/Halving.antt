-- Request P4: a search by halving, and how many turns it may take.
use Rattle.std.specs.Prelude.{◌≡◌, true, ℕ, ◌≤◌}
use Rattle.std.proofs.Common.{arith}
use Rattle.disk_location.specs.Locations.{digits_in}
use Rattle.disk_location.proofs.LocationLaws.{digits-least}
use Rattle.rules.specs.Layout.{Table, capacity_of, lengths_in_range, used_entries}
use Rattle.rules.proofs.LayoutLaws.{lengths-in-range}
use Rattle.location_table.specs.declared.Searched.{Searched}
use Rattle.location_table.specs.Places.{place}

-- how often n can be halved until nothing is left: its binary digits
abbrev pub halvings : ℕ → ℕ
halvings n = digits_in 64 n

-- "Search the sorted table by halving": the id's place, and a count of at most as many as the table's places can be halved. The count is the code's own: that it
-- is one for each turn, and a turn looks at one place, is seen in the loop
pub record ByHalving (b : Table) (id : ℕ) (r : Searched) : Type 0 where
  pub answer : r.place ≡ place (used_entries b) id
  pub looks : r.looked ≤ halvings (capacity_of b)

-- 17 at most: "table entries 1..65,536"
pub at-most-17 : (b : Table) (id : ℕ) (r : Searched) → lengths_in_range b ≡ true → ByHalving b id r → r.looked ≤ 17
at-most-17 b id r e h =
    let w = (lengths-in-range b e).most in
    let d = digits-least 64 (capacity_of b) 17 (omega arith) in
    let l = h.looks in
    omega arith
