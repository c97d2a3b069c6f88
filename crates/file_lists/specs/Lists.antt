-- The lsns and the live counts of the records as lists of their own.
use Rattle.std.specs.Prelude.{◌&&◌, ◌∷◌, ◌-◌, ◌*◌, None, Some}
use Rattle.rules.specs.Base.{List, [], map, ℕ, suc, get_or, set, leb, ltb, eqb, pick}
use Rattle.rules.specs.declared.Record.{Record}
use Rattle.rules.specs.Types.{Slot}
use Rattle.rules.specs.FileMap.{with_live, Lead}

abbrev pub lsns_of : List Record → List ℕ
lsns_of rs = map (λ (r : Record). r.label.lsn) rs

abbrev pub lives_of : List Record → List ℕ
lives_of rs = map (λ (r : Record). r.live) rs

-- the same files with these live counts
unfoldable pub with_lives : List Record → List ℕ → List Record
with_lives [] ls = []
with_lives (r ∷ rs) [] = r ∷ rs
with_lives (r ∷ rs) (l ∷ ls) = with_live r l ∷ with_lives rs ls

-- a later file takes the lead only with a greater own location (2 * lsn) that is not above the one sought
unfoldable pub leads_lsn : ℕ → ℕ → ℕ → Lead → Lead
leads_lsn lsn i location b = pick (ltb b.lsn lsn && leb (2 * lsn) location) (record { lsn = lsn; slot = i }) b

-- the lead after the lsns from slot i on
unfoldable pub lead_lsn : List ℕ → ℕ → ℕ → Lead → Lead
lead_lsn [] i location b = b
lead_lsn (n ∷ ns) i location b = lead_lsn ns (suc i) location (leads_lsn n i location b)

-- the slot of a lead, if there is one
unfoldable pub slot_of : Lead → Slot
slot_of b = pick (eqb b.lsn 0) None (Some b.slot)

-- "the file with the greatest own location not above the one sought, the lowest slot of equals"
unfoldable pub lsn_at : List ℕ → ℕ → Slot
lsn_at ns location = slot_of (lead_lsn ns 0 location (record { lsn = 0; slot = 0 }))

-- "loses one live (0 stays 0, and a location with no file takes none)"
abbrev pub less_at : Slot → List ℕ → List ℕ
less_at (Some k) ls = set ls k (get_or ls k 0 - 1)
less_at None ls = ls
