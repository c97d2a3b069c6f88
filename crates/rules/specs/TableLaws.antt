-- The table as a list of entries: lookups after stores, the order, lengths.
use Rattle.std.specs.Prelude.{◌≡◌, ◌⊎◌, ◌≤◌, ◌∷◌, None, Some}
use Rattle.rules.specs.Base.{List, [], ℕ, suc}
use Rattle.rules.specs.Types.{Entry, Held}

-- "ids strictly rising", from a least one on
pub data Rising : ℕ → List Entry → Type 0 where
  rise-end : {f : ℕ} → Rising f []
  rise : {f : ℕ} {e : Entry} {es : List Entry} → f ≤ e.id → Rising (suc e.id) es → Rising f (e ∷ es)

-- the entry (x, l) is in the list
abbrev pub Has : List Entry → ℕ → ℕ → Type 0
Has [] x l = ⊥
Has (e ∷ es) x l = ((e.id ≡ x) × (e.location ≡ l)) ⊎ Has es x l

-- ---- many stores
-- the first, or else the second
abbrev pub or_else : Held → Held → Held
or_else (Some l) o = Some l
or_else None o = o
