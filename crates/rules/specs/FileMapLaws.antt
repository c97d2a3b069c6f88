-- The file map: empty records, lookups and live counts, in a reader's words.
use Rattle.std.specs.Prelude.{◌≡◌, ◌⊎◌, ◌≤◌, ◌<◌, ◌∷◌, ◌+◌, ◌-◌, ◌*◌}
use Rattle.rules.specs.Base.{Bool, true, false, List, [], ℕ, length}
use Rattle.rules.specs.Types.{Record}
use Rattle.rules.specs.FileMap.{is_empty, record_at, Lead, leads}

-- b leads the first i of the records
pub record Leads (rs : List Record) (location i : ℕ) (b : Lead) : Type 0 where
  pub most : (j : ℕ) → j < i → 2 * (record_at rs j).label.lsn ≤ location → (record_at rs j).label.lsn ≤ b.lsn
  pub first : (j : ℕ) → j < b.slot → 0 < b.lsn → 2 * (record_at rs j).label.lsn ≤ location → (record_at rs j).label.lsn < b.lsn
  pub held : 0 < b.lsn → (b.slot < i) × ((record_at rs b.slot).label.lsn ≡ b.lsn) × (2 * b.lsn ≤ location)

-- "the file with the greatest own location not above the one sought, the lowest slot of equals"
pub record IsFile (rs : List Record) (location k : ℕ) : Type 0 where
  pub place : k < length rs
  pub used : 0 < (record_at rs k).label.lsn
  pub low : 2 * (record_at rs k).label.lsn ≤ location
  pub most : (j : ℕ) → j < length rs → 2 * (record_at rs j).label.lsn ≤ location → (record_at rs j).label.lsn ≤ (record_at rs k).label.lsn
  pub first : (j : ℕ) → j < k → 2 * (record_at rs j).label.lsn ≤ location → (record_at rs j).label.lsn < (record_at rs k).label.lsn

-- ---- the slots that pass a test
-- k is among these
abbrev pub Among : List ℕ → ℕ → Type 0
Among [] k = ⊥
Among (m ∷ ms) k = (m ≡ k) ⊎ Among ms k

-- k is a slot, from i on, whose record passes
pub record Passing (f : ℕ → Record → Bool) (i : ℕ) (rs : List Record) (k : ℕ) : Type 0 where
  pub off : ℕ
  pub is : k ≡ i + off
  pub place : off < length rs
  pub passes : f (i + off) (record_at rs off) ≡ true

-- "the lowest empty slot"
pub record Lowest (n : ℕ) (rs : List Record) (k : ℕ) : Type 0 where
  pub place : k < n
  pub room : k < length rs
  pub free : is_empty (record_at rs k) ≡ true
  pub first : (j : ℕ) → j < k → is_empty (record_at rs j) ≡ false
