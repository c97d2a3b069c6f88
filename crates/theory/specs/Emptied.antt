-- Files with no live entry are removed: the invariant holds again and nothing else is said of any id.
use Rattle.std.specs.Prelude.{◌≡◌, ◌⊎◌, ◌≤◌, ◌-◌}
use Rattle.rules.specs.Base.{ℕ, length}
use Rattle.rules.specs.SlotFile.{empty}
use Rattle.rules.specs.FileMap.{empty_record, record_at}
use Rattle.theory.specs.Places.{view_at}
use Rattle.theory.specs.Losing.{live_at}
use Rattle.theory.specs.Picture.{Picture}

-- slot k as it was, or without its file, which had no live entry
abbrev pub KeptOrEmptied : Picture → Picture → ℕ → Type 0
KeptOrEmptied p q k =
    ((view_at q.views k ≡ view_at p.views k) × (record_at q.records k ≡ record_at p.records k))
    ⊎ ((live_at p.records k ≡ 0) × (view_at q.views k ≡ empty) × (record_at q.records k ≡ empty_record))

-- q is p with some files of no live entry removed
pub record Emptied (p q : Picture) : Type 0 where
  pub fits : length q.views ≤ length q.records
  pub sized : length q.records ≡ length p.records
  pub each : (k : ℕ) → KeptOrEmptied p q k
  pub table : q.table ≡ p.table
  pub next : q.next ≡ p.next
