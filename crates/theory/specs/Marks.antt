-- Request P6: the marks say nothing of the files. A store whose records are marked is sound as before.
use Rattle.std.specs.Prelude.{◌≡◌, ◌⊎◌, ◌++◌, ◌+◌, ◌-◌}
use Rattle.rules.specs.Base.{List, ℕ, length, take, drop}
use Rattle.theory.specs.Types.{Record}
use Rattle.rules.specs.FileMap.{recorded, record_at}
use Rattle.rules.specs.Sync.{marked, marked_all}
use Rattle.theory.specs.Picture.{Picture}

-- "it compares records without the mark"
abbrev pub without_mark : Record → Record
without_mark r = recorded r.label r.live 0

-- ---- some of the records marked, and the others as they were
pub record SomeMarked (rs qs : List Record) : Type 0 where
  pub size : length qs ≡ length rs
  pub each : (k : ℕ) → (record_at qs k ≡ marked (record_at rs k)) ⊎ (record_at qs k ≡ record_at rs k)

-- as many as `count` from place `from` on
abbrev pub marked_from : ℕ → ℕ → List Record → List Record
marked_from from count rs = take from rs ++ (marked_all (take count (drop from rs)) ++ drop count (drop from rs))

-- ---- a picture
-- the same files with other records
abbrev pub with_records : Picture → List Record → Picture
with_records p qs = record { views = p.views; records = qs; table = p.table; next = p.next }

-- the same files, marked
abbrev pub marked_picture : Picture → Picture
marked_picture p = with_records p (marked_all p.records)
