-- Where a prune's stores go.
use Rattle.std.specs.Prelude.{◌≡◌, ◌≤◌, ◌+◌, ◌*◌}
use Rattle.std.proofs.Common.{arith}
use Rattle.rules.specs.Base.{false, List, ℕ}
use Rattle.rules.specs.declared.Settings.{Settings}
use Rattle.rules.specs.declared.Record.{Record}
use Rattle.rules.specs.declared.State.{State}
use Rattle.rules.specs.FileMap.{is_empty, record_at}
use Rattle.rules.specs.Layout.{Table}
use Rattle.rules.proofs.SettingsLaws.{slot-within}
use Rattle.rules.specs.Condition1Laws.{Passed}

-- every file's label lies within the heap
abbrev pub LabelsIn : ℕ → List Record → ℕ → Type 0
LabelsIn size rs heap_len = (k : ℕ) → is_empty (record_at rs k) ≡ false → k * size + 64 ≤ heap_len

-- once 1 is decided
pub passed-labels : (s : Settings) (n : ℕ) (b : Table) (t : State) → Passed s n b t → LabelsIn s.slot_bytes t.files.records n
passed-labels s n b t w k e = omega (arith, slot-within s n k w.limits.heap (w.records k e).place, w.limits.settings.slot-low)
