-- What a group is read from: the slots, their records and the table; and what is known of them once refusal 1 is decided.
use Rattle.std.specs.Prelude.{◌≡◌, ◌≤◌, ◌<◌, ◌+◌, ◌-◌, ◌*◌}
use Rattle.std.proofs.Common.{◌∙◌, ⊎_elim, zero-le, arith, lit<, length-take}
use Rattle.std.proofs.Math.Nat.{min-le_left}
use Rattle.disk_location.specs.Locations.{masked_of}
use Rattle.rules.specs.Base.{List, ℕ, length, get_or}
use Rattle.rules.specs.declared.Label.{Label}
use Rattle.rules.specs.declared.Settings.{Settings}
use Rattle.rules.specs.declared.State.{State}
use Rattle.rules.specs.declared.Claims.{Claims}
use Rattle.rules.specs.Layout.{Table}
use Rattle.rules.specs.SlotFile.{file_in, object_part}
use Rattle.rules.specs.FileMap.{empty_label, record_at}
use Rattle.rules.proofs.FileMapLaws.{empty-is, empty-or-not}
use Rattle.rules.specs.LabelLaws.{InBounds}
use Rattle.rules.proofs.SettingsLaws.{slot-within}
use Rattle.rules.specs.Condition1Laws.{Passed}
use Rattle.gc_candidates.specs.Plan.{plan_of, plan-length, plan-files}
use Rattle.gc_group.specs.Source.{Lies, Ready}

pub bounds-lie : (size : ℕ) (l : Label) → InBounds size l → Lies size l
unfolding masked_of
bounds-lie size l b = record { offset = b.offset; inside = b.size; positions = omega (arith, b.lsn, b.end) }

-- an empty one, too
pub empty-lies : (size : ℕ) → Lies size empty_label
empty-lies size = record { offset = zero-le; inside = zero-le; positions = lit< tt }

-- as the call starts
pub passed-lie : (s : Settings) (heap_len : ℕ) (b : Table) (t : State) → Passed s heap_len b t → (k : ℕ) → Lies s.slot_bytes (record_at t.files.records k).label
passed-lie s heap_len b t w k = ⊎_elim
    (λ e. rw (empty-is (record_at t.files.records k) e) (empty-lies s.slot_bytes))
    (λ e. bounds-lie s.slot_bytes (record_at t.files.records k).label (w.records k e).bounds)
    (empty-or-not (record_at t.files.records k))

-- a planned slot is one of the heap's
pub planned-within : (s : Settings) (claims : Claims) (mark count heap_len : ℕ) (b : Table) (t : State) → Passed s heap_len b t
    → (k : ℕ) → 0 < get_or (plan_of s claims mark count t.files.records) k 0 → k * s.slot_bytes + s.slot_bytes ≤ heap_len
planned-within s claims mark count heap_len b t w k h =
    slot-within s heap_len k w.limits.heap (w.records k (plan-files s claims mark count t.files.records k h)).place

-- records and plan of a call that 1 does not refuse are ready for each of its groups
pub ready : (s : Settings) (claims : Claims) (mark count heap_len : ℕ) (b : Table) (t : State) (generation : ℕ) → Passed s heap_len b t → length t.files.records ≡ 256 → 0 < generation
    → Ready s.slot_bytes heap_len t.files.records (plan_of s claims mark count t.files.records) generation
ready s claims mark count heap_len b t generation w n g = record {
  slots = plan-length s claims mark count t.files.records ∙ n;
  files = passed-lie s heap_len b t w;
  standing = λ k e. planned-within s claims mark count heap_len b t w k (omega arith);
}

-- a file has no more object bytes than its label says
pub part_length : (l : Label) (slot : List ℕ) → length (object_part l slot) ≤ l.trailer_offset
part_length l slot = rw (length-take l.trailer_offset (file_in l slot)) (min-le_left l.trailer_offset (length (file_in l slot)))
