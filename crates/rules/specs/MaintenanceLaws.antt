-- "Candidates .. are unclaimed files with live not 0, and ..", as facts; which of 4, 5, 7 refuses a group, and what rewriting it leaves.
use Rattle.std.specs.Prelude.{◌≡◌, ◌⊎◌, ◌≤◌, ◌<◌, ◌++◌, ◌+◌, ◌*◌, ◌/◌, ◌^◌, Err, Ok}
use Rattle.disk_location.specs.Locations.{masked_of}
use Rattle.rules.specs.Base.{false, List, ℕ, length, larger, sum}
use Rattle.rules.specs.Types.{Record, Settings, Claims, Refusal, SlotRoom, NoEmptySlot, PositionsSpent, Answer}
use Rattle.rules.specs.BaseLaws.{All, Some}
use Rattle.rules.specs.Refusal.{Test, NoneHolds}
use Rattle.rules.specs.Ops.{Op, objects_of, file_bytes}
use Rattle.rules.specs.Claims.{is_claimed}
use Rattle.rules.specs.FileMap.{is_empty}
use Rattle.rules.specs.Install.{room_tests, empty_of, position_tests}
use Rattle.rules.specs.InstallLaws.{Room}
use Rattle.rules.specs.World.{World}
use Rattle.rules.specs.Maintenance.{source_tests}

-- "file count ≥ threshold and file_size × min_compaction_files < target_file_size"
pub record Small (s : Settings) (files : ℕ) (r : Record) : Type 0 where
  pub count : s.small_file_cleanup_threshold ≤ files
  pub size : r.label.file_size * s.min_compaction_files < s.target_file_size

-- "either live × 100 / max(present, 1), rounded down, strictly below the percentage, or both .."
abbrev pub WorthIt : Settings → ℕ → Record → Type 0
WorthIt s files r = (r.live * 100 / larger r.label.present_objects 1 < s.file_compaction_percent) ⊎ Small s files r

-- "unclaimed files with live not 0, and .."
pub record Candidate (s : Settings) (claims : Claims) (mark count slot : ℕ) (r : Record) : Type 0 where
  pub file : is_empty r ≡ false
  pub unclaimed : is_claimed claims slot ≡ false
  pub live : 0 < r.live
  pub worth : WorthIt s count r
  pub below : masked_of r.label.lsn < mark

-- ---- a group: "4, 5, 7 are decided first, for the whole group"
-- "4 64 + file_size > S", of a file
abbrev pub TooLong : World → List Op → Type 0
TooLong w f = w.settings.slot_bytes < 64 + length (file_bytes f)

-- base + sum of (T + 1) over the files
abbrev pub positions_after : World → List (List Op) → ℕ
positions_after w files = w.state.next_position + sum (λ (f : List Op). length (objects_of f) + 1) files

-- none of 4, 5, 7: each file fits its slot, there are empty slots for all, and positions last
pub record Enough (w : World) (files : List (List Op)) : Type 0 where
  pub room : Room w.settings.slot_bytes (empty_of w) files
  pub positions : 0 < length files → positions_after w files ≤ 2 ^ 62

-- the first of 4, 5, 7 that holds of these files
abbrev pub Lacks : World → List (List Op) → Refusal → Type 0
Lacks w files r =
    ((r ≡ SlotRoom) × Some (TooLong w) files)
    ⊎ (((r ≡ NoEmptySlot) × All (λ (f : List Op). 64 + length (file_bytes f) ≤ w.settings.slot_bytes) files × (empty_of w < length files))
    ⊎ ((r ≡ PositionsSpent) × Room w.settings.slot_bytes (empty_of w) files × (0 < length files) × (2 ^ 62 < positions_after w files)))

-- what an answer says of them
abbrev pub DecidedBy : World → List (List Op) → Answer → Type 0
DecidedBy w files (Ok _) = Enough w files
DecidedBy w files (Err r) = Lacks w files r

-- no file of the group is refused
abbrev pub SourcesPass : World → List ℕ → Type 0
SourcesPass w slots = NoneHolds (source_tests w slots)

-- the three tests of these files
abbrev pub limit_tests : World → List (List Op) → List Test
limit_tests w files = room_tests w.settings.slot_bytes (empty_of w) files ++ position_tests w.state.next_position files
