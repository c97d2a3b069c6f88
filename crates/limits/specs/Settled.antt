-- What a call knows of lengths, records and table once 1 does not refuse it, in the form that the functions below the calls ask for.
use Rattle.std.specs.Prelude.{◌≡◌, refl, ◌≤◌, ◌&&◌, ◌||◌}
use Rattle.std.proofs.Common.{⊎_elim, zero-le, arith}
use Rattle.rules.specs.Base.{Bool, true, false, not, List, ℕ, eqb, within}
use Rattle.rules.proofs.BaseLaws.{within-holds}
use Rattle.rules.specs.declared.Settings.{Settings}
use Rattle.rules.specs.declared.Record.{Record}
use Rattle.rules.specs.declared.State.{State}
use Rattle.rules.specs.declared.FileMap.{FileMap}
use Rattle.rules.specs.Settings.{same_settings}
use Rattle.rules.specs.Layout.{Table, capacity_of}
use Rattle.rules.specs.FileMap.{is_empty, record_at}
use Rattle.rules.proofs.FileMapLaws.{empty-is, empty-or-not}
use Rattle.rules.specs.Condition1.{not_the_states, bad_from}
use Rattle.rules.specs.Condition1Laws.{Passed}
use Rattle.location_table.specs.Tables.{Formed}
use Rattle.file_map.specs.Records.{Small, Bounded}
use Rattle.limits.specs.declared.Rest.{Rest}

-- a state, its records apart
abbrev pub state_of : Rest → FileMap → State
state_of t files = record { settings = t.settings; heap_len = t.heap_len; table_len = t.table_len; files = files; next_position = t.next_position }

-- lengths and settings are those of the state
unfoldable pub the_states : Settings → ℕ → ℕ → Rest → Bool
the_states s heap_len entries t = same_settings s t.settings && eqb heap_len t.heap_len && eqb entries t.table_len

pub the-states : (s : Settings) (heap_len : ℕ) (b : Table) (t : Rest) (files : FileMap)
    → not_the_states s heap_len b (state_of t files) ≡ not (the_states s heap_len (capacity_of b) t)
unfolding not_the_states the_states
the-states s heap_len b t files = refl

-- some record is bad, or S is out of its range
unfoldable pub bad_files : Settings → ℕ → Table → List Record → Bool
bad_files s heap_len b rs = not (within 128 1048576 s.slot_bytes) || bad_from s heap_len b 0 rs

-- where S is in its range, the records alone
pub bad-files : (s : Settings) (heap_len : ℕ) (b : Table) (rs : List Record) → 128 ≤ s.slot_bytes → s.slot_bytes ≤ 1048576
    → bad_files s heap_len b rs ≡ bad_from s heap_len b 0 rs
unfolding bad_files
bad-files s heap_len b rs low high = rw (within-holds 128 1048576 s.slot_bytes low high) refl

-- the table is in form
pub passed-formed : (s : Settings) (heap_len : ℕ) (b : Table) (t : State) → Passed s heap_len b t → Formed b
passed-formed s heap_len b t w = record { even = w.limits.table.even; form = w.form }

-- each record's numbers are small enough for the sums
pub passed-bounded : (s : Settings) (heap_len : ℕ) (b : Table) (t : State) → Passed s heap_len b t → Bounded t.files.records
passed-bounded s heap_len b t w k = ⊎_elim none some (empty-or-not (record_at t.files.records k))
  where
    none : is_empty (record_at t.files.records k) ≡ true → Small (record_at t.files.records k)
    none e = rw (empty-is (record_at t.files.records k) e) (record { size = zero-le; present = zero-le; live = zero-le })

    some : is_empty (record_at t.files.records k) ≡ false → Small (record_at t.files.records k)
    some e =
        let g = w.records k e in
        let a = w.limits.settings in
        let n = w.limits.table in
        record { size = omega (arith, g.bounds.size, a.slot-high); present = omega (arith, g.bounds.size, a.slot-high, g.present); live = omega (arith, g.live, n.most) }
