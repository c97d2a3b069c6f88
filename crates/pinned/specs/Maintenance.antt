-- "Maintenance": what a rewritten file's record says, and what a refusal leaves.
use Rattle.std.specs.Prelude.{◌≡◌, refl, ◌<◌, ◌+◌, ◌^◌}
use Rattle.std.proofs.Common.{ap, ◌∙◌, arith, add-zero, get_or-set_same, get_or-set_other}
use Rattle.rules.specs.Base.{List, ℕ, length}
use Rattle.theory.specs.Types.{Record}
use Rattle.rules.specs.Ops.{Op, objects_of, file_bytes}
use Rattle.rules.specs.FileMap.{record_at, empty_record}
use Rattle.rules.specs.Install.{new_slot, new_label, new_record, losing, records_with, next_with, installed}
use Rattle.rules.proofs.InstallLaws.{losing-length, losing-label, losing-record}
use Rattle.rules.specs.World.{World, records_of, mappings}
-- "(0 and 0 with 1)"; "A refusal stops the call, keeps finished groups .. nothing is pruned": the world left is the one in which the refused group's turn came
pub use Rattle.maintenance_theory.specs.Halting.{KeepsFinished}
pub use Rattle.maintenance_theory.proofs.Halting.{limits-unchanged, stopped-keeps}
-- which files are candidates, as facts
pub use Rattle.rules.specs.MaintenanceLaws.{Candidate}
pub use Rattle.rules.proofs.MaintenanceLaws.{candidate, is-candidate}

-- the record of a file of these operations: all its entries live, and the mark "clear on writing"
abbrev pub record_for : ℕ → ℕ → List Op → Record
record_for lsn generation ops = record {
  label = record { lsn = lsn; trailer_offset = length (objects_of ops); file_size = length (file_bytes ops); present_objects = length ops; generation = generation };
  live = length ops;
  synced = 0;
}

-- what an added file leaves in the file map
pub record Added (w : World) (lsn generation : ℕ) (ops : List Op) (v : World) : Type 0 where
  pub here : record_at (records_of v) (new_slot w) ≡ record_for lsn generation ops
  pub others : (k : ℕ) → (k ≡ new_slot w → ⊥) → (record_at (records_of v) k).label ≡ (record_at (records_of w) k).label
  pub marks : (k : ℕ) → (k ≡ new_slot w → ⊥) → (record_at (records_of v) k).synced ≡ (record_at (records_of w) k).synced
  pub next : v.state.next_position ≡ w.state.next_position + (length (objects_of ops) + 1)

added : (bit generation : ℕ) (w : World) (ops : List Op) → new_slot w < length (records_of w) → Added w (w.state.next_position + bit) generation ops (installed bit generation w ops)
unfolding installed records_with new_record new_label next_with
added bit generation w ops l = record {
  here = get_or-set_same (losing (mappings w) ops (records_of w)) (new_slot w) _ empty_record (omega (arith, losing-length (mappings w) ops (records_of w)));
  others = λ k d. ap (λ (r : Record). r.label) (get_or-set_other (losing (mappings w) ops (records_of w)) (new_slot w) k _ empty_record d) ∙ losing-label (mappings w) ops (records_of w) k;
  marks = λ k d.
      ap (λ (r : Record). r.synced) (get_or-set_other (losing (mappings w) ops (records_of w)) (new_slot w) k _ empty_record d ∙ (losing-record (mappings w) ops (records_of w) k).same);
  next = refl;
}

-- LAW: a written file: "base = next position, lsn = base with the batch bit", generation 0
pub written-record : (w : World) (ops : List Op) → new_slot w < length (records_of w) → Added w (w.state.next_position + 2 ^ 62) 0 ops (installed (2 ^ 62) 0 w ops)
written-record w ops l = added (2 ^ 62) 0 w ops l

-- LAW: a rewritten file: "lsn = base without the batch bit", of the group's generation
pub rewritten-record : (g : ℕ) (w : World) (ops : List Op) → new_slot w < length (records_of w) → Added w w.state.next_position g ops (installed 0 g w ops)
rewritten-record g w ops l = rw add-zero at (added 0 g w ops l)
