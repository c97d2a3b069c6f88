-- One turn of each loop over marks, objects and entries.
use mathlib.Core.Path.{◌≡◌, sym, ap, ◌∙◌}
use Prim.Native.Nat.{◌≤◌, ◌<◌}
use native.Mathlib.Omega.{arith}
use Rattle.std.specs.Prelude.{◌+◌}
use Rattle.rules.specs.Base.{false, List, ℕ, length, get_or, drop, each}
use Rattle.rules.proofs.TurnLaws.{each_next, each-end}
use Rattle.rules.specs.declared.Entry.{Entry}
use Rattle.disk_location.specs.Locations.{raw_of}
use Rattle.rules.specs.Object.{Stored, stored_at}
use Rattle.rules.specs.Table.{no_entry}
use Rattle.stored_object.specs.declared.Header.{Header}
use Rattle.stored_object.specs.Objects.{objects_at, objects-next, objects-end, Walked}
use Rattle.gc_group.specs.Marks.{current, object_id, delete_id, marked}
use Rattle.gc_group.proofs.MarkLaws.{mark-append, mark-none}

-- ---- the objects from a position on
module _ (mark lsn : ℕ) (table : List Entry) (objects : List ℕ) (position : ℕ) (ms : List ℕ) where
  abbrev left : ℕ → List ℕ → List ℕ
  left at marks = marked mark (each (object_id lsn table) (objects_at objects at)) table marks

  pub objects-done : length objects ≤ position → left position ms ≡ ms
  unfolding each
  objects-done h = ap (λ (os : List Stored). marked mark (each (object_id lsn table) os) table ms) (objects-end objects position h) ∙ mark-none mark table ms

  pub objects-mark : (h : Header) → Walked objects position h
      → left position ms ≡ left (position + (20 + h.size)) (marked mark (current table h.id (raw_of (lsn + position) false)) table ms)
  unfolding each object_id stored_at
  objects-mark h w =
      let o = stored_at position (drop position objects) in
      let inside = w.inside in
      let begins : position < length objects = omega arith in
      let size = ap (λ (x : Header). x.size) w.header in
      let id = ap (λ (x : Header). x.id) w.header in
      ap (λ (os : List Stored). marked mark (each (object_id lsn table) os) table ms) (objects-next objects position begins)
      ∙ mark-append mark (object_id lsn table o) (each (object_id lsn table) (objects_at objects (position + (20 + o.size)))) table ms
      ∙ ap (λ (n : ℕ). left (position + (20 + n)) (marked mark (object_id lsn table o) table ms)) (sym size)
      ∙ ap (λ (n : ℕ). left (position + (20 + h.size)) (marked mark (current table n (raw_of (lsn + position) false)) table ms)) (sym id)

-- ---- the entries from k on
module _ (mark lsn : ℕ) (table : List Entry) (es : List Entry) (k : ℕ) (ms : List ℕ) where
  pub entries-mark : k < length es
      → marked mark (each (delete_id lsn table) (drop k es)) table ms
      ≡ marked mark (each (delete_id lsn table) (drop (k + 1) es)) table (marked mark (delete_id lsn table (get_or es k no_entry)) table ms)
  entries-mark h =
      ap (λ (ids : List ℕ). marked mark ids table ms) (each_next es k no_entry h (delete_id lsn table))
      ∙ mark-append mark (delete_id lsn table (get_or es k no_entry)) (each (delete_id lsn table) (drop (k + 1) es)) table ms

  pub entries-done : length es ≤ k → marked mark (each (delete_id lsn table) (drop k es)) table ms ≡ ms
  entries-done h = ap (λ (ids : List ℕ). marked mark ids table ms) (each-end es k h (delete_id lsn table)) ∙ mark-none mark table ms
