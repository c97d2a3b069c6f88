-- There are never so many lines that their number does not fit.
use Rattle.std.specs.Prelude.{◌≡◌, refl, Bool, true, false, not, ◌&&◌, ◌⊎◌, ◌≤◌, ◌<◌, ◌∷◌, ◌++◌, ◌+◌, ◌*◌, ◌^◌}
use Rattle.std.proofs.Common.{sym, ap, subst, inl, inr, zero-le, arith, suc-mul, mul-le-mul_right, ltb-false, length-append, length-take, length-drop}
use Rattle.rules.specs.Base.{List, [], ℕ, zero, suc, length, take, drop, ltb, any, each}
use Rattle.disk_location.specs.Locations.{delete_of}
use Rattle.rules.specs.Object.{Stored, stored_at, bad_checksum, objects_from, objects_in}
use Rattle.rules.proofs.ObjectLaws.{stored-room}
use Rattle.rules.specs.SlotFile.{File, View, empty, damaged, holds, object_part, trailer_part, view_in, views_in}
use Rattle.rules.specs.Reopen.{file_of, files_in, table_of}
use Rattle.trailer.specs.Entries.{entries-count}
use Rattle.reopen_tests.specs.Labels.{label_of}
use Rattle.reopen_tests.specs.Shown.{file_seen, FileAt}
use Rattle.faults.specs.Faults.{judged, line, line_if, passes, walked, entered, object_faults, entry_faults, file_faults, meets_earlier, slot_faults, faults_from, closing}
use Rattle.faults.specs.Judging.{Judges, judges}
use Rattle.checker.specs.Types.{Label, Entry, TableRoom, Overlap, Nowhere, Fault}
use Rattle.checker.specs.Answers.{list_of}
use Rattle.checker.specs.SlotLines.{slots_judged}

if-few : (t : Bool) (x : Fault) → length (line_if t x) ≤ 1
if-few true x = omega arith
if-few false x = omega arith

ifs-few : (s t : Bool) (x y : Fault) → length (line_if s x ++ line_if t y) ≤ 2
ifs-few true true x y = omega arith
ifs-few true false x y = omega arith
ifs-few false true x y = omega arith
ifs-few false false x y = omega arith

-- one line, or at most two of an object that lies within
object-few : (slot : ℕ) (es : List Entry) (o : Stored) → (length (object_faults slot es o) ≤ 1) ⊎ ((length (object_faults slot es o) ≤ 2) × (20 + o.size ≤ o.room))
unfolding object_faults
object-few slot es o = go (passes o) refl
  where
    go : (t : Bool) → passes o ≡ t → (length (object_faults slot es o) ≤ 1) ⊎ ((length (object_faults slot es o) ≤ 2) × (20 + o.size ≤ o.room))
    go true e = inl (rw e (omega arith))
    go false e = inr (rw e (ifs-few (bad_checksum o) (not (any (entered o) es)) _ _), ltb-false o.room (20 + o.size) e)

-- no more than the object bytes
objects-few : (slot : ℕ) (es : List Entry) (k position : ℕ) (bytes : List ℕ) → length (each (object_faults slot es) (objects_from k position bytes)) ≤ length bytes
unfolding objects_from each
objects-few slot es zero position bytes = zero-le
objects-few slot es (suc k) position [] = zero-le
objects-few slot es (suc k) position (b ∷ bs) =
    go (object-few slot es (stored_at position (b ∷ bs)))
    (objects-few slot es k (position + (20 + (stored_at position (b ∷ bs)).size)) (drop (20 + (stored_at position (b ∷ bs)).size) (b ∷ bs)))
  where
    o : Stored
    o = stored_at position (b ∷ bs)

    rest : List Fault
    rest = each (object_faults slot es) (objects_from k (position + (20 + o.size)) (drop (20 + o.size) (b ∷ bs)))

    go : (length (object_faults slot es o) ≤ 1) ⊎ ((length (object_faults slot es o) ≤ 2) × (20 + o.size ≤ o.room))
        → length rest ≤ length (drop (20 + o.size) (b ∷ bs))
        → length (object_faults slot es o ++ rest) ≤ suc (length bs)
    go (inl one) ih = omega (arith, one, ih, length-append (object_faults slot es o) rest, length-drop (20 + o.size) (b ∷ bs))
    go (inr (two, fit)) ih =
        omega (arith, two, fit, stored-room position (b ∷ bs), ih, length-append (object_faults slot es o) rest, length-drop (20 + o.size) (b ∷ bs))

entry-few : (slot : ℕ) (os : List Stored) (e : Entry) → length (entry_faults slot os e) ≤ 1
unfolding entry_faults
entry-few slot os e = if-few (not (delete_of e.location) && not (any (λ (o : Stored). entered o e) os)) _

-- nor than the entries
entries-few : (slot : ℕ) (os : List Stored) (es : List Entry) → length (each (entry_faults slot os) es) ≤ length es
unfolding each
entries-few slot os [] = zero-le
entries-few slot os (e ∷ es) =
    omega (arith, length-append (entry_faults slot os e) (each (entry_faults slot os) es), entry-few slot os e, entries-few slot os es)

file-few : (number : ℕ) (slot : List ℕ) (l : Label) → FileAt slot l → length (file_faults number (file_seen l slot)) ≤ 2 * length slot
unfolding file_faults objects_in
file-few number slot l w =
    let f = file_seen l slot in
    let objects = object_part l slot in
    let trailer = trailer_part l slot in
    let file = take l.file_size (drop 64 slot) in
    omega (
      arith,
      length-append (each (object_faults number f.entries) (objects_from (length objects) 0 objects)) (each (entry_faults number (walked f)) f.entries),
      objects-few number f.entries (length objects) 0 objects,
      entries-few number (walked f) f.entries,
      entries-count trailer w.fits,
      w.fits,
      length-take l.trailer_offset file,
      length-drop l.trailer_offset file,
      length-take l.file_size (drop 64 slot),
      length-drop 64 slot,
    )

slot-few : (number : ℕ) (earlier : List File) (slot : List ℕ) → length (slot_faults number earlier (judged (view_in slot))) ≤ 2 * length slot + 1
unfolding slot_faults
slot-few number earlier slot = go (label_of (judged (view_in slot))) (judges slot)
  where
    none : (v : View) → file_of v ≡ [] → length (slot_faults number earlier v) ≤ 2 * length slot + 1
    none empty e = zero-le
    none (damaged r) e = omega arith
    none (holds f) e = absurd (let z : ◌≡◌ {A = ℕ} 1 0 = ap length e in omega arith)

    go : (l : Label) → Judges slot l → length (slot_faults number earlier (judged (view_in slot))) ≤ 2 * length slot + 1
    go l (inl (e, n)) = none (judged (view_in slot)) e
    go l (inr w) =
        subst (λ (v : View). length (slot_faults number earlier v) ≤ 2 * length slot + 1) (sym w.sound)
        (omega (arith, length-append (file_faults number (file_seen l slot)) (line_if (meets_earlier earlier (file_seen l slot)) (line number Overlap Nowhere)), file-few number slot l w.file, if-few (meets_earlier earlier (file_seen l slot)) (line number Overlap Nowhere)))

slots-few : (n size : ℕ) (heap : List ℕ) (k : ℕ) (earlier : List File) → length (faults_from k earlier (slots_judged n size heap)) ≤ n * (2 * size + 1)
unfolding faults_from views_in
slots-few zero size heap k earlier = zero-le
slots-few (suc n) size heap k earlier =
    let slot = take size heap in
    let v = judged (view_in slot) in
    omega (
      arith,
      length-append (slot_faults k earlier v) (faults_from (suc k) (earlier ++ file_of v) (slots_judged n size (drop size heap))),
      slot-few k earlier slot,
      length-take size heap,
      slots-few n size (drop size heap) (suc k) (earlier ++ file_of v),
      suc-mul n (2 * size + 1),
    )

-- the number of all fits
pub list-fits : (n size room : ℕ) (heap : List ℕ) → n ≤ 256 → size ≤ 1048576 → length (list_of room (slots_judged n size heap)) + 2 < 2 ^ 64
unfolding closing
list-fits n size room heap most high =
    let views = slots_judged n size heap in
    omega (
      arith,
      length-append (faults_from 0 [] views) (closing room views),
      slots-few n size heap 0 [],
      mul-le-mul_right (2 * size + 1) most,
      if-few (ltb room (length (table_of (files_in views)))) (line (length views) TableRoom Nowhere),
    )
