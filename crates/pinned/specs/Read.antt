-- "Reading now gives "never written" or "deleted"" (request P1). "Else the found bytes are a part of the lent heap itself. Checks in order: 18, 16 (header or body past file_size), 10, 17."
use Rattle.std.specs.Prelude.{◌≡◌, refl, ◌≤◌, ◌<◌, ◌∷◌, ◌++◌, ◌+◌, ◌-◌, ◌*◌, ◌^◌, Err, None, Ok, Some}
use Rattle.std.proofs.Common.{sym, ap₂, ◌∙◌, take-append-drop, take-take, drop-drop, length-take-le, take_at, ltb-false, le-ltb, eqb-true, eq-eqb}
use Rattle.std.proofs.Math.Path.{ap}
use native.Mathlib.Omega.{arith}
use Rattle.std.proofs.Math.ListN.{length-drop}
use Rattle.std.proofs.lemmas.Bool.{not-false}
use Rattle.numbers.specs.LittleEndian.{Bytes}
use Rattle.disk_location.specs.Locations.{position_of, delete_of}
use Rattle.rules.specs.Base.{Bool, true, false, not, List, [], ℕ, length, take, drop, ltb, eqb}
use Rattle.theory.specs.Types.{Refusal, Answer, ReadAnswer, Found, Deleted, NeverWritten, Held, Slot, Limits, NotThere, CutShort, Checksum, OtherId}
use Rattle.rules.specs.Refusal.{◌gives◌, decide, after, NoneHolds}
use Rattle.rules.proofs.RefusalLaws.{decide-none, decide-first, decide-next, decide-clear, clear-when}
use Rattle.rules.proofs.PartLaws.{drop-take}
use Rattle.rules.specs.Object.{object_bytes, Stored, stored_at, bad_checksum}
use Rattle.rules.proofs.ObjectLaws.{stored-position, stored-room, object-length}
use Rattle.rules.specs.SlotFile.{bytes_of_slot, file_in}
use Rattle.rules.proofs.SlotLaws.{slot-length}
use Rattle.rules.specs.Table.{lookup, loaded_of}
use Rattle.rules.specs.FileMap.{record_at, file_for}
use Rattle.rules.specs.FileMapLaws.{IsFile}
use Rattle.rules.proofs.FileMapLaws.{file-at, file-is, file-none, not-empty}
use Rattle.rules.proofs.SettingsLaws.{slot-within}
use Rattle.rules.specs.Condition1.{refused1}
use Rattle.rules.proofs.Condition1Laws.{passed}
use Rattle.rules.specs.Read.{object_tests, object_in, read_object, read_file, read_loaded, read_of, read_call}
use Rattle.rules.specs.World.{World, records_of, mappings, unchanged}
use Rattle.stored_object.specs.Begins.{Reads, Begins, part_bytes}
use Rattle.pinned.specs.Object.{object-exactly}

-- where an id is, if it is mapped
abbrev pub held_in : World → ℕ → Held
held_in w id = lookup (mappings w) id

-- no file at or below a location
abbrev pub NoFileBelow : World → ℕ → Type 0
NoFileBelow w l = (j : ℕ) → j < length (records_of w) → 0 < (record_at (records_of w) j).label.lsn → l < 2 * (record_at (records_of w) j).label.lsn

-- the position in its file
abbrev pub position_in : World → ℕ → ℕ → ℕ
position_in w l k = position_of l - (record_at (records_of w) k).label.lsn

-- where the file of slot k begins in the heap
abbrev pub file_start : World → ℕ → ℕ
file_start w k = k * w.settings.slot_bytes + 64

-- mapped, not deleted, and its file: header and body lie within file_size, and the heap has the object's bytes there
pub record Whole (w : World) (id start size : ℕ) : Type 0 where
  pub location : ℕ
  pub slot : ℕ
  pub mapped : held_in w id ≡ Some location
  pub object : delete_of location ≡ false
  pub file : IsFile (records_of w) location slot
  pub within : position_in w location slot + (20 + size) ≤ (record_at (records_of w) slot).label.file_size
  pub place : start ≡ file_start w slot + position_in w location slot + 20
  pub bytes : take (20 + size) (drop (file_start w slot + position_in w location slot) w.heap) ≡ object_bytes id (take size (drop start w.heap))

-- ---- by cases
-- what is no answer of this kind
never-found : {A : Type 0} {a b : ℕ} → ◌≡◌ {A = ReadAnswer} (Ok NeverWritten) (Ok (Found a b)) → A
never-found e = absurd (let z : ◌≡◌ {A = ℕ} 0 1 = cc in omega arith)

deleted-found : {A : Type 0} {a b : ℕ} → ◌≡◌ {A = ReadAnswer} (Ok Deleted) (Ok (Found a b)) → A
deleted-found e = absurd (let z : ◌≡◌ {A = ℕ} 0 1 = cc in omega arith)

never-deleted : {A : Type 0} → ◌≡◌ {A = ReadAnswer} (Ok NeverWritten) (Ok Deleted) → A
never-deleted e = absurd (let z : ◌≡◌ {A = ℕ} 0 1 = cc in omega arith)

refused-found : {A : Type 0} {a b : ℕ} {r : Refusal} → ◌≡◌ {A = ReadAnswer} (Err r) (Ok (Found a b)) → A
refused-found e = absurd (let z : ◌≡◌ {A = ℕ} 0 1 = cc in omega arith)

never-refused : {A : Type 0} {r : Refusal} → ◌≡◌ {A = ReadAnswer} (Ok NeverWritten) (Err r) → A
never-refused e = absurd (let z : ◌≡◌ {A = ℕ} 0 1 = cc in omega arith)

deleted-refused : {A : Type 0} {r : Refusal} → ◌≡◌ {A = ReadAnswer} (Ok Deleted) (Err r) → A
deleted-refused e = absurd (let z : ◌≡◌ {A = ℕ} 0 1 = cc in omega arith)

found-refused : {A : Type 0} {a b : ℕ} {r : Refusal} → ◌≡◌ {A = ReadAnswer} (Ok (Found a b)) (Err r) → A
found-refused e = absurd (let z : ◌≡◌ {A = ℕ} 0 1 = cc in omega arith)

-- not 1: by what is held
read_held : (w : World) (id : ℕ) (h : Held) → refused1 w ≡ false → held_in w id ≡ h → read_of w id ≡ read_loaded w id (loaded_of h)
unfolding read_of
read_held w id h f e = rw (decide-next (refused1 w) Limits [] f, decide-none, e)

-- LAW: 1, and nothing changes
pub read-limits : (w : World) (id : ℕ) → refused1 w ≡ true → read_call w id ≡ unchanged w Limits
unfolding read_call read_of
read-limits w id f = rw (decide-first (refused1 w) Limits [] f)

-- mapped and not deleted
read_mapped : (w : World) (id l : ℕ) → refused1 w ≡ false → held_in w id ≡ Some l → delete_of l ≡ false → read_of w id ≡ read_file w id l (file_for (records_of w) l)
read_mapped w id l f h d = read_held w id (Some l) f h ∙ rw d

-- never written, deleted, or where it is sought
pub data Sought (w : World) (id : ℕ) : Type 0 where
  unmapped : held_in w id ≡ None → Sought w id
  deleted : (l : ℕ) → held_in w id ≡ Some l → delete_of l ≡ true → Sought w id
  stands : (l : ℕ) → held_in w id ≡ Some l → delete_of l ≡ false → Sought w id

sought : (w : World) (id : ℕ) → Sought w id
sought w id = go (held_in w id) refl
  where
    go : (h : Held) → held_in w id ≡ h → Sought w id
    go None e = unmapped e
    go (Some l) e = by (delete_of l) refl
      where
        by : (d : Bool) → delete_of l ≡ d → Sought w id
        by true q = deleted l e q
        by false q = stands l e q

-- ---- never written, deleted
-- what has a file's answer is neither
object-loud : (w : World) (id k : ℕ) (o : Stored) → (read_object w id k o ≡ Ok NeverWritten → ⊥) × (read_object w id k o ≡ Ok Deleted → ⊥)
object-loud w id k o = go (decide (object_tests id o))
  where
    go : (a : Answer) → (after {A = ReadAnswer} a Err (Ok (Found (k * w.settings.slot_bytes + 64 + o.position + 20) o.size)) ≡ Ok NeverWritten → ⊥)
        × (after {A = ReadAnswer} a Err (Ok (Found (k * w.settings.slot_bytes + 64 + o.position + 20) o.size)) ≡ Ok Deleted → ⊥)
    go (Ok _) = (λ e. never-found (sym e), λ e. deleted-found (sym e))
    go (Err r) = (λ e. never-refused (sym e), λ e. deleted-refused (sym e))

file-loud : (w : World) (id l : ℕ) (s : Slot) → (read_file w id l s ≡ Ok NeverWritten → ⊥) × (read_file w id l s ≡ Ok Deleted → ⊥)
file-loud w id l None = (λ e. never-refused (sym e), λ e. deleted-refused (sym e))
file-loud w id l (Some k) = object-loud w id k (object_in w k (position_in w l k))

-- unmapped: never written, whatever the files are
read-never : (w : World) (id : ℕ) → refused1 w ≡ false → held_in w id ≡ None → read_of w id ≡ Ok NeverWritten
read-never w id f e = read_held w id None f e

-- mapped, with the delete mark: deleted, whatever the files are
read-deleted : (w : World) (id l : ℕ) → refused1 w ≡ false → held_in w id ≡ Some l → delete_of l ≡ true → read_of w id ≡ Ok Deleted
read-deleted w id l f e d = read_held w id (Some l) f e ∙ rw d

-- LAW: never written exactly if unmapped
pub never-exactly : (w : World) (id : ℕ) → refused1 w ≡ false → (read_of w id ≡ Ok NeverWritten → held_in w id ≡ None) × (held_in w id ≡ None → read_of w id ≡ Ok NeverWritten)
never-exactly w id f = (λ e. there (sought w id) e, read-never w id f)
  where
    there : Sought w id → read_of w id ≡ Ok NeverWritten → held_in w id ≡ None
    there (unmapped h) e = h
    there (deleted l h d) e = never-deleted (sym e ∙ read-deleted w id l f h d)
    there (stands l h d) e = absurd ((file-loud w id l (file_for (records_of w) l)).0 (sym (read_mapped w id l f h d) ∙ e))

-- LAW: deleted exactly if mapped to a location with the delete mark
pub deleted-exactly : (w : World) (id : ℕ) → refused1 w ≡ false
    → (read_of w id ≡ Ok Deleted → (l : ℕ) × (held_in w id ≡ Some l) × (delete_of l ≡ true)) × ((l : ℕ) × (held_in w id ≡ Some l) × (delete_of l ≡ true) → read_of w id ≡ Ok Deleted)
deleted-exactly w id f = (λ e. there (sought w id) e, λ (l, h, d). read-deleted w id l f h d)
  where
    there : Sought w id → read_of w id ≡ Ok Deleted → (l : ℕ) × (held_in w id ≡ Some l) × (delete_of l ≡ true)
    there (unmapped h) e = never-deleted (sym (read-never w id f h) ∙ e)
    there (deleted l h d) e = (l, h, d)
    there (stands l h d) e = absurd ((file-loud w id l (file_for (records_of w) l)).1 (sym (read_mapped w id l f h d) ∙ e))

-- ---- 18
no-file : (w : World) (l : ℕ) → NoFileBelow w l → file_for (records_of w) l ≡ None
no-file w l n = go (file_for (records_of w) l) refl
  where
    go : (s : Slot) → file_for (records_of w) l ≡ s → file_for (records_of w) l ≡ None
    go None e = e
    go (Some k) e = let at = file-at (records_of w) l k e in absurd (let q = n k at.place at.used in omega (arith, at.low))

-- 16, 10 and 17 are not 18
object-not-18 : (w : World) (id k : ℕ) (o : Stored) → read_object w id k o ≡ Err NotThere → ⊥
unfolding object_tests decide
object-not-18 w id k o e = go (ltb o.room 20) (ltb o.room (20 + o.size)) (bad_checksum o) (not (eqb o.id id)) e
  where
    go : (a b c d : Bool)
        → after {A = ReadAnswer} (decide (a gives CutShort ∷ b gives CutShort ∷ c gives Checksum ∷ d gives OtherId ∷ [])) Err (Ok (Found (k * w.settings.slot_bytes + 64 + o.position + 20) o.size)) ≡ Err NotThere
        → ⊥
    go true b c d q = let z : ◌≡◌ {A = ℕ} 0 1 = cc in omega arith
    go false true c d q = let z : ◌≡◌ {A = ℕ} 0 1 = cc in omega arith
    go false false true d q = let z : ◌≡◌ {A = ℕ} 0 1 = cc in omega arith
    go false false false true q = let z : ◌≡◌ {A = ℕ} 0 1 = cc in omega arith
    go false false false false q = found-refused q

-- LAW: 18 exactly if mapped, not deleted, and no file is at or below
pub not-there-exactly : (w : World) (id : ℕ) → refused1 w ≡ false
    → (read_of w id ≡ Err NotThere → (l : ℕ) × (held_in w id ≡ Some l) × (delete_of l ≡ false) × NoFileBelow w l)
    × ((l : ℕ) × (held_in w id ≡ Some l) × (delete_of l ≡ false) × NoFileBelow w l → read_of w id ≡ Err NotThere)
not-there-exactly w id f = (λ e. there (sought w id) e, λ (l, h, d, n). read_mapped w id l f h d ∙ ap (read_file w id l) (no-file w l n))
  where
    there : Sought w id → read_of w id ≡ Err NotThere → (l : ℕ) × (held_in w id ≡ Some l) × (delete_of l ≡ false) × NoFileBelow w l
    there (unmapped h) e = never-refused (sym (read-never w id f h) ∙ e)
    there (deleted l h d) e = deleted-refused (sym (read-deleted w id l f h d) ∙ e)
    there (stands l h d) e = (l, h, d, by (file_for (records_of w) l) refl (sym (read_mapped w id l f h d) ∙ e))
      where
        by : (s : Slot) → file_for (records_of w) l ≡ s → read_file w id l (file_for (records_of w) l) ≡ Err NotThere → NoFileBelow w l
        by None q r = file-none (records_of w) l q
        by (Some k) q r = absurd (object-not-18 w id k (object_in w k (position_in w l k)) (sym (ap (read_file w id l) q) ∙ r))

-- ---- found
-- a part that lies in a front
in-front : (a m n : ℕ) (bs : List ℕ) → a + m ≤ n → a + m ≤ length bs → take m (drop a (take n bs)) ≡ take m (drop a bs)
in-front a m n bs h l =
    let p : a ≤ n = omega arith in
    let q : a ≤ length bs = omega arith in
    ap (take m) (drop-take a n bs p q) ∙ take-take m (n - a) (drop a bs) (omega arith)

-- the bytes of slot k, its file's size and its file
abbrev slot_in : World → ℕ → List ℕ
slot_in w k = bytes_of_slot w.settings.slot_bytes w.heap k

abbrev size_in : World → ℕ → ℕ
size_in w k = (record_at (records_of w) k).label.file_size

abbrev bytes_in : World → ℕ → List ℕ
bytes_in w k = file_in (record_at (records_of w) k).label (slot_in w k)

-- the file of a slot that 1 lets pass: its length, and a part of it in the heap
module _ (w : World) (k : ℕ) (f : refused1 w ≡ false) (used : 0 < (record_at (records_of w) k).label.lsn) where
  -- the slot, with its length S, has room for it
  slot-holds : (64 + size_in w k ≤ w.settings.slot_bytes) × (size_in w k < 2 ^ 64) × (length (slot_in w k) ≡ w.settings.slot_bytes) × (k * w.settings.slot_bytes + w.settings.slot_bytes ≤ length w.heap)
  slot-holds =
      let p = passed w.settings (length w.heap) w.table w.state f in
      let g = p.records k (not-empty (record_at (records_of w) k) used) in
      let stands = slot-within w.settings (length w.heap) k p.limits.heap g.place in
      let s = slot-length w.settings.slot_bytes w.heap k stands in
      (omega (arith, g.bounds.size, p.limits.settings.slot-low), omega (arith, g.bounds.size, p.limits.settings.slot-high), s, stands)

  file-length : length (bytes_in w k) ≡ size_in w k
  file-length = let h = slot-holds in length-take-le (size_in w k) (drop 64 (slot_in w k)) (omega (arith, length-drop 64 (slot_in w k), h.0, h.2))

  in_heap : (a m : ℕ) → a + m ≤ size_in w k → take m (drop a (bytes_in w k)) ≡ take m (drop (file_start w k + a) w.heap)
  unfolding bytes_of_slot
  in_heap a m l =
      let h = slot-holds in
      let room = h.0 in
      let long = h.2 in
      let stands = h.3 in
      let far : k * w.settings.slot_bytes + (64 + a) ≡ file_start w k + a = omega arith in
      in-front a m (size_in w k) (drop 64 (slot_in w k)) l (omega (arith, length-drop 64 (slot_in w k)))
      ∙ ap (take m) (drop-drop a 64 (slot_in w k))
      ∙ in-front (64 + a) m w.settings.slot_bytes (drop (k * w.settings.slot_bytes) w.heap) (omega arith) (omega (arith, length-drop (k * w.settings.slot_bytes) w.heap))
      ∙ ap (take m) (drop-drop (64 + a) (k * w.settings.slot_bytes) w.heap ∙ ap (λ (x : ℕ). drop x w.heap) far)

  file-bytes : (p : ℕ) → Bytes w.heap → Bytes (drop p (bytes_in w k))
  unfolding bytes_of_slot
  file-bytes p h = part_bytes 64 (size_in w k) p (slot_in w k) (part_bytes (k * w.settings.slot_bytes) w.settings.slot_bytes 0 w.heap h)

-- none of 16, 10, 17 holds: the object is read
tests-read : (id p : ℕ) (bs : List ℕ) → NoneHolds (object_tests id (stored_at p bs)) → Reads p bs id (stored_at p bs).body
unfolding object_tests NoneHolds
tests-read id p bs n = record {
  room = let r = ltb-false (stored_at p bs).room (20 + (stored_at p bs).size) n.1.0 in omega (arith, stored-room p bs);
  checksum = n.1.1.0;
  its-id = eqb-true (stored_at p bs).id id (not-false (eqb (stored_at p bs).id id) n.1.1.1.0);
  its-body = refl;
}

-- and back
read-tests : (id p : ℕ) (bs body : List ℕ) → Reads p bs id body → NoneHolds (object_tests id (stored_at p bs))
unfolding object_tests NoneHolds
read-tests id p bs body r = (
  le-ltb (stored_at p bs).room 20 (omega (arith, stored-room p bs, r.room)),
  (
    le-ltb (stored_at p bs).room (20 + (stored_at p bs).size) (omega (arith, stored-room p bs, r.room)),
    (r.checksum, (ap not (eq-eqb (stored_at p bs).id id r.its-id), tt)),
  ),
)

-- a body that lies within has the length that is said
body-stands : (p : ℕ) (bs : List ℕ) → 20 + (stored_at p bs).size ≤ length bs
    → ((stored_at p bs).body ≡ take (stored_at p bs).size (drop 20 bs)) × (length (stored_at p bs).body ≡ (stored_at p bs).size)
unfolding stored_at
body-stands p bs l = (refl, length-take-le (stored_at p bs).size (drop 20 bs) (omega (arith, length-drop 20 bs)))

-- what was found is where the answer says
answer-found : (w : World) (id k : ℕ) (o : Stored) (start size : ℕ) → read_object w id k o ≡ Ok (Found start size)
    → NoneHolds (object_tests id o) × (start ≡ k * w.settings.slot_bytes + 64 + o.position + 20) × (size ≡ o.size)
answer-found w id k o start size e = go (decide (object_tests id o)) refl e
  where
    go : (a : Answer) → decide (object_tests id o) ≡ a → after {A = ReadAnswer} a Err (Ok (Found (k * w.settings.slot_bytes + 64 + o.position + 20) o.size)) ≡ Ok (Found start size)
        → NoneHolds (object_tests id o) × (start ≡ k * w.settings.slot_bytes + 64 + o.position + 20) × (size ≡ o.size)
    go (Err r) q p = refused-found p
    go (Ok _) q p = (clear-when (object_tests id o) q, cc, cc)

whole_of : (w : World) (id start size l k : ℕ) → refused1 w ≡ false → Bytes w.heap → held_in w id ≡ Some l → delete_of l ≡ false → IsFile (records_of w) l k
    → read_object w id k (object_in w k (position_in w l k)) ≡ Ok (Found start size) → Whole w id start size
whole_of w id start size l k f h m d at e =
    let p = position_in w l k in
    let bs : List ℕ = drop p (bytes_in w k) in
    let o = stored_at p bs in
    let a = answer-found w id k o start size e in
    let r = tests-read id p bs a.0 in
    let b = (object-exactly p bs id o.body (file-bytes w k f at.used p h)).0 r in
    let n = file-length w k f at.used in
    let ln = length-drop p (bytes_in w k) in
    let room = r.room in
    let sz : size ≡ o.size = a.2 in
    let within : p + (20 + size) ≤ (record_at (records_of w) k).label.file_size = omega arith in
    let place : start ≡ file_start w k + p + 20 = a.1 ∙ omega (arith, stored-position p bs) in
    let bl : length o.body ≡ size = (body-stands p bs room).1 ∙ sym sz in
    let whole : take (20 + size) bs ≡ object_bytes id o.body = ap (take (20 + size)) b.is ∙ take_at (object_bytes id o.body) b.rest (20 + size) (object-length id o.body ∙ omega arith) in
    let far : file_start w k + (p + 20) ≡ start = omega arith in
    let body : o.body ≡ take size (drop start w.heap) =
    (body-stands p bs room).0
    ∙ ap₂ (λ (x : ℕ) (y : List ℕ). take x y) (sym sz) (drop-drop 20 p (bytes_in w k))
    ∙ in_heap w k f at.used (p + 20) size (omega arith)
    ∙ ap (λ (x : ℕ). take size (drop x w.heap)) far in
    record {
      location = l;
      slot = k;
      mapped = m;
      object = d;
      file = at;
      within = within;
      place = place;
      bytes = sym (in_heap w k f at.used p (20 + size) within) ∙ whole ∙ ap (object_bytes id) body;
    }

found_of : (w : World) (id start size : ℕ) → refused1 w ≡ false → Bytes w.heap → id < 2 ^ 64 → (v : Whole w id start size)
    → read_object w id v.slot (object_in w v.slot (position_in w v.location v.slot)) ≡ Ok (Found start size)
found_of w id start size f h fits v =
    let k = v.slot in
    let p = position_in w v.location k in
    let used = v.file.used in
    let bs : List ℕ = drop p (bytes_in w k) in
    let o = stored_at p bs in
    let body = take size (drop start w.heap) in
    let n = file-length w k f used in
    let within = v.within in
    let front : take (20 + size) bs ≡ object_bytes id body = in_heap w k f used p (20 + size) within ∙ v.bytes in
    let count : length (take (20 + size) bs) ≡ 20 + size = length-take-le (20 + size) bs (omega (arith, length-drop p (bytes_in w k))) in
    let bl : length body ≡ size = omega (arith, ap length front, object-length id body) in
    let begins : Begins bs id body = record {
      rest = drop (20 + size) bs;
      is = sym (take-append-drop (20 + size) bs) ∙ ap (λ (x : List ℕ). x ++ drop (20 + size) bs) front;
      id-fits = fits;
      size_fits = omega (arith, (slot-holds w k f used).1);
    } in
    let r = (object-exactly p bs id body (file-bytes w k f used p h)).1 begins in
    let sz : o.size ≡ size = sym (body-stands p bs r.room).1 ∙ ap length r.its-body ∙ bl in
    let st : k * w.settings.slot_bytes + 64 + o.position + 20 ≡ start = omega (arith, v.place, stored-position p bs) in
    rw (decide-clear (object_tests id o) (read-tests id p bs body r), sz, st)

-- LAW: found exactly if header and body lie within file_size, checksum and id fit: then the heap has the bytes of an object of this id there, and what is
-- found is its body
pub found-exactly : (w : World) (id start size : ℕ) → refused1 w ≡ false → Bytes w.heap → id < 2 ^ 64
    → (read_of w id ≡ Ok (Found start size) → Whole w id start size) × (Whole w id start size → read_of w id ≡ Ok (Found start size))
found-exactly w id start size f h fits = (λ e. there (sought w id) e, λ v. read_mapped w id v.location f v.mapped v.object ∙ ap (read_file w id v.location) (file-is (records_of w) v.location v.slot v.file) ∙ found_of w id start size f h fits v)
  where
    there : Sought w id → read_of w id ≡ Ok (Found start size) → Whole w id start size
    there (unmapped m) e = never-found (sym (read-never w id f m) ∙ e)
    there (deleted l m d) e = deleted-found (sym (read-deleted w id l f m d) ∙ e)
    there (stands l m d) e = by (file_for (records_of w) l) refl (sym (read_mapped w id l f m d) ∙ e)
      where
        by : (s : Slot) → file_for (records_of w) l ≡ s → read_file w id l (file_for (records_of w) l) ≡ Ok (Found start size) → Whole w id start size
        by None q r = refused-found (sym (ap (read_file w id l) q) ∙ r)
        by (Some k) q r = whole_of w id start size l k f h m d (file-at (records_of w) l k q) (sym (ap (read_file w id l) q) ∙ r)
