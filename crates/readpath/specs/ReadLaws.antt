-- Parts that a read names lie in the heap; what its contract admits is one.
use Rattle.std.specs.Prelude.{◌≡◌, refl, ◌≤◌, ◌+◌, ◌-◌, ◌*◌, Err, None, Ok, Some}
use Rattle.std.proofs.Common.{sym, ap, ◌∙◌, arith, add_assoc, ltb-false, length-drop, length-take, take-take, drop-drop, length-take-le}
use Rattle.rules.specs.Base.{Bool, true, false, List, ℕ, length, take, drop}
use Rattle.rules.specs.declared.Settings.{Settings}
use Rattle.rules.specs.declared.Label.{Label}
use Rattle.rules.specs.declared.State.{State}
use Rattle.rules.specs.declared.Claims.{Claims}
use Rattle.rules.specs.declared.Refusal.TheVariants.{Limits}
use Rattle.rules.specs.Types.{Answer, Slot, ReadAnswer}
use Rattle.rules.specs.declared.Loaded.{Loaded}
use Rattle.rules.specs.declared.Loaded.TheVariants.{At, DeletedAt, Never}
use Rattle.rules.specs.declared.Lookup.TheVariants.{Found}
use Rattle.disk_location.specs.Locations.{position_of}
use Rattle.rules.specs.Refusal.{decide, after, NoneHolds}
use Rattle.rules.proofs.RefusalLaws.{clear-when}
use Rattle.rules.specs.Claims.{no_claims}
use Rattle.rules.specs.Object.{Stored, stored_at}
use Rattle.rules.specs.SlotFile.{bytes_of_slot, file_in}
use Rattle.rules.proofs.PartLaws.{drop-take}
use Rattle.rules.specs.FileMap.{record_at, file_for}
use Rattle.rules.specs.Table.{load}
use Rattle.rules.specs.Layout.{Table}
use Rattle.rules.proofs.SettingsLaws.{slot-within}
use Rattle.rules.specs.Condition1.{refused1}
use Rattle.rules.specs.Condition1Laws.{Passed}
use Rattle.rules.specs.World.{World, world, records_of, mappings}
use Rattle.rules.specs.Read.{object_tests, object_in, read_object, read_file, read_loaded, read_of, part_of}
use Rattle.stored_object.specs.Answers.{BodyAnswer}
use Rattle.stored_object.specs.Objects.{body_of}
use Rattle.readpath.specs.Reads.{Lies, FilesLie, in_heap, Within, place_of}

-- once 1 is decided
pub passed-lie : (s : Settings) (n : ℕ) (b : Table) (t : State) → Passed s n b t → FilesLie s.slot_bytes t.files.records n
passed-lie s n b t w k e =
    let g = w.records k e in
    record {
      place = omega (arith, g.place, w.limits.heap.most);
      file = omega (arith, g.bounds.size, w.limits.settings.slot-low);
      slot = slot-within s n k w.limits.heap g.place;
    }

-- a slot's file as a part of the heap
pub file-part : (size : ℕ) (r : Label) (k : ℕ) (heap : List ℕ) → Lies size r k (length heap)
    → take r.file_size (drop (k * size + 64) heap) ≡ file_in r (bytes_of_slot size heap k)
unfolding bytes_of_slot
file-part size r k heap w =
    let n = r.file_size in
    let slot = drop (k * size) heap in
    let fit = w.file in
    let low = w.slot in
    ap (take n) (sym (drop-drop 64 (k * size) heap))
    ∙ sym (take-take n (size - 64) (drop 64 slot) (omega arith))
    ∙ ap (take n) (sym (drop-take 64 size slot (omega arith) (omega (arith, length-drop (k * size) heap))))

-- it has file_size bytes
pub file-length : (size : ℕ) (r : Label) (k : ℕ) (heap : List ℕ) → Lies size r k (length heap) → length (file_in r (bytes_of_slot size heap k)) ≡ r.file_size
file-length size r k heap w =
    let fit = w.file in
    let low = w.slot in
    ap length (sym (file-part size r k heap w)) ∙ length-take-le r.file_size (drop (k * size + 64) heap) (omega (arith, length-drop (k * size + 64) heap))

-- an object of a file, as a body of the heap
pub read-object : (w : World) (id k : ℕ) (o : Stored) → read_object w id k o ≡ in_heap (k * w.settings.slot_bytes + 64) (body_of id o)
read-object w id k o = go (decide (object_tests id o))
  where
    start : ℕ
    start = k * w.settings.slot_bytes + 64

    go : (a : Answer) → after a Err (Ok (Found (start + o.position + 20) o.size)) ≡ in_heap start (after a Err (Ok (o.position + 20, o.size)))
    go (Ok _) = ap (λ (n : ℕ). Ok (Found n o.size)) (add_assoc start o.position 20)
    go (Err r) = refl

-- a body lies in its file, behind a header
pub record BodyIn (file : List ℕ) (at size : ℕ) : Type 0 where
  pub header : 20 ≤ at
  pub body : at + size ≤ length file

pub body-in : (id position : ℕ) (file : List ℕ) (at size : ℕ) → body_of id (stored_at position (drop position file)) ≡ Ok (at, size) → BodyIn file at size
unfolding object_tests NoneHolds stored_at
body-in id position file at size = go (decide (object_tests id (stored_at position (drop position file)))) refl
  where
    o : Stored
    o = stored_at position (drop position file)

    go : (a : Answer) → decide (object_tests id o) ≡ a → after {A = BodyAnswer} a Err (Ok (o.position + 20, o.size)) ≡ Ok (at, size) → BodyIn file at size
    go (Err r) e q = absurd (let z : ◌≡◌ {A = ℕ} 0 1 = cc in omega arith)
    go (Ok _) e q =
        let n = clear-when (object_tests id o) e in
        let b = ltb-false (length (drop position file)) (20 + o.size) n.1.0 in
        let same : ◌≡◌ {A = ℕ × ℕ} (o.position + 20, o.size) (at, size) = cc in
        let p : position + 20 ≡ at = ap (λ (b : ℕ × ℕ). b.0) same in
        let l : o.size ≡ size = ap (λ (b : ℕ × ℕ). b.1) same in
        record { header = omega arith; body = omega (arith, length-drop position file) }

-- a slot's file ends within the heap
file-within : (size : ℕ) (r : Label) (k : ℕ) (heap : List ℕ) → length (file_in r (bytes_of_slot size heap k)) ≤ length heap - (k * size + 64)
unfolding bytes_of_slot
file-within size r k heap =
    let rest = drop (k * size) heap in
    let slot = take size rest in
    omega (arith, length-take r.file_size (drop 64 slot), length-drop 64 slot, length-take size rest, length-drop (k * size) heap)

-- ---- the steps of a read
module _ (w : World) (id : ℕ) where
  -- 1
  pub read-refused : refused1 w ≡ true → read_of w id ≡ Err Limits
  unfolding read_of decide
  read-refused e = rw e

  -- not 1: what load tells
  pub read-loaded : refused1 w ≡ false → read_of w id ≡ read_loaded w id (load (mappings w) id)
  unfolding read_of decide
  read-loaded e = rw e

  -- ---- a part that a read names lies in the heap
  object-named : (k position : ℕ) (b : BodyAnswer) → body_of id (object_in w k position) ≡ b → Within (in_heap (k * w.settings.slot_bytes + 64) b) (length w.heap)
  object-named k position (Err r) e = tt
  object-named k position (Ok (at, size)) e =
      let r = (record_at (records_of w) k).label in
      let v = body-in id position (file_in r (bytes_of_slot w.settings.slot_bytes w.heap k)) at size e in
      let head = v.header in
      let body = v.body in
      omega (arith, file-within w.settings.slot_bytes r k w.heap)

  file-named : (l : ℕ) (k : Slot) → Within (read_file w id l k) (length w.heap)
  file-named l None = tt
  file-named l (Some k) =
      let position = position_of l - (record_at (records_of w) k).label.lsn in
      rw (read-object w id k (object_in w k position)) (object-named k position (body_of id (object_in w k position)) refl)

  loaded-named : (l : Loaded) → Within (read_loaded w id l) (length w.heap)
  loaded-named Never = tt
  loaded-named (DeletedAt l) = tt
  loaded-named (At l) = file-named l (file_for (records_of w) l)

  -- "the found bytes are a part of the lent heap itself"
  pub read_named : Within (read_of w id) (length w.heap)
  read_named = go (refused1 w) refl
    where
      go : (t : Bool) → refused1 w ≡ t → Within (read_of w id) (length w.heap)
      go true e = rw (read-refused e) tt
      go false e = rw (read-loaded e) (loaded-named (load (mappings w) id))

-- ---- any two answers that a read's contract admits are equal, and any two parts: their bytes, and where they begin in memory
module _ (s : Settings) (t : State) (heap table : List ℕ) (id : ℕ) where
  abbrev pub Answers : ReadAnswer → Type 0
  Answers r = (c : Claims) → r ≡ read_of (world s t c heap table) id

  -- of a heap that begins there
  abbrev pub Parts : ℕ × ℕ → List ℕ → ℕ × ℕ → Type 0
  Parts begins p place =
      ((c : Claims) → p ≡ part_of (read_of (world s t c heap table) id) heap) × ((c : Claims) → place ≡ place_of (read_of (world s t c heap table) id) begins)

  pub read_one : (a b : ReadAnswer) → Answers a → Answers b → a ≡ b
  read_one a b p q = p no_claims ∙ sym (q no_claims)

  pub part-one : (begins : ℕ × ℕ) (a b : List ℕ) (x y : ℕ × ℕ) → Parts begins a x → Parts begins b y → (a ≡ b) × (x ≡ y)
  part-one begins a b x y p q = (p.0 no_claims ∙ sym (q.0 no_claims), p.1 no_claims ∙ sym (q.1 no_claims))
