-- A read on a store of the invariant gives what the plain engine says.
use Rattle.std.specs.Prelude.{◌≡◌, refl, ◌≤◌, ◌+◌, ◌-◌, ◌*◌, Err, None, Ok, Some}
use Rattle.std.proofs.Common.{sym, ap, ◌∙◌, subst, arith, length-take, length-drop, take-take, drop-drop, length-take-le, ltb-false, le-ltb}
use Rattle.rules.specs.Base.{Bool, true, false, List, ℕ, length, take, drop, pick}
use Rattle.theory.specs.Types.{Record, Refusal, Answer, ReadAnswer, Found, Held, At, DeletedAt, Slot}
use Rattle.disk_location.specs.Locations.{position_of, delete_of}
use Rattle.rules.specs.Refusal.{decide, after, NoneHolds}
use Rattle.rules.proofs.RefusalLaws.{clear-when, decide-clear}
use Rattle.numbers.specs.LittleEndian.{le_value}
use Rattle.rules.specs.Object.{Stored, stored_at, bad_checksum}
use Rattle.rules.proofs.ObjectLaws.{stored-position, stored-room}
use Rattle.rules.specs.Ops.{put, delete, Op}
use Rattle.rules.specs.SettledLaws.{Last, silent, last, last_on}
use Rattle.rules.proofs.PartLaws.{drop-take}
use Rattle.rules.specs.SlotFile.{bytes_of_slot, file_in, File, View, empty, damaged, holds}
use Rattle.rules.specs.Table.{lookup, loaded_of}
use Rattle.rules.specs.FileMap.{record_at, file_for}
use Rattle.rules.specs.Read.{object_tests, object_in, read_object, read_file, read_loaded, read_of, part_of}
use Rattle.rules.specs.World.{World, records_of, mappings}
use Rattle.theory.specs.Places.{view_at}
use Rattle.theory.proofs.Places.{record-holds}
use Rattle.theory.specs.Picture.{views_of, picture_of, Said, unheard, gone, body, broken, object_says, place_says, view_says, slot_says, loaded_says, held_says, picture_says, last_says}
use Rattle.theory.specs.SoundWorld.{SoundWorld}
use Rattle.theory.proofs.SoundWorld.{sound-fine, shown}
use Rattle.history_theory.specs.Writing.{engine}
use Rattle.history_theory.specs.Reading.{Reads, Says, ReadBack, body_start}

-- ---- a part of a part
part-take : (a m n : ℕ) (bs : List ℕ) → a + m ≤ length (take n bs) → take m (drop a (take n bs)) ≡ take m (drop a bs)
part-take a m n bs h =
    let l = length-take n bs in
    let p : a ≤ n = omega arith in
    let q : a ≤ length bs = omega arith in
    ap (take m) (drop-take a n bs p q) ∙ take-take m (n - a) (drop a bs) (omega arith)

-- an object that stands whole in the front of some bytes stands in all of them
stored-front : (position n : ℕ) (bs : List ℕ) (o : Stored) → stored_at position (take n bs) ≡ o → 20 ≤ o.room → 20 + o.size ≤ o.room
    → stored_at position bs ≡ record { position = o.position; checksum = o.checksum; id = o.id; size = o.size; room = length bs; body = o.body }
unfolding stored_at
stored-front position n bs o e h t =
    let r : length (take n bs) ≡ o.room = ap (λ (c : Stored). c.room) e in
    let z : le_value (take 8 (drop 12 (take n bs))) ≡ o.size = ap (λ (c : Stored). c.size) e in
    let a : take 4 (drop 0 (take n bs)) ≡ take 4 (drop 0 bs) = part-take 0 4 n bs (omega arith) in
    let b : take 8 (drop 4 (take n bs)) ≡ take 8 (drop 4 bs) = part-take 4 8 n bs (omega arith) in
    let c : take 8 (drop 12 (take n bs)) ≡ take 8 (drop 12 bs) = part-take 12 8 n bs (omega arith) in
    let d : take (le_value (take 8 (drop 12 (take n bs)))) (drop 20 (take n bs)) ≡ take (le_value (take 8 (drop 12 (take n bs)))) (drop 20 bs)
    = part-take 20 (le_value (take 8 (drop 12 (take n bs)))) n bs (omega arith) in
    λ i. record {
      position = ap (λ (c : Stored). c.position) e i;
      checksum = (ap le_value (sym a) ∙ ap (λ (c : Stored). c.checksum) e) i;
      id = (ap le_value (sym b) ∙ ap (λ (c : Stored). c.id) e) i;
      size = (ap le_value (sym c) ∙ z) i;
      room = length bs;
      body = (ap (λ (m : List ℕ). take (le_value m) (drop 20 bs)) (sym c) ∙ sym d ∙ ap (λ (c : Stored). c.body) e) i;
    }

says : (x : ℕ) (o : Stored) (b : List ℕ) → object_says x o ≡ body b → Says x o b
says x o b h = go (decide (object_tests x o)) refl h
  where
    go : (a : Answer) → decide (object_tests x o) ≡ a → after a broken (body o.body) ≡ body b → Says x o b
    go (Ok _) e q = record { clear = clear-when (object_tests x o) e; is = cc }
    go (Err r) e q = absurd (let z : ◌≡◌ {A = ℕ} 0 1 = cc in omega arith)

rooms : (x : ℕ) (o : Stored) → NoneHolds (object_tests x o) → (20 ≤ o.room) × (20 + o.size ≤ o.room)
unfolding object_tests NoneHolds
rooms x o n = (ltb-false _ _ n.0, ltb-false _ _ n.1.0)

-- more room behind it refuses nothing
more_room : (x : ℕ) (o : Stored) (n : ℕ) → o.room ≤ n → NoneHolds (object_tests x o)
    → NoneHolds (object_tests x (record { position = o.position; checksum = o.checksum; id = o.id; size = o.size; room = n; body = o.body }))
unfolding object_tests NoneHolds bad_checksum
more_room x o n h c =
    let a : 20 ≤ o.room = ltb-false _ _ c.0 in
    let b : 20 + o.size ≤ o.room = ltb-false _ _ c.1.0 in
    (le-ltb n 20 (omega arith), (le-ltb n (20 + o.size) (omega arith), c.1.1))

-- no operation says that a read is refused
pub not-broken : (t : Last) {r : Refusal} → broken r ≡ last_says t → ⊥
not-broken silent e = let z : ◌≡◌ {A = ℕ} 0 1 = cc in omega arith
not-broken (last (put b)) e = let z : ◌≡◌ {A = ℕ} 0 1 = cc in omega arith
not-broken (last delete) e = let z : ◌≡◌ {A = ℕ} 0 1 = cc in omega arith

-- an object is neither unheard nor gone
object-loud : (x : ℕ) (o : Stored) → (object_says x o ≡ unheard → ⊥) × (object_says x o ≡ gone → ⊥)
object-loud x o = go (decide (object_tests x o))
  where
    go : (a : Answer) → (after a broken (body o.body) ≡ unheard → ⊥) × (after a broken (body o.body) ≡ gone → ⊥)
    go (Ok _) = (λ e. let z : ◌≡◌ {A = ℕ} 0 1 = cc in omega arith, λ e. let z : ◌≡◌ {A = ℕ} 0 1 = cc in omega arith)
    go (Err r) = (λ e. let z : ◌≡◌ {A = ℕ} 0 1 = cc in omega arith, λ e. let z : ◌≡◌ {A = ℕ} 0 1 = cc in omega arith)

-- its body is so many of its bytes
pub body_is : (position : ℕ) (bs : List ℕ) → (stored_at position bs).body ≡ take (stored_at position bs).size (drop 20 bs)
unfolding stored_at
body_is position bs = refl

-- what is said by the object bytes is read in the whole file
read_back : (position t x : ℕ) (objects bytes b : List ℕ) → objects ≡ take t bytes → object_says x (stored_at position (drop position objects)) ≡ body b → ReadBack position x bytes b
read_back position t x objects bytes b e h =
    let o = stored_at position (drop position objects) in
    let v = says x o b h in
    let r = rooms x o v.clear in
    let n : o.room ≡ length (drop position objects) = stored-room position (drop position objects) in
    let r0 = r.0 in
    let r1 = r.1 in
    let a = length-drop position objects in
    let c : length objects ≡ length (take t bytes) = ap length e in
    let m = length-take t bytes in
    let p1 : position ≤ t = omega arith in
    let p2 : position ≤ length bytes = omega arith in
    let front : drop position objects ≡ take (t - position) (drop position bytes) = ap (drop position) e ∙ drop-take position t bytes p1 p2 in
    let whole = stored-front position (t - position) (drop position bytes) o (ap (stored_at position) (sym front)) r0 r1 in
    let l = length-take (t - position) (drop position bytes) in
    let g : length (drop position objects) ≡ length (take (t - position) (drop position bytes)) = ap length front in
    let z : o.size ≡ length b
    = sym (length-take-le o.size (drop 20 (drop position objects)) (let k = length-drop 20 (drop position objects) in omega arith))
    ∙ ap length (sym (body_is position (drop position objects)) ∙ v.is) in
    let y : (stored_at position (drop position bytes)).size ≡ length b = ap (λ (c : Stored). c.size) whole ∙ z in
    record {
      clear = subst (λ (c : Stored). NoneHolds (object_tests x c)) (sym whole) (more_room x o (length (drop position bytes)) (omega arith) v.clear);
      size = y;
      part =
          ap (λ (k : ℕ). take k (drop 20 (drop position bytes))) (sym y) ∙ sym (body_is position (drop position bytes))
          ∙ ap (λ (c : Stored). c.body) whole ∙ v.is;
      room = omega arith;
    }

-- the part of the heap where the body of an object in slot k's file stands
part-of-heap : (heap : List ℕ) (size k file_size position m : ℕ)
    → 20 + m ≤ length (drop position (take file_size (drop 64 (bytes_of_slot size heap k))))
    → take m (drop 20 (drop position (take file_size (drop 64 (bytes_of_slot size heap k))))) ≡ take m (drop (k * size + 64 + position + 20) heap)
unfolding bytes_of_slot
part-of-heap heap size k file_size position m h =
    let z = take size (drop (k * size) heap) in
    let y = take file_size (drop 64 z) in
    let a = length-drop position y in
    let b = length-take file_size (drop 64 z) in
    let c = length-drop 64 z in
    let e : 64 + (position + 20) + m ≤ length z = omega arith in
    let n : k * size + (64 + (position + 20)) ≡ k * size + 64 + position + 20 = omega arith in
    ap (take m) (drop-drop 20 position y)
    ∙ part-take (position + 20) m file_size (drop 64 z) (omega arith)
    ∙ ap (take m) (drop-drop (position + 20) 64 z)
    ∙ part-take (64 + (position + 20)) m size (drop (k * size) heap) e
    ∙ ap (take m) (drop-drop (64 + (position + 20)) (k * size) heap ∙ ap (λ (i : ℕ). drop i heap) n)

module _ (w : World) (told : ℕ → Said) (s : SoundWorld w told) where
  -- LAW: a body that stands in a file's object bytes is found, as a part of the heap
  object-read : (k position x : ℕ) (f : File) (b : List ℕ) → view_at (views_of w) k ≡ holds f → place_says f position x ≡ body b
      → (read_object w x k (object_in w k position) ≡ Ok (Found (body_start w k position) (length b))) × (take (length b) (drop (body_start w k position) w.heap) ≡ b)
  object-read k position x f b h e =
      let z = shown w k f h in
      let slot = bytes_of_slot w.settings.slot_bytes w.heap k in
      let r = read_back position f.label.trailer_offset x f.objects (file_in f.label slot) b (sym z.1.objects) e in
      let q : (record_at (records_of w) k).label.file_size ≡ f.label.file_size = ap (λ (r : Record). r.label.file_size) (record-holds (views_of w) (records_of w) s.sound.filed k f h) in (
        ap (λ (n : ℕ). read_object w x k (stored_at position (drop position (take n (drop 64 slot))))) q
            ∙ ap (λ (a : Answer). after a Err (Ok (Found (found_at (file_in f.label slot)) (stored_at position (drop position (file_in f.label slot))).size))) (decide-clear _ r.clear)
            ∙ ap (λ (n : ℕ). Ok (Found (found_at (file_in f.label slot)) n)) r.size
            ∙ ap (λ (n : ℕ). Ok (Found (k * w.settings.slot_bytes + 64 + n + 20) (length b))) (stored-position position (drop position (file_in f.label slot))),
        sym (part-of-heap w.heap w.settings.slot_bytes k f.label.file_size position (length b) r.room) ∙ r.part,
      )
    where
      found_at : List ℕ → ℕ
      found_at bytes = k * w.settings.slot_bytes + 64 + (stored_at position (drop position bytes)).position + 20

  -- what the picture says of an id, a read gives
  view-read : (x l k : ℕ) (v : View) → view_at (views_of w) k ≡ v → (t : Last) → view_says v (position_of l - (record_at (records_of w) k).label.lsn) x ≡ last_says t → Reads w (read_file w x l (Some k)) t
  view-read x l k empty h t e = absurd (not-broken t e)
  view-read x l k (damaged r) h t e = absurd (not-broken t e)
  view-read x l k (holds f) h t e = go t e
    where
      go : (t : Last) → place_says f (position_of l - (record_at (records_of w) k).label.lsn) x ≡ last_says t → Reads w (read_file w x l (Some k)) t
      go silent e = absurd ((object-loud x (stored_at (position_of l - (record_at (records_of w) k).label.lsn) (drop (position_of l - (record_at (records_of w) k).label.lsn) f.objects))).0 e)
      go (last delete) e = absurd ((object-loud x (stored_at (position_of l - (record_at (records_of w) k).label.lsn) (drop (position_of l - (record_at (records_of w) k).label.lsn) f.objects))).1 e)
      go (last (put b)) e =
          let r = object-read k (position_of l - (record_at (records_of w) k).label.lsn) x f b h e in
          (body_start w k (position_of l - (record_at (records_of w) k).label.lsn), r.0, ap (λ (a : ReadAnswer). part_of a w.heap) r.0 ∙ r.1)

  slot_read : (x l : ℕ) (o : Slot) (t : Last) → slot_says (picture_of w) o l x ≡ last_says t → Reads w (read_file w x l o) t
  slot_read x l None t e = absurd (not-broken t e)
  slot_read x l (Some k) t e = view-read x l k (view_at (views_of w) k) refl t e

  held-read : (x : ℕ) (o : Held) (t : Last) → held_says (picture_of w) o x ≡ last_says t → Reads w (read_loaded w x (loaded_of o)) t
  held-read x None silent e = refl
  held-read x None (last (put b)) e = absurd (let z : ◌≡◌ {A = ℕ} 0 1 = cc in omega arith)
  held-read x None (last delete) e = absurd (let z : ◌≡◌ {A = ℕ} 0 1 = cc in omega arith)
  held-read x (Some l) t e = go (delete_of l) t e
    where
      go : (d : Bool) (t : Last) → loaded_says (picture_of w) (pick d (DeletedAt l) (At l)) x ≡ last_says t
          → Reads w (read_loaded w x (pick d (DeletedAt l) (At l))) t
      go true silent e = absurd (let z : ◌≡◌ {A = ℕ} 0 1 = cc in omega arith)
      go true (last delete) e = refl
      go true (last (put b)) e = absurd (let z : ◌≡◌ {A = ℕ} 0 1 = cc in omega arith)
      go false t e = slot_read x l (file_for (records_of w) l) t e

-- LAW: a read gives what is said
pub told-read : (w : World) (told : ℕ → Said) → SoundWorld w told → (x : ℕ) (t : Last) → told x ≡ last_says t → Reads w (read_of w x) t
unfolding read_of decide picture_says
told-read w told s x t e = rw (sound-fine w told s) (held-read w told s x (lookup (mappings w) x) t (s.sound.says x ∙ e))

-- LAW: so the body of the last accepted put; deleted after a delete; never written where there was neither
pub sound-read : (w : World) (history : List Op) → SoundWorld w (engine history) → (x : ℕ) → Reads w (read_of w x) (last_on history x)
sound-read w history s x = told-read w (engine history) s x (last_on history x) refl
