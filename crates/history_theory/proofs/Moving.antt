-- What maintenance finds in a group is current: an object or a delete at its id's location is what the engine says of it.
use Rattle.std.specs.Prelude.{◌≡◌, refl, ◌<◌, ◌≤◌, ◌∷◌, ◌+◌, ◌-◌, ◌*◌, ◌%◌, ◌^◌, Err, Ok, Some}
use Rattle.std.proofs.Math.Path.{sym, ap}
use Rattle.std.proofs.Common.{◌∙◌, subst, arith, length-take, length-drop, drop-drop}
use Rattle.rules.specs.Base.{true, false, List, [], ℕ, zero, suc, length, drop, eqb, keep, each}
use Rattle.theory.specs.Types.{Entry, Label, Record, Answer, Held, Slot}
use Rattle.disk_location.specs.Locations.{position_of, delete_of, raw_of}
use Rattle.disk_location.proofs.LocationLaws.{delete-raw}
use Rattle.rules.specs.BaseLaws.{All}
use Rattle.rules.proofs.BaseLaws.{all_append}
use Rattle.rules.specs.Refusal.{decide, after}
use Rattle.rules.specs.Object.{Stored, stored_at, objects_from, objects_in}
use Rattle.rules.specs.Trailer.{absolute}
use Rattle.rules.specs.Ops.{put, delete, Op}
use Rattle.rules.specs.SettledLaws.{Last, last_on}
use Rattle.rules.proofs.SettledLaws.{settled-all}
use Rattle.rules.specs.SlotFile.{bytes_of_slot, file_in, object_part, trailer_entries, File, View, empty, damaged, holds}
use Rattle.rules.specs.Table.{lookup, load, current_at}
use Rattle.rules.proofs.TableLaws.{lookup-has, current-is}
use Rattle.rules.specs.FileMap.{empty_label, record_at, file_for}
use Rattle.rules.specs.Read.{object_tests}
use Rattle.rules.specs.Maintenance.{stored_objects, deletes_of, objects_found, deletes_found, slot_of, found_in, found}
use Rattle.rules.specs.World.{World, records_of, mappings}
use Rattle.theory.proofs.Entries.{absolute-location}
use Rattle.theory.specs.Places.{view_at}
use Rattle.theory.proofs.Places.{record-holds, record-empty, no-damage, own-place}
use Rattle.theory.specs.Picture.{views_of, picture_of, gone, body, broken, object_says, place_says, view_says, slot_says, held_says, picture_says, last_says}
use Rattle.theory.proofs.Says.{held-says}
use Rattle.theory.specs.SoundWorld.{SoundWorld}
use Rattle.theory.proofs.SoundWorld.{shown}
use Rattle.history_theory.specs.Writing.{engine}
use Rattle.history_theory.proofs.Reading.{not-broken}
use Rattle.theory.proofs.Lists.{all-kept, all_pass, all-each, every}
use Rattle.history_theory.specs.Moving.{Movable, StandsIn}

walked : (k position : ℕ) (bytes objects : List ℕ) → bytes ≡ drop position objects → All (StandsIn objects) (objects_from k position bytes)
unfolding objects_from stored_at
walked zero position bytes objects e = tt
walked (suc k) position [] objects e = tt
walked (suc k) position (b ∷ bs) objects e =
    let n : length (b ∷ bs) ≡ length objects - position = ap length e ∙ length-drop position objects in
    let size = (stored_at position (b ∷ bs)).size in (
      (ap (stored_at position) e, omega arith),
      walked k (position + (20 + size)) (drop (20 + size) (b ∷ bs)) objects (ap (drop (20 + size)) e ∙ drop-drop (20 + size) position objects),
    )

-- each object of the walk is what stands at its position
pub objects-stand : (objects : List ℕ) → All (StandsIn objects) (objects_in objects)
unfolding objects_in
objects-stand objects = walked (length objects) 0 objects objects refl

-- an object that is said at all says its own body
own_body : (x : ℕ) (o : Stored) (t : Last) → object_says x o ≡ last_says t → last_says t ≡ body o.body
own_body x o t e = go (decide (object_tests x o)) e
  where
    go : (a : Answer) → after a broken (body o.body) ≡ last_says t → last_says t ≡ body o.body
    go (Ok _) e = sym e
    go (Err r) e = absurd (not-broken t e)

-- a delete's mark stays with it
delete-absolute : (lsn : ℕ) (e : Entry) → delete_of (absolute lsn e).location ≡ delete_of e.location
delete-absolute lsn e =
    let a = absolute-location lsn e in
    let z : (absolute lsn e).location % 2 ≡ e.location % 2 = ap (λ (n : ℕ). n % 2) a ∙ omega arith in
    ap (λ (n : ℕ). eqb n 1) z

-- an empty label has no object
pub none_found : (P : Op → Type 0) (table : List Entry) (slot : List ℕ) → All P (objects_found table empty_label slot)
unfolding objects_found objects_in objects_from keep
none_found P table slot = tt

module _ (w : World) (history : List Op) (s : SoundWorld w (engine history)) where
  -- T bytes at most
  pub objects-inside : (k : ℕ) (f : File) → view_at (views_of w) k ≡ holds f → length f.objects ≤ f.label.trailer_offset
  objects-inside k f h =
      let a : length f.objects ≡ length (object_part f.label (bytes_of_slot w.settings.slot_bytes w.heap k)) = ap length (sym (shown w k f h).1.objects) in
      let b = length-take f.label.trailer_offset (file_in f.label (bytes_of_slot w.settings.slot_bytes w.heap k)) in
      omega arith

  -- LAW: an object at its id's current location
  current-object : (k : ℕ) (f : File) (o : Stored) → view_at (views_of w) k ≡ holds f → StandsIn f.objects o
      → lookup (mappings w) o.id ≡ Some (raw_of ((record_at (records_of w) k).label.lsn + o.position) false) → engine history o.id ≡ body o.body
  unfolding picture_says
  current-object k f o h t e =
      own_body o.id o (last_on history o.id) (
      ap (object_says o.id) t.0
      ∙ sym (ap (λ (n : ℕ). place_says f n o.id) place)
      ∙ sym (ap (λ (v : View). view_says v (position_of (raw_of ((record_at (records_of w) k).label.lsn + o.position) false) - (record_at (records_of w) k).label.lsn) o.id) h)
      ∙ sym (ap (λ (c : Slot). slot_says (picture_of w) c (raw_of ((record_at (records_of w) k).label.lsn + o.position) false) o.id) at)
      ∙ sym (held-says (picture_of w) (raw_of ((record_at (records_of w) k).label.lsn + o.position) false) o.id false (delete-raw ((record_at (records_of w) k).label.lsn + o.position) false))
      ∙ sym (ap (λ (c : Held). held_says (picture_of w) c o.id) e)
      ∙ s.sound.says o.id)
    where
      lsn : (record_at (records_of w) k).label.lsn ≡ f.label.lsn
      lsn = ap (λ (r : Record). r.label.lsn) (record-holds (views_of w) (records_of w) s.sound.filed k f h)

      inside : o.position ≤ f.label.trailer_offset
      inside = let a = objects-inside k f h in let c = t.1 in omega arith

      at : file_for (records_of w) (raw_of ((record_at (records_of w) k).label.lsn + o.position) false) ≡ Some k
      at =
          let l = lsn in
          let n : raw_of ((record_at (records_of w) k).label.lsn + o.position) false ≡ 2 * o.position + 2 * f.label.lsn = omega arith in
          let i = inside in
          let p : position_of (2 * o.position) ≤ f.label.trailer_offset = omega arith in
          ap (file_for (records_of w)) n ∙ own-place (views_of w) (records_of w) s.sound.filed k f (2 * o.position) h p

      place : position_of (raw_of ((record_at (records_of w) k).label.lsn + o.position) false) - (record_at (records_of w) k).label.lsn ≡ o.position
      place = omega arith

  -- LAW: a delete at its id's current location
  current-delete : (x l : ℕ) → delete_of l ≡ true → lookup (mappings w) x ≡ Some l → engine history x ≡ gone
  unfolding picture_says
  current-delete x l d e =
      sym (s.sound.says x) ∙ ap (λ (c : Held). held_says (picture_of w) c x) e
      ∙ held-says (picture_of w) l x true d

  narrow : (x l : ℕ) → lookup (mappings w) x ≡ Some l → x < 2 ^ 64
  narrow x l e = s.sound.narrow x l (lookup-has (mappings w) x l e)

  objects-movable : (k : ℕ) (f : File) → view_at (views_of w) k ≡ holds f → (r : Label) → r ≡ (record_at (records_of w) k).label
      → All (Movable (engine history)) (objects_found (mappings w) r (slot_of w k))
  unfolding objects_found
  objects-movable k f h r e =
      all-kept (StandsIn f.objects) (Movable (engine history))
      (λ (o : Stored). current_at (load (mappings w) o.id) (raw_of (r.lsn + o.position) false)) (λ (o : Stored). record { id = o.id; content = put o.body })
      (stored_objects r (slot_of w k))
      (λ o t q.
      let m = current-is (lookup (mappings w) o.id) (raw_of (r.lsn + o.position) false) q in
      (current-object k f o h t (m ∙ ap (λ (c : Label). Some (raw_of (c.lsn + o.position) false)) e), narrow o.id (raw_of (r.lsn + o.position) false) m))
      (subst (λ (bs : List ℕ). All (StandsIn f.objects) (objects_in bs)) same (objects-stand f.objects))
    where
      same : f.objects ≡ object_part r (slot_of w k)
      same =
          sym (shown w k f h).1.objects
          ∙ ap (λ (c : Label). object_part c (slot_of w k)) (sym (e ∙ ap (λ (c : Record). c.label) (record-holds (views_of w) (records_of w) s.sound.filed k f h)))

  deletes-movable : (r : Label) (slot : List ℕ) → All (Movable (engine history)) (deletes_found (mappings w) r slot)
  unfolding deletes_found deletes_of
  deletes-movable r slot =
      all-kept (λ (e : Entry). delete_of e.location ≡ true) (Movable (engine history))
      (λ (e : Entry). current_at (load (mappings w) e.id) (absolute r.lsn e).location) (λ (e : Entry). record { id = e.id; content = delete })
      (keep (λ (e : Entry). delete_of e.location) (trailer_entries r slot))
      (λ e d q.
      let m = current-is (lookup (mappings w) e.id) (absolute r.lsn e).location q in
      (current-delete e.id (absolute r.lsn e).location (delete-absolute r.lsn e ∙ d) m, narrow e.id (absolute r.lsn e).location m))
      (all_pass (λ (e : Entry). delete_of e.location) (trailer_entries r slot))

  found_in_lem : (k : ℕ) → All (Movable (engine history)) (found_in w k)
  found_in_lem k =
      all_append (Movable (engine history)) (objects_found (mappings w) (record_at (records_of w) k).label (slot_of w k)) (deletes_found (mappings w) (record_at (records_of w) k).label (slot_of w k))
      (go (view_at (views_of w) k) refl) (deletes-movable (record_at (records_of w) k).label (slot_of w k))
    where
      go : (v : View) → view_at (views_of w) k ≡ v → All (Movable (engine history)) (objects_found (mappings w) (record_at (records_of w) k).label (slot_of w k))
      go empty e =
          subst (λ (r : Record). All (Movable (engine history)) (objects_found (mappings w) r.label (slot_of w k)))
          (sym (record-empty (views_of w) (records_of w) s.sound.filed k e)) (none_found (Movable (engine history)) (mappings w) (slot_of w k))
      go (damaged r) e = absurd (no-damage (views_of w) (records_of w) s.sound.filed k r e)
      go (holds f) e = objects-movable k f e (record_at (records_of w) k).label refl

  -- LAW: what a group moves is current
  pub found-movable : (slots : List ℕ) → All (Movable (engine history)) (found w slots)
  unfolding found
  found-movable slots = settled-all (Movable (engine history)) (each (found_in w) slots) (all-each (Movable (engine history)) (found_in w) slots (every (λ (k : ℕ). All (Movable (engine history)) (found_in w k)) slots found_in_lem))
