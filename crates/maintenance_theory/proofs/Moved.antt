-- The ids that a group moves are those mapped into its files: as many as the files' live counts say.
use Rattle.std.specs.Prelude.{◌≡◌, ◌<◌, ◌≤◌, ◌&&◌, ◌||◌, ◌∷◌, ◌++◌, ◌+◌, ◌*◌, ◌%◌, None, Some}
use Rattle.std.proofs.Math.Path.{refl, sym, ap}
use Rattle.std.proofs.Common.{◌∙◌, subst, true≢false, inl, inr, arith}
use borrow.Author.Tests.{le-leb, lt-leb, leb-true, eq-eqb, eqb-false}
use Rattle.rules.specs.Base.{Bool, true, false, List, [], map, ℕ, length, leb, pick, any, keep, each, sum}
use Rattle.theory.specs.Types.{Entry, Record, Held}
use Rattle.disk_location.specs.Locations.{masked_of, position_of, delete_of, raw_of}
use Rattle.disk_location.proofs.LocationLaws.{masked_plain}
use Rattle.rules.specs.BaseLaws.{All}
use Rattle.rules.proofs.BaseLaws.{all_map, and-true, all_append}
use Rattle.rules.specs.Object.{Stored, objects_in}
use Rattle.rules.specs.Trailer.{absolute}
use Rattle.rules.specs.Ops.{put, delete, Op}
use Rattle.rules.specs.SettledLaws.{Last, silent, last, last_on}
use Rattle.rules.proofs.SettledLaws.{settled-rising, settled-last}
use Rattle.rules.specs.SlotFile.{object_part, trailer_entries, File, View, empty, damaged, holds}
use Rattle.rules.specs.Table.{lookup, load, current_at, unmapped, mapped_to}
use Rattle.rules.specs.TableLaws.{Rising, Has}
use Rattle.rules.proofs.TableLaws.{current-mapped, mapped-one, has-lookup, current-is}
use Rattle.rules.specs.FileMap.{empty_label, record_at}
use Rattle.rules.specs.Maintenance.{deletes_of, objects_found, deletes_found, slot_of, found_in, found}
use Rattle.rules.specs.Reopen.{in_range, mapped_into}
use Rattle.rules.specs.World.{World, records_of, mappings}
use Rattle.theory.proofs.Entries.{absolute-location}
use Rattle.theory.specs.Newest.{masked_at}
use Rattle.theory.specs.Places.{view_at, WellMade}
use Rattle.theory.proofs.Places.{masked-at, record-holds, record-empty, no-damage, in-own-range, in-no-other}
use Rattle.theory.specs.Picture.{views_of, picture_of, held_says, picture_says}
use Rattle.theory.specs.Sound.{StartsAt}
use Rattle.theory.proofs.Sound.{table-rising, table-stands, range-entry}
use Rattle.theory.specs.SoundWorld.{bounds_of, SoundWorld}
use Rattle.theory.proofs.SoundWorld.{shown}
use Rattle.history_theory.specs.Writing.{engine}
use Rattle.rules.proofs.FileMapLaws.{not-empty}
use Rattle.history_theory.proofs.Pruning.{file-slot}
use Rattle.history_theory.specs.Moving.{Movable, StandsIn}
use Rattle.history_theory.proofs.Moving.{objects-stand, objects-inside, found-movable}
use Rattle.history_theory.proofs.Rewriting.{last-all, heard-of}
use Rattle.maintenance_theory.specs.Tally.{known, heard_in, Ascending}
use Rattle.maintenance_theory.proofs.Tally.{heard-append, heard-cons, keep_same, count-heard, sum_same, count-slots}
use Rattle.theory.proofs.Lists.{all-kept}
use Rattle.maintenance_theory.specs.Moved.{InRangeOf}

-- a position of a file lies in its masked range
in-range-at : (f : File) → WellMade f → (p l : ℕ) → p ≤ f.label.trailer_offset → position_of l ≡ f.label.lsn + p → in_range f.label (masked_at l) ≡ true
in-range-at f m p l h e =
    let b = m.within in
    let q : masked_at l ≡ masked_of f.label.lsn + p = ap masked_of e ∙ masked-at f.label.lsn p m.low (omega arith) in
    let a : masked_of f.label.lsn ≤ masked_at l = omega arith in
    let c : masked_at l ≤ masked_of f.label.lsn + f.label.trailer_offset = omega arith in
    rw (le-leb (masked_of f.label.lsn) (masked_at l) a, le-leb (masked_at l) (masked_of f.label.lsn + f.label.trailer_offset) c)

-- an empty label has no range above 0
empty-range : (m : ℕ) → 0 < m → in_range empty_label m ≡ false
empty-range m h = rw (lt-leb m (masked_of 0 + 0) (let z = masked_plain 0 (omega arith) in omega arith)) (go (leb (masked_of 0) m))
  where
    go : (b : Bool) → (b && false) ≡ false
    go true = refl
    go false = refl

-- ---- what stands in a file at its id's location is found
-- an object, among those of the walk
object-found : (table : List Entry) (lsn : ℕ) (os : List Stored) (x p : ℕ) → StartsAt os x p → current_at (load table x) (raw_of (lsn + p) false) ≡ true
    → heard_in (map (λ (o : Stored). record { id = o.id; content = put o.body }) (keep (λ (o : Stored). current_at (load table o.id) (raw_of (lsn + o.position) false)) os)) x ≡ true
unfolding keep
object-found table lsn [] x p h m = absurd h
object-found table lsn (o ∷ os) x p (inl (i, e)) m =
    let y : current_at (load table o.id) (raw_of (lsn + o.position) false) ≡ true
    = ap (λ (n : ℕ). current_at (load table n) (raw_of (lsn + o.position) false)) i ∙ ap (λ (n : ℕ). current_at (load table x) (raw_of (lsn + n) false)) e ∙ m in
    rw y (heard-cons (record { id = o.id; content = put o.body }) _ x (inl i))
object-found table lsn (o ∷ os) x p (inr h) m = go (current_at (load table o.id) (raw_of (lsn + o.position) false)) (object-found table lsn os x p h m)
  where
    go : (b : Bool) → heard_in (map (λ (o : Stored). record { id = o.id; content = put o.body }) (keep (λ (o : Stored). current_at (load table o.id) (raw_of (lsn + o.position) false)) os)) x ≡ true
        → heard_in (map (λ (o : Stored). record { id = o.id; content = put o.body }) (pick b (o ∷ keep (λ (o : Stored). current_at (load table o.id) (raw_of (lsn + o.position) false)) os) (keep (λ (o : Stored). current_at (load table o.id) (raw_of (lsn + o.position) false)) os))) x ≡ true
    go true ih = heard-cons (record { id = o.id; content = put o.body }) _ x (inr ih)
    go false ih = ih

-- a delete entry
delete-found : (table : List Entry) (lsn : ℕ) (es : List Entry) (x r : ℕ) → Has es x r → delete_of r ≡ true → current_at (load table x) (r + 2 * lsn) ≡ true
    → heard_in (map (λ (e : Entry). record { id = e.id; content = delete }) (keep (λ (e : Entry). current_at (load table e.id) (absolute lsn e).location) (keep (λ (e : Entry). delete_of e.location) es))) x ≡ true
unfolding keep
delete-found table lsn [] x r h d m = absurd h
delete-found table lsn (e ∷ es) x r (inl (i, c)) d m =
    let y : delete_of e.location ≡ true = ap delete_of c ∙ d in
    let z : current_at (load table e.id) (absolute lsn e).location ≡ true
    = ap (λ (n : ℕ). current_at (load table n) (absolute lsn e).location) i ∙ ap (current_at (load table x)) (absolute-location lsn e ∙ ap (λ (n : ℕ). n + 2 * lsn) c) ∙ m in
    rw (y, z) (heard-cons (record { id = e.id; content = delete }) _ x (inl i))
delete-found table lsn (e ∷ es) x r (inr h) d m = go (delete_of e.location) (current_at (load table e.id) (absolute lsn e).location) refl (delete-found table lsn es x r h d m)
  where
    go : (a b : Bool) → current_at (load table e.id) (absolute lsn e).location ≡ b
        → heard_in (map (λ (e : Entry). record { id = e.id; content = delete }) (keep (λ (e : Entry). current_at (load table e.id) (absolute lsn e).location) (keep (λ (e : Entry). delete_of e.location) es))) x ≡ true
        → heard_in (map (λ (e : Entry). record { id = e.id; content = delete }) (keep (λ (e : Entry). current_at (load table e.id) (absolute lsn e).location) (pick a (e ∷ keep (λ (e : Entry). delete_of e.location) es) (keep (λ (e : Entry). delete_of e.location) es)))) x ≡ true
    go false b q ih = ih
    go true true q ih = rw q (heard-cons (record { id = e.id; content = delete }) _ x (inr ih))
    go true false q ih = rw q ih

deletes-all : (P : Entry → Type 0) (es : List Entry) → ((x l : ℕ) → Has es x l → P (record { id = x; location = l })) → All P (keep (λ (e : Entry). delete_of e.location) es)
unfolding keep
deletes-all P [] h = tt
deletes-all P (e ∷ es) h = go (delete_of e.location) (deletes-all P es (λ x l a. h x l (inr a)))
  where
    go : (b : Bool) → All P (keep (λ (e : Entry). delete_of e.location) es) → All P (pick b (e ∷ keep (λ (e : Entry). delete_of e.location) es) (keep (λ (e : Entry). delete_of e.location) es))
    go true ih = (h e.id e.location (inl (refl, refl)), ih)
    go false ih = ih

module _ (w : World) (history : List Op) (s : SoundWorld w (engine history)) where
  -- what a file's turn finds lies in its masked range
  pub found_inside : (k : ℕ) (f : File) → view_at (views_of w) k ≡ holds f
      → All (InRangeOf (mappings w) f.label) (objects_found (mappings w) f.label (slot_of w k) ++ deletes_found (mappings w) f.label (slot_of w k))
  unfolding objects_found deletes_found deletes_of
  found_inside k f h =
      let m = s.sound.filed.made k f h in
      let t = objects-inside w history s k f h in
      all_append (InRangeOf (mappings w) f.label) (objects_found (mappings w) f.label (slot_of w k)) (deletes_found (mappings w) f.label (slot_of w k))
      (all-kept (StandsIn f.objects) (InRangeOf (mappings w) f.label)
      (λ (o : Stored). current_at (load (mappings w) o.id) (raw_of (f.label.lsn + o.position) false)) (λ (o : Stored). record { id = o.id; content = put o.body })
      (objects_in (object_part f.label (slot_of w k)))
      (λ o a q l e.
      let z : l ≡ raw_of (f.label.lsn + o.position) false = mapped-one (sym e ∙ current-is (lookup (mappings w) o.id) (raw_of (f.label.lsn + o.position) false) q) in
      let i = a.1 in
      in-range-at f m o.position l (omega arith) (omega arith))
      (subst (λ (bs : List ℕ). All (StandsIn f.objects) (objects_in bs)) (sym (shown w k f h).1.objects) (objects-stand f.objects)))
      (all-kept (λ (e : Entry). position_of e.location ≤ f.label.trailer_offset) (InRangeOf (mappings w) f.label)
      (λ (e : Entry). current_at (load (mappings w) e.id) (absolute f.label.lsn e).location) (λ (e : Entry). record { id = e.id; content = delete })
      (keep (λ (e : Entry). delete_of e.location) (trailer_entries f.label (slot_of w k)))
      (λ e a q l b.
      let z : l ≡ (absolute f.label.lsn e).location = mapped-one (sym b ∙ current-is (lookup (mappings w) e.id) (absolute f.label.lsn e).location q) in
      let y = absolute-location f.label.lsn e in
      in-range-at f m (position_of e.location) l a (omega arith))
      (subst (λ (es : List Entry). All (λ (e : Entry). position_of e.location ≤ f.label.trailer_offset) (keep (λ (e : Entry). delete_of e.location) es)) (sym (shown w k f h).1.entries)
      (deletes-all (λ (e : Entry). position_of e.location ≤ f.label.trailer_offset) f.entries m.inside)))

  -- an id mapped into a file is found in it
  inside_found : (k : ℕ) (f : File) → view_at (views_of w) k ≡ holds f → (x l r : ℕ) → lookup (mappings w) x ≡ Some l → Has f.entries x r → l ≡ r + 2 * f.label.lsn
      → heard_in (objects_found (mappings w) f.label (slot_of w k) ++ deletes_found (mappings w) f.label (slot_of w k)) x ≡ true
  unfolding objects_found deletes_found deletes_of
  inside_found k f h x l r e a q =
      heard-append (objects_found (mappings w) f.label (slot_of w k)) (deletes_found (mappings w) f.label (slot_of w k)) x
      ∙ go (delete_of r) refl
    where
      mapped : (m : ℕ) → l ≡ m → current_at (load (mappings w) x) m ≡ true
      mapped m z = current-mapped (lookup (mappings w) x) m ∙ ap (λ (c : Held). mapped_to c m) e ∙ eq-eqb l m z

      or_right : (a b : Bool) → b ≡ true → (a || b) ≡ true
      or_right true b e = refl
      or_right false b e = e

      go : (d : Bool) → delete_of r ≡ d
          → (heard_in (deletes_found (mappings w) f.label (slot_of w k)) x || heard_in (objects_found (mappings w) f.label (slot_of w k)) x) ≡ true
      go false d =
          let z = eqb-false (r % 2) 1 d in
          or_right (heard_in (deletes_found (mappings w) f.label (slot_of w k)) x) (heard_in (objects_found (mappings w) f.label (slot_of w k)) x)
          (subst (λ (bs : List ℕ). heard_in (map (λ (o : Stored). record { id = o.id; content = put o.body }) (keep (λ (o : Stored). current_at (load (mappings w) o.id) (raw_of (f.label.lsn + o.position) false)) (objects_in bs))) x ≡ true) (sym (shown w k f h).1.objects)
          (object-found (mappings w) f.label.lsn (objects_in f.objects) x (position_of r) ((s.sound.whole k f h).stored x r a d) (mapped (raw_of (f.label.lsn + position_of r) false) (omega arith))))
      go true d =
          ap (λ (c : Bool). c || heard_in (objects_found (mappings w) f.label (slot_of w k)) x)
          (subst (λ (es : List Entry). heard_in (map (λ (e : Entry). record { id = e.id; content = delete }) (keep (λ (e : Entry). current_at (load (mappings w) e.id) (absolute f.label.lsn e).location) (keep (λ (e : Entry). delete_of e.location) es))) x ≡ true)
          (sym (shown w k f h).1.entries)
          (delete-found (mappings w) f.label.lsn f.entries x r a d (mapped (r + 2 * f.label.lsn) q)))

  -- LAW: an id is found in a file exactly where its location lies in the file's masked range
  heard-range : (k : ℕ) (f : File) → view_at (views_of w) k ≡ holds f → (x l : ℕ) → lookup (mappings w) x ≡ Some l → heard_in (found_in w k) x ≡ in_range (record_at (records_of w) k).label (masked_at l)
  heard-range k f h x l e =
      subst (λ (r : Record). heard_in (objects_found (mappings w) r.label (slot_of w k) ++ deletes_found (mappings w) r.label (slot_of w k)) x ≡ in_range r.label (masked_at l))
      (sym (record-holds (views_of w) (records_of w) s.sound.filed k f h)) (both (last_on here x) refl (in_range f.label (masked_at l)) refl)
    where
      here : List Op
      here = objects_found (mappings w) f.label (slot_of w k) ++ deletes_found (mappings w) f.label (slot_of w k)

      stands : in_range f.label (masked_at l) ≡ true → known (last_on here x) ≡ true
      stands i =
          let t = range-entry (bounds_of w) (picture_of w) (engine history) s.sound x l k f e h i in
          inside_found k f h x l t.0 e t.1 t.2

      both : (o : Last) → last_on here x ≡ o → (b : Bool) → in_range f.label (masked_at l) ≡ b → known (last_on here x) ≡ in_range f.label (masked_at l)
      both silent p true q = stands q ∙ sym q
      both silent p false q = ap known p ∙ sym q
      both (last c) p b q = ap known p ∙ sym (last-all (InRangeOf (mappings w) f.label) here (found_inside k f h) x c p l e)

  -- LAW: so in the files of some slots
  pub heard-each : (ks : List ℕ) → All (λ (k : ℕ). 0 < (record_at (records_of w) k).label.lsn) ks → (x l : ℕ) → lookup (mappings w) x ≡ Some l
      → heard_in (each (found_in w) ks) x ≡ any (λ (k : ℕ). in_range (record_at (records_of w) k).label (masked_at l)) ks
  unfolding each any last_on
  heard-each [] a x l e = refl
  heard-each (k ∷ ks) a x l e =
      let z = file-slot w (engine history) s k (not-empty (record_at (records_of w) k) a.0) in
      heard-append (found_in w k) (each (found_in w) ks) x
      ∙ ap (λ (b : Bool). b || heard_in (found_in w k) x) (heard-each ks a.1 x l e)
      ∙ ap (λ (b : Bool). any (λ (k : ℕ). in_range (record_at (records_of w) k).label (masked_at l)) ks || b) (heard-range k z.0 z.1 x l e)
      ∙ or_swap (any (λ (k : ℕ). in_range (record_at (records_of w) k).label (masked_at l)) ks) (in_range (record_at (records_of w) k).label (masked_at l))
    where
      or_swap : (a b : Bool) → (a || b) ≡ (b || a)
      or_swap true true = refl
      or_swap true false = refl
      or_swap false true = refl
      or_swap false false = refl

  -- a location lies in one file's range at most
  pub one-range : (x l : ℕ) → Has (mappings w) x l → (j : ℕ) × ((k : ℕ) → (k ≡ j → ⊥) → in_range (record_at (records_of w) k).label (masked_at l) ≡ false)
  one-range x l h =
      let z = table-stands (bounds_of w) (picture_of w) (engine history) s.sound x l (has-lookup 0 (mappings w) (table-rising (bounds_of w) (picture_of w) (engine history) s.sound) x l h) in
      let t = z.1 in
      let i = in-own-range (views_of w) (records_of w) s.sound.filed x l z.0 t in
      let p = (s.sound.filed.made z.0 t.file t.shows).placed in
      let b : masked_of t.file.label.lsn ≤ masked_at l = leb-true _ _ (and-true _ _ i).0 in
      (z.0, λ k n. go k (view_at (views_of w) k) refl (omega arith) (λ g e. in-no-other (views_of w) (records_of w) s.sound.filed x l z.0 k t g e n))
    where
      go : (k : ℕ) (v : View) → view_at (views_of w) k ≡ v → 0 < masked_at l → ((g : File) → view_at (views_of w) k ≡ holds g → in_range g.label (masked_at l) ≡ false)
          → in_range (record_at (records_of w) k).label (masked_at l) ≡ false
      go k empty e m f = ap (λ (r : Record). in_range r.label (masked_at l)) (record-empty (views_of w) (records_of w) s.sound.filed k e) ∙ empty-range (masked_at l) m
      go k (damaged r) e m f = absurd (no-damage (views_of w) (records_of w) s.sound.filed k r e)
      go k (holds g) e m f = ap (λ (r : Record). in_range r.label (masked_at l)) (record-holds (views_of w) (records_of w) s.sound.filed k g e) ∙ f g e

  -- an id that is found is mapped
  found-mapped : (ks : List ℕ) (x : ℕ) → heard_in (found w ks) x ≡ true → unmapped (lookup (mappings w) x) ≡ false
  unfolding picture_says
  found-mapped ks x h = go (last_on (found w ks) x) refl h (lookup (mappings w) x) refl
    where
      go : (o : Last) → last_on (found w ks) x ≡ o → known (last_on (found w ks) x) ≡ true → (m : Held) → lookup (mappings w) x ≡ m → unmapped m ≡ false
      go o p q (Some l) e = refl
      go silent p q None e = absurd (true≢false (sym q ∙ ap known p))
      go (last c) p q None e =
          absurd (heard-of c (sym (ap (λ (m : Held). held_says (picture_of w) m x) e) ∙ s.sound.says x
          ∙ (last-all (Movable (engine history)) (found w ks) (found-movable w history s ks) x c p).0))

  live-is : (k : ℕ) → 0 < (record_at (records_of w) k).label.lsn → mapped_into (mappings w) (record_at (records_of w) k).label ≡ (record_at (records_of w) k).live
  unfolding mapped_into
  live-is k h =
      let z = file-slot w (engine history) s k (not-empty (record_at (records_of w) k) h) in
      ap (λ (r : Record). mapped_into (mappings w) r.label) (record-holds (views_of w) (records_of w) s.sound.filed k z.0 z.1) ∙ sym (s.sound.counted k z.0 z.1)

  -- LAW: as many ids are moved as the live counts of the group's files say
  pub found-count : (i : ℕ) (ks : List ℕ) → Ascending i ks → All (λ (k : ℕ). 0 < (record_at (records_of w) k).label.lsn) ks
      → length (found w ks) ≡ sum (λ (k : ℕ). (record_at (records_of w) k).live) ks
  unfolding found mapped_into
  found-count i ks up files =
      count-heard 0 0 (mappings w) (found w ks) rises (settled-rising (each (found_in w) ks)) (found-mapped ks)
      ∙ keep_same (λ (e : Entry). heard_in (found w ks) e.id) (λ (e : Entry). any (λ (k : ℕ). in_range (record_at (records_of w) k).label (masked_at e.location)) ks) (mappings w)
      (λ x l h. ap known (settled-last (each (found_in w) ks) x) ∙ heard-each ks files x l (has-lookup 0 (mappings w) rises x l h))
      ∙ sym (count-slots i ks up (λ (k l : ℕ). in_range (record_at (records_of w) k).label (masked_at l)) (mappings w) one-range)
      ∙ sum_same (λ (k : ℕ). mapped_into (mappings w) (record_at (records_of w) k).label) (λ (k : ℕ). (record_at (records_of w) k).live) ks
      (all_map (λ (k : ℕ). 0 < (record_at (records_of w) k).label.lsn) (λ (k : ℕ). mapped_into (mappings w) (record_at (records_of w) k).label ≡ (record_at (records_of w) k).live) ks live-is files)
    where
      rises : Rising 0 (mappings w)
      rises = table-rising (bounds_of w) (picture_of w) (engine history) s.sound
