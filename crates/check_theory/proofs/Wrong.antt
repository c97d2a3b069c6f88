-- Request P5, "The list is empty exactly if none of this holds": said in the paper's words.
use Rattle.std.specs.Prelude.{◌≡◌, ◌⊎◌, ◌<◌, ◌≤◌, ◌+◌, ◌-◌}
use Rattle.std.proofs.Common.{sym, ap, ◌∙◌, subst, inl, inr, arith, length-take, length-drop, ltb-false, le-ltb}
use Rattle.rules.specs.Base.{false, List, [], ℕ, length, drop}
use Rattle.rules.specs.BaseLaws.{All}
use Rattle.rules.proofs.BaseLaws.{all_map, all_both, order}
use Rattle.disk_location.specs.Locations.{raw_of}
use Rattle.checksum.specs.Checksum.{object_sum}
use Rattle.rules.specs.Settings.{slots_in}
use Rattle.rules.specs.Object.{Stored, stored_at, objects_in}
use Rattle.rules.specs.SlotFile.{File, holds, bytes_of_slot, file_in}
use Rattle.rules.proofs.SlotLaws.{views-length, views-at}
use Rattle.rules.proofs.SeenLaws.{seen}
use Rattle.rules.specs.TableLaws.{Has}
use Rattle.rules.specs.Layout.{Table, capacity_of}
use Rattle.rules.specs.Reopen.{files_in, not_rising, table_of}
use Rattle.theory.specs.Types.{Settings}
use Rattle.theory.specs.Places.{view_at, Apart}
use Rattle.theory.proofs.Places.{holds-lt}
use Rattle.theory.proofs.Files.{any-file, no-file, undamaged, no-damage-tests, overlap-apart, no-overlap}
use Rattle.history_theory.specs.Moving.{StandsIn}
use Rattle.history_theory.proofs.Moving.{objects-stand}
use Rattle.faults.specs.Faults.{faults_of}
use Rattle.check_theory.proofs.Lists.{none-there}
use Rattle.check_theory.specs.Passing.{slot_views, Whole}
use Rattle.check_theory.proofs.Passing.{none-behind, list-whole, whole-list}
use Rattle.check_theory.specs.Objects.{NoLine, Faultless, FaultlessFile}
use Rattle.check_theory.proofs.Objects.{file-faultless, faultless-file, clear-rise, rise-clear}
use Rattle.check_theory.proofs.Ids.{ids-fit, fit-ids}
use Rattle.check_theory.specs.Wrong.{NothingWrong}

-- ---- T
-- the object bytes of a file that a slot shows are T bytes
pub total-is : (s : Settings) (heap : List ℕ) (k : ℕ) (f : File) → view_at (slot_views s heap) k ≡ holds f → length f.objects ≡ f.label.trailer_offset
total-is s heap k f h =
    let n = slots_in s (length heap) in
    let low = holds-lt (slot_views s heap) k f h in
    let most = views-length n s.slot_bytes heap in
    let slot = bytes_of_slot s.slot_bytes heap k in
    let w = seen slot f (sym (views-at n s.slot_bytes heap k (omega arith)) ∙ h) in
    let offset = w.bounds.offset in
    let size = w.bounds.size in
    let rest = length-drop 64 slot in
    let file = length-take f.label.file_size (drop 64 slot) in
    let part = length-take f.label.trailer_offset (file_in f.label slot) in
    let same = ap length w.objects in
    omega arith

-- what is left of them at a walked object's position
pub room-left : (objects : List ℕ) (o : Stored) → StandsIn objects o → (o.room ≡ length objects - o.position) × (o.position ≤ length objects)
unfolding stored_at
room-left objects o t = (ap (λ (c : Stored). c.room) t.0 ∙ length-drop o.position objects, t.1)

-- of files in two slots, whichever comes first
either_order : (j k : ℕ) (f g : File) → (j ≡ k → ⊥) → (j < k → Apart f g) → (k < j → Apart g f) → Apart f g
either_order j k f g n a b = go (order j k)
  where
    swap : Apart g f → Apart f g
    swap (inl h) = inr h
    swap (inr h) = inl h

    go : (j < k) ⊎ ((j ≡ k) ⊎ (k < j)) → Apart f g
    go (inl h) = a h
    go (inr (inl e)) = absurd (n e)
    go (inr (inr h)) = swap (b h)

module _ (s : Settings) (heap : List ℕ) (table : Table) where
  whole-right : Whole NoLine s heap table → NothingWrong s heap table
  whole-right w =
      let views = slot_views s heap in
      let told : (k : ℕ) (f : File) → view_at views k ≡ holds f → FaultlessFile f = λ k f e. file-faultless (0 + k) f (w.slots.lines k f e) in
      record {
        undamaged = undamaged views w.slots.undamaged;
        rising = λ k f e. clear-rise f.entries (any-file (λ (g : File). not_rising g.entries) views w.slots.rising k f e);
        within = λ k f e.
            let total = total-is s heap k f e in
            all_map (λ (o : Stored). StandsIn f.objects o × Faultless f.entries o) (λ (o : Stored). o.position + (20 + o.size) ≤ f.label.trailer_offset) (objects_in f.objects)
            (λ o t. let left = room-left f.objects o t.0 in let fits = t.1.within in omega arith)
            (all_both (StandsIn f.objects) (Faultless f.entries) (objects_in f.objects) (objects-stand f.objects) (told k f e).objects);
        checksums = λ k f e. all_map (Faultless f.entries) (λ (o : Stored). o.checksum ≡ object_sum o.id o.body) (objects_in f.objects) (λ o t. t.checksum) (told k f e).objects;
        entered = λ k f e. all_map (Faultless f.entries) (λ (o : Stored). Has f.entries o.id (raw_of o.position false)) (objects_in f.objects) (λ o t. t.entry) (told k f e).objects;
        stored = λ k f e. (told k f e).entries;
        apart = λ j k f g p q l. overlap-apart views w.slots.clear j k f g p q (λ z. omega arith);
        room = ids-fit views (capacity_of table) (ltb-false _ _ w.room);
      }

  right-whole : NothingWrong s heap table → Whole NoLine s heap table
  right-whole n =
      let views = slot_views s heap in
      record {
        slots = record {
          undamaged = no-damage-tests views n.undamaged;
          rising = no-file (λ (g : File). not_rising g.entries) views (λ k f e. rise-clear f.entries (n.rising k f e));
          behind = none-behind views;
          clear = no-overlap views (λ j k f g p q d. either_order j k f g d (n.apart j k f g p q) (n.apart k j g f q p));
          lines = λ k f e. faultless-file (0 + k) f (record { objects = kept k f e; entries = n.stored k f e });
        };
        room = le-ltb (capacity_of table) (length (table_of (files_in views))) (fit-ids views (capacity_of table) n.room);
      }
    where
      kept : (k : ℕ) (f : File) → view_at (slot_views s heap) k ≡ holds f → All (Faultless f.entries) (objects_in f.objects)
      kept k f e =
          let os = objects_in f.objects in
          let total = total-is s heap k f e in
          all_map (λ (o : Stored). (StandsIn f.objects o × (o.position + (20 + o.size) ≤ f.label.trailer_offset)) × ((o.checksum ≡ object_sum o.id o.body) × Has f.entries o.id (raw_of o.position false))) (Faultless f.entries) os
          (λ o p. record { within = let left = room-left f.objects o p.0.0 in let fits = p.0.1 in omega arith; checksum = p.1.0; entry = p.1.1 })
          (all_both (λ (o : Stored). StandsIn f.objects o × (o.position + (20 + o.size) ≤ f.label.trailer_offset)) (λ (o : Stored). (o.checksum ≡ object_sum o.id o.body) × Has f.entries o.id (raw_of o.position false)) os
          (all_both (StandsIn f.objects) (λ (o : Stored). o.position + (20 + o.size) ≤ f.label.trailer_offset) os (objects-stand f.objects) (n.within k f e))
          (all_both (λ (o : Stored). o.checksum ≡ object_sum o.id o.body) (λ (o : Stored). Has f.entries o.id (raw_of o.position false)) os (n.checksums k f e) (n.entered k f e)))

  -- request P5: the list is empty if none of this holds
  pub list-empty-when : NothingWrong s heap table → faults_of s heap table ≡ []
  list-empty-when n = none-there (faults_of s heap table) (whole-list NoLine s heap table (right-whole n))

  -- request P5: and only then
  pub list-empty-only-when : faults_of s heap table ≡ [] → NothingWrong s heap table
  list-empty-only-when e =
      whole-right (list-whole NoLine s heap table (λ slot r n. n) (subst (All NoLine) (sym e) tt))
