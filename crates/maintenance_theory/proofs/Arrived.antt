-- C: every id that a rewritten group moves is in a new file of the group's generation, in a slot that was empty; the group's own files have no live entry
-- left, and on success their slots are empty.
use Rattle.std.specs.Prelude.{◌≡◌, refl, ◌⊎◌, ◌<◌, ◌≤◌, ◌∷◌, ◌+◌, ◌*◌, ◌^◌}
use Rattle.std.proofs.Common.{sym, ◌∙◌, true≢false, inl, inr, get_or-set_other}
use Rattle.std.proofs.Math.Path.{ap, subst}
use native.Mathlib.Omega.{arith}
use Rattle.std.proofs.Math.Seq.{get_or-set_same}
use Rattle.rules.specs.Base.{true, List, [], ℕ, length, any, sum}
use Rattle.theory.specs.Types.{Record, Settings, Held}
use Rattle.rules.specs.BaseLaws.{All, Some}
use Rattle.rules.proofs.BaseLaws.{any-true, same?}
use Rattle.rules.specs.Ops.{Content, Op, is_delete, size_of, objects_of, entries_of, file_bytes}
use Rattle.rules.specs.OpsLaws.{Stands}
use Rattle.rules.proofs.OpsLaws.{stands-entry, entries-of-rising}
use Rattle.rules.specs.SettledLaws.{last_on}
use Rattle.disk_location.specs.Locations.{raw_of}
use Rattle.rules.specs.SlotFile.{File, empty, holds}
use Rattle.rules.proofs.SlotLaws.{views-length}
use Rattle.rules.specs.Table.{lookup}
use Rattle.rules.specs.TableLaws.{Has, or_else}
use Rattle.rules.proofs.TableLaws.{has-lookup, lookup-insert-all}
use Rattle.rules.specs.FileMap.{empty_record, record_at, file_for}
use Rattle.rules.specs.Install.{new_label, new_record, losing, new_slot, new_lsn, records_with, installed, installed_all, empty_of}
use Rattle.rules.proofs.InstallLaws.{losing-record}
use Rattle.rules.specs.World.{World, records_of, mappings, slots_of}
use Rattle.rules.specs.WrittenLaws.{file_of_ops}
use Rattle.theory.proofs.Entries.{rising-absolute, has-absolute}
use Rattle.theory.specs.Places.{view_at}
use Rattle.theory.proofs.Places.{own-file, not-empty}
use Rattle.theory.specs.Losing.{rows_for}
use Rattle.theory.specs.Picture.{Picture, views_of, picture_of, file_says, added}
use Rattle.theory.specs.Installed.{over}
use Rattle.theory.proofs.Installed.{filed-added, stands-new}
use Rattle.theory.specs.SoundWorld.{bounds_of, SoundWorld}
use Rattle.theory.specs.Adding.{Fitting}
use Rattle.theory.proofs.Adding.{free-slot, addable, views_after, picture-installed, sound-installed}
use Rattle.theory.specs.Standing.{AllStood}
use Rattle.theory.proofs.Standing.{fitting-stands}
use Rattle.history_theory.specs.Writing.{engine}
use Rattle.history_theory.proofs.Writing.{sound-told}
use Rattle.history_theory.specs.Rewriting.{Rewritable}
use Rattle.history_theory.proofs.Rewriting.{fits-file, still-said, one_fewer, installed-numbers, sound-rewritten}
use Rattle.maintenance_theory.specs.Tally.{heard_in}
use Rattle.maintenance_theory.proofs.Tally.{heard-later}
use Rattle.maintenance_theory.specs.Stopping.{Remain}
use Rattle.maintenance_theory.proofs.Stopping.{stood-all-remain}
use Rattle.maintenance_theory.specs.Relocated.{Left, Anew}
use Rattle.maintenance_theory.proofs.Relocated.{files-relocate}
use Rattle.maintenance_theory.specs.Covered.{InFile}
use Rattle.maintenance_theory.specs.Arrived.{Arrived}

-- nothing happens to the id afterwards, or before
pub arrived-left : (g : ℕ) (w u v : World) (x : ℕ) → Arrived g w u x → Left u v x → Remain u v → Arrived g w v x
arrived-left g w u v x a l n = record {
  location = a.location;
  slot = a.slot;
  file = a.file;
  free = a.free;
  table = l.table ∙ a.table;
  found = l.file a.location a.table ∙ a.found;
  shows = n a.slot a.file a.shows;
  generation = a.generation;
}

-- ---- one file
-- an operation that is heard stands somewhere
heard-stands : (q : ℕ) (os : List Op) (x : ℕ) → heard_in os x ≡ true → (c : Content) × (p : ℕ) × Stands q os x c p
unfolding last_on
heard-stands q [] x h = absurd (true≢false (sym h))
heard-stands q (o ∷ os) x h = go (same? o.id x) (heard-stands (q + size_of o.content) os x)
  where
    go : (o.id ≡ x) ⊎ (o.id ≡ x → ⊥) → (heard_in os x ≡ true → (c : Content) × (p : ℕ) × Stands (q + size_of o.content) os x c p) → (c : Content) × (p : ℕ) × Stands q (o ∷ os) x c p
    go (inl e) ih = (o.content, q, inl (e, refl, refl))
    go (inr n) ih = let z = ih (sym (heard-later o os x n) ∙ h) in (z.0, z.1, inr z.2)

module _ (history : List Op) (w : World) (s : SoundWorld w (engine history)) (g : ℕ) (os : List Op) (f : Fitting 0 g w os) where
  file-arrives : (x : ℕ) → heard_in os x ≡ true → Arrived g w (installed 0 g w os) x
  unfolding added new_label
  file-arrives x h =
      let z = heard-stands 0 os x h in
      let l = raw_of z.1 (is_delete z.0) + 2 * new_lsn 0 w in
      let a : Has (rows_for (new_lsn 0 w) 0 os) x l = has-absolute (new_lsn 0 w) (entries_of 0 os) x (raw_of z.1 (is_delete z.0)) (stands-entry 0 os x z.0 z.1 z.2) in
      let r = rising-absolute (new_lsn 0 w) 0 (entries_of 0 os) (entries-of-rising 0 0 os f.rising) in
      let d = addable w (engine history) s 0 g os f in
      let e = picture-installed w (engine history) s 0 g os f in
      let n = views-length (slots_of w) w.settings.slot_bytes w.heap in
      let i = free-slot w (engine history) s f.free in
      let low = i.0 in
      record {
        location = l;
        slot = new_slot w;
        file = file_of_ops (new_lsn 0 w) g os;
        free = i.1;
        table =
            ap (λ (p : Picture). lookup p.table x) e
            ∙ lookup-insert-all 0 (mappings w) (rows_for (new_lsn 0 w) 0 os) r x
            ∙ ap (λ (h : Held). or_else h (lookup (mappings w) x)) (has-lookup 0 (rows_for (new_lsn 0 w) 0 os) r x l a);
        found =
            ap (λ (p : Picture). file_for p.records l) e
            ∙ own-file (added (new_lsn 0 w) g (picture_of w) (new_slot w) os).views (added (new_lsn 0 w) g (picture_of w) (new_slot w) os).records
            (filed-added (bounds_of w) (picture_of w) (engine history) s.sound (new_slot w) (new_lsn 0 w) g os d) x l (new_slot w)
            (stands-new (bounds_of w) (picture_of w) (engine history) s.sound (new_slot w) (new_lsn 0 w) g os d x l a);
        shows =
            ap (λ (vs : _). view_at vs (new_slot w)) (views_after w (engine history) s 0 g os f)
            ∙ get_or-set_same (views_of w) (new_slot w) (holds (file_of_ops (new_lsn 0 w) g os)) empty (omega arith);
        generation = refl;
      }

-- ---- files one after another
-- no file gains
pub stood-fewer : (bit g : ℕ) (w : World) (files : List (List Op)) → AllStood bit g w files → (k : ℕ) (c : File) → view_at (views_of w) k ≡ holds c
    → (record_at (records_of (installed_all bit g w files)) k).live ≤ (record_at (records_of w) k).live
unfolding installed_all installed records_with
stood-fewer bit g w [] a k c h = omega arith
stood-fewer bit g w (f ∷ fs) a k c h =
    let n : k ≡ new_slot w → ⊥ = λ e. not-empty (sym a.0.free ∙ ap (view_at (views_of w)) (sym e) ∙ h) in
    let v = ap (λ (vs : _). view_at vs k) a.0.views ∙ get_or-set_other (views_of w) (new_slot w) k (holds (file_of_ops (new_lsn bit w) g f)) empty n ∙ h in
    let i = stood-fewer bit g (installed bit g w f) fs a.1 k c v in
    let e : (record_at (records_of (installed bit g w f)) k).live ≡ (record_at (losing (mappings w) f (records_of w)) k).live
    = ap (λ (r : Record). r.live) (get_or-set_other (losing (mappings w) f (records_of w)) (new_slot w) k (new_record (new_lsn bit w) g f) empty_record n) in
    let l = (losing-record (mappings w) f (records_of w) k).less in
    omega arith

-- a slot without a file had none
stood-free : (bit g : ℕ) (w : World) (f : List Op) → AllStood bit g w (f ∷ []) → (k : ℕ) → view_at (views_of (installed bit g w f)) k ≡ empty → view_at (views_of w) k ≡ empty
stood-free bit g w f a k h = go (same? k (new_slot w))
  where
    go : (k ≡ new_slot w) ⊎ (k ≡ new_slot w → ⊥) → view_at (views_of w) k ≡ empty
    go (inl e) = ap (view_at (views_of w)) e ∙ a.0.free
    go (inr n) =
        sym (get_or-set_other (views_of w) (new_slot w) k (holds (file_of_ops (new_lsn bit w) g f)) empty n)
        ∙ sym (ap (λ (vs : _). view_at vs k) a.0.views) ∙ h

arrived-later : (g : ℕ) (w u v : World) (x : ℕ) → ((k : ℕ) → view_at (views_of u) k ≡ empty → view_at (views_of w) k ≡ empty) → Arrived g u v x → Arrived g w v x
arrived-later g w u v x n a = record {
  location = a.location;
  slot = a.slot;
  file = a.file;
  free = n a.slot a.free;
  table = a.table;
  found = a.found;
  shows = a.shows;
  generation = a.generation;
}

module _ (history : List Op) where
  -- LAW: what is in one of the files is in a new file afterwards
  pub files-arrive : (g : ℕ) (files : List (List Op)) (w : World) → SoundWorld w (engine history) → g ≤ 255 → All (Rewritable (engine history)) files
      → All (λ (f : List Op). 64 + length (file_bytes f) ≤ w.settings.slot_bytes) files → length files ≤ empty_of w
      → w.state.next_position + sum (λ (f : List Op). length (objects_of f) + 1) files ≤ 2 ^ 62
      → (x : ℕ) → Some (InFile x) files → Arrived g w (installed_all 0 g w files) x
  unfolding installed_all sum
  files-arrive g [] w s aged r slot free positions x h = absurd h
  files-arrive g (f ∷ fs) w s aged r slot free positions x h =
      let fit = fits-file history w s g f r.0 aged slot.0 (omega arith) (omega arith) in
      let n : length (objects_of f) < 2 ^ 64 = omega arith in
      let e = installed-numbers history g w f in
      let e1 = e.1 in
      let d = one_fewer 0 g w f in
      let t = sound-told (installed 0 g w f) (λ x. over (file_says (file_of_ops (new_lsn 0 w) g f) x) (engine history x)) (engine history)
      (λ x. still-said history f r.0 n (new_lsn 0 w) g x) (sound-installed w (engine history) s 0 g f fit) in
      let slot2 = subst (λ (c : Settings). All (λ (f : List Op). 64 + length (file_bytes f) ≤ c.slot_bytes) fs) (sym e.0) slot.1 in
      let free2 : length fs ≤ empty_of (installed 0 g w f) = omega arith in
      let positions2 : (installed 0 g w f).state.next_position + sum (λ (f : List Op). length (objects_of f) + 1) fs ≤ 2 ^ 62 = omega arith in
      go (stood-free 0 g w f (fitting-stands w (engine history) s 0 g f fit, tt)) (file-arrives history w s g f fit x)
      (files-relocate history g fs (installed 0 g w f) t aged r.1 slot2 free2 positions2 x)
      (stood-all-remain 0 g fs (installed 0 g w f) (sound-rewritten history g fs (installed 0 g w f) t aged r.1 slot2 free2 positions2).0)
      (files-arrive g fs (installed 0 g w f) t aged r.1 slot2 free2 positions2 x) h
    where
      go : ((k : ℕ) → view_at (views_of (installed 0 g w f)) k ≡ empty → view_at (views_of w) k ≡ empty)
          → (heard_in f x ≡ true → Arrived g w (installed 0 g w f) x)
          → Left (installed 0 g w f) (installed_all 0 g (installed 0 g w f) fs) x ⊎ (Anew (installed 0 g w f) (installed_all 0 g (installed 0 g w f) fs) x × (any (λ (f : List Op). heard_in f x) fs ≡ true))
          → Remain (installed 0 g w f) (installed_all 0 g (installed 0 g w f) fs)
          → (Some (InFile x) fs → Arrived g (installed 0 g w f) (installed_all 0 g (installed 0 g w f) fs) x)
          → InFile x f ⊎ Some (InFile x) fs → Arrived g w (installed_all 0 g (installed 0 g w f) fs) x
      go b a l k ih (inr h) = arrived-later g w (installed 0 g w f) (installed_all 0 g (installed 0 g w f) fs) x b (ih h)
      go b a (inl l) k ih (inl h) = arrived-left g w (installed 0 g w f) (installed_all 0 g (installed 0 g w f) fs) x (a h) l k
      go b a (inr l) k ih (inl h) =
          arrived-later g w (installed 0 g w f) (installed_all 0 g (installed 0 g w f) fs) x b (ih (any-true (λ (f : List Op). heard_in f x) (InFile x) (λ c e. e) fs l.1))
