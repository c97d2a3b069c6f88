-- A store in which no object is of max_object_size or more stays one: 3 refuses no batch that would bring one, and a rewrite makes none.
use Rattle.std.specs.Prelude.{◌≡◌, ◌⊎◌, ◌≤◌, ◌∷◌, ◌+◌, ◌^◌, Err, Ok}
use Rattle.std.proofs.Math.Path.{refl, ap, subst}
use Rattle.std.proofs.Common.{sym, ◌∙◌, inl, inr, arith, length-take}
use Rattle.std.proofs.Math.Logic.{⊎_elim}
use borrow.Author.Tests.{leb-false, lt-leb}
use Rattle.rules.specs.Base.{Bool, true, false, List, [], ℕ, zero, suc, length, set, take, drop, leb, ltb, pick, any, keep, each}
use Rattle.theory.specs.Types.{Settings, Entry, Label, Record, Refusal, Answer}
use Rattle.disk_location.specs.Locations.{delete_of, raw_of}
use Rattle.rules.specs.BaseLaws.{All}
use Rattle.rules.proofs.BaseLaws.{all_map, all_append, all_both, any_false, any-clear}
use Rattle.rules.specs.Refusal.{decide, after}
use Rattle.rules.specs.Object.{Stored, stored_at, objects_in}
use Rattle.rules.specs.Ops.{put, delete, Op, settled}
use Rattle.rules.proofs.SettledLaws.{settled-all}
use Rattle.rules.specs.Batch.{batch_in, ops_of, too_large, any_too_large}
use Rattle.rules.specs.Trailer.{absolute}
use Rattle.rules.specs.Table.{load, current_at}
use Rattle.rules.specs.SlotFile.{object_part, trailer_entries, File, View, empty, damaged, holds}
use Rattle.rules.specs.WrittenLaws.{file_of_ops}
use Rattle.rules.specs.FileMap.{record_at}
use Rattle.rules.specs.Install.{new_slot, new_lsn, installed, installed_all}
use Rattle.rules.specs.Write.{write_tests, written, write_call}
use Rattle.rules.specs.WriteLaws.{ops_in, Accepted}
use Rattle.rules.proofs.WriteLaws.{write-accepted}
use Rattle.rules.specs.Maintenance.{deletes_of, objects_found, deletes_found, stored_objects, slot_of, found_in, found, files_of, going, stopped, Course, group, group_tests, rewrite_group}
use Rattle.rules.specs.TwoCalls.{generation_rewritten, rewrite_call}
use Rattle.rules.specs.Prune.{pruned}
use Rattle.rules.specs.World.{World, records_of, mappings, accepted, unchanged}
use Rattle.theory.specs.Places.{view_at}
use Rattle.theory.proofs.Places.{holds-inj, not-empty, record-holds, record-empty, no-damage}
use Rattle.theory.specs.Picture.{views_of}
use Rattle.theory.specs.Sound.{SmallFile}
use Rattle.theory.specs.SoundWorld.{SoundWorld, SmallWorld}
use Rattle.theory.proofs.SoundWorld.{shown}
use Rattle.history_theory.specs.Writing.{engine}
use Rattle.history_theory.proofs.Writing.{fits-write}
use Rattle.theory.specs.Standing.{Stood, AllStood}
use Rattle.theory.proofs.Standing.{fitting-stands}
use Rattle.history_theory.proofs.Reading.{body_is}
use Rattle.history_theory.proofs.Pruning.{each-slot}
use Rattle.history_theory.specs.Moving.{StandsIn}
use Rattle.history_theory.proofs.Moving.{objects-stand, none_found}
use Rattle.history_theory.specs.Shards.{PartOf}
use Rattle.history_theory.proofs.Shards.{sub-all, files-parts}
use Rattle.history_theory.proofs.OneGeneration.{rewrite-leaves}
use Rattle.history_theory.proofs.Maintaining.{group-rewritten}
use Rattle.theory.proofs.Lists.{all-kept, all_pass, all-each, every}
use Rattle.history_theory.specs.Small.{Fine, SmallIn}

-- a body is no longer than its length says
body-short : (objects : List ℕ) (o : Stored) → StandsIn objects o → length o.body ≤ o.size
body-short objects o t =
    let bs = drop o.position objects in
    let a : length o.body ≡ length (stored_at o.position bs).body = ap (λ (c : Stored). length c.body) t.0 in
    let b : o.size ≡ (stored_at o.position bs).size = ap (λ (c : Stored). c.size) t.0 in
    let d : length (stored_at o.position bs).body ≡ length (take (stored_at o.position bs).size (drop 20 bs)) = ap length (body_is o.position bs) in
    let e = length-take (stored_at o.position bs).size (drop 20 bs) in
    omega arith

-- 3 refuses none of those that count
small-settled : (limit : ℕ) (ops : List Op) → any_too_large limit ops ≡ false → any_too_large limit (settled ops) ≡ false
unfolding any_too_large
small-settled limit ops h =
    any-clear (λ (o : Op). too_large limit o.content) (settled ops)
    (settled-all (λ (o : Op). too_large limit o.content ≡ false) ops (any_false (λ (o : Op). too_large limit o.content) ops h))

-- ---- a file added
shows-set : (vs : List View) (i k : ℕ) (v : View) (f : File) → view_at (set vs i v) k ≡ holds f → (v ≡ holds f) ⊎ (view_at vs k ≡ holds f)
shows-set [] i k v f h = inr h
shows-set (u ∷ vs) zero zero v f h = inl h
shows-set (u ∷ vs) zero (suc k) v f h = inr h
shows-set (u ∷ vs) (suc i) zero v f h = inr h
shows-set (u ∷ vs) (suc i) (suc k) v f h = shows-set vs i k v f h

small-installed : (bit g : ℕ) (w : World) (os : List Op) → Stood bit g w os → any_too_large w.settings.max_object_size os ≡ false → SmallWorld w → SmallWorld (installed bit g w os)
unfolding installed
small-installed bit g w os t h small k f e =
    ⊎_elim (λ p. subst (SmallFile w.settings.max_object_size) (holds-inj p) (t.small w.settings.max_object_size h)) (small k f)
    (shows-set (views_of w) (new_slot w) k (holds (file_of_ops (new_lsn bit w) g os)) f (ap (λ (vs : List View). view_at vs k) (sym t.views) ∙ e))

small-installed-all : (bit g : ℕ) (files : List (List Op)) (w : World) → AllStood bit g w files → All (λ (os : List Op). any_too_large w.settings.max_object_size os ≡ false) files
    → SmallWorld w → SmallWorld (installed_all bit g w files)
unfolding installed_all installed
small-installed-all bit g [] w t a small = small
small-installed-all bit g (os ∷ oss) w t a small = small-installed-all bit g oss (installed bit g w os) t.1 a.1 (small-installed bit g w os t.0 a.0 small)

-- ---- call by call
module _ (w : World) (history : List Op) (s : SoundWorld w (engine history)) (small : SmallWorld w) where
  -- LAW: a write, accepted or refused
  pub small-write : (bytes : List ℕ) → SmallWorld (write_call w bytes).world
  unfolding write_call written installed_all
  small-write bytes = go (decide (write_tests w bytes)) refl
    where
      files : (os : List Op) → ops_in bytes ≡ os → Accepted w bytes → SmallWorld (written w os)
      files [] e a = small
      files (o ∷ os) e a =
          small-installed (2 ^ 62) 0 w (o ∷ os) (fitting-stands w (engine history) s (2 ^ 62) 0 (o ∷ os) (fits-write w history s bytes o os e a))
          (subst (λ (l : List Op). any_too_large w.settings.max_object_size l ≡ false) e (small-settled w.settings.max_object_size (ops_of (batch_in bytes)) a.small)) small

      go : (a : Answer) → decide (write_tests w bytes) ≡ a → SmallWorld (after a (unchanged w) (record { answer = accepted []; world = written w (settled (ops_of (batch_in bytes))) })).world
      go (Err r) e = small
      go (Ok _) e = files (ops_in bytes) refl (write-accepted w bytes e)

  -- LAW: files removed
  pub small-pruned : SmallWorld (pruned w)
  unfolding pruned
  small-pruned k f h = ⊎_elim (λ c. small k f (sym c.0 ∙ h)) (λ c. absurd (not-empty (sym c.1 ∙ h))) (each-slot w (engine history) s k)

  -- ---- what a group moves
  objects-fine : (k : ℕ) (f : File) → view_at (views_of w) k ≡ holds f → (r : Label) → f.objects ≡ object_part r (slot_of w k) → All (Fine w.settings.max_object_size) (objects_found (mappings w) r (slot_of w k))
  unfolding objects_found
  objects-fine k f h r same =
      all-kept (λ (o : Stored). StandsIn f.objects o × (leb w.settings.max_object_size o.size ≡ false)) (Fine w.settings.max_object_size)
      (λ (o : Stored). current_at (load (mappings w) o.id) (raw_of (r.lsn + o.position) false)) (λ (o : Stored). record { id = o.id; content = put o.body })
      (stored_objects r (slot_of w k))
      (λ o t q. let a = body-short f.objects o t.0 in let b = leb-false w.settings.max_object_size o.size t.1 in lt-leb w.settings.max_object_size (length o.body) (omega arith))
      (subst (λ (bs : List ℕ). All (λ (o : Stored). StandsIn f.objects o × (leb w.settings.max_object_size o.size ≡ false)) (objects_in bs)) same
      (all_both (StandsIn f.objects) (λ (o : Stored). leb w.settings.max_object_size o.size ≡ false) (objects_in f.objects) (objects-stand f.objects) (small k f h)))

  found-in-fine : (k : ℕ) → All (Fine w.settings.max_object_size) (found_in w k)
  unfolding deletes_found deletes_of
  found-in-fine k =
      all_append (Fine w.settings.max_object_size) (objects_found (mappings w) (record_at (records_of w) k).label (slot_of w k)) (deletes_found (mappings w) (record_at (records_of w) k).label (slot_of w k))
      (go (view_at (views_of w) k) refl)
      (all-kept (λ (e : Entry). delete_of e.location ≡ true) (Fine w.settings.max_object_size)
      (λ (e : Entry). current_at (load (mappings w) e.id) (absolute (record_at (records_of w) k).label.lsn e).location) (λ (e : Entry). record { id = e.id; content = delete })
      (keep (λ (e : Entry). delete_of e.location) (trailer_entries (record_at (records_of w) k).label (slot_of w k))) (λ e d q. refl)
      (all_pass (λ (e : Entry). delete_of e.location) (trailer_entries (record_at (records_of w) k).label (slot_of w k))))
    where
      go : (v : View) → view_at (views_of w) k ≡ v → All (Fine w.settings.max_object_size) (objects_found (mappings w) (record_at (records_of w) k).label (slot_of w k))
      go empty e =
          subst (λ (r : Record). All (Fine w.settings.max_object_size) (objects_found (mappings w) r.label (slot_of w k)))
          (sym (record-empty (views_of w) (records_of w) s.sound.filed k e)) (none_found (Fine w.settings.max_object_size) (mappings w) (slot_of w k))
      go (damaged r) e = absurd (no-damage (views_of w) (records_of w) s.sound.filed k r e)
      go (holds f) e =
          objects-fine k f e (record_at (records_of w) k).label
          (sym (shown w k f e).1.objects ∙ ap (λ (c : Record). object_part c.label (slot_of w k)) (sym (record-holds (views_of w) (records_of w) s.sound.filed k f e)))

  found-fine : (ks : List ℕ) → All (Fine w.settings.max_object_size) (found w ks)
  unfolding found
  found-fine ks =
      settled-all (Fine w.settings.max_object_size) (each (found_in w) ks)
      (all-each (Fine w.settings.max_object_size) (found_in w) ks (every (λ (k : ℕ). All (Fine w.settings.max_object_size) (found_in w k)) ks found-in-fine))

  files-small : (ks : List ℕ) (target : ℕ) → All (λ (os : List Op). any_too_large w.settings.max_object_size os ≡ false) (files_of target (found w ks))
  unfolding any_too_large
  files-small ks target =
      all_map (PartOf (found w ks)) (λ (os : List Op). any (λ (o : Op). too_large w.settings.max_object_size o.content) os ≡ false) (files_of target (found w ks))
      (λ f p. any-clear (λ (o : Op). too_large w.settings.max_object_size o.content) f (sub-all (Fine w.settings.max_object_size) p.0 (found-fine ks)))
      (files-parts target (found w ks))

  -- LAW: a group, rewritten or refused
  small-group : (g : ℕ) → g ≤ 255 → (ks : List ℕ) (moved : ℕ) → SmallWorld (rewrite_group g ks moved w).world
  unfolding rewrite_group
  small-group g aged ks moved = go (decide (group_tests w ks (files_of w.settings.target_file_size (found w ks)))) refl
    where
      go : (a : Answer) → decide (group_tests w ks (files_of w.settings.target_file_size (found w ks))) ≡ a
          → SmallWorld (after {A = Course} a (λ (r : Refusal). record { stop = stopped r g; moved = moved; world = w })
          (record { stop = going; moved = moved + length (found w ks); world = installed_all 0 g w (files_of w.settings.target_file_size (found w ks)) })).world
      go (Err r) e = small
      go (Ok _) e =
          small-installed-all 0 g (files_of w.settings.target_file_size (found w ks)) w (group-rewritten history g aged ks w s e).0
          (files-small ks w.settings.target_file_size) small

  -- LAW: a rewrite, whatever numbers it is given, accepted or refused
  pub small-rewrite : (room g mark count : ℕ) → SmallWorld (rewrite_call w room g mark count).world
  unfolding generation_rewritten
  small-rewrite room g mark count =
      rewrite-leaves SmallWorld w room g mark count small (λ low high. go (omega arith) (ltb (length (group w g mark count)) w.settings.min_compaction_files))
    where
      go : g ≤ 255 → (b : Bool) → SmallWorld (pick b (record { stop = going; moved = 0; world = w }) (rewrite_group g (group w g mark count) 0 w)).world
      go aged true = small
      go aged false = small-group g aged (group w g mark count) 0

-- the same heap and settings
pub small_same : (w v : World) → v.settings ≡ w.settings → v.heap ≡ w.heap → SmallWorld w → SmallWorld v
small_same w v c h small = subst (λ (bytes : List ℕ). SmallIn v.settings bytes) (sym h) (subst (λ (d : Settings). SmallIn d w.heap) (sym c) small)
