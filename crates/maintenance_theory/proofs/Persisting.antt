-- While a group is rewritten every other generation's group stays, by a mark that is not above the next position.
use Rattle.std.specs.Prelude.{◌≡◌, refl, ◌⊎◌, ◌<◌, ◌≤◌, ◌∷◌, ◌++◌, ◌+◌, ◌^◌, Err, Ok}
use Rattle.std.proofs.Common.{sym, ap, ◌∙◌, subst, inl, inr, ⊎_elim, add-zero, arith, get_or-set_same, get_or-set_other}
use Rattle.rules.specs.Base.{false, List, [], ℕ, length, sum}
use Rattle.theory.specs.Types.{Label, Record, Settings, Claims, Refusal, Answer}
use Rattle.disk_location.specs.Locations.{masked_of}
use Rattle.disk_location.proofs.LocationLaws.{masked_plain}
use Rattle.rules.proofs.BaseLaws.{same?}
use Rattle.rules.specs.Refusal.{decide, after, NoneHolds}
use Rattle.rules.proofs.RefusalLaws.{clear-when, none_first, none_rest}
use Rattle.rules.specs.Ops.{Op, objects_of}
use Rattle.rules.specs.FileMap.{empty_record, is_empty, record_at}
use Rattle.rules.proofs.FileMapLaws.{lowest-empty}
use Rattle.rules.specs.Install.{new_label, new_record, losing, new_slot, new_lsn, records_with, next_with, installed, installed_all, room_tests, empty_of, position_tests}
use Rattle.rules.proofs.InstallLaws.{room-clear, positions-clear, losing-length, losing-label}
use Rattle.rules.specs.Maintenance.{found, files_of, going, stopped, Course, new_generation, group, source_tests, group_tests, rewrite_group}
use Rattle.rules.specs.MaintenanceLaws.{Candidate}
use Rattle.rules.specs.TwoCalls.{mark_of}
use Rattle.rules.specs.World.{World, records_of, mappings, slots_of}
use Rattle.theory.proofs.Places.{record-holds}
use Rattle.theory.specs.Picture.{views_of}
use Rattle.theory.specs.SoundWorld.{SoundWorld}
use Rattle.theory.proofs.SoundWorld.{shown-bounds}
use Rattle.history_theory.specs.Writing.{engine}
use Rattle.history_theory.proofs.Pruning.{file-slot}
use Rattle.history_theory.proofs.Rewriting.{one_fewer}
use Rattle.history_theory.proofs.Maintaining.{sound-group}
use Rattle.maintenance_theory.specs.Groups.{Member}
use Rattle.maintenance_theory.proofs.Groups.{in_group, same-members}
use Rattle.maintenance_theory.proofs.Stopping.{file-lsn, files-in-group}
use Rattle.maintenance_theory.proofs.Finished.{group-unmoved}
use Rattle.maintenance_theory.specs.Persisting.{LabelKept, Grown}

-- one file
label-installed : (g : ℕ) (w : World) (os : List Op) → 0 < empty_of w → w.state.next_position < 2 ^ 62 → (k : ℕ) → LabelKept w (installed 0 g w os) k
unfolding installed records_with new_record new_label
label-installed g w os free low k = go (same? k (new_slot w))
  where
    new : Record
    new = new_record (new_lsn 0 w) g os

    place : new_slot w < length (losing (mappings w) os (records_of w))
    place = let a = (lowest-empty (slots_of w) (records_of w) free).room in let b = losing-length (mappings w) os (records_of w) in omega arith

    go : (k ≡ new_slot w) ⊎ (k ≡ new_slot w → ⊥) → LabelKept w (installed 0 g w os) k
    go (inl e) =
        let a : record_at (records_of (installed 0 g w os)) k ≡ new
        = ap (record_at (records_of (installed 0 g w os))) e ∙ get_or-set_same (losing (mappings w) os (records_of w)) (new_slot w) new empty_record place in
        let b : masked_of (record_at (records_of (installed 0 g w os)) k).label.lsn ≡ w.state.next_position
        = ap (λ (r : Record). masked_of r.label.lsn) a ∙ ap masked_of (add-zero w.state.next_position) ∙ masked_plain w.state.next_position low in
        inr (omega arith)
    go (inr n) =
        inl (ap (λ (r : Record). r.label) (get_or-set_other (losing (mappings w) os (records_of w)) (new_slot w) k new empty_record n) ∙ losing-label (mappings w) os (records_of w) k)

-- nothing changed
pub grown-none : (w : World) → Grown w w
grown-none w = record { settings = refl; claims = refl; entries = refl; next = omega arith; labels = λ k. inl refl }

-- one change behind another
pub grown-more : (w u v : World) → Grown w u → Grown u v → Grown w v
grown-more w u v a b = record {
  settings = b.settings ∙ a.settings;
  claims = b.claims ∙ a.claims;
  entries = b.entries ∙ a.entries;
  next = let p = a.next in let q = b.next in omega arith;
  labels = λ k. go k (a.labels k) (b.labels k);
}
  where
    go : (k : ℕ) → LabelKept w u k → LabelKept u v k → LabelKept w v k
    go k p (inr q) = let z = a.next in inr (omega arith)
    go k (inl p) (inl q) = inl (q ∙ p)
    go k (inr p) (inl q) = let z : masked_of (record_at (records_of v) k).label.lsn ≡ masked_of (record_at (records_of u) k).label.lsn = ap (λ (l : Label). masked_of l.lsn) q in inr (omega arith)

grown-installed : (g : ℕ) (w : World) (os : List Op) → 0 < empty_of w → w.state.next_position < 2 ^ 62 → Grown w (installed 0 g w os)
unfolding installed next_with
grown-installed g w os free low = record { settings = refl; claims = refl; entries = refl; next = omega arith; labels = label-installed g w os free low }

grown-all : (g : ℕ) (files : List (List Op)) (w : World) → length files ≤ empty_of w → w.state.next_position + sum (λ (f : List Op). length (objects_of f) + 1) files ≤ 2 ^ 62
    → Grown w (installed_all 0 g w files)
unfolding installed_all sum installed next_with
grown-all g [] w free positions = grown-none w
grown-all g (f ∷ fs) w free positions =
    let d = one_fewer 0 g w f in
    grown-more w (installed 0 g w f) (installed_all 0 g (installed 0 g w f) fs) (grown-installed g w f (omega arith) (omega arith))
    (grown-all g fs (installed 0 g w f) (omega arith) (omega arith))

-- LAW: so a group, rewritten or refused
pub grown-group : (g : ℕ) (ks : List ℕ) (moved : ℕ) (w : World) → Grown w (rewrite_group g ks moved w).world
unfolding rewrite_group group_tests installed_all
grown-group g ks moved w = go (decide (group_tests w ks files)) refl
  where
    files : List (List Op)
    files = files_of w.settings.target_file_size (found w ks)

    fit : (fs : List (List Op)) → NoneHolds (room_tests w.settings.slot_bytes (empty_of w) fs ++ position_tests w.state.next_position fs) → Grown w (installed_all 0 g w fs)
    fit [] n = grown-none w
    fit (f ∷ fs) n =
        let tests = room_tests w.settings.slot_bytes (empty_of w) (f ∷ fs) in
        grown-all g (f ∷ fs) w (room-clear w.settings.slot_bytes (empty_of w) (f ∷ fs) (none_first tests _ n)).slots
        (positions-clear w.state.next_position (f ∷ fs) (none_rest tests _ n) (omega arith))

    go : (a : Answer) → decide (group_tests w ks files) ≡ a
        → Grown w (after {A = Course} a (λ (r : Refusal). record { stop = stopped r g; moved = moved; world = w })
        (record { stop = going; moved = moved + length (found w ks); world = installed_all 0 g w files })).world
    go (Err r) e = grown-none w
    go (Ok _) e = fit files (none_rest (source_tests w ks) _ (clear-when (group_tests w ks files) e))

-- ---- the groups
-- a member by the settings, the claims and its record alone
member-same : (w v : World) (g mark count k : ℕ) → v.settings ≡ w.settings → v.claims ≡ w.claims → record_at (records_of v) k ≡ record_at (records_of w) k
    → Member w g mark count k → Member v g mark count k
member-same w v g mark count k a b e m = record {
  candidate =
      subst (λ (c : Settings). Candidate c v.claims mark count k (record_at (records_of v) k)) (sym a)
      (subst (λ (c : Claims). Candidate w.settings c mark count k (record_at (records_of v) k)) (sym b)
      (subst (Candidate w.settings w.claims mark count k) (sym e) m.candidate));
  generation = ap (λ (r : Record). new_generation r.label.generation) e ∙ m.generation;
}

module _ (history : List Op) (w : World) (s : SoundWorld w (engine history)) where
  -- a file's masked lsn is below the next position and below 2^62
  below_next : (k : ℕ) → is_empty (record_at (records_of w) k) ≡ false → (masked_of (record_at (records_of w) k).label.lsn < mark_of w) × (masked_of (record_at (records_of w) k).label.lsn < 2 ^ 62)
  below_next k some =
      let f = file-slot w (engine history) s k some in
      let e : masked_of (record_at (records_of w) k).label.lsn ≡ masked_of f.0.label.lsn = ap (λ (r : Record). masked_of r.label.lsn) (record-holds (views_of w) (records_of w) s.sound.filed k f.0 f.1) in
      let a = s.sound.above k f.0 f.1 in
      let b = (shown-bounds w (engine history) s k f.0 f.1).end in
      (omega arith, omega arith)

  -- LAW: on a store of the invariant the plan's mark leaves out no file, as 2^62 leaves out none
  pub mark-above : (g count : ℕ) → group w g (mark_of w) count ≡ group w g (2 ^ 62) count
  mark-above g count =
      same-members w w g (mark_of w) count (2 ^ 62) count refl
      (λ k m. below-mark k (2 ^ 62) m (below_next k m.candidate.file).1) (λ k m. below-mark k (mark_of w) m (below_next k m.candidate.file).0)
    where
      below-mark : (k mark : ℕ) {floor : ℕ} → Member w g floor count k → masked_of (record_at (records_of w) k).label.lsn < mark → Member w g mark count k
      below-mark k mark m low = record {
        candidate = record { file = m.candidate.file; unclaimed = m.candidate.unclaimed; live = m.candidate.live; worth = m.candidate.worth; below = low };
        generation = m.generation;
      }

  -- LAW: while the group of one generation is rewritten, or refused, the group of every other stays
  pub group-persists : (h g mark count moved : ℕ) → h ≤ 255 → (g ≡ h → ⊥) → mark ≤ w.state.next_position
      → group (rewrite_group h (group w h mark count) moved w).world g mark count ≡ group w g mark count
  group-persists h g mark count moved aged apart low =
      same-members v w g mark count mark count (t.sound.sized ∙ sym s.sound.sized)
      (λ k m. member-same v w g mark count k (sym n.settings) (sym n.claims) (sym (back k m)) m)
      (λ k m. member-same w v g mark count k n.settings n.claims (here k m) m)
    where
      v : World
      v = (rewrite_group h (group w h mark count) moved w).world

      t : SoundWorld v (engine history)
      t = sound-group history h aged (group w h mark count) moved w s

      n : Grown w v
      n = grown-group h (group w h mark count) moved w

      here : (k : ℕ) → Member w g mark count k → record_at (records_of v) k ≡ record_at (records_of w) k
      here k m =
          group-unmoved history w s h aged (group w h mark count) moved (files-in-group w history s h mark count) k (file-lsn w history s k m.candidate.file)
          (λ j a e. apart (sym m.generation ∙ (subst (λ (i : ℕ). Member w h mark count i) (sym e) (in_group w h mark count j a)).generation))

      -- a file below the mark has the label that it had
      old : (k : ℕ) → Member v g mark count k → (record_at (records_of v) k).label ≡ (record_at (records_of w) k).label
      old k m = ⊎_elim (λ e. e) (λ high. let b = m.candidate.below in absurd (omega arith)) (n.labels k)

      back : (k : ℕ) → Member v g mark count k → record_at (records_of v) k ≡ record_at (records_of w) k
      back k m =
          let e = old k m in
          group-unmoved history w s h aged (group w h mark count) moved (files-in-group w history s h mark count) k
          (subst (λ (l : Label). 0 < l.lsn) e (file-lsn v history t k m.candidate.file))
          (λ j a z. apart (sym m.generation ∙ ap (λ (l : Label). new_generation l.generation) e ∙ (subst (λ (i : ℕ). Member w h mark count i) (sym z) (in_group w h mark count j a)).generation))
