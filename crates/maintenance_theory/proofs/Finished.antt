-- C: maintenance answers the count of ids moved, the live counts of the finished groups' files as the call starts; or stops with 4, 5 or 7.
use Rattle.std.proofs.Math.Path.{◌≡◌, refl, ap, subst}
use Rattle.std.proofs.Common.{sym, ◌∙◌, true≢false, append_assoc, append-nil, inl, inr, ⊎_elim}
use Rattle.std.specs.Prelude.{◌⊎◌, ◌<◌, ◌≤◌, ◌∷◌, ◌++◌, ◌+◌, ◌^◌, Err, Ok, Some}
use native.Mathlib.Omega.{arith}
use Rattle.rules.specs.Base.{Bool, true, false, List, [], ℕ, length, ltb, pick, keep, each, sum}
use Rattle.theory.specs.Types.{Record, Settings, Refusal, Answer, stopped_with}
use Rattle.rules.specs.BaseLaws.{All}
use Rattle.rules.proofs.BaseLaws.{all_map, same?}
use Rattle.rules.specs.Refusal.{decide, after, NoneHolds}
use Rattle.rules.proofs.RefusalLaws.{clear-when, none_first, none_rest}
use Rattle.rules.specs.Ops.{Op}
use Rattle.rules.proofs.SettledLaws.{settled-all}
use Rattle.rules.specs.Table.{lookup}
use Rattle.rules.proofs.TableLaws.{lookup-has}
use Rattle.rules.specs.FileMap.{record_at, file_count}
use Rattle.rules.specs.FileMapLaws.{Among}
use Rattle.rules.proofs.FileMapLaws.{not-empty}
use Rattle.rules.specs.Install.{installed_all, room_tests, empty_of, position_tests}
use Rattle.rules.proofs.InstallLaws.{room-clear, positions-clear}
use Rattle.rules.specs.Maintenance.{objects_found, deletes_found, found_in, found, files_of, slot_of, Stop, going, stopped, Course, start_group, source_tests, group_tests, rewrite_group, onward, groups_from, course_of, ended, maintain_call}
use Rattle.rules.specs.Reopen.{in_range}
use Rattle.rules.specs.World.{World, records_of, mappings, maintain_given}
use Rattle.theory.specs.Newest.{masked_at}
use Rattle.theory.proofs.Places.{record-holds}
use Rattle.theory.specs.Picture.{views_of}
use Rattle.theory.specs.SoundWorld.{SmallWorld, SoundWorld}
use Rattle.theory.proofs.SoundWorld.{sound-fine}
use Rattle.history_theory.specs.Writing.{engine}
use Rattle.history_theory.proofs.Pruning.{file-slot}
use Rattle.history_theory.specs.Shards.{PartOf}
use Rattle.history_theory.proofs.Shards.{sub-all, files-parts}
use Rattle.maintenance_theory.specs.Tally.{Ascending}
use Rattle.maintenance_theory.proofs.Tally.{sum_same}
use Rattle.maintenance_theory.proofs.Groups.{groups-apart, group-ascending}
use Rattle.maintenance_theory.specs.Moved.{InRangeOf}
use Rattle.maintenance_theory.proofs.Moved.{found_inside, one-range, found-count}
use Rattle.history_theory.proofs.Maintaining.{files-rewritable}
use Rattle.maintenance_theory.proofs.Checked.{not-oversized}
use Rattle.maintenance_theory.specs.Stopping.{Refusable, StopsWell, Underway}
use Rattle.maintenance_theory.proofs.Stopping.{settings-group, group-files, underway-first, still-files, onward-well, groups-well}
use Rattle.history_theory.specs.Rewriting.{Rewritable}
use Rattle.maintenance_theory.specs.Unmoved.{Elsewhere}
use Rattle.maintenance_theory.proofs.Unmoved.{unmoved}
use Rattle.theory.proofs.Lists.{all-each, among-all, all_among, among-get}
use Rattle.rules.specs.Condition1.{out_of_range}
use Rattle.history_theory.specs.Fresh.{Blank}
use Rattle.history_theory.specs.History.{Call, Life, lived, Starts, born}
use Rattle.history_theory.proofs.History.{sound-lived, small-lived, born-starts, born-small}
use Rattle.maintenance_theory.specs.Finished.{live_of, before, AnswersBut, Answers, MovedBy, Tallied, Splits}

-- ---- what a group moves is in its own files
module _ (history : List Op) (w : World) (s : SoundWorld w (engine history)) where
  elsewhere-in : (k j : ℕ) → (k ≡ j → ⊥) → 0 < (record_at (records_of w) j).label.lsn → All (Elsewhere w k) (found_in w j)
  elsewhere-in k j n some =
      let z = file-slot w (engine history) s j (not-empty (record_at (records_of w) j) some) in
      let e = record-holds (views_of w) (records_of w) s.sound.filed j z.0 z.1 in
      all_map (InRangeOf (mappings w) z.0.label) (Elsewhere w k) (found_in w j)
      (λ o h l q. apart o l q (ap (λ (r : Record). in_range r.label (masked_at l)) e ∙ h l q))
      (subst (λ (r : Record). All (InRangeOf (mappings w) z.0.label) (objects_found (mappings w) r.label (slot_of w j) ++ deletes_found (mappings w) r.label (slot_of w j))) (sym e)
      (found_inside w history s j z.0 z.1))
    where
      apart : (o : Op) (l : ℕ) → lookup (mappings w) o.id ≡ Some l → in_range (record_at (records_of w) j).label (masked_at l) ≡ true → in_range (record_at (records_of w) k).label (masked_at l) ≡ false
      apart o l q i =
          let t = one-range w history s o.id l (lookup-has (mappings w) o.id l q) in
          ⊎_elim (λ a. t.1 k (λ b. n (b ∙ sym a))) (λ a. absurd (true≢false (sym i ∙ t.1 j a))) (same? j t.0)

  found-elsewhere : (k : ℕ) (ks : List ℕ) → ((j : ℕ) → Among ks j → k ≡ j → ⊥) → All (λ (j : ℕ). 0 < (record_at (records_of w) j).label.lsn) ks → All (Elsewhere w k) (found w ks)
  unfolding found
  found-elsewhere k ks out files =
      settled-all (Elsewhere w k) (each (found_in w) ks)
      (all-each (Elsewhere w k) (found_in w) ks (all_among (λ (j : ℕ). 0 < (record_at (records_of w) j).label.lsn) (λ (j : ℕ). All (Elsewhere w k) (found_in w j)) ks (λ j a some. elsewhere-in k j (out j a) some) files))

  files-unmoved : (g : ℕ) → g ≤ 255 → (fs : List (List Op)) → All (Rewritable (engine history)) fs → (k : ℕ) → 0 < (record_at (records_of w) k).label.lsn
      → All (All (Elsewhere w k)) fs → NoneHolds (room_tests w.settings.slot_bytes (empty_of w) fs ++ position_tests w.state.next_position fs)
      → record_at (records_of (installed_all 0 g w fs)) k ≡ record_at (records_of w) k
  unfolding installed_all
  files-unmoved g aged [] r k some a n = refl
  files-unmoved g aged (f ∷ fs) r k some a n =
      let tests = room_tests w.settings.slot_bytes (empty_of w) (f ∷ fs) in
      let b = room-clear w.settings.slot_bytes (empty_of w) (f ∷ fs) (none_first tests _ n) in
      let c = positions-clear w.state.next_position (f ∷ fs) (none_rest tests _ n) (omega arith) in
      unmoved history g (f ∷ fs) w s aged r b.fits b.slots c k some a

  -- a file outside the group keeps its record
  pub group-unmoved : (g : ℕ) → g ≤ 255 → (ks : List ℕ) (moved : ℕ) → All (λ (j : ℕ). 0 < (record_at (records_of w) j).label.lsn) ks → (k : ℕ) → 0 < (record_at (records_of w) k).label.lsn → ((j : ℕ) → Among ks j → k ≡ j → ⊥)
      → record_at (records_of (rewrite_group g ks moved w).world) k ≡ record_at (records_of w) k
  unfolding rewrite_group group_tests
  group-unmoved g aged ks moved files k some out = go (decide (group_tests w ks (files_of w.settings.target_file_size (found w ks)))) refl
    where
      part : (fs : List (List Op)) → All (PartOf (found w ks)) fs → All (All (Elsewhere w k)) fs
      part fs a = all_map (PartOf (found w ks)) (All (Elsewhere w k)) fs (λ f p. sub-all (Elsewhere w k) p.0 (found-elsewhere k ks out files)) a

      go : (a : Answer) → decide (group_tests w ks (files_of w.settings.target_file_size (found w ks))) ≡ a
          → record_at (records_of (after {A = Course} a (λ (r : Refusal). record { stop = stopped r g; moved = moved; world = w })
          (record { stop = going; moved = moved + length (found w ks); world = installed_all 0 g w (files_of w.settings.target_file_size (found w ks)) })).world) k ≡ record_at (records_of w) k
      go (Err r) e = refl
      go (Ok _) e =
          files-unmoved g aged (files_of w.settings.target_file_size (found w ks)) (files-rewritable history w s ks w.settings.target_file_size) k some
          (part (files_of w.settings.target_file_size (found w ks)) (files-parts w.settings.target_file_size (found w ks)))
          (none_rest (source_tests w ks) _
          (clear-when (group_tests w ks (files_of w.settings.target_file_size (found w ks))) e))

  -- what a group that is rewritten moves
  group-count : (g : ℕ) (ks : List ℕ) (moved : ℕ) → Ascending 0 ks → All (λ (j : ℕ). 0 < (record_at (records_of w) j).label.lsn) ks → (rewrite_group g ks moved w).stop ≡ going
      → (rewrite_group g ks moved w).moved ≡ moved + sum (λ (k : ℕ). (record_at (records_of w) k).live) ks
  unfolding rewrite_group
  group-count g ks moved up files e = go (decide (group_tests w ks (files_of w.settings.target_file_size (found w ks)))) e
    where
      go : (a : Answer)
          → (after {A = Course} a (λ (r : Refusal). record { stop = stopped r g; moved = moved; world = w })
          (record { stop = going; moved = moved + length (found w ks); world = installed_all 0 g w (files_of w.settings.target_file_size (found w ks)) })).stop ≡ going
          → (after {A = Course} a (λ (r : Refusal). record { stop = stopped r g; moved = moved; world = w })
          (record { stop = going; moved = moved + length (found w ks); world = installed_all 0 g w (files_of w.settings.target_file_size (found w ks)) })).moved
          ≡ moved + sum (λ (k : ℕ). (record_at (records_of w) k).live) ks
      go (Ok _) q = ap (λ (n : ℕ). moved + n) (found-count w history s 0 ks up files)
      go (Err r) q = absurd (let z : ◌≡◌ {A = ℕ} 0 1 = cc in omega arith)

-- a group is rewritten, or refused with its generation and nothing moved
rewrite-ends : (g : ℕ) (ks : List ℕ) (moved : ℕ) (w : World)
    → ((rewrite_group g ks moved w).stop ≡ going) ⊎ ((r : Refusal) × ((rewrite_group g ks moved w).stop ≡ stopped r g) × ((rewrite_group g ks moved w).moved ≡ moved))
unfolding rewrite_group
rewrite-ends g ks moved w = go (decide (group_tests w ks (files_of w.settings.target_file_size (found w ks))))
  where
    course : Answer → Course
    course a = after {A = Course} a (λ (r : Refusal). record { stop = stopped r g; moved = moved; world = w })
        (record { stop = going; moved = moved + length (found w ks); world = installed_all 0 g w (files_of w.settings.target_file_size (found w ks)) })

    go : (a : Answer) → ((course a).stop ≡ going) ⊎ ((r : Refusal) × ((course a).stop ≡ stopped r g) × ((course a).moved ≡ moved))
    go (Ok _) = inl refl
    go (Err r) = inr (r, refl, refl)

sum-snoc : (f : ℕ → ℕ) (ds : List ℕ) (g : ℕ) → sum f (ds ++ (g ∷ [])) ≡ sum f ds + f g
unfolding sum
sum-snoc f [] g = omega arith
sum-snoc f (d ∷ ds) g = let i = sum-snoc f ds g in omega arith

module _ (history : List Op) (start : World) (st : SoundWorld start (engine history)) where
  tally-group : (g : ℕ) → g ≤ 255 → (ds gs : List ℕ) → Splits ds (g ∷ gs) → (c : Course) → Underway history start c → c.stop ≡ going → Tallied start ds (g ∷ gs) c
      → ltb (length (start_group start g)) start.settings.min_compaction_files ≡ false
      → Tallied start (ds ++ (g ∷ [])) gs (rewrite_group g (start_group start g) c.moved c.world)
  tally-group g aged ds gs p c u e t enough = record {
    settings = settings-group g (start_group start g) c.moved c.world ∙ t.settings;
    same = keeps gs p.1 t.same.1;
    moved = counted (rewrite_group g (start_group start g) c.moved c.world).stop refl;
  }
    where
      files : All (λ (k : ℕ). 0 < (record_at (records_of c.world) k).label.lsn) (start_group start g)
      files = still-files history start st g c u

      here : c.moved ≡ sum (live_of start) ds
      here = subst (λ (o : Stop). MovedBy start ds o c.moved) e t.moved

      keeps : (hs : List ℕ) → All (λ (h : ℕ). h ≡ g → ⊥) hs → All (λ (h : ℕ). All (λ (k : ℕ). record_at (records_of c.world) k ≡ record_at (records_of start) k) (start_group start h)) hs
          → All (λ (h : ℕ). All (λ (k : ℕ). record_at (records_of (rewrite_group g (start_group start g) c.moved c.world).world) k ≡ record_at (records_of start) k) (start_group start h)) hs
      keeps [] n a = tt
      keeps (h ∷ hs) n a = (one, keeps hs n.1 a.1)
        where
          one : All (λ (k : ℕ). record_at (records_of (rewrite_group g (start_group start g) c.moved c.world).world) k ≡ record_at (records_of start) k) (start_group start h)
          one = all_among (λ (k : ℕ). record_at (records_of c.world) k ≡ record_at (records_of start) k)
              (λ (k : ℕ). record_at (records_of (rewrite_group g (start_group start g) c.moved c.world).world) k ≡ record_at (records_of start) k) (start_group start h)
              (λ k i q.
              group-unmoved history c.world u.sound g aged (start_group start g) c.moved files k
              (subst (λ (r : Record). 0 < r.label.lsn) (sym q) (among-get (λ (m : ℕ). 0 < (record_at (records_of start) m).label.lsn) (start_group start h) (group-files start history st h) k i))
              (λ j b z. n.0 (groups-apart start h g (2 ^ 62) (file_count (records_of start)) k i (subst (Among (start_group start g)) (sym z) b))) ∙ q)
              a.0

      counted : (o : Stop) → (rewrite_group g (start_group start g) c.moved c.world).stop ≡ o
          → MovedBy start (ds ++ (g ∷ [])) (rewrite_group g (start_group start g) c.moved c.world).stop (rewrite_group g (start_group start g) c.moved c.world).moved
      counted o q = ⊎_elim went halted (rewrite-ends g (start_group start g) c.moved c.world)
        where
          went : (rewrite_group g (start_group start g) c.moved c.world).stop ≡ going
              → MovedBy start (ds ++ (g ∷ [])) (rewrite_group g (start_group start g) c.moved c.world).stop (rewrite_group g (start_group start g) c.moved c.world).moved
          went z =
              let a = group-count history c.world u.sound g (start_group start g) c.moved (group-ascending start g (2 ^ 62) (file_count (records_of start))) files z in
              let b = sum_same (λ (k : ℕ). (record_at (records_of c.world) k).live) (λ (k : ℕ). (record_at (records_of start) k).live) (start_group start g)
              (all_map (λ (k : ℕ). record_at (records_of c.world) k ≡ record_at (records_of start) k) (λ (k : ℕ). (record_at (records_of c.world) k).live ≡ (record_at (records_of start) k).live) (start_group start g)
              (λ k y. ap (λ (r : Record). r.live) y) t.same.0) in
              let d : live_of start g ≡ sum (λ (k : ℕ). (record_at (records_of start) k).live) (start_group start g)
              = ap (λ (x : Bool). pick x 0 (sum (λ (k : ℕ). (record_at (records_of start) k).live) (start_group start g))) enough in
              let m = sum-snoc (live_of start) ds g in
              let n = here in
              subst (λ (o : Stop). MovedBy start (ds ++ (g ∷ [])) o (rewrite_group g (start_group start g) c.moved c.world).moved) (sym z) (omega arith)

          halted : (r : Refusal) × ((rewrite_group g (start_group start g) c.moved c.world).stop ≡ stopped r g) × ((rewrite_group g (start_group start g) c.moved c.world).moved ≡ c.moved)
              → MovedBy start (ds ++ (g ∷ [])) (rewrite_group g (start_group start g) c.moved c.world).stop (rewrite_group g (start_group start g) c.moved c.world).moved
          halted (r, z, y) =
              subst (λ (o : Stop). MovedBy start (ds ++ (g ∷ [])) o (rewrite_group g (start_group start g) c.moved c.world).moved) (sym z)
              (y ∙ here ∙ ap (sum (live_of start)) (sym p.0))

  tally-onward : (stop : Stop) (g : ℕ) → g ≤ 255 → (ds gs : List ℕ) → Splits ds (g ∷ gs) → (c : Course) → c.stop ≡ stop → Underway history start c → Tallied start ds (g ∷ gs) c
      → Tallied start (ds ++ (g ∷ [])) gs (onward stop g (start_group start g) c)
  tally-onward (stopped r h) g aged ds gs p c e u t = record {
    settings = t.settings;
    same = t.same.1;
    moved = subst (λ (o : Stop). MovedBy start (ds ++ (g ∷ [])) o c.moved) (sym e) (subst (λ (o : Stop). MovedBy start ds o c.moved) e t.moved);
  }
  tally-onward going g aged ds gs p c e u t = go (ltb (length (start_group start g)) c.world.settings.min_compaction_files) refl
    where
      limit : ltb (length (start_group start g)) start.settings.min_compaction_files ≡ ltb (length (start_group start g)) c.world.settings.min_compaction_files
      limit = ap (λ (x : Settings). ltb (length (start_group start g)) x.min_compaction_files) (sym t.settings)

      go : (b : Bool) → ltb (length (start_group start g)) c.world.settings.min_compaction_files ≡ b
          → Tallied start (ds ++ (g ∷ [])) gs (pick b c (rewrite_group g (start_group start g) c.moved c.world))
      go false q = tally-group g aged ds gs p c u e t (limit ∙ q)
      go true q =
          let a : c.moved ≡ sum (live_of start) ds = subst (λ (o : Stop). MovedBy start ds o c.moved) e t.moved in
          let b : live_of start g ≡ 0 = ap (λ (x : Bool). pick x 0 (sum (λ (k : ℕ). (record_at (records_of start) k).live) (start_group start g))) (limit ∙ q) in
          let m = sum-snoc (live_of start) ds g in
          record { settings = t.settings; same = t.same.1; moved = subst (λ (o : Stop). MovedBy start (ds ++ (g ∷ [])) o c.moved) (sym e) (omega arith) }

  tally-groups : (ds gs : List ℕ) → All (λ (g : ℕ). g ≤ 255) gs → Splits ds gs → (c : Course) → Underway history start c → Tallied start ds gs c
      → Tallied start (ds ++ gs) [] (groups_from gs start c)
  unfolding groups_from
  tally-groups ds [] y p c u t = rw (append-nil ds) t
  tally-groups ds (g ∷ gs) y p c u t =
      subst (λ (l : List ℕ). Tallied start l [] (groups_from gs start (onward c.stop g (start_group start g) c))) (append_assoc ds (g ∷ []) gs)
      (tally-groups (ds ++ (g ∷ [])) gs y.1 p.2 (onward c.stop g (start_group start g) c)
      (onward-well history start st c.stop g y.0 c refl u)
      (tally-onward c.stop g y.0 ds gs p c refl u t))

  all_same : (gs : List ℕ) → All (λ (g : ℕ). All (λ (k : ℕ). record_at (records_of start) k ≡ record_at (records_of start) k) (start_group start g)) gs
  all_same [] = tt
  all_same (g ∷ gs) = (among-all (λ (k : ℕ). record_at (records_of start) k ≡ record_at (records_of start) k) (start_group start g) (λ k a. refl), all_same gs)

  -- LAW: maintenance on a store of the invariant stops with 4, 5 or 7, or with 3 where an object of the group is of max_object_size or more
  pub maintain-answer : AnswersBut (λ r g. Refusable start (start_group start g) r) start
  unfolding maintain_call decide course_of sum keep
  maintain-answer = rw (sound-fine start (engine history) st) (by (course_of start).stop u.stop t.moved)
    where
      u : Underway history start (course_of start)
      u = groups-well history (1 ∷ 2 ∷ 3 ∷ []) (omega arith, (omega arith, (omega arith, tt))) start st (record { stop = going; moved = 0; world = start }) (underway-first history start st)

      t : Tallied start (1 ∷ 2 ∷ 3 ∷ []) [] (course_of start)
      t = tally-groups [] (1 ∷ 2 ∷ 3 ∷ []) (omega arith, (omega arith, (omega arith, tt)))
          (refl, ((λ z. omega arith), ((λ z. omega arith), tt)), (refl, ((λ z. omega arith), tt), (refl, tt, tt)))
          (record { stop = going; moved = 0; world = start }) (underway-first history start st)
          (record { settings = refl; same = all_same (1 ∷ 2 ∷ 3 ∷ []); moved = refl })

      by : (o : Stop) → StopsWell start o → MovedBy start (1 ∷ 2 ∷ 3 ∷ []) o (course_of start).moved
          → ((ended o (course_of start)).answer ≡ maintain_given (Ok (sum (live_of start) (1 ∷ 2 ∷ 3 ∷ []))))
          ⊎ ((r : Refusal) × (g : ℕ) × ((ended o (course_of start)).answer ≡ maintain_given (Err (stopped_with r g (sum (live_of start) (before g))))) × Refusable start (start_group start g) r)
      by going s m = inl (ap (λ (n : ℕ). maintain_given (Ok n)) m)
      by (stopped r g) s m = inr (r, g, ap (λ (n : ℕ). maintain_given (Err (stopped_with r g n))) m, s)

  -- LAW: with 4, 5 or 7 only, where no object is so large
  pub small-answer : SmallWorld start → Answers start
  small-answer small = ⊎_elim inl (λ z. inr (z.0, z.1, z.2, ⊎_elim (λ p. p) (λ o. absurd (not-oversized start small (start_group start z.1) o.1)) z.3)) maintain-answer

-- C: on any store of the invariant, whatever calls were made
pub lived-maintenance : (l : Life) → Starts l → (calls : List Call) → AnswersBut (λ r g. Refusable (lived l calls).world (start_group (lived l calls).world g) r) (lived l calls).world
lived-maintenance l s calls = maintain-answer (lived l calls).history (lived l calls).world (sound-lived l s calls)

-- with 4, 5 or 7 only, if no object was of max_object_size or more as it started
pub small-maintenance : (l : Life) → Starts l → SmallWorld l.world → (calls : List Call) → Answers (lived l calls).world
small-maintenance l s small calls = small-answer (lived l calls).history (lived l calls).world (sound-lived l s calls) (small-lived l s small calls)

-- C: so on every store of demand 3 that began with no file
pub any-maintenance : (w : World) → out_of_range w.settings (length w.heap) w.table ≡ false → Blank w → (calls : List Call) → Answers (lived (born w) calls).world
any-maintenance w range blank = small-maintenance (born w) (born-starts w range blank) (born-small w range blank)
