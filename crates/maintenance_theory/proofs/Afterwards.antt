-- C: where the ids of a rewritten group are after the group and after the call, and what is left of its files.
use Rattle.std.specs.Prelude.{◌≡◌, refl, ◌⊎◌, ◌<◌, ◌≤◌, ◌∷◌, ◌^◌, Ok, Some}
use Rattle.std.proofs.Common.{sym, ◌∙◌, true≢false, inl, inr, ⊎_elim, arith, ne_eqb, ltb-false, le-ltb}
use Rattle.std.proofs.Math.Path.{ap, subst}
use Rattle.rules.specs.Base.{Bool, true, false, List, [], ℕ, zero, suc, length, ltb, pick, keep}
use Rattle.theory.specs.Types.{Record, Settings, Claims, Refusal}
use Rattle.rules.specs.BaseLaws.{All, Some as SomeOf}
use Rattle.rules.proofs.BaseLaws.{all_map, same?, order}
use Rattle.rules.specs.Refusal.{decide}
use Rattle.rules.specs.Condition1.{out_of_range}
use Rattle.rules.specs.Ops.{Op}
use Rattle.rules.specs.SlotFile.{File, empty, holds}
use Rattle.rules.specs.Table.{lookup}
use Rattle.rules.specs.TableLaws.{Has}
use Rattle.rules.proofs.TableLaws.{has-lookup, mapped-one}
use Rattle.rules.specs.Claims.{is_claimed}
use Rattle.rules.specs.FileMap.{empty_record, record_at, file_for, file_count}
use Rattle.rules.specs.FileMapLaws.{Among}
use Rattle.rules.proofs.FileMapLaws.{not-empty}
use Rattle.rules.specs.Install.{installed, installed_all}
use Rattle.rules.specs.InstallLaws.{is_at}
use Rattle.rules.specs.Maintenance.{found, files_of, Course, start_group, group_tests, maintain_call}
use Rattle.rules.specs.MaintenanceLaws.{Enough}
use Rattle.rules.proofs.MaintenanceLaws.{candidate, decided-one, group-decided, group-added}
use Rattle.rules.specs.Prune.{pruned}
use Rattle.rules.proofs.PruneLaws.{is-dead}
use Rattle.rules.specs.Reopen.{in_range, mapped_into}
use Rattle.rules.specs.World.{World, records_of, mappings, maintain_given}
use Rattle.theory.proofs.Counting.{count_none}
use Rattle.theory.specs.Newest.{masked_at}
use Rattle.theory.proofs.Places as places
use Rattle.theory.specs.Places.{view_at, Stands}
use Rattle.theory.proofs.Places.{own-file, found-in-range}
use Rattle.theory.specs.Picture.{views_of, picture_of}
use Rattle.theory.proofs.Sound.{table-rising, table-stands}
use Rattle.theory.specs.SoundWorld.{bounds_of, SoundWorld}
use Rattle.theory.specs.Standing.{AllStood}
use Rattle.history_theory.specs.Writing.{engine}
use Rattle.history_theory.proofs.Pruning.{file-slot, view-after, record-after, each-slot, sound-pruned}
use Rattle.maintenance_theory.specs.Tally.{heard_in}
use Rattle.maintenance_theory.proofs.Groups.{in_group}
use Rattle.theory.proofs.Lists.{among-get}
use Rattle.maintenance_theory.specs.Checked.{Oversized}
use Rattle.maintenance_theory.specs.Stopping.{Refusable, Remain, Stay}
use Rattle.maintenance_theory.proofs.Stopping.{stood-all-remain, group-files}
use Rattle.maintenance_theory.proofs.Sizes.{sources-decided, oversized-earlier}
use Rattle.history_theory.proofs.Maintaining.{files-rewritable, group-rewritten}
use Rattle.maintenance_theory.specs.Relocated.{Left}
use Rattle.maintenance_theory.proofs.Relocated.{group-relocates}
use Rattle.maintenance_theory.specs.Finished.{before, AnswersBut}
use Rattle.maintenance_theory.proofs.Finished.{maintain-answer}
use Rattle.maintenance_theory.specs.Exactly.{Inside}
use Rattle.maintenance_theory.proofs.Exactly.{moved-exactly}
use Rattle.maintenance_theory.specs.FirstRefused.{generations, Due, FirstRefused, new_files, finishing, finished_from, with_finished, Clears, Passes}
use Rattle.maintenance_theory.proofs.FirstRefused.{settings-finished, reached, reached-found, never_both, maintain-ends}
use Rattle.maintenance_theory.specs.Covered.{InFile}
use Rattle.maintenance_theory.proofs.Covered.{files-cover}
use Rattle.maintenance_theory.specs.Arrived.{Arrived}
use Rattle.maintenance_theory.proofs.Arrived.{arrived-left, stood-fewer, files-arrive}
use Rattle.history_theory.specs.Fresh.{Blank}
use Rattle.history_theory.specs.History.{Call, Life, lived, Starts, born}
use Rattle.history_theory.proofs.History.{sound-lived, born-starts}
use Rattle.maintenance_theory.specs.Afterwards.{Finishes, Rewrote, Rewrites}

module _ (history : List Op) (u : World) (s : SoundWorld u (engine history)) (g : ℕ) (aged : g ≤ 255) (ks : List ℕ) (files : All (λ (k : ℕ). 0 < (record_at (records_of u) k).label.lsn) ks)
    (sizes : Oversized u ks → ⊥) (enough : Enough u (files_of u.settings.target_file_size (found u ks))) where
  -- no test of it holds
  pub done : decide (group_tests u ks (files_of u.settings.target_file_size (found u ks))) ≡ Ok tt
  done =
      decided-one u (files_of u.settings.target_file_size (found u ks)) _ (Ok tt)
      (group-decided u ks (files_of u.settings.target_file_size (found u ks))
      (⊎_elim (λ z. absurd (sizes z.1)) (λ pass. pass) (sources-decided u history s ks files [])))
      enough

  stood : AllStood 0 g u (files_of u.settings.target_file_size (found u ks)) × SoundWorld (installed_all 0 g u (files_of u.settings.target_file_size (found u ks))) (engine history)
  stood = group-rewritten history g aged ks u s done

  group-left : (x : ℕ) → heard_in (found u ks) x ≡ false → Left u (installed_all 0 g u (files_of u.settings.target_file_size (found u ks))) x
  group-left x n =
      subst (λ (c : Course). Left u c.world x) (group-added g ks 0 u done)
      (⊎_elim (λ l. l) (λ a. absurd (true≢false (sym a.1 ∙ n))) (group-relocates history u s g aged ks 0 x))

  group-arrived : (x : ℕ) → heard_in (found u ks) x ≡ true → Arrived g u (installed_all 0 g u (files_of u.settings.target_file_size (found u ks))) x
  group-arrived x h =
      let c = files-cover x u.settings.target_file_size (found u ks) h in
      files-arrive history g (files_of u.settings.target_file_size (found u ks)) u s aged (files-rewritable history u s ks u.settings.target_file_size)
      enough.room.fits enough.room.slots (enough.positions (some-length (files_of u.settings.target_file_size (found u ks)) c)) x c
    where
      some-length : (fs : List (List Op)) → SomeOf (InFile x) fs → 0 < length fs
      some-length [] e = absurd e
      some-length (f ∷ fs) e = omega arith

  group-dead : (k : ℕ) → Among ks k → (record_at (records_of (installed_all 0 g u (files_of u.settings.target_file_size (found u ks)))) k).live ≡ 0
  unfolding mapped_into
  group-dead k a = stood.1.sound.counted k z.0 here ∙ count_none (λ (l : ℕ). in_range z.0.label (masked_at l)) (mappings v) none
    where
      v : World
      v = installed_all 0 g u (files_of u.settings.target_file_size (found u ks))

      z : (f : File) × (view_at (views_of u) k ≡ holds f)
      z = let y = file-slot u (engine history) s k (not-empty (record_at (records_of u) k) (among-get (λ (j : ℕ). 0 < (record_at (records_of u) j).label.lsn) ks files k a)) in (y.0, y.1)

      here : view_at (views_of v) k ≡ holds z.0
      here = stood-all-remain 0 g (files_of u.settings.target_file_size (found u ks)) u stood.0 k z.0 z.1

      -- no id is in the file
      no : (x l : ℕ) → lookup (mappings v) x ≡ Some l → file_for (records_of v) l ≡ Some k → (b : Bool) → heard_in (found u ks) x ≡ b → ⊥
      no x l e q true h =
          let y = group-arrived x h in
          let i : y.slot ≡ k = mapped-one (sym y.found ∙ ap (file_for (records_of v)) (mapped-one (sym y.table ∙ e)) ∙ q) in
          places.not-empty (sym y.free ∙ ap (view_at (views_of u)) i ∙ z.1)
      no x l e q false h =
          let y = group-left x h in
          let d = sym y.table ∙ e in
          true≢false (sym ((moved-exactly u history s ks files).every x (l, d, (k, a, sym (y.file l d) ∙ q))) ∙ h)

      none : (x l : ℕ) → Has (mappings v) x l → in_range z.0.label (masked_at l) ≡ false
      none x l h = go (same? t.0 k)
        where
          e : lookup (mappings v) x ≡ Some l
          e = has-lookup 0 (mappings v) (table-rising (bounds_of v) (picture_of v) (engine history) stood.1.sound) x l h

          t : (j : ℕ) × Stands (views_of v) x l j
          t = table-stands (bounds_of v) (picture_of v) (engine history) stood.1.sound x l e

          q : file_for (records_of v) l ≡ Some t.0
          q = own-file (views_of v) (records_of v) stood.1.sound.filed x l t.0 t.1

          go : (t.0 ≡ k) ⊎ (t.0 ≡ k → ⊥) → in_range z.0.label (masked_at l) ≡ false
          go (inl i) = absurd (no x l e (q ∙ ap Some i) (heard_in (found u ks) x) refl)
          go (inr n) = sym (found-in-range (views_of v) (records_of v) stood.1.sound.filed x l t.0 k t.1 z.0 here) ∙ ap (is_at k) q ∙ ne_eqb t.0 k n

  -- LAW: a group that nothing refuses
  pub group-rewrites : Rewrites history g u (installed_all 0 g u (files_of u.settings.target_file_size (found u ks))) ks
  group-rewrites = record {
    left = group-left;
    arrived = group-arrived;
    remain = stood-all-remain 0 g (files_of u.settings.target_file_size (found u ks)) u stood.0;
    fewer = stood-fewer 0 g u (files_of u.settings.target_file_size (found u ks)) stood.0;
    dead = group-dead;
  }

-- ---- the call
-- claims stay
claims-all : (g : ℕ) (files : List (List Op)) (w : World) → (installed_all 0 g w files).claims ≡ w.claims
unfolding installed_all installed
claims-all g [] w = refl
claims-all g (f ∷ fs) w = claims-all g fs (installed 0 g w f)

claims-finished : (w : World) (gs : List ℕ) (v : World) → (finished_from w gs v).claims ≡ v.claims
unfolding finished_from
claims-finished w [] v = refl
claims-finished w (g ∷ gs) v = claims-finished w gs (finishing w g v) ∙ go (ltb (length (start_group w g)) w.settings.min_compaction_files)
  where
    go : (b : Bool) → (pick b v (installed_all 0 g v (new_files w g))).claims ≡ v.claims
    go true = refl
    go false = claims-all g (new_files w g) v

-- generations: 1 to 3
is-generation : (g : ℕ) → 0 < g → g < 4 → Among generations g
is-generation g a b = go (order g 2)
  where
    go : (g < 2) ⊎ ((g ≡ 2) ⊎ (2 < g)) → Among generations g
    go (inl e) = inl (omega arith)
    go (inr (inl e)) = inr (inl (sym e))
    go (inr (inr e)) = inr (inr (inl (omega arith)))

within-three : (g : ℕ) → Among generations g → (0 < g) × (g < 4)
within-three g (inl e) = (omega arith, omega arith)
within-three g (inr (inl e)) = (omega arith, omega arith)
within-three g (inr (inr (inl e))) = (omega arith, omega arith)
within-three g (inr (inr (inr x))) = elim x [ ]

one_more : (w : World) (g : ℕ) → Among generations g → with_finished w (before (suc g)) ≡ finishing w g (with_finished w (before g))
unfolding keep finished_from
one_more w g (inl e) = subst (λ (m : ℕ). with_finished w (before (suc m)) ≡ finishing w m (with_finished w (before m))) e refl
one_more w g (inr (inl e)) = subst (λ (m : ℕ). with_finished w (before (suc m)) ≡ finishing w m (with_finished w (before m))) e refl
one_more w g (inr (inr (inl e))) = subst (λ (m : ℕ). with_finished w (before (suc m)) ≡ finishing w m (with_finished w (before m))) e refl
one_more w g (inr (inr (inr x))) = elim x [ ]

-- ---- pruning at last
module _ (history : List Op) (v : World) (s : SoundWorld v (engine history)) where
  -- an id keeps its file
  pruned-arrived : (g : ℕ) (w : World) (x : ℕ) → Arrived g w v x → Arrived g w (pruned v) x
  unfolding pruned
  pruned-arrived g w x a = record {
    location = a.location;
    slot = a.slot;
    file = a.file;
    free = a.free;
    table = a.table;
    found = q ∙ ap Some j;
    shows = ap (view_at (views_of (pruned v))) (sym j) ∙ kept.0 ∙ ap (view_at (views_of v)) j ∙ a.shows;
    generation = a.generation;
  }
    where
      t : (k : ℕ) × Stands (views_of (pruned v)) x a.location k
      t = table-stands (bounds_of (pruned v)) (picture_of (pruned v)) (engine history) (sound-pruned v (engine history) s).sound x a.location a.table

      q : file_for (records_of (pruned v)) a.location ≡ Some t.0
      q = own-file (views_of (pruned v)) (records_of (pruned v)) (sound-pruned v (engine history) s).sound.filed x a.location t.0 t.1

      kept : (view_at (views_of (pruned v)) t.0 ≡ view_at (views_of v) t.0) × (record_at (records_of (pruned v)) t.0 ≡ record_at (records_of v) t.0)
      kept = ⊎_elim (λ c. c) (λ c. absurd (places.not-empty (sym c.1 ∙ t.1.shows))) (each-slot v (engine history) s t.0)

      j : t.0 ≡ a.slot
      j = mapped-one (
          sym (own-file (views_of v) (records_of v) s.sound.filed x a.location t.0
          (record { file = t.1.file; raw = t.1.raw; shows = sym kept.0 ∙ t.1.shows; entry = t.1.entry; located = t.1.located }))
          ∙ a.found)

  -- an unclaimed file without live entries is removed
  pruned-dead : (k : ℕ) (c : File) → view_at (views_of v) k ≡ holds c → 0 < (record_at (records_of v) k).label.lsn → (record_at (records_of v) k).live ≡ 0 → is_claimed v.claims k ≡ false
      → (view_at (views_of (pruned v)) k ≡ empty) × (record_at (records_of (pruned v)) k ≡ empty_record)
  pruned-dead k c h some none free =
      let e = not-empty (record_at (records_of v) k) some in
      let d = is-dead v.claims k (record_at (records_of v) k) (record { file = e; live = none; unclaimed = free }) in (
        view-after v (engine history) s k (file-slot v (engine history) s k e).2 ∙ ap (λ (b : Bool). pick b empty (view_at (views_of v) k)) d,
        record-after v (engine history) s k ∙ ap (λ (b : Bool). pick b empty_record (record_at (records_of v) k)) d,
      )

module _ (history : List Op) (w : World) (s : SoundWorld w (engine history)) where
  -- the generations below n pass
  abbrev Below : ℕ → Type 0
  Below n = (h : ℕ) → Among generations h → h < n → Passes w h

  still : (n : ℕ) → Among generations n ⊎ (n ≡ 4) → Below n → (g k : ℕ) → Among (start_group w g) k → (c : File) × (view_at (views_of (with_finished w (before n))) k ≡ holds c)
  still n i p g k a =
      let t = reached history w s n i p in
      let z = file-slot (with_finished w (before n)) (engine history) t.0 k
      (not-empty (record_at (records_of (with_finished w (before n))) k) (t.1 k (among-get (λ (j : ℕ). 0 < (record_at (records_of w) j).label.lsn) (start_group w g) (group-files w history s g) k a))) in
      (z.0, z.1)

  -- a due generation's turn
  turn-rewrites : (g : ℕ) → Among generations g → Due w g → Below (suc g) → Rewrites history g (with_finished w (before g)) (with_finished w (before (suc g))) (start_group w g)
  turn-rewrites g i due p =
      subst (λ (v : World). Rewrites history g (with_finished w (before g)) v (start_group w g)) after
      (group-rewrites history u t.0 g (let l = (within-three g i).1 in omega arith) (start_group w g) (all_map (λ (k : ℕ). 0 < (record_at (records_of w) k).label.lsn) (λ (k : ℕ). 0 < (record_at (records_of u) k).label.lsn) (start_group w g) t.1 (group-files w history s g))
      (λ o. clear.sizes (oversized-earlier history w u s (start_group w g) (group-files w history s g) t.2 (settings-finished w (before g) w) o)) (subst (Enough u) (sym same) clear.enough))
    where
      u : World
      u = with_finished w (before g)

      earlier : Below g
      earlier h a l = p h a (omega arith)

      t : SoundWorld u (engine history) × Stay w u × Remain w u
      t = reached history w s g (inl i) earlier

      clear : Clears w g
      clear = p g i (omega arith) due

      same : files_of u.settings.target_file_size (found u (start_group w g)) ≡ new_files w g
      same =
          ap (λ (c : Settings). files_of c.target_file_size (found u (start_group w g))) (settings-finished w (before g) w)
          ∙ ap (files_of w.settings.target_file_size) (reached-found history w s g i earlier)

      after : installed_all 0 g u (files_of u.settings.target_file_size (found u (start_group w g))) ≡ with_finished w (before (suc g))
      after =
          ap (installed_all 0 g u) same
          ∙ sym (one_more w g i ∙ ap (λ (b : Bool). pick b u (installed_all 0 g u (new_files w g))) (le-ltb (length (start_group w g)) w.settings.min_compaction_files due))

  -- an id that has arrived stays where it is while a later generation has its turn
  carried : (g : ℕ) → Among generations g → (m : ℕ) → Among generations m → g < m → Below (suc m) → (x : ℕ)
      → Arrived g (with_finished w (before g)) (with_finished w (before m)) x → Arrived g (with_finished w (before g)) (with_finished w (before (suc m))) x
  carried g i m j l p x a = go (ltb (length (start_group w m)) w.settings.min_compaction_files) refl
    where
      u : World
      u = with_finished w (before m)

      t : SoundWorld u (engine history) × Stay w u × Remain w u
      t = reached history w s m (inl j) (λ h b c. p h b (omega arith))

      -- it is in none of that generation's files
      out : (b : Bool) → heard_in (found u (start_group w m)) x ≡ b → heard_in (found u (start_group w m)) x ≡ false
      out false h = h
      out true h =
          let y = (moved-exactly u history t.0 (start_group w m)
          (all_map (λ (k : ℕ). 0 < (record_at (records_of w) k).label.lsn) (λ (k : ℕ). 0 < (record_at (records_of u) k).label.lsn) (start_group w m) t.1 (group-files w history s m))).only x h in
          let e : a.slot ≡ y.2.0 = mapped-one (sym a.found ∙ ap (file_for (records_of u)) (mapped-one (sym a.table ∙ y.1)) ∙ y.2.2) in
          let z = still g (inl i) (λ h b c. p h b (omega arith)) m y.2.0 y.2.1 in
          absurd (places.not-empty (sym a.free ∙ ap (view_at (views_of (with_finished w (before g)))) e ∙ z.1))

      go : (b : Bool) → ltb (length (start_group w m)) w.settings.min_compaction_files ≡ b → Arrived g (with_finished w (before g)) (with_finished w (before (suc m))) x
      go true e =
          subst (λ (v : World). Arrived g (with_finished w (before g)) v x)
          (sym (one_more w m j ∙ ap (λ (b : Bool). pick b u (installed_all 0 m u (new_files w m))) e)) a
      go false e =
          let r = turn-rewrites m j (ltb-false _ _ e) p in
          arrived-left g (with_finished w (before g)) u (with_finished w (before (suc m))) x a (r.left x (out (heard_in (found u (start_group w m)) x) refl)) r.remain

  -- so a file of the group has no live entry still
  dead-still : (g m : ℕ) → Among generations m → Below (suc m) → (k : ℕ) → Among (start_group w g) k
      → (record_at (records_of (with_finished w (before m))) k).live ≡ 0 → (record_at (records_of (with_finished w (before (suc m)))) k).live ≡ 0
  dead-still g m j p k a n = go (ltb (length (start_group w m)) w.settings.min_compaction_files) refl
    where
      u : World
      u = with_finished w (before m)

      go : (b : Bool) → ltb (length (start_group w m)) w.settings.min_compaction_files ≡ b → (record_at (records_of (with_finished w (before (suc m)))) k).live ≡ 0
      go true e =
          subst (λ (v : World). (record_at (records_of v) k).live ≡ 0)
          (sym (one_more w m j ∙ ap (λ (b : Bool). pick b u (installed_all 0 m u (new_files w m))) e)) n
      go false e =
          let z = still m (inl j) (λ h b c. p h b (omega arith)) g k a in
          let y = (turn-rewrites m j (ltb-false _ _ e) p).fewer k z.0 z.1 in
          omega arith

  module _ (g : ℕ) (f : Finishes w g) where
    -- found, by the store in which the group is rewritten
    is_found : (x : ℕ) → Inside w (start_group w g) x → heard_in (found (with_finished w (before g)) (start_group w g)) x ≡ true
    is_found x i =
        ap (λ (os : List Op). heard_in os x) (reached-found history w s g f.generation (λ h b c. f.passes h b (omega arith)))
        ∙ (moved-exactly w history s (start_group w g) (group-files w history s g)).every x i

    here : Rewrites history g (with_finished w (before g)) (with_finished w (before (suc g))) (start_group w g)
    here = turn-rewrites g f.generation f.due f.passes

    -- as each later turn comes, and at last
    arrived-at : (n : ℕ) → g < n → n ≤ 4 → Below n → (x : ℕ) → Inside w (start_group w g) x → Arrived g (with_finished w (before g)) (with_finished w (before n)) x
    arrived-at zero l e p x i = absurd (omega arith)
    arrived-at (suc m) l e p x i = go (order g m) (λ b. arrived-at m b (omega arith) (λ h c d. p h c (omega arith)) x i)
      where
        go : (g < m) ⊎ ((g ≡ m) ⊎ (m < g)) → (g < m → Arrived g (with_finished w (before g)) (with_finished w (before m)) x) → Arrived g (with_finished w (before g)) (with_finished w (before (suc m))) x
        go (inl b) ih = carried g f.generation m (is-generation m (omega arith) (omega arith)) b p x (ih b)
        go (inr (inl b)) ih = subst (λ (k : ℕ). Arrived g (with_finished w (before g)) (with_finished w (before (suc k))) x) b (here.arrived x (is_found x i))
        go (inr (inr b)) ih = absurd (omega arith)

    dead-at : (n : ℕ) → g < n → n ≤ 4 → Below n → (k : ℕ) → Among (start_group w g) k → (record_at (records_of (with_finished w (before n))) k).live ≡ 0
    dead-at zero l e p k a = absurd (omega arith)
    dead-at (suc m) l e p k a = go (order g m) (λ b. dead-at m b (omega arith) (λ h c d. p h c (omega arith)) k a)
      where
        go : (g < m) ⊎ ((g ≡ m) ⊎ (m < g)) → (g < m → (record_at (records_of (with_finished w (before m))) k).live ≡ 0) → (record_at (records_of (with_finished w (before (suc m)))) k).live ≡ 0
        go (inl b) ih = dead-still g m (is-generation m (omega arith) (omega arith)) p k a (ih b)
        go (inr (inl b)) ih = subst (λ (i : ℕ). (record_at (records_of (with_finished w (before (suc i)))) k).live ≡ 0) b (here.dead k a)
        go (inr (inr b)) ih = absurd (omega arith)

    -- a refused call stopped at a later generation
    later : (h : ℕ) (r : Refusal) → FirstRefused w h r → (g < h) × (h ≤ 4)
    later h r e = go (order g h)
      where
        go : (g < h) ⊎ ((g ≡ h) ⊎ (h < g)) → (g < h) × (h ≤ 4)
        go (inl l) = (l, let b = (within-three h e.generation).1 in omega arith)
        go (inr (inl l)) = absurd (never_both history w s h r e.due e.refused (f.passes h e.generation (omega arith)))
        go (inr (inr l)) = absurd (never_both history w s h r e.due e.refused (f.passes h e.generation (omega arith)))

    -- success: the group's slots are empty
    success : (n : ℕ) → (maintain_call w).answer ≡ maintain_given (Ok n) → (k : ℕ) → Among (start_group w g) k
        → (view_at (views_of (pruned (with_finished w (before 4)))) k ≡ empty) × (record_at (records_of (pruned (with_finished w (before 4)))) k ≡ empty_record)
    success n a k i =
        let p : Below 4 = λ h b l. ((maintain-ends history w s).succeeds n a).0 h b in
        let t = reached history w s 4 (inr refl) p in
        let z = still 4 (inr refl) p g k i in
        pruned-dead history (with_finished w (before 4)) t.0 k z.0 z.1
        (t.1 k (among-get (λ (j : ℕ). 0 < (record_at (records_of w) j).label.lsn) (start_group w g) (group-files w history s g) k i))
        (dead-at 4 (within-three g f.generation).1 (omega arith) p k i)
        (ap (λ (c : Claims). is_claimed c k) (claims-finished w (before 4) w) ∙ (in_group w g (2 ^ 62) (file_count (records_of w)) k i).candidate.unclaimed)

    -- C: what becomes of a finished generation's ids and files
    pub finished-rewrote : Rewrote w g
    unfolding keep
    finished-rewrote = record {
      moved = λ x i. here.arrived x (is_found x i);
      stays = λ x i. stays x i (maintain-answer history w s);
      dead = here.dead;
      left = λ k i. left k i (maintain-answer history w s);
      emptied = λ n a k i.
          subst (λ (v : World). (view_at (views_of v) k ≡ empty) × (record_at (records_of v) k ≡ empty_record)) (sym ((maintain-ends history w s).prunes n a)) (success n a k i);
    }
      where
        stays : (x : ℕ) → Inside w (start_group w g) x → AnswersBut (λ r g. Refusable w (start_group w g) r) w → Arrived g (with_finished w (before g)) (maintain_call w).world x
        stays x i (inl a) =
            let p : Below 4 = λ h b l. ((maintain-ends history w s).succeeds _ a).0 h b in
            subst (λ (v : World). Arrived g (with_finished w (before g)) v x) (sym ((maintain-ends history w s).prunes _ a))
            (pruned-arrived history (with_finished w (before 4)) (reached history w s 4 (inr refl) p).0 g (with_finished w (before g)) x
            (arrived-at 4 (within-three g f.generation).1 (omega arith) p x i))
        stays x i (inr (r, h, a, z)) =
            let e = ((maintain-ends history w s).stops r h _ a).0 in
            subst (λ (v : World). Arrived g (with_finished w (before g)) v x) (sym ((maintain-ends history w s).keeps r h _ a))
            (arrived-at h (later h r e).0 (later h r e).1 e.earlier x i)

        left : (k : ℕ) → Among (start_group w g) k → AnswersBut (λ r g. Refusable w (start_group w g) r) w → (record_at (records_of (maintain_call w).world) k).live ≡ 0
        left k i (inl a) =
            subst (λ (v : World). (record_at (records_of v) k).live ≡ 0) (sym ((maintain-ends history w s).prunes _ a)) (ap (λ (r : Record). r.live) (success _ a k i).1)
        left k i (inr (r, h, a, z)) =
            let e = ((maintain-ends history w s).stops r h _ a).0 in
            subst (λ (v : World). (record_at (records_of v) k).live ≡ 0) (sym ((maintain-ends history w s).keeps r h _ a))
            (dead-at h (later h r e).0 (later h r e).1 e.earlier k i)

-- C: on any store of the invariant, whatever calls were made
pub lived-maintenance-rewrote : (l : Life) → Starts l → (calls : List Call) → (g : ℕ) → Finishes (lived l calls).world g → Rewrote (lived l calls).world g
lived-maintenance-rewrote l s calls = finished-rewrote (lived l calls).history (lived l calls).world (sound-lived l s calls)

-- C: so on every store of demand 3 that began with no file
pub any-maintenance-rewrote : (w : World) → out_of_range w.settings (length w.heap) w.table ≡ false → Blank w → (calls : List Call) → (g : ℕ) → Finishes (lived (born w) calls).world g
    → Rewrote (lived (born w) calls).world g
any-maintenance-rewrote w range blank = lived-maintenance-rewrote (born w) (born-starts w range blank)
