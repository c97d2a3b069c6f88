-- C exactly: maintenance stops at the first generation that is due and refused, with 3 for an object that is too large, else with 4, 5 or 7 by its new
-- files, the empty slots and the base; and it keeps only the generations before it.
use Rattle.std.specs.Prelude.{◌≡◌, ◌⊎◌, ◌<◌, ◌∷◌, ◌++◌, Err, Ok}
use Rattle.std.proofs.Math.Path.{refl}
use Rattle.std.proofs.Common.{sym, ap, ◌∙◌, subst, true≢false, inl, inr, ⊎_elim, arith, ltb-true, ltb-false, le-ltb}
use Rattle.rules.specs.Base.{Bool, true, false, List, [], ℕ, suc, length, ltb, pick, keep, sum}
use Rattle.theory.specs.Types.{Settings, Refusal, ObjectSize, Answer, stopped_with}
use Rattle.rules.proofs.Answers.{maintain-one}
use Rattle.rules.specs.BaseLaws.{All}
use Rattle.rules.proofs.BaseLaws.{order}
use Rattle.rules.specs.Refusal.{Test, decide}
use Rattle.rules.specs.Condition1.{out_of_range}
use Rattle.rules.specs.Ops.{Content, put, delete, Op}
use Rattle.rules.specs.SettledLaws.{Last, silent, last, last_on}
use Rattle.rules.proofs.SettledLaws.{ops-ext}
use Rattle.rules.specs.FileMapLaws.{Among}
use Rattle.rules.specs.Install.{installed_all, room_tests, empty_of, position_tests}
use Rattle.rules.specs.Maintenance.{found, files_of, Stop, going, stopped, Course, start_group, group_tests, rewrite_group, onward, groups_from, course_of, ended, maintain_call}
use Rattle.rules.specs.MaintenanceLaws.{Lacks, DecidedBy, SourcesPass}
use Rattle.rules.proofs.MaintenanceLaws.{decided-one, group-decided, group-added, group-kept}
use Rattle.rules.specs.Prune.{pruned}
use Rattle.rules.specs.World.{World, maintain_given, After}
use Rattle.theory.specs.Picture.{last_says}
use Rattle.theory.specs.SoundWorld.{SmallWorld, SoundWorld}
use Rattle.theory.proofs.SoundWorld.{sound-fine}
use Rattle.history_theory.specs.Writing.{engine}
use Rattle.history_theory.specs.Moving.{Movable}
use Rattle.history_theory.proofs.Moving.{found-movable}
use Rattle.history_theory.proofs.Rewriting.{last-all}
use Rattle.maintenance_theory.specs.Tally.{known}
use Rattle.maintenance_theory.specs.Checked.{Oversized}
use Rattle.maintenance_theory.proofs.Checked.{not-oversized}
use Rattle.theory.proofs.Lists.{among-get}
use Rattle.maintenance_theory.specs.Stopping.{Refusable, Remain, Stay, Underway}
use Rattle.maintenance_theory.proofs.Stopping.{settings-all, group-files, underway-first, still-files, onward-well}
use Rattle.maintenance_theory.proofs.Sizes.{sources-decided, passed-small, oversized-later, oversized-earlier}
use Rattle.maintenance_theory.specs.Finished.{live_of, before, AnswersBut}
use Rattle.maintenance_theory.proofs.Finished.{maintain-answer}
use Rattle.maintenance_theory.specs.Exactly.{Exactly, turn}
use Rattle.maintenance_theory.proofs.Exactly.{moved-exactly, sound-moves}
use Rattle.history_theory.specs.Fresh.{Blank}
use Rattle.history_theory.specs.History.{Call, Life, lived, Starts, born}
use Rattle.history_theory.proofs.History.{sound-lived, born-starts}
use Rattle.maintenance_theory.specs.FirstRefused.{generations, Due, new_files, finishing, finished_from, with_finished, RefusedWith, Passes, FirstRefused, NoneRefused, Ends, At}

-- ---- what a group finds, and so its new files, are the same when its turn comes
said-one : (c d : Content) → last_says (last c) ≡ last_says (last d) → c ≡ d
said-one (put a) (put b) e = ap put (cc)
said-one (put a) delete e = absurd (let z : ◌≡◌ {A = ℕ} 0 1 = cc in omega arith)
said-one delete (put b) e = absurd (let z : ◌≡◌ {A = ℕ} 0 1 = cc in omega arith)
said-one delete delete e = refl

found-same : (history : List Op) (w v : World) (ks : List ℕ) → SoundWorld w (engine history) → SoundWorld v (engine history)
    → Exactly w ks (found v ks) → Exactly w ks (found w ks) → found v ks ≡ found w ks
found-same history w v ks s t a b =
    ops-ext 0 0 (found v ks) (found w ks) a.once b.once (λ x. go x (last_on (found v ks) x) refl (last_on (found w ks) x) refl)
  where
    go : (x : ℕ) (l : Last) → last_on (found v ks) x ≡ l → (m : Last) → last_on (found w ks) x ≡ m → last_on (found v ks) x ≡ last_on (found w ks) x
    go x silent p silent q = p ∙ sym q
    go x (last c) p (last d) q =
        let i = (last-all (Movable (engine history)) (found v ks) (found-movable v history t ks) x c p).0 in
        let j = (last-all (Movable (engine history)) (found w ks) (found-movable w history s ks) x d q).0 in
        p ∙ ap last (said-one c d (sym i ∙ j)) ∙ sym q
    go x silent p (last d) q = absurd (true≢false (sym (a.every x (b.only x (ap known q))) ∙ ap known p))
    go x (last c) p silent q = absurd (true≢false (sym (b.every x (a.only x (ap known p))) ∙ ap known q))

-- settings stay
pub settings-finished : (w : World) (gs : List ℕ) (v : World) → (finished_from w gs v).settings ≡ v.settings
unfolding finished_from
settings-finished w [] v = refl
settings-finished w (g ∷ gs) v = settings-finished w gs (finishing w g v) ∙ go (ltb (length (start_group w g)) w.settings.min_compaction_files)
  where
    go : (b : Bool) → (pick b v (installed_all 0 g v (new_files w g))).settings ≡ v.settings
    go true = refl
    go false = settings-all g (new_files w g) v

module _ (history : List Op) (w : World) (s : SoundWorld w (engine history)) where
  -- so its new files are
  pub same-files : (g : ℕ) (v : World) → SoundWorld v (engine history) → v.settings ≡ w.settings → Exactly w (start_group w g) (found v (start_group w g))
      → files_of v.settings.target_file_size (found v (start_group w g)) ≡ new_files w g
  same-files g v t same x =
      ap (λ (c : Settings). files_of c.target_file_size (found v (start_group w g))) same
      ∙ ap (files_of w.settings.target_file_size) (found-same history w v (start_group w g) s t x (moved-exactly w history s (start_group w g) (group-files w history s g)))

  -- one more generation passes
  passes-next : (g : ℕ) → ((h : ℕ) → Among generations h → h < g → Passes w h) → Passes w g → (h : ℕ) → Among generations h → h < suc g → Passes w h
  passes-next g p q h a l = go (order h g)
    where
      go : (h < g) ⊎ ((h ≡ g) ⊎ (g < h)) → Passes w h
      go (inl i) = p h a i
      go (inr (inl i)) = subst (Passes w) (sym i) q
      go (inr (inr i)) = absurd (omega arith)

  module _ (g : ℕ) (is : Among generations g) (step : with_finished w (before (suc g)) ≡ finishing w g (with_finished w (before g))) where
    one-group : (c : Course) → Underway history w c → Exactly w (start_group w g) (found c.world (start_group w g)) → c.world ≡ with_finished w (before g)
        → ((h : ℕ) → Among generations h → h < g → Passes w h) → Due w g
        → At w (suc g) (rewrite_group g (start_group w g) c.moved c.world).stop (rewrite_group g (start_group w g) c.moved c.world).world
    unfolding group_tests
    one-group c u x e p due = split (sources-decided c.world history u.sound (start_group w g) (still-files history w s g c u) (limits))
      where
        files : List (List Op)
        files = files_of c.world.settings.target_file_size (found c.world (start_group w g))

        limits : List Test
        limits = room_tests c.world.settings.slot_bytes (empty_of c.world) files ++ position_tests c.world.state.next_position files

        same : files ≡ new_files w g
        same = same-files g c.world u.sound u.settings x

        tests : List Test
        tests = group_tests c.world (start_group w g) files

        here : SourcesPass c.world (start_group w g) → (a : Answer) → decide tests ≡ a → DecidedBy (with_finished w (before g)) (new_files w g) a
        here pass a q =
            subst (λ (v : World). DecidedBy v (new_files w g) a) e
            (subst (λ (fs : List (List Op)). DecidedBy c.world fs a) same
            (subst (DecidedBy c.world files) q (group-decided c.world (start_group w g) files pass)))

        small : SourcesPass c.world (start_group w g) → Oversized w (start_group w g) → ⊥
        small pass o = passed-small c.world history u.sound (start_group w g) pass (oversized-later w c.world (start_group w g) u.remain u.settings o)

        refuses : (r : Refusal) → decide tests ≡ Err r → RefusedWith w g r
            → At w (suc g) (rewrite_group g (start_group w g) c.moved c.world).stop (rewrite_group g (start_group w g) c.moved c.world).world
        refuses r q f =
            subst (λ (d : Course). At w (suc g) d.stop d.world) (sym (group-kept g (start_group w g) c.moved c.world r q))
            (e, record { generation = is; due = due; refused = f; earlier = p }, omega arith)

        by : SourcesPass c.world (start_group w g) → (a : Answer) → decide tests ≡ a
            → At w (suc g) (rewrite_group g (start_group w g) c.moved c.world).stop (rewrite_group g (start_group w g) c.moved c.world).world
        by pass (Ok _) q =
            subst (λ (d : Course). At w (suc g) d.stop d.world) (sym (group-added g (start_group w g) c.moved c.world q)) (
              ap (λ (fs : List (List Op)). installed_all 0 g c.world fs) same
                  ∙ ap (λ (v : World). installed_all 0 g v (new_files w g)) e
                  ∙ sym (step ∙ ap (λ (b : Bool). pick b (with_finished w (before g)) (installed_all 0 g (with_finished w (before g)) (new_files w g))) (le-ltb (length (start_group w g)) w.settings.min_compaction_files due)),
              passes-next g p (λ d. record { sizes = small pass; enough = here pass (Ok tt) q }),
            )
        by pass (Err r) q = refuses r q (inr (small pass, here pass (Err r) q))

        split : ((decide tests ≡ Err ObjectSize) × Oversized c.world (start_group w g)) ⊎ SourcesPass c.world (start_group w g)
            → At w (suc g) (rewrite_group g (start_group w g) c.moved c.world).stop (rewrite_group g (start_group w g) c.moved c.world).world
        split (inl (q, o)) = refuses ObjectSize q (inl (refl, oversized-earlier history w c.world s (start_group w g) (group-files w history s g) u.remain u.settings o))
        split (inr pass) = by pass (decide tests) refl

    one-turn : (c : Course) → Underway history w c → Exactly w (start_group w g) (found c.world (start_group w g)) → (stop : Stop) → c.stop ≡ stop → At w g stop c.world
        → At w (suc g) (onward stop g (start_group w g) c).stop (onward stop g (start_group w g) c).world
    one-turn c u x (stopped r h) q (e, f, l) = subst (λ (o : Stop). At w (suc g) o c.world) (sym q) (e, f, omega arith)
    one-turn c u x going q (e, p) = go (ltb (length (start_group w g)) c.world.settings.min_compaction_files) refl
      where
        limit : ltb (length (start_group w g)) w.settings.min_compaction_files ≡ ltb (length (start_group w g)) c.world.settings.min_compaction_files
        limit = ap (λ (x : Settings). ltb (length (start_group w g)) x.min_compaction_files) (sym u.settings)

        go : (b : Bool) → ltb (length (start_group w g)) c.world.settings.min_compaction_files ≡ b
            → At w (suc g) (pick b c (rewrite_group g (start_group w g) c.moved c.world)).stop (pick b c (rewrite_group g (start_group w g) c.moved c.world)).world
        go false z = one-group c u x e p (ltb-false _ _ (limit ∙ z))
        go true z =
            let few = ltb-true (length (start_group w g)) w.settings.min_compaction_files (limit ∙ z) in
            subst (λ (o : Stop). At w (suc g) o c.world) (sym q) (
              e ∙ sym (step ∙ ap (λ (b : Bool). pick b (with_finished w (before g)) (installed_all 0 g (with_finished w (before g)) (new_files w g))) (limit ∙ z)),
              passes-next g p (λ d. absurd (omega arith)),
            )

  -- a generation that passes is not refused, and one is refused with one number
  pub never_both : (g : ℕ) (r : Refusal) → Due w g → RefusedWith w g r → Passes w g → ⊥
  never_both g r due (inl (e, o)) p = (p due).sizes o
  never_both g r due (inr (n, l)) p =
      let e = decided-one (with_finished w (before g)) (new_files w g) (Err r) (Ok tt) l (p due).enough in
      let z : ◌≡◌ {A = ℕ} 0 1 = cc in
      omega arith

  one_number : (g : ℕ) (r q : Refusal) → RefusedWith w g r → RefusedWith w g q → r ≡ q
  one_number g r q (inl a) (inl b) = a.0 ∙ sym b.0
  one_number g r q (inl a) (inr b) = absurd (b.0 a.1)
  one_number g r q (inr a) (inl b) = absurd (a.0 b.1)
  one_number g r q (inr a) (inr b) = let z = decided-one (with_finished w (before g)) (new_files w g) (Err r) (Err q) a.1 b.1 in cc

  one-refused : (g h : ℕ) (r q : Refusal) → FirstRefused w g r → FirstRefused w h q → (g ≡ h) × (r ≡ q)
  one-refused g h r q a b = go (order g h)
    where
      go : (g < h) ⊎ ((g ≡ h) ⊎ (h < g)) → (g ≡ h) × (r ≡ q)
      go (inl i) = absurd (never_both g r a.due a.refused (b.earlier g a.generation i))
      go (inr (inl e)) = (e, one_number h r q (subst (λ (i : ℕ). RefusedWith w i r) e a.refused) b.refused)
      go (inr (inr i)) = absurd (never_both h q b.due b.refused (a.earlier h b.generation i))

  -- where the call stands as a generation's turn comes
  abbrev Stand : ℕ → Type 0
  Stand g = (c : Course) × Underway history w c × At w g c.stop c.world × Exactly w (start_group w g) (found c.world (start_group w g))

  -- each turn, and the end
  turns : All Stand generations × (Underway history w (course_of w) × At w 4 (course_of w).stop (course_of w).world)
  unfolding course_of groups_from keep finished_from
  turns = (((c1, u1, t1, x.0), ((c2, u2, t2, x.1.0), ((c3, u3, t3, x.1.1.0), tt))), (u4, t4))
    where
      c1 : Course
      c1 = record { stop = going; moved = 0; world = w }

      c2 : Course
      c2 = onward c1.stop 1 (start_group w 1) c1

      c3 : Course
      c3 = onward c2.stop 2 (start_group w 2) c2

      u1 : Underway history w c1
      u1 = underway-first history w s

      u2 : Underway history w c2
      u2 = onward-well history w s c1.stop 1 (omega arith) c1 refl u1

      u3 : Underway history w c3
      u3 = onward-well history w s c2.stop 2 (omega arith) c2 refl u2

      u4 : Underway history w (onward c3.stop 3 (start_group w 3) c3)
      u4 = onward-well history w s c3.stop 3 (omega arith) c3 refl u3

      x : All (λ (g : ℕ). Exactly w (start_group w g) (found (turn w g).world (start_group w g))) generations
      x = (sound-moves history w s).groups

      t1 : At w 1 c1.stop c1.world
      t1 = (refl, none)
        where
          none : (h : ℕ) → Among generations h → h < 1 → Passes w h
          none h (inl e) l = absurd (omega arith)
          none h (inr (inl e)) l = absurd (omega arith)
          none h (inr (inr (inl e))) l = absurd (omega arith)
          none h (inr (inr (inr x5))) l = elim x5 [ ]

      t2 : At w 2 c2.stop c2.world
      t2 = one-turn 1 (inl refl) refl c1 u1 x.0 going refl t1

      t3 : At w 3 c3.stop c3.world
      t3 = one-turn 2 (inr (inl refl)) refl c2 u2 x.1.0 c2.stop refl t2

      t4 : At w 4 (onward c3.stop 3 (start_group w 3) c3).stop (onward c3.stop 3 (start_group w 3) c3).world
      t4 = one-turn 3 (inr (inr (inl refl))) refl c3 u3 x.1.1.0 c3.stop refl t3

  -- where all generations below n pass, their files stand there as n's turn comes
  came : (n : ℕ) → ((h : ℕ) → Among generations h → h < n → Passes w h) → (o : Stop) (v : World) → At w n o v → v ≡ with_finished w (before n)
  came n p going v a = a.0
  came n p (stopped r g) v (e, f, l) = absurd (never_both g r f.due f.refused (p g f.generation l))

  -- the store then: the invariant holds, and each file is where it was
  pub reached : (n : ℕ) → Among generations n ⊎ (n ≡ 4) → ((h : ℕ) → Among generations h → h < n → Passes w h)
      → SoundWorld (with_finished w (before n)) (engine history) × Stay w (with_finished w (before n)) × Remain w (with_finished w (before n))
  reached n (inl a) p =
      let t = among-get Stand generations turns.0 n a in
      let e = came n p t.0.stop t.0.world t.2 in
      subst (λ (v : World). SoundWorld v (engine history) × Stay w v × Remain w v) e (t.1.sound, t.1.stay, t.1.remain)
  reached n (inr q) p =
      let t = turns.1 in
      let e = came n p (course_of w).stop (course_of w).world (subst (λ (m : ℕ). At w m (course_of w).stop (course_of w).world) (sym q) t.1) in
      subst (λ (v : World). SoundWorld v (engine history) × Stay w v × Remain w v) e (t.0.sound, t.0.stay, t.0.remain)

  -- a generation's files, found when its turn comes, are those found as the call starts
  pub reached-found : (g : ℕ) → Among generations g → ((h : ℕ) → Among generations h → h < g → Passes w h)
      → found (with_finished w (before g)) (start_group w g) ≡ found w (start_group w g)
  reached-found g a p =
      let t = among-get Stand generations turns.0 g a in
      subst (λ (v : World). found v (start_group w g) ≡ found w (start_group w g)) (came g p t.0.stop t.0.world t.2)
      (found-same history w t.0.world (start_group w g) s t.1.sound t.3 (moved-exactly w history s (start_group w g) (group-files w history s g)))

  -- one of the two ends
  abbrev Success : Type 0
  Success = NoneRefused w × ((maintain_call w).answer ≡ maintain_given (Ok (sum (live_of w) generations))) × ((maintain_call w).world ≡ pruned (with_finished w generations))

  abbrev Stop-at : Refusal → ℕ → Type 0
  Stop-at r g = FirstRefused w g r × ((maintain_call w).answer ≡ maintain_given (Err (stopped_with r g (sum (live_of w) (before g))))) × ((maintain_call w).world ≡ with_finished w (before g))

  either_end : Success ⊎ ((r : Refusal) × (g : ℕ) × Stop-at r g)
  unfolding maintain_call decide keep
  either_end = by (course_of w).stop refl turns.1.1
    where
      called : maintain_call w ≡ ended (course_of w).stop (course_of w)
      called = rw (sound-fine w (engine history) s) refl

      by : (o : Stop) → (course_of w).stop ≡ o → At w 4 o (course_of w).world → Success ⊎ ((r : Refusal) × (g : ℕ) × Stop-at r g)
      by going q (e, p) = inl (λ g a. p g a (low g a), counted (maintain-answer history w s), ap (λ (a : After). a.world) is ∙ ap pruned e)
        where
          is : maintain_call w ≡ ended going (course_of w)
          is = called ∙ ap (λ (o : Stop). ended o (course_of w)) q

          low : (g : ℕ) → Among generations g → g < 4
          low g (inl e) = omega arith
          low g (inr (inl e)) = omega arith
          low g (inr (inr (inl e))) = omega arith
          low g (inr (inr (inr x6))) = elim x6 [ ]

          counted : AnswersBut (λ r g. Refusable w (start_group w g) r) w → (maintain_call w).answer ≡ maintain_given (Ok (sum (live_of w) generations))
          counted (inl a) = a
          counted (inr (r, g, a, z)) =
              let b = maintain-one (Ok (course_of w).moved) (Err (stopped_with r g (sum (live_of w) (before g)))) (sym (ap (λ (a : After). a.answer) is) ∙ a) in
              absurd (let z : ◌≡◌ {A = ℕ} 0 1 = cc in omega arith)
      by (stopped r g) q (e, f, l) = inr (r, g, (f, counted (maintain-answer history w s), ap (λ (a : After). a.world) is ∙ e))
        where
          is : maintain_call w ≡ ended (stopped r g) (course_of w)
          is = called ∙ ap (λ (o : Stop). ended o (course_of w)) q

          counted : AnswersBut (λ r g. Refusable w (start_group w g) r) w → (maintain_call w).answer ≡ maintain_given (Err (stopped_with r g (sum (live_of w) (before g))))
          counted (inl a) =
              let b = maintain-one (Err (stopped_with r g (course_of w).moved)) (Ok (sum (live_of w) generations)) (sym (ap (λ (a : After). a.answer) is) ∙ a) in
              absurd (let z : ◌≡◌ {A = ℕ} 0 1 = cc in omega arith)
          counted (inr (q, h, a, z)) =
              let b = maintain-one (Err (stopped_with r g (course_of w).moved)) (Err (stopped_with q h (sum (live_of w) (before h)))) (sym (ap (λ (a : After). a.answer) is) ∙ a) in
              let i : g ≡ h = cc in
              let j : r ≡ q = cc in
              a ∙ ap (λ (c : Refusal). maintain_given (Err (stopped_with c h (sum (live_of w) (before h))))) (sym j) ∙ ap (λ (k : ℕ). maintain_given (Err (stopped_with r k (sum (live_of w) (before k))))) (sym i)

  -- C: how maintenance ends on a store of the invariant
  pub maintain-ends : Ends w
  maintain-ends = record {
    stops = λ r g n a. stopped-so r g n a either_end;
    refused = λ r g f. refused-so r g f either_end;
    succeeds = λ n a. moved-so n a either_end;
    moved = λ p. ⊎_elim (λ z. z.1) (λ (r, g, z). absurd (never_both g r z.0.due z.0.refused (p g z.0.generation))) either_end;
    keeps = λ r g n a. kept r g n a either_end;
    prunes = λ n a. ⊎_elim (λ z. z.2) (λ (r, g, z). absurd (not-both n r g _ a z.1)) either_end;
  }
    where
      not-both : (n : ℕ) (r : Refusal) (g m : ℕ) → (maintain_call w).answer ≡ maintain_given (Ok n) → (maintain_call w).answer ≡ maintain_given (Err (stopped_with r g m)) → ⊥
      not-both n r g m a b =
          let c = maintain-one (Ok n) (Err (stopped_with r g m)) (sym a ∙ b) in
          let z : ◌≡◌ {A = ℕ} 0 1 = cc in
          omega arith

      stopped-so : (r : Refusal) (g n : ℕ) → (maintain_call w).answer ≡ maintain_given (Err (stopped_with r g n)) → Success ⊎ ((r : Refusal) × (g : ℕ) × Stop-at r g)
          → FirstRefused w g r × (n ≡ sum (live_of w) (before g))
      stopped-so r g n a (inl z) = absurd (not-both _ r g n z.1 a)
      stopped-so r g n a (inr (q, h, z)) =
          let b = maintain-one (Err (stopped_with q h (sum (live_of w) (before h)))) (Err (stopped_with r g n)) (sym z.1 ∙ a) in
          let i : h ≡ g = cc in
          let j : q ≡ r = cc in
          let k : sum (live_of w) (before h) ≡ n = cc in
          (subst (λ (m : ℕ). FirstRefused w m r) i (subst (FirstRefused w h) j z.0), sym k ∙ ap (λ (m : ℕ). sum (live_of w) (before m)) i)

      refused-so : (r : Refusal) (g : ℕ) → FirstRefused w g r → Success ⊎ ((r : Refusal) × (g : ℕ) × Stop-at r g)
          → (maintain_call w).answer ≡ maintain_given (Err (stopped_with r g (sum (live_of w) (before g))))
      refused-so r g f (inl z) = absurd (never_both g r f.due f.refused (z.0 g f.generation))
      refused-so r g f (inr (q, h, z)) =
          let e = one-refused h g q r z.0 f in
          z.1 ∙ ap (λ (c : Refusal). maintain_given (Err (stopped_with c h (sum (live_of w) (before h))))) e.1 ∙ ap (λ (m : ℕ). maintain_given (Err (stopped_with r m (sum (live_of w) (before m))))) e.0

      moved-so : (n : ℕ) → (maintain_call w).answer ≡ maintain_given (Ok n) → Success ⊎ ((r : Refusal) × (g : ℕ) × Stop-at r g) → NoneRefused w × (n ≡ sum (live_of w) generations)
      moved-so n a (inl z) = let b = maintain-one (Ok n) (Ok (sum (live_of w) generations)) (sym a ∙ z.1) in (z.0, cc)
      moved-so n a (inr (r, g, z)) = absurd (not-both n r g _ a z.1)

      kept : (r : Refusal) (g n : ℕ) → (maintain_call w).answer ≡ maintain_given (Err (stopped_with r g n)) → Success ⊎ ((r : Refusal) × (g : ℕ) × Stop-at r g) → (maintain_call w).world ≡ with_finished w (before g)
      kept r g n a (inl z) = absurd (not-both _ r g n z.1 a)
      kept r g n a (inr (q, h, z)) =
          let b = maintain-one (Err (stopped_with q h (sum (live_of w) (before h)))) (Err (stopped_with r g n)) (sym z.1 ∙ a) in
          let i : h ≡ g = cc in
          z.2 ∙ ap (λ (m : ℕ). with_finished w (before m)) i

-- where no object is so large it is refused with 4, 5 or 7
pub small-lacks : (w : World) → SmallWorld w → (g : ℕ) (r : Refusal) → RefusedWith w g r → Lacks (with_finished w (before g)) (new_files w g) r
small-lacks w small g r (inl a) = absurd (not-oversized w small (start_group w g) a.1)
small-lacks w small g r (inr a) = a.1

-- C: on any store of the invariant, whatever calls were made
pub lived-maintenance-ends : (l : Life) → Starts l → (calls : List Call) → Ends (lived l calls).world
lived-maintenance-ends l s calls = maintain-ends (lived l calls).history (lived l calls).world (sound-lived l s calls)

-- C: so on every store of demand 3 that began with no file
pub any-maintenance-ends : (w : World) → out_of_range w.settings (length w.heap) w.table ≡ false → Blank w → (calls : List Call) → Ends (lived (born w) calls).world
any-maintenance-ends w range blank = lived-maintenance-ends (born w) (born-starts w range blank)
