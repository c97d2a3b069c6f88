-- The nightly job, plan, rewrite 1, 2 and 3, prune, gives what the old call gives, on any store of the invariant: answer, table, records, next position and heap.
use Rattle.std.specs.Prelude.{◌≡◌, ◌<◌, ◌≤◌, ◌∷◌, ◌++◌, ◌+◌, Err, Ok}
use Rattle.std.proofs.Math.Path.{refl, ap, subst}
use Rattle.std.proofs.Common.{sym, ◌∙◌, inl, inr, zero-add, add-zero}
use native.Mathlib.Omega.{arith}
use borrow.Author.Tests.{le-ltb}
use Rattle.rules.specs.Base.{Bool, true, false, List, [], ℕ, length, ltb, pick, keep, sum}
use Rattle.theory.specs.Types.{Refusal, Answer}
use Rattle.rules.specs.BaseLaws.{All}
use Rattle.rules.specs.Refusal.{decide, after}
use Rattle.rules.specs.Condition1.{out_of_range}
use Rattle.rules.specs.Ops.{Op}
use Rattle.rules.specs.Layout.{capacity_of}
use Rattle.rules.specs.FileMapLaws.{Among}
use Rattle.rules.specs.Install.{installed_all}
use Rattle.rules.specs.Maintenance.{found, files_of, Stop, going, stopped, Course, group, start_group, group_tests, rewrite_group, onward, groups_from, course_of, ended, maintain_call}
use Rattle.rules.specs.TwoCalls.{mark_of, count_of, generation_rewritten, job_step, job_from, job_of, job_ended, nightly_call}
use Rattle.rules.specs.World.{World, maintain_given, After}
use Rattle.theory.specs.SoundWorld.{SmallWorld, SoundWorld}
use Rattle.theory.proofs.SoundWorld.{sound-fine}
use Rattle.history_theory.specs.Writing.{engine}
use Rattle.history_theory.specs.Fresh.{Blank}
use Rattle.history_theory.specs.History.{Call, Life, lived, Starts, born}
use Rattle.history_theory.proofs.History.{sound-lived, small-lived, born-starts, born-small}
use Rattle.maintenance_theory.specs.Stopping.{Spent, Refusable, Underway}
use Rattle.maintenance_theory.proofs.Stopping.{underway-first, onward-well, groups-well}
use Rattle.maintenance_theory.specs.Finished.{live_of, before, AnswersAs}
use Rattle.maintenance_theory.proofs.Finished.{maintain-answer, small-answer}
use Rattle.maintenance_theory.specs.Exactly.{turn, MovesAs}
use Rattle.maintenance_theory.proofs.Exactly.{sound-moves}
use Rattle.maintenance_theory.specs.FirstRefused.{generations, EndsAs}
use Rattle.maintenance_theory.proofs.FirstRefused.{maintain-ends}
use Rattle.maintenance_theory.specs.Afterwards.{Finishes, RewroteAs}
use Rattle.maintenance_theory.proofs.Afterwards.{finished-rewrote}
use Rattle.maintenance_theory.specs.Sufficing.{Suffices}
use Rattle.maintenance_theory.proofs.Sufficing.{maintain-within}
use Rattle.maintenance_theory.specs.Persisting.{Grown}
use Rattle.maintenance_theory.proofs.Persisting.{grown-none, grown-more, grown-group, mark-above, group-persists}
use Rattle.maintenance_theory.proofs.Rewrites.{rewrite-open}
use Rattle.maintenance_theory.specs.AsBefore.{Apart}

-- a group counts on from what was moved before it
group-onward : (g : ℕ) (ks : List ℕ) (moved : ℕ) (w : World)
    → rewrite_group g ks moved w ≡ record { stop = (rewrite_group g ks 0 w).stop; moved = moved + (rewrite_group g ks 0 w).moved; world = (rewrite_group g ks 0 w).world }
unfolding rewrite_group
group-onward g ks moved w = go (decide (group_tests w ks (files_of w.settings.target_file_size (found w ks))))
  where
    course : ℕ → Answer → Course
    course n a = after {A = Course} a (λ (r : Refusal). record { stop = stopped r g; moved = n; world = w })
        (record { stop = going; moved = n + length (found w ks); world = installed_all 0 g w (files_of w.settings.target_file_size (found w ks)) })

    go : (a : Answer) → course moved a ≡ record { stop = (course 0 a).stop; moved = moved + (course 0 a).moved; world = (course 0 a).world }
    go (Ok _) = ap (λ (n : ℕ). record { stop = going; moved = moved + n; world = installed_all 0 g w (files_of w.settings.target_file_size (found w ks)) }) (sym (zero-add (length (found w ks))))
    go (Err r) = ap (λ (n : ℕ). record { stop = stopped r g; moved = n; world = w }) (sym (add-zero moved))

-- a generation skipped, rewritten or refused leaves what a group leaves
grown-onward : (stop : Stop) (g : ℕ) (ks : List ℕ) (c : Course) → Grown c.world (onward stop g ks c).world
grown-onward (stopped r h) g ks c = grown-none c.world
grown-onward going g ks c = go (ltb (length ks) c.world.settings.min_compaction_files)
  where
    go : (b : Bool) → Grown c.world (pick b c (rewrite_group g ks c.moved c.world)).world
    go true = grown-none c.world
    go false = grown-group g ks c.moved c.world

module _ (history : List Op) (start : World) (st : SoundWorld start (engine history)) where
  -- where the call stands before the generations gs: their groups, by the plan's mark and count, are those that it started with
  record Waiting (gs : List ℕ) (c : Course) : Type 0 where
    under : Underway history start c
    grown : Grown start c.world
    same : All (λ (g : ℕ). group c.world g (mark_of start) (count_of start) ≡ start_group start g) gs

  waiting-first : (gs : List ℕ) → Waiting gs (record { stop = going; moved = 0; world = start })
  waiting-first gs = record { under = underway-first history start st; grown = grown-none start; same = all gs }
    where
      all : (gs : List ℕ) → All (λ (g : ℕ). group start g (mark_of start) (count_of start) ≡ start_group start g) gs
      all [] = tt
      all (g ∷ gs) = (mark-above history start st g (count_of start), all gs)

  -- a turn leaves the later generations' groups
  waiting-next : (g : ℕ) → g ≤ 255 → (gs : List ℕ) → All (λ (h : ℕ). h ≡ g → ⊥) gs → (c : Course) → Waiting (g ∷ gs) c → Waiting gs (onward c.stop g (start_group start g) c)
  waiting-next g aged gs apart c t = record {
    under = onward-well history start st c.stop g aged c refl t.under;
    grown = grown-more start c.world (onward c.stop g (start_group start g) c).world t.grown (grown-onward c.stop g (start_group start g) c);
    same = others gs apart t.same.1;
  }
    where
      stays : (h : ℕ) → (h ≡ g → ⊥) → (stop : Stop) → group (onward stop g (start_group start g) c).world h (mark_of start) (count_of start) ≡ group c.world h (mark_of start) (count_of start)
      stays h n (stopped r m) = refl
      stays h n going = go (ltb (length (start_group start g)) c.world.settings.min_compaction_files)
        where
          go : (b : Bool) → group (pick b c (rewrite_group g (start_group start g) c.moved c.world)).world h (mark_of start) (count_of start) ≡ group c.world h (mark_of start) (count_of start)
          go true = refl
          go false =
              subst (λ (ks : List ℕ). group (rewrite_group g ks c.moved c.world).world h (mark_of start) (count_of start) ≡ group c.world h (mark_of start) (count_of start)) t.same.0
              (group-persists history c.world t.under.sound g h (mark_of start) (count_of start) c.moved aged n t.grown.next)

      others : (hs : List ℕ) → All (λ (h : ℕ). h ≡ g → ⊥) hs → All (λ (h : ℕ). group c.world h (mark_of start) (count_of start) ≡ start_group start h) hs
          → All (λ (h : ℕ). group (onward c.stop g (start_group start g) c).world h (mark_of start) (count_of start) ≡ start_group start h) hs
      others [] n a = tt
      others (h ∷ hs) n a = (stays h n.0 c.stop ∙ a.0, others hs n.1 a.1)

  waiting-later : (ds gs : List ℕ) → All (λ (g : ℕ). g ≤ 255) ds → Apart (ds ++ gs) → (c : Course) → Waiting (ds ++ gs) c → Waiting gs (groups_from ds start c)
  unfolding groups_from
  waiting-later [] gs y p c t = t
  waiting-later (d ∷ ds) gs y p c t = waiting-later ds gs y.1 p.1 (onward c.stop d (start_group start d) c) (waiting-next d y.0 (ds ++ gs) p.0 c t)

  -- LAW: as a generation's turn comes its group, by the plan's mark and count, is the one that the call started with
  pub turn-group : (g : ℕ) → Among generations g → group (turn start g).world g (mark_of start) (count_of start) ≡ start_group start g
  unfolding keep
  turn-group g (inl e) = subst (λ (h : ℕ). group (turn start h).world h (mark_of start) (count_of start) ≡ start_group start h) e
      (waiting-later [] (1 ∷ []) tt (tt, tt) (record { stop = going; moved = 0; world = start }) (waiting-first (1 ∷ []))).same.0
  turn-group g (inr (inl e)) = subst (λ (h : ℕ). group (turn start h).world h (mark_of start) (count_of start) ≡ start_group start h) e
      (waiting-later (1 ∷ []) (2 ∷ []) (omega arith, tt) (((λ z. omega arith), tt), (tt, tt)) (record { stop = going; moved = 0; world = start }) (waiting-first (1 ∷ 2 ∷ []))).same.0
  turn-group g (inr (inr (inl e))) = subst (λ (h : ℕ). group (turn start h).world h (mark_of start) (count_of start) ≡ start_group start h) e
      (waiting-later (1 ∷ 2 ∷ []) (3 ∷ []) (omega arith, (omega arith, tt)) (((λ z. omega arith), ((λ z. omega arith), tt)), (((λ z. omega arith), tt), (tt, tt)))
      (record { stop = going; moved = 0; world = start }) (waiting-first (1 ∷ 2 ∷ 3 ∷ []))).same.0
  turn-group g (inr (inr (inr x3))) = elim x3 [ ]

  module _ (room : ℕ) (enough : capacity_of start.table ≤ room) where
    -- a step of the job is a turn of the call
    step_same : (stop : Stop) (g : ℕ) → 0 < g → g ≤ 3 → (c : Course) → c.stop ≡ stop → Underway history start c → Grown start c.world
        → group c.world g (mark_of start) (count_of start) ≡ start_group start g
        → job_step stop room g (mark_of start) (count_of start) c ≡ onward stop g (start_group start g) c
    unfolding generation_rewritten
    step_same (stopped r h) g some most c e u n same = refl
    step_same going g some most c e u n same =
        ap (λ (d : Course). record { stop = d.stop; moved = c.moved + d.moved; world = d.world })
        (rewrite-open history c.world u.sound room wide g (mark_of start) (count_of start) some most
        ∙ ap (λ (ks : List ℕ). onward going g ks (record { stop = going; moved = 0; world = c.world })) same)
        ∙ go (ltb (length (start_group start g)) c.world.settings.min_compaction_files)
      where
        wide : capacity_of c.world.table ≤ room
        wide = let a = u.sound.tidy.table-len in let b = st.tidy.table-len in let d = n.entries in omega arith

        skipped : record { stop = going; moved = c.moved + 0; world = c.world } ≡ c
        skipped = λ i. record { stop = sym e i; moved = add-zero c.moved i; world = c.world }

        go : (b : Bool)
            → record {
              stop = (pick b (record { stop = going; moved = 0; world = c.world }) (rewrite_group g (start_group start g) 0 c.world)).stop;
              moved = c.moved + (pick b (record { stop = going; moved = 0; world = c.world }) (rewrite_group g (start_group start g) 0 c.world)).moved;
              world = (pick b (record { stop = going; moved = 0; world = c.world }) (rewrite_group g (start_group start g) 0 c.world)).world;
            } ≡ pick b c (rewrite_group g (start_group start g) c.moved c.world)
        go true = skipped
        go false = sym (group-onward g (start_group start g) c.moved c.world)

    steps-same : (gs : List ℕ) → All (λ (g : ℕ). (0 < g) × (g ≤ 3)) gs → Apart gs → (c : Course) → Waiting gs c
        → job_from gs room (mark_of start) (count_of start) c ≡ groups_from gs start c
    unfolding job_from groups_from
    steps-same [] y p c t = refl
    steps-same (g ∷ gs) y p c t =
        ap (job_from gs room (mark_of start) (count_of start)) (step_same c.stop g y.0.0 y.0.1 c refl t.under t.grown t.same.0)
        ∙ steps-same gs y.1 p.1 (onward c.stop g (start_group start g) c) (let l = y.0.1 in waiting-next g (omega arith) gs p.0 c t)

    -- LAW: the job stands where the call stands as a generation's turn comes
    pub job-turn : (g : ℕ) → Among generations g → job_from (before g) room (mark_of start) (count_of start) (record { stop = going; moved = 0; world = start }) ≡ turn start g
    unfolding keep
    job-turn g (inl e) = subst (λ (h : ℕ). job_from (before h) room (mark_of start) (count_of start) (record { stop = going; moved = 0; world = start }) ≡ turn start h) e
        (steps-same [] tt tt (record { stop = going; moved = 0; world = start }) (waiting-first []))
    job-turn g (inr (inl e)) = subst (λ (h : ℕ). job_from (before h) room (mark_of start) (count_of start) (record { stop = going; moved = 0; world = start }) ≡ turn start h) e
        (steps-same (1 ∷ []) ((omega arith, omega arith), tt) (tt, tt) (record { stop = going; moved = 0; world = start }) (waiting-first (1 ∷ [])))
    job-turn g (inr (inr (inl e))) = subst (λ (h : ℕ). job_from (before h) room (mark_of start) (count_of start) (record { stop = going; moved = 0; world = start }) ≡ turn start h) e
        (steps-same (1 ∷ 2 ∷ []) ((omega arith, omega arith), ((omega arith, omega arith), tt)) (((λ z. omega arith), tt), (tt, tt))
        (record { stop = going; moved = 0; world = start }) (waiting-first (1 ∷ 2 ∷ [])))
    job-turn g (inr (inr (inr x3))) = elim x3 [ ]

    -- LAW: the job's rewrites are the call's groups
    pub job-course : job_of start room ≡ course_of start
    unfolding job_of course_of
    job-course =
        steps-same (1 ∷ 2 ∷ 3 ∷ []) ((omega arith, omega arith), ((omega arith, omega arith), ((omega arith, omega arith), tt)))
        (((λ z. omega arith), ((λ z. omega arith), tt)), (((λ z. omega arith), tt), (tt, tt)))
        (record { stop = going; moved = 0; world = start }) (waiting-first (1 ∷ 2 ∷ 3 ∷ []))

    -- LAW: the job is the old call
    pub job-as-before : nightly_call start room ≡ maintain_call start
    unfolding nightly_call maintain_call decide course_of
    job-as-before =
        rw (sound-fine start (engine history) st, le-ltb room (capacity_of start.table) enough)
        (ap (λ (c : Course). job_ended c.stop c) job-course ∙ by (course_of start).stop)
      where
        u : Underway history start (course_of start)
        u = groups-well history (1 ∷ 2 ∷ 3 ∷ []) (omega arith, (omega arith, (omega arith, tt))) start st (record { stop = going; moved = 0; world = start }) (underway-first history start st)

        by : (stop : Stop) → job_ended stop (course_of start) ≡ ended stop (course_of start)
        by (stopped r g) = refl
        by going = rw (sound-fine (course_of start).world (engine history) u.sound) refl

    -- C: what the job answers: a group stops it with 4, 5 or 7, or with 3 where an object of the group is of max_object_size or more
    pub job-answer : AnswersAs (λ r g. Refusable start (start_group start g) r) start (nightly_call start room).answer
    job-answer = subst (λ (a : After). AnswersAs (λ r g. Refusable start (start_group start g) r) start a.answer) (sym job-as-before) (maintain-answer history start st)

    -- C: with 4, 5 or 7 only, where no object is so large
    pub small-job : SmallWorld start → AnswersAs (λ r g. Spent r) start (nightly_call start room).answer
    small-job small = subst (λ (a : After). AnswersAs (λ r g. Spent r) start a.answer) (sym job-as-before) (small-answer history start st small)

    -- C: what it moves
    pub job-moves : MovesAs start (nightly_call start room)
    job-moves = subst (MovesAs start) (sym job-as-before) (sound-moves history start st)

    -- C: how it ends
    pub job-ends : EndsAs start (nightly_call start room)
    job-ends = subst (EndsAs start) (sym job-as-before) (maintain-ends history start st)

    -- C: what becomes of a finished generation's ids and files
    pub job-rewrote : (g : ℕ) → Finishes start g → RewroteAs start g (nightly_call start room)
    job-rewrote g f = subst (RewroteAs start g) (sym job-as-before) (finished-rewrote history start st g f)

    -- N: where there is room for all new files it succeeds
    pub job-within : Suffices start → (nightly_call start room).answer ≡ maintain_given (Ok (sum (live_of start) generations))
    job-within h = ap (λ (a : After). a.answer) job-as-before ∙ maintain-within history start st h

-- ---- on any store that calls left, whatever calls these were
module _ (l : Life) (s : Starts l) (calls : List Call) (room : ℕ) (enough : capacity_of (lived l calls).world.table ≤ room) where
  -- DEMAND 3: the job is the old call
  pub lived-job-as-before : nightly_call (lived l calls).world room ≡ maintain_call (lived l calls).world
  lived-job-as-before = job-as-before (lived l calls).history (lived l calls).world (sound-lived l s calls) room enough

  -- C: its answer
  pub lived-job-answer : AnswersAs (λ r g. Refusable (lived l calls).world (start_group (lived l calls).world g) r) (lived l calls).world (nightly_call (lived l calls).world room).answer
  lived-job-answer = job-answer (lived l calls).history (lived l calls).world (sound-lived l s calls) room enough

  -- C: and if no object was of max_object_size or more as the life began
  pub small-lived-job : SmallWorld l.world → AnswersAs (λ r g. Spent r) (lived l calls).world (nightly_call (lived l calls).world room).answer
  small-lived-job small = small-job (lived l calls).history (lived l calls).world (sound-lived l s calls) room enough (small-lived l s small calls)

  -- C: what it moves
  pub lived-job-moves : MovesAs (lived l calls).world (nightly_call (lived l calls).world room)
  lived-job-moves = job-moves (lived l calls).history (lived l calls).world (sound-lived l s calls) room enough

  -- C: how it ends
  pub lived-job-ends : EndsAs (lived l calls).world (nightly_call (lived l calls).world room)
  lived-job-ends = job-ends (lived l calls).history (lived l calls).world (sound-lived l s calls) room enough

  -- C: what becomes of a finished generation's ids and files
  pub lived-job-rewrote : (g : ℕ) → Finishes (lived l calls).world g → RewroteAs (lived l calls).world g (nightly_call (lived l calls).world room)
  lived-job-rewrote = job-rewrote (lived l calls).history (lived l calls).world (sound-lived l s calls) room enough

-- ---- so on every store of demand 3 that began with no file
module _ (w : World) (range : out_of_range w.settings (length w.heap) w.table ≡ false) (blank : Blank w) (calls : List Call) (room : ℕ)
    (enough : capacity_of (lived (born w) calls).world.table ≤ room) where
  -- DEMAND 3: the job is the old call
  pub any-job-as-before : nightly_call (lived (born w) calls).world room ≡ maintain_call (lived (born w) calls).world
  any-job-as-before = lived-job-as-before (born w) (born-starts w range blank) calls room enough

  -- C: its answer
  pub any-job : AnswersAs (λ r g. Spent r) (lived (born w) calls).world (nightly_call (lived (born w) calls).world room).answer
  any-job = small-lived-job (born w) (born-starts w range blank) calls room enough (born-small w range blank)
