-- Between two turns of the loop over generations: the rewrites that are left make the whole job.
use mathlib.Core.Path.{◌≡◌, refl, sym, ap, ◌∙◌, subst}
use Prim.Native.Nat.{◌≤◌, ◌<◌}
use native.Mathlib.Omega.{arith}
use native.Mathlib.Nat.{add-zero}
use Rattle.std.specs.Prelude.{◌∷◌, ◌+◌, ◌*◌, Err, Ok}
use Rattle.rules.specs.Base.{true, false, List, [], ℕ, zero, suc, length}
use Rattle.rules.proofs.BaseLaws.{or-clear}
use Rattle.rules.specs.declared.Settings.{Settings}
use Rattle.rules.specs.declared.State.{State}
use Rattle.rules.specs.declared.Claims.{Claims}
use Rattle.rules.specs.Types.{RewriteAnswer, MaintainAnswer}
use Rattle.rules.specs.declared.Refusal.{Refusal}
use Rattle.rules.specs.Layout.{capacity_of}
use Rattle.rules.specs.Condition1.{refused1}
use Rattle.rules.specs.Condition1Laws.{Passed}
use Rattle.rules.proofs.Condition1Laws.{passes}
use Rattle.rules.specs.Maintenance.{going, stopped, Course}
use Rattle.rules.specs.TwoCalls.{short, room_of, generation_rewritten, job_step, job_from, job_of, mark_of, count_of}
use Rattle.rules.specs.World.{World, world}
use Rattle.gc_notes.specs.Notes.{enough-long}
use Rattle.gc_course.specs.Runs.{stop_in, standing, generations_from}
use Rattle.gc_course.specs.Own.{OwnStop, own-generation}
use Rattle.rules.proofs.TwoCallsLaws.{rewrite-opens}
use Rattle.gc_course.specs.RunLaws.{job-kept}
use Rattle.gc_rewrite.specs.Courses.{course_given}

-- a rewrite's answer as the job's, so many ids being moved before
abbrev pub job_answer : ℕ → ℕ → RewriteAnswer → MaintainAnswer
job_answer n generation (Ok moved) = Ok (n + moved)
job_answer n generation (Err r) = Err (record { refusal = r; generation = generation; moved = n })

-- where the job stands after a rewrite
given-joined : (generation : ℕ) (a : RewriteAnswer) (n : ℕ) (w : World)
    → (let d = course_given generation a w in record { stop = d.stop; moved = n + d.moved; world = d.world }) ≡ standing (job_answer n generation a) w
given-joined generation (Ok moved) n w = refl
given-joined generation (Err r) n w = ap (λ (k : ℕ). record { stop = stopped r generation; moved = k; world = w }) (add-zero n)

-- whether it stops
given-stop : (generation : ℕ) (a : RewriteAnswer) (n : ℕ) (w : World) → (course_given generation a w).stop ≡ stop_in (job_answer n generation a)
given-stop generation (Ok moved) n w = refl
given-stop generation (Err r) n w = refl

module _ (s : Settings) (c : Claims) (mark count : ℕ) (t₀ : State) (heap₀ table₀ places₀ pieces₀ : List ℕ) where
  -- the room of the lent notes
  abbrev pub room : ℕ
  room = room_of places₀ pieces₀

  -- before the first rewrite
  abbrev pub start : Course
  start = standing (Ok 0) (world s t₀ c heap₀ table₀)

  -- between two rewrites, none of which was refused: so many are left, and they make the whole from here; 1 would not refuse the next
  pub record Midway (generation moved : ℕ) (t : State) (heap table places pieces : List ℕ) : Type 0 where
    pub left : ℕ
    pub turns : left + generation ≡ 4
    pub low : 0 < generation
    pub few : moved + left * 65536 ≤ 196608
    pub limits : Passed s (length heap) table t
    pub whole : job_from (generations_from left generation) room mark count (standing (Ok moved) (world s t c heap table)) ≡ job_from (1 ∷ 2 ∷ 3 ∷ []) room mark count start
    pub heap-long : length heap ≡ length heap₀
    pub table-long : length table ≡ length table₀
    pub places-long : length places ≡ length places₀
    pub pieces-long : length pieces ≡ length pieces₀

  -- before the first
  pub midway_start : Passed s (length heap₀) table₀ t₀ → Midway 1 0 t₀ heap₀ table₀ places₀ pieces₀
  midway_start u = record {
    left = 3;
    turns = refl;
    low = omega arith;
    few = omega arith;
    limits = u;
    whole = refl;
    heap-long = refl;
    table-long = refl;
    places-long = refl;
    pieces-long = refl;
  }

  module _ (generation moved : ℕ) (t : State) (heap table places pieces : List ℕ) (m : Midway generation moved t heap table places pieces) where
    module _ (notes : (capacity_of table₀ ≤ length places₀) × (capacity_of table₀ ≤ length pieces₀)) (high : generation ≤ 3)
        (a : RewriteAnswer) (t' : State) (heap' table' : List ℕ)
        (done : course_given generation a (world s t' c heap' table') ≡ generation_rewritten (world s t c heap table) generation mark count) where
      -- 1 does not refuse the next rewrite
      clear : refused1 (world s t c heap table) ≡ false
      clear = passes s (length heap) table t m.limits

      -- nor for its notes
      long : short room table ≡ false
      long = rw m.table-long (enough-long places₀ pieces₀ table₀ notes.0 notes.1)

      -- a generation rewritten
      step : job_step going room generation mark count (standing (Ok moved) (world s t c heap table)) ≡ standing (job_answer moved generation a) (world s t' c heap' table')
      step =
          ap (λ (d : Course). record { stop = d.stop; moved = moved + d.moved; world = d.world })
          (rewrite-opens (world s t c heap table) room generation mark count (or-clear _ _ clear long) m.low high ∙ sym done)
          ∙ given-joined generation a moved (world s t' c heap' table')

      -- the rewrites that are left behind it
      further : (k : ℕ) → m.left ≡ suc k
          → job_from (generations_from k (generation + 1)) room mark count (standing (job_answer moved generation a) (world s t' c heap' table'))
          ≡ job_from (1 ∷ 2 ∷ 3 ∷ []) room mark count start
      unfolding job_from
      further k e =
          ap (job_from (generations_from k (generation + 1)) room mark count) (sym step)
          ∙ subst (λ (n : ℕ). job_from (generations_from n generation) room mark count (standing (Ok moved) (world s t c heap table)) ≡ job_from (1 ∷ 2 ∷ 3 ∷ []) room mark count start) e m.whole

      -- it is none of 1
      pub midway-own : (r : Refusal) → a ≡ Err r → OwnStop (stopped r generation)
      midway-own r is =
          subst (λ (b : RewriteAnswer). OwnStop (stop_in (job_answer moved generation b))) is (subst OwnStop
          (sym (sym (given-stop generation a moved (world s t' c heap' table')) ∙ ap (λ (q : Course). q.stop) done))
          (own-generation (world s t c heap table) generation mark count))

      -- "stopping at the first call refused"
      pub midway-stopped : (r : Refusal) → a ≡ Err r → mark ≡ mark_of (world s t₀ c heap₀ table₀) → count ≡ count_of (world s t₀ c heap₀ table₀)
          → standing (Err (record { refusal = r; generation = generation; moved = moved })) (world s t' c heap' table') ≡ job_of (world s t₀ c heap₀ table₀) room
      unfolding job_of
      midway-stopped r is e f = go m.left refl
        where
          go : (n : ℕ) → m.left ≡ n
              → standing (Err (record { refusal = r; generation = generation; moved = moved })) (world s t' c heap' table') ≡ job_of (world s t₀ c heap₀ table₀) room
          go zero z = absurd (omega (arith, m.turns, z))
          go (suc k) z =
              sym (job-kept (generations_from k (generation + 1)) room mark count (standing (Err (record { refusal = r; generation = generation; moved = moved })) (world s t' c heap' table')) r generation refl)
              ∙ subst (λ (b : RewriteAnswer). job_from (generations_from k (generation + 1)) room mark count (standing (job_answer moved generation b) (world s t' c heap' table')) ≡ job_from (1 ∷ 2 ∷ 3 ∷ []) room mark count start) is (further k z)
              ∙ rw (e, f) refl

      -- the next one
      pub midway-step : (places' pieces' : List ℕ) (ids : ℕ) → a ≡ Ok ids → Passed s (length heap') table' t' → ids ≤ 65536
          → length heap' ≡ length heap → length table' ≡ length table → length places' ≡ length places → length pieces' ≡ length pieces
          → Midway (generation + 1) (moved + ids) t' heap' table' places' pieces'
      midway-step places' pieces' ids is u more x y z v = go m.left refl
        where
          go : (n : ℕ) → m.left ≡ n → Midway (generation + 1) (moved + ids) t' heap' table' places' pieces'
          go zero e = absurd (omega (arith, m.turns, e))
          go (suc k) e = record {
            left = k;
            turns = omega (arith, m.turns, e);
            low = omega arith;
            few = omega (arith, m.few, e, more);
            limits = u;
            whole = subst (λ (b : RewriteAnswer). job_from (generations_from k (generation + 1)) room mark count (standing (job_answer moved generation b) (world s t' c heap' table')) ≡ job_from (1 ∷ 2 ∷ 3 ∷ []) room mark count start) is (further k e);
            heap-long = x ∙ m.heap-long;
            table-long = y ∙ m.table-long;
            places-long = z ∙ m.places-long;
            pieces-long = v ∙ m.pieces-long;
          }

    -- none is left
    pub midway_end : 3 < generation → mark ≡ mark_of (world s t₀ c heap₀ table₀) → count ≡ count_of (world s t₀ c heap₀ table₀)
        → standing (Ok moved) (world s t c heap table) ≡ job_of (world s t₀ c heap₀ table₀) room
    unfolding job_from job_of
    midway_end h e f =
        let none : m.left ≡ 0 = omega (arith, m.turns) in
        subst (λ (n : ℕ). job_from (generations_from n generation) room mark count (standing (Ok moved) (world s t c heap table)) ≡ job_from (1 ∷ 2 ∷ 3 ∷ []) room mark count start) none m.whole
        ∙ rw (e, f) refl
