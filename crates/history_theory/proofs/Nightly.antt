-- Request P7: "the nightly job becomes plan, rewrite 1, 2, 3, then prune, stopping at the first call refused"; so demand 3 holds of the job as of its calls.
use Rattle.std.specs.Prelude.{◌≡◌, ◌∷◌, ◌+◌, Err, Ok}
use Rattle.std.proofs.Math.Path.{refl}
use Rattle.std.proofs.Common.{sym, ap, ◌∙◌, subst, inl, inr, arith}
use Rattle.rules.specs.Base.{Bool, true, false, List, [], ℕ, get_or, eqb, pick}
use Rattle.theory.specs.Types.{Refusal, Limits, Answer, stopped_with}
use Rattle.rules.specs.BaseLaws.{All}
use Rattle.rules.specs.Refusal.{◌gives◌, decide, after}
use Rattle.rules.proofs.Answers.{known}
use Rattle.rules.specs.Ops.{Op}
use Rattle.rules.specs.Condition1.{refused1}
use Rattle.rules.specs.Maintenance.{Stop, going, stopped, Course}
use Rattle.rules.specs.Prune.{pruned, prune_call}
use Rattle.rules.specs.TwoCalls.{refused_noting, mark_of, count_of, plan_call, plan_values, rewrite_of, rewrite_answered, job_from, job_of, job_ended, nightly_call}
use Rattle.rules.specs.World.{World, Given, accepted, refused, maintain_given, After, unchanged, leaving}
use Rattle.theory.proofs.Reopened.{refused-not}
use Rattle.theory.specs.SoundWorld.{SoundWorld, SmallWorld}
use Rattle.history_theory.specs.Writing.{engine}
use Rattle.history_theory.specs.OneGeneration.{StopsOrKeeps}
use Rattle.history_theory.proofs.OneGeneration.{rewrite-stops}
use Rattle.history_theory.specs.History.{Call, rewrite, prune, called, Life, lived, Starts}
use Rattle.history_theory.proofs.History.{sound-lived, small-lived}
use Rattle.history_theory.specs.Writes.{Unheard}
use Rattle.history_theory.proofs.Writes.{hears-nothing}
use Rattle.history_theory.specs.Nightly.{until_refused, moved_with, generation_named, together, nightly, job_calls}

-- LAW: what they leave together is what a life of those made leaves
pub together-lived : (cs : List Call) → All Unheard cs → (moved : ℕ) (w : World) (history : List Op)
    → lived (record { world = w; history = history }) (until_refused w cs) ≡ record { world = (together moved w cs).world; history = history }
unfolding lived until_refused together
together-lived [] u moved w history = refl
together-lived (c ∷ cs) u moved w history =
    ap (λ (h : List Op). lived (record { world = (called w c).world; history = h }) (pick (eqb (called w c).answer.number 0) (until_refused (called w c).world cs) []))
    (hears-nothing w history c u.0)
    ∙ go (together-lived cs u.1 (moved_with c (called w c).answer moved) (called w c).world history) (eqb (called w c).answer.number 0)
  where
    go : lived (record { world = (called w c).world; history = history }) (until_refused (called w c).world cs)
        ≡ record { world = (together (moved_with c (called w c).answer moved) (called w c).world cs).world; history = history }
        → (b : Bool) → lived (record { world = (called w c).world; history = history }) (pick b (until_refused (called w c).world cs) [])
        ≡ record {
          world = (pick b (together (moved_with c (called w c).answer moved) (called w c).world cs)
              (leaving (record { number = (called w c).answer.number; values = generation_named c ∷ moved ∷ [] }) (called w c).world)).world;
          history = history;
        }
    go ih true = ih
    go ih false = refl

-- what holds of calls holds of those made
until-all : (P : Call → Type 0) (cs : List Call) (w : World) → All P cs → All P (until_refused w cs)
unfolding until_refused
until-all P [] w a = tt
until-all P (c ∷ cs) w a = (a.0, go (until-all P cs (called w c).world a.1) (eqb (called w c).answer.number 0))
  where
    go : All P (until_refused (called w c).world cs) → (b : Bool) → All P (pick b (until_refused (called w c).world cs) [])
    go ih true = ih
    go ih false = tt

all-unheard : (w : World) (room : ℕ) → All Unheard (nightly w room)
all-unheard w room = (tt, (tt, (tt, (tt, (tt, tt)))))

-- LAW: none of its calls brings a put or a delete
pub job-unheard : (w : World) (room : ℕ) → All Unheard (job_calls w room)
job-unheard w room = until-all Unheard (nightly w room) w (all-unheard w room)

-- LAW: an accepted plan's first two values are that mark and that file count
pub plan-gives : (w : World) (room : ℕ) → (plan_call w room).number ≡ 0
    → (get_or (plan_call w room).values 0 0 ≡ mark_of w) × (get_or (plan_call w room).values 1 0 ≡ count_of w)
unfolding plan_call plan_values
plan-gives w room = go (decide (refused_noting w room gives Limits ∷ []))
  where
    go : (a : Answer) → (after {A = Given} a refused (accepted (plan_values w))).number ≡ 0
        → (get_or (after {A = Given} a refused (accepted (plan_values w))).values 0 0 ≡ mark_of w)
        × (get_or (after {A = Given} a refused (accepted (plan_values w))).values 1 0 ≡ count_of w)
    go (Err r) e = absurd (refused-not r e)
    go (Ok _) e = (refl, refl)

-- once refused, no generation goes on
job-stopped : (gs : List ℕ) (room mark count : ℕ) (r : Refusal) (g moved : ℕ) (w : World)
    → job_from gs room mark count (record { stop = stopped r g; moved = moved; world = w }) ≡ record { stop = stopped r g; moved = moved; world = w }
unfolding job_from
job-stopped [] room mark count r g moved w = refl
job-stopped (h ∷ gs) room mark count r g moved w = job-stopped gs room mark count r g moved w

module _ (room mark count : ℕ) where
  -- the rewrites of these generations, then prune
  abbrev rewrites : List ℕ → List Call
  rewrites [] = prune ∷ []
  rewrites (g ∷ gs) = rewrite room g mark count ∷ rewrites gs

  -- the job from there
  abbrev job_on : List ℕ → Stop → ℕ → World → After
  job_on gs o moved w =
      let c = job_from gs room mark count (record { stop = o; moved = moved; world = w }) in
      job_ended c.stop c

  prune-last : (moved : ℕ) (w : World) → job_on [] going moved w ≡ together moved w (prune ∷ [])
  unfolding job_from together prune_call
  prune-last moved w = go (decide (refused1 w gives Limits ∷ []))
    where
      go : (a : Answer)
          → after {A = After} a (λ (r : Refusal). leaving (maintain_given (Err (stopped_with r 0 moved))) w) (leaving (maintain_given (Ok moved)) (pruned w))
          ≡ (let b = after a (unchanged w) (record { answer = accepted []; world = pruned w }) in
          pick (eqb b.answer.number 0) (leaving (accepted (moved ∷ [])) b.world) (leaving (record { number = b.answer.number; values = 0 ∷ moved ∷ [] }) b.world))
      go (Err r) = rw (known r).some
      go (Ok _) = refl

  rewrites-made : (gs : List ℕ) (moved : ℕ) (w : World) → job_on gs going moved w ≡ together moved w (rewrites gs)
  unfolding job_from together
  rewrites-made [] moved w = prune-last moved w
  rewrites-made (g ∷ gs) moved w =
      go (rewrites-made gs (moved + (rewrite_of w room g mark count).moved) (rewrite_of w room g mark count).world) (rewrite-stops w room g mark count)
    where
      Step : Stop → ℕ → World → Type 0
      Step o n v =
          job_on gs o (moved + n) v
          ≡ (let a = rewrite_answered o n v in
          pick (eqb a.answer.number 0) (together (moved + get_or a.answer.values 0 0) a.world (rewrites gs))
          (leaving (record { number = a.answer.number; values = g ∷ moved ∷ [] }) a.world))

      halted : (r : Refusal) → Step (stopped r g) 0 w
      halted r =
          let e : moved + 0 ≡ moved = omega arith in
          ap (λ (c : Course). job_ended c.stop c) (job-stopped gs room mark count r g (moved + 0) w) ∙ rw ((known r).some, e)

      go : job_on gs going (moved + (rewrite_of w room g mark count).moved) (rewrite_of w room g mark count).world
          ≡ together (moved + (rewrite_of w room g mark count).moved) (rewrite_of w room g mark count).world (rewrites gs)
          → StopsOrKeeps w g (rewrite_of w room g mark count)
          → Step (rewrite_of w room g mark count).stop (rewrite_of w room g mark count).moved (rewrite_of w room g mark count).world
      go ih (inl e) = subst (λ (o : Stop). Step o (rewrite_of w room g mark count).moved (rewrite_of w room g mark count).world) (sym e) ih
      go ih (inr (r, e)) = subst (λ (c : Course). Step c.stop c.moved c.world) (sym e) (halted r)

-- LAW: the job is its calls, of any world, whichever is refused: what they answer together, and what they leave
pub job-made : (w : World) (room : ℕ) → nightly_call w room ≡ together 0 w (nightly w room)
unfolding nightly_call job_of plan_call together
job-made w room = go (decide (refused_noting w room gives Limits ∷ []))
  where
    go : (a : Answer)
        → after {A = After} a (λ (r : Refusal). leaving (maintain_given (Err (stopped_with r 0 0))) w) (job_on room (mark_of w) (count_of w) (1 ∷ 2 ∷ 3 ∷ []) going 0 w)
        ≡ (let b = after {A = Given} a refused (accepted (plan_values w)) in
        pick (eqb b.number 0) (together 0 w (rewrites room (mark_of w) (count_of w) (1 ∷ 2 ∷ 3 ∷ []))) (leaving (record { number = b.number; values = 0 ∷ 0 ∷ [] }) w))
    go (Err r) = rw (known r).some
    go (Ok _) = rewrites-made room (mark_of w) (count_of w) (1 ∷ 2 ∷ 3 ∷ []) 0 w

-- LAW: the job is a life of its calls, of any world, and the engine hears nothing
pub job-lived : (w : World) (history : List Op) (room : ℕ)
    → lived (record { world = w; history = history }) (job_calls w room) ≡ record { world = (nightly_call w room).world; history = history }
job-lived w history room =
    together-lived (nightly w room) (all-unheard w room) 0 w history
    ∙ ap (λ (a : After). record { world = a.world; history = history }) (sym (job-made w room))

-- LAW: so it keeps the invariant
pub sound-nightly : (w : World) (history : List Op) → SoundWorld w (engine history) → (room : ℕ) → SoundWorld (nightly_call w room).world (engine history)
sound-nightly w history s room = subst Starts (job-lived w history room) (sound-lived (record { world = w; history = history }) s (job_calls w room))

-- LAW: and a small store small
pub small-nightly : (w : World) (history : List Op) → SoundWorld w (engine history) → SmallWorld w → (room : ℕ) → SmallWorld (nightly_call w room).world
small-nightly w history s small room =
    subst (λ (l : Life). SmallWorld l.world) (job-lived w history room) (small-lived (record { world = w; history = history }) s small (job_calls w room))
