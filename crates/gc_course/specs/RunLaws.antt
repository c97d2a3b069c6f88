-- The steps of the nightly job: its rewrites and its end.
use Rattle.std.specs.Prelude.{◌≡◌, refl, ◌∷◌, ◌≤◌, ◌<◌, ◌+◌, Err, None, Ok, Option, Some}
use Rattle.std.proofs.Common.{sym, ap, subst, ◌∙◌, true≢false, arith}
use Rattle.rules.specs.Base.{Bool, true, false, List, [], ℕ, not, within, pick}
use Rattle.rules.proofs.BaseLaws.{within-holds}
use Rattle.rules.specs.declared.Refusal.{Refusal}
use Rattle.rules.specs.declared.Refusal.TheVariants.{Limits, Generation}
use Rattle.rules.specs.Types.{MaintainAnswer, stopped_with}
use Rattle.rules.specs.Refusal.{decide}
use Rattle.rules.proofs.RefusalLaws.{decide-none, decide-first, decide-next, after-refused, after-done}
use Rattle.rules.specs.Condition1.{refused1}
use Rattle.rules.specs.Maintenance.{Stop, going, stopped, Course}
use Rattle.rules.specs.Prune.{pruned}
use Rattle.rules.specs.TwoCalls.{refused_noting, rewrite_tests, generation_rewritten, rewrite_of, job_step, job_from, job_of, job_ended, nightly_call}
use Rattle.rules.specs.World.{World, maintain_given, leaving}
use Rattle.gc_course.specs.declared.Halt.{Halt}
use Rattle.gc_course.specs.Runs.{is_going, stop_of, succeeds, stop_in, standing}
use Rattle.gc_course.specs.Own.{OwnStop}

-- "stopping at the first call refused": a job that was stopped stays as it stands
pub job-kept : (gs : List ℕ) (room mark count : ℕ) (c : Course) (r : Refusal) (g : ℕ) → c.stop ≡ stopped r g → job_from gs room mark count c ≡ c
unfolding job_from
job-kept [] room mark count c r g e = refl
job-kept (n ∷ gs) room mark count c r g e =
    subst (λ (s : Stop). job_from gs room mark count (job_step s room n mark count c) ≡ c) (sym e) (job-kept gs room mark count c r g e)

-- no refusal: going
goes : (h : Option Halt) → is_going h ≡ true → stop_of h ≡ going
goes None e = refl
goes (Some h) e = absurd (true≢false (sym e))

-- ---- one generation of the job
module _ (halt : Option Halt) (room generation mark count : ℕ) (c : Course) where
  -- "stopping at the first call refused"
  pub job-halted : is_going halt ≡ false → job_step (stop_of halt) room generation mark count c ≡ c
  job-halted e = go halt e
    where
      go : (h : Option Halt) → is_going h ≡ false → job_step (stop_of h) room generation mark count c ≡ c
      go None e = absurd (true≢false e)
      go (Some h) e = refl

  -- else its rewrite, and what it moved beside what was moved before
  pub job-rewritten : is_going halt ≡ true → (d : Course) → d ≡ rewrite_of c.world room generation mark count
      → job_step (stop_of halt) room generation mark count c ≡ record { stop = d.stop; moved = c.moved + d.moved; world = d.world }
  job-rewritten e d q = rw (goes halt e, q) refl

-- ---- the end
module _ (a : MaintainAnswer) (w : World) where
  -- "nothing is pruned. Success prunes and gives the count of ids moved."
  pub finish-run : refused1 w ≡ false → (due : Bool) → due ≡ succeeds a
      → leaving (maintain_given a) (pick due (pruned w) w) ≡ job_ended (stop_in a) (standing a w)
  finish-run clear due e = rw e (go a)
    where
      go : (b : MaintainAnswer) → leaving (maintain_given b) (pick (succeeds b) (pruned w) w) ≡ job_ended (stop_in b) (standing b w)
      go (Ok moved) = sym (after-done (decide _) _ _ (decide-next (refused1 w) Limits [] clear ∙ decide-none))
      go (Err s) = refl

-- a job that no rewrite stops by 1 does not answer 1
pub ended-own : (a : MaintainAnswer) → OwnStop (stop_in a) → (maintain_given a).number ≡ 1 → ⊥
ended-own (Ok moved) o e = omega arith
ended-own (Err s) o e = omega arith

-- 1
pub nightly-refused : (w : World) (room : ℕ) → refused_noting w room ≡ true → leaving (maintain_given (Err (stopped_with Limits 0 0))) w ≡ nightly_call w room
unfolding nightly_call
nightly-refused w room e = sym (after-refused _ Limits _ _ (decide-first (refused_noting w room) Limits [] e))

-- not 1
pub nightly-accepted : (w : World) (room : ℕ) → refused_noting w room ≡ false → job_ended (job_of w room).stop (job_of w room) ≡ nightly_call w room
unfolding nightly_call
nightly-accepted w room e = sym (after-done _ _ _ (decide-next (refused_noting w room) Limits [] e ∙ decide-none))
