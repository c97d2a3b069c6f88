-- The words of what the call `plan` gives are the definition's.
use Rattle.std.specs.Prelude.{◌≡◌, refl, ◌∷◌, ◌++◌, Ok}
use Rattle.std.proofs.Common.{ap, arith}
use Rattle.rules.specs.Base.{Bool, true, false, List, [], ℕ, replicate, pick, padded}
use Rattle.rules.specs.declared.Refusal.{Refusal}
use Rattle.rules.specs.declared.Refusal.TheVariants.{Limits}
use Rattle.rules.specs.Refusal.{◌gives◌, decide, after}
use Rattle.rules.specs.Maintenance.{Stop, going, stopped}
use Rattle.rules.specs.TwoCalls.{refused_noting, mark_of, count_of, planned_slots, forecast_of, stop_given, plan_values, plan_call}
use Rattle.rules.specs.World.{World, accepted, refused, answer_given}
use Rattle.gc_candidates.specs.Plan.{planned, planned_from}
use Rattle.gc_plan.specs.Plans.{halt_of, plan_in, no_plan, plan_result, due-slots}
use Rattle.plan_words.specs.PlanWords.{foretold_number, foretold_generation, group_words, plan_words, laid_words, plan_laid}

-- what is foretold, number and generation, before more words
foretold-words : (s : Stop) (more : List ℕ) → foretold_number (halt_of s) ∷ foretold_generation (halt_of s) ∷ more ≡ stop_given s ++ more
foretold-words going more = refl
foretold-words (stopped r g) more = refl

-- a plan of zeros
no_words : plan_words no_plan.plan ≡ replicate 777 0
unfolding plan_words group_words planned planned_from padded
no_words = refl

-- a plan that is not refused
plan-words : (w : World) → plan_words (plan_in w) ≡ laid_words w
unfolding plan_words plan_in
plan-words w =
    let groups = group_words (planned_slots w 1) ++ (group_words (planned_slots w 2) ++ group_words (planned_slots w 3)) in
    rw (due-slots w 1 (omega arith), due-slots w 2 (omega arith), due-slots w 3 (omega arith))
    (ap (λ (ns : List ℕ). mark_of w ∷ count_of w ∷ (forecast_of w).files ∷ (forecast_of w).bytes ∷ ns) (foretold-words (forecast_of w).stop groups))

-- LAW: the words of the call's plan
pub plan-laid : (w : World) (room : ℕ) → plan_words (plan_result w room).plan ≡ plan_laid w room
unfolding plan_result plan_laid decide
plan-laid w room = go (refused_noting w room)
  where
    go : (b : Bool) → plan_words (pick b no_plan (record { answer = Ok tt; plan = plan_in w })).plan
        ≡ after (decide (b gives Limits ∷ [])) (λ (r : Refusal). replicate 777 0) (laid_words w)
    go true = no_words
    go false = plan-words w

-- LAW: the call's answer, without the values
pub plan-answered : (w : World) (room : ℕ) → answer_given (plan_result w room).answer ≡ record { number = (plan_call w room).number; values = [] }
unfolding plan_result plan_call decide
plan-answered w room = go (refused_noting w room)
  where
    go : (b : Bool) → answer_given (pick b no_plan (record { answer = Ok tt; plan = plan_in w })).answer
        ≡ record { number = (after (decide (b gives Limits ∷ [])) refused (accepted (plan_values w))).number; values = [] }
    go true = refl
    go false = refl
