-- A plan as 777 words.
use Rattle.std.specs.Prelude.{◌∷◌, ◌++◌, Option, Some, None}
use Rattle.rules.specs.Base.{List, [], ℕ, replicate, padded}
use Rattle.rules.specs.declared.Refusal.{Refusal}
use Rattle.rules.specs.declared.Refusal.TheVariants.{Limits}
use Rattle.rules.specs.Refusal.{◌gives◌, decide, after, number_of}
use Rattle.rules.specs.TwoCalls.{refused_noting, mark_of, count_of, planned_slots, forecast_of, stop_given, counted}
use Rattle.rules.specs.World.{World}
use Rattle.gc_candidates.specs.Plan.{planned}
use Rattle.gc_course.specs.declared.Halt.{Halt}
use Rattle.gc_plan.specs.declared.PlanValues.{PlanValues}

-- the number foretold, 0 where nothing is
abbrev pub foretold_number : Option Halt → ℕ
foretold_number None = 0
foretold_number (Some h) = number_of h.refusal

-- the generation foretold, 0 where nothing is
abbrev pub foretold_generation : Option Halt → ℕ
foretold_generation None = 0
foretold_generation (Some h) = h.generation

-- the six numbers before the groups
abbrev pub head_words : ℕ → ℕ → ℕ → ℕ → Option Halt → List ℕ
head_words mark count files bytes foretold = mark ∷ count ∷ files ∷ bytes ∷ foretold_number foretold ∷ foretold_generation foretold ∷ []

-- a group: how many slots, the slots, zeros behind them, 257 words
unfoldable pub group_words : List ℕ → List ℕ
group_words slots = padded 257 (counted slots)

-- a plan: the six numbers, then the groups of 1, 2 and 3
unfoldable pub plan_words : PlanValues → List ℕ
plan_words p =
    head_words p.mark p.count p.files p.bytes p.foretold
    ++ (group_words (planned p.slots 1) ++ (group_words (planned p.slots 2) ++ group_words (planned p.slots 3)))

-- what a plan of a world gives, in words: the paper's values in their order, each group in 257
abbrev pub laid_words : World → List ℕ
laid_words w =
    mark_of w ∷ count_of w ∷ (forecast_of w).files ∷ (forecast_of w).bytes ∷ (stop_given (forecast_of w).stop
    ++ (group_words (planned_slots w 1) ++ (group_words (planned_slots w 2) ++ group_words (planned_slots w 3))))

-- the words of the call: zeros where 1 refuses it
unfoldable pub plan_laid : World → ℕ → List ℕ
plan_laid w room = after (decide (refused_noting w room gives Limits ∷ [])) (λ (r : Refusal). replicate 777 0) (laid_words w)
