-- C: maintenance answers the count of ids moved, the live counts of the finished groups' files as the call starts; or stops with 4, 5 or 7.
use Rattle.std.proofs.Math.Path.{◌≡◌}
use Rattle.std.specs.Prelude.{◌⊎◌, ◌∷◌, ◌++◌, ◌+◌, Err, Ok}
use Rattle.rules.specs.Base.{List, [], ℕ, length, ltb, pick, keep, sum}
use Rattle.theory.specs.Types.{Refusal, stopped_with}
use Rattle.rules.specs.BaseLaws.{All}
use Rattle.rules.specs.FileMap.{record_at}
use Rattle.rules.specs.Maintenance.{Stop, going, stopped, Course, start_group, maintain_call}
use Rattle.rules.specs.World.{World, records_of, Given, maintain_given}
use Rattle.maintenance_theory.specs.Stopping.{Spent}

-- the ids mapped into a generation's candidates, as the call starts; none where the group is skipped
abbrev pub live_of : World → ℕ → ℕ
live_of w g = pick (ltb (length (start_group w g)) w.settings.min_compaction_files) 0 (sum (λ (k : ℕ). (record_at (records_of w) k).live) (start_group w g))

-- the generations before one
abbrev pub before : ℕ → List ℕ
before g = keep (λ (h : ℕ). ltb h g) (1 ∷ 2 ∷ 3 ∷ [])

-- what maintenance answers on the store w: the live counts of all groups that are not skipped; or a number, its generation, and those of the
-- generations before
abbrev pub AnswersAs : (Refusal → ℕ → Type 0) → World → Given → Type 0
AnswersAs refuses w a =
    (a ≡ maintain_given (Ok (sum (live_of w) (1 ∷ 2 ∷ 3 ∷ []))))
    ⊎ ((r : Refusal) × (g : ℕ) × (a ≡ maintain_given (Err (stopped_with r g (sum (live_of w) (before g))))) × refuses r g)

-- what the old call answers
abbrev pub AnswersBut : (Refusal → ℕ → Type 0) → World → Type 0
AnswersBut refuses w = AnswersAs refuses w (maintain_call w).answer

-- with 4, 5 or 7 only
abbrev pub Answers : World → Type 0
Answers = AnswersBut (λ r g. Spent r)

-- ---- group by group
-- what was moved, where the groups ds are done
abbrev pub MovedBy : World → List ℕ → Stop → ℕ → Type 0
MovedBy start ds going n = n ≡ sum (live_of start) ds
MovedBy start ds (stopped r g) n = n ≡ sum (live_of start) (before g)

pub record Tallied (start : World) (ds gs : List ℕ) (c : Course) : Type 0 where
  pub settings : c.world.settings ≡ start.settings
  pub same : All (λ (g : ℕ). All (λ (k : ℕ). record_at (records_of c.world) k ≡ record_at (records_of start) k) (start_group start g)) gs
  pub moved : MovedBy start ds c.stop c.moved

-- ds are the generations before the next one, and no generation comes twice
abbrev pub Splits : List ℕ → List ℕ → Type 0
Splits ds [] = Unit {0}
Splits ds (g ∷ gs) = (before g ≡ ds) × All (λ (h : ℕ). h ≡ g → ⊥) gs × Splits (ds ++ (g ∷ [])) gs
