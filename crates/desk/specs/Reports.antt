-- The report that is lent to a salvage.
use Rattle.std.specs.Prelude.{◌≡◌, refl, ◌∷◌, Err, Ok}
use Rattle.rules.specs.Base.{List, [], ℕ, length}
use Rattle.rules.specs.Refusal.{◌gives◌, decide, after}
use Rattle.rules.specs.Condition1.{out_of_range}
use Rattle.rules.specs.World.{Given, refused}
use Rattle.losses.specs.Salvage.{Salvaged, salvage_call}
use Rattle.desk.specs.Types.{Refusal, Limits, Answer}
use Rattle.desk.specs.Desk.{Desk, world_of}
use Rattle.desk.specs.Commands.{salvage_on}

-- LAW: answer and heap are the same whatever stood in it
pub report-apart : (d : Desk) (report : List ℕ) → ((salvage_on d report).answer ≡ (salvage_on d []).answer) × ((salvage_on d report).heap ≡ (salvage_on d []).heap)
unfolding salvage_call
report-apart d report = go (decide (out_of_range d.bench.settings (length d.heap) (world_of d).table gives Limits ∷ [])) _ _ _ _
  where
    told : Given → List ℕ → List ℕ → Salvaged
    told answer words heap = record { answer = answer; report = words; heap = heap }

    go : (a : Answer) (g : Given) (xs ys heap : List ℕ)
        → ((after a (λ (r : Refusal). told (refused r) report d.heap) (told g xs heap)).answer ≡ (after a (λ (r : Refusal). told (refused r) [] d.heap) (told g ys heap)).answer)
        × ((after a (λ (r : Refusal). told (refused r) report d.heap) (told g xs heap)).heap ≡ (after a (λ (r : Refusal). told (refused r) [] d.heap) (told g ys heap)).heap)
    go (Ok _) g xs ys heap = (refl, refl)
    go (Err r) g xs ys heap = (refl, refl)
