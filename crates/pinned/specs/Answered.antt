-- An accepted answer: no condition held.
use Rattle.std.specs.Prelude.{◌≡◌, refl, Err, Ok}
use Rattle.std.proofs.Common.{ap}
use Rattle.std.proofs.lemmas.Bool.{eqb-false}
use Rattle.rules.specs.Base.{[]}
use Rattle.theory.specs.Types.{Refusal, Answer}
use Rattle.rules.specs.Refusal.{number_of, after}
use Rattle.rules.proofs.Answers.{known}
use Rattle.rules.specs.World.{World, Given, accepted, refused, After, unchanged}

-- a refusal is not accepted
pub refused-not : (r : Refusal) → refused r ≡ accepted [] → ⊥
refused-not r e = eqb-false (number_of r) 0 (known r).some (ap (λ (g : Given). g.number) e)

-- what was accepted was not refused
pub answered : (a : Answer) (w : World) (x : After) → (after a (unchanged w) x).answer ≡ accepted [] → a ≡ Ok tt
answered (Ok _) w x e = refl
answered (Err r) w x e = absurd (refused-not r e)
