-- One result.
use Rattle.std.specs.Prelude.{◌≡◌, ℕ, List}
use Rattle.std.proofs.Common.{sym, ap, ◌∙◌}
use Rattle.rules.specs.declared.Claims.{Claims}
use Rattle.rules.specs.declared.Settings.{Settings}
use Rattle.rules.specs.declared.State.{State}
use Rattle.rules.specs.World.{After, world, leaving}
use Rattle.as_numbers.specs.Numbered.{numbered}

-- any two results that a contract of a call in place admits are equal: the number, and the claim record
pub one-result : (a : After) (s : Settings) (state : State) (heap table : List ℕ) (n m : ℕ) (c d : Claims)
    → leaving (numbered n) (world s state c heap table) ≡ a → leaving (numbered m) (world s state d heap table) ≡ a → (n ≡ m) × (c ≡ d)
one-result a s state heap table n m c d p q = (ap (λ (e : After). e.answer.number) (p ∙ sym q), ap (λ (e : After). e.world.claims) (p ∙ sym q))
