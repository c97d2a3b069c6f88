-- The plan slot by slot, as it is made.
use mathlib.Core.Path.{◌≡◌, sym, ap, ◌∙◌, subst}
use mathlib.Core.Logic.{◌⊎◌, inl, inr}
use Prim.Native.Nat.{zero, ◌≤◌, ◌<◌}
use native.Mathlib.Omega.{arith}
use denote.Param.Members.{Mut, Called}
use Rattle.std.specs.Array.{IsFromFnResult, IsFromFnResultFrom}
use Rattle.std.specs.Prelude.{◌+◌}
use Rattle.rules.specs.Base.{List, ℕ, suc, get_or}
use Rattle.rules.proofs.BaseLaws.{same?}

-- ---- a list made call by call, by a function that computes h and changes nothing: h of each place
module _ {F : Type 0} (g : Mut F (ℕ × Unit {0}) ℕ) (h : ℕ → ℕ) (f : F) (ys : List ℕ) (pure : (k r : ℕ) (q : F) → Called g f (k, tt) r q → (r ≡ h k) × (q ≡ f)) where
  made-from : (n i : ℕ) → IsFromFnResultFrom g f ys i n → (k : ℕ) → i ≤ k → k < i + n → get_or ys k 0 ≡ h k
  made-from zero i w k low high = absurd (omega arith)
  made-from (suc n) i (q, y, at, call, rest) k low high =
      let told : (y ≡ h i) × (q ≡ f) = pure i y q call in
      go told.0 (λ later. made-from n (i + 1) (subst (λ (p : F). IsFromFnResultFrom g p ys (i + 1) n) told.1 rest) k later (omega arith)) (same? k i)
    where
      go : y ≡ h i → (i + 1 ≤ k → get_or ys k 0 ≡ h k) → (k ≡ i) ⊎ (k ≡ i → ⊥) → get_or ys k 0 ≡ h k
      go here later (inl e) = ap (λ (m : ℕ). get_or ys m 0) e ∙ at.1 0 ∙ here ∙ ap h (sym e)
      go here later (inr d) = later (omega (arith, d))

  pub made-each : (n : ℕ) → IsFromFnResult g f ys n → (k : ℕ) → k < n → get_or ys k 0 ≡ h k
  made-each n w k low = made-from n 0 w.each k (omega arith) (omega arith)
