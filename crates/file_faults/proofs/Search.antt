-- A search from one place of a list to another. No word of the paper is here.
use Rattle.std.specs.Prelude.{◌≡◌, refl, Bool, true, false, ◌||◌, ◌≤◌, ◌<◌, ◌+◌}
use Rattle.std.proofs.Common.{sym, ap, ◌∙◌, arith, take-append-drop, get_or-take, length-take-le}
use Rattle.rules.specs.Base.{List, ℕ, length, get_or, take, drop, any}
use Rattle.rules.proofs.BaseLaws.{any_append, or-clear}
use Rattle.rules.proofs.TurnLaws.{any_here, any-later, any-end}

module _ {A : Type 0} (f : A → Bool) (xs : List A) (to : ℕ) (d : A) (fit : to ≤ length xs) where
  many : length (take to xs) ≡ to
  many = length-take-le to xs fit

  module _ (k : ℕ) (low : k < to) where
    -- this one passes
    pub part-here : f (get_or xs k d) ≡ true → any f (drop k (take to xs)) ≡ true
    part-here e = any_here (take to xs) k d (omega (arith, many)) f (ap f (get_or-take to xs k d low) ∙ e)

    -- it does not: the rest decides
    pub part-later : f (get_or xs k d) ≡ false → any f (drop (k + 1) (take to xs)) ≡ any f (drop k (take to xs))
    part-later e = any-later (take to xs) k d (omega (arith, many)) f (ap f (get_or-take to xs k d low) ∙ e)

  -- none is left
  pub part_end : (k : ℕ) → to ≤ k → any f (drop k (take to xs)) ≡ false
  part_end k h = any-end (take to xs) k (omega (arith, many)) f

-- from a cursor to the end, and from the front to the cursor: all
module _ {A : Type 0} (f : A → Bool) (n : ℕ) (xs : List A) where
  around : any f xs ≡ (any f (take n xs) || any f (drop n xs))
  around = ap (any f) (sym (take-append-drop n xs)) ∙ any_append f (take n xs) (drop n xs)

  pub around-behind : any f (drop n xs) ≡ true → any f xs ≡ true
  around-behind e = around ∙ ap (λ (t : Bool). any f (take n xs) || t) e ∙ either (any f (take n xs))
    where
      either : (t : Bool) → (t || true) ≡ true
      either true = refl
      either false = refl

  pub around-before : any f (take n xs) ≡ true → any f xs ≡ true
  around-before e = around ∙ ap (λ (t : Bool). t || any f (drop n xs)) e

  pub around-none : any f (take n xs) ≡ false → any f (drop n xs) ≡ false → any f xs ≡ false
  around-none p q = around ∙ or-clear (any f (take n xs)) (any f (drop n xs)) p q
