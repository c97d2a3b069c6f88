-- A list written place by place into another one of its length.
use mathlib.Core.Path.{◌≡◌, refl, sym, ap, ◌∙◌}
use mathlib.Core.List.{append_assoc, append-nil}
use Prim.Native.Nat.{◌≤◌, ◌<◌}
use native.Mathlib.Numerals.{add-one}
use native.Mathlib.Omega.{arith}
use lib.ListN.{drop_of_length-le}
use lib.Seq.{take-suc, set_at, length-take-le, take_all, drop-cons}
use Rattle.std.specs.Prelude.{◌∷◌, ◌++◌, ◌+◌}
use Rattle.rules.specs.Base.{List, [], ℕ, suc, length, get_or, take, drop, set}

-- what is written before place i, and what stood from there on
unfoldable pub filled : List ℕ → ℕ → List ℕ → List ℕ
filled to i from = take i to ++ drop i from

pub filled-start : (to from : List ℕ) → from ≡ filled to 0 from
unfolding filled
filled-start to from = refl

pub filled_next : (to : List ℕ) (i : ℕ) (from : List ℕ) → i < length to → i < length from → set (filled to i from) i (get_or to i 0) ≡ filled to (i + 1) from
unfolding filled
filled_next to i from h m =
    let front : length (take i to) ≡ i = length-take-le i to (omega arith) in
    ap (λ (l : List ℕ). set (take i to ++ l) i (get_or to i 0)) (drop-cons from i 0 m)
    ∙ set_at (take i to) _ (drop (suc i) from) (get_or to i 0) i front
    ∙ sym (append_assoc (take i to) (get_or to i 0 ∷ []) (drop (suc i) from))
    ∙ ap (λ (l : List ℕ). l ++ drop (suc i) from) (sym (take-suc to i 0 h))
    ∙ ap (λ (n : ℕ). take n to ++ drop n from) (sym (add-one i))

pub filled-end : (to : List ℕ) (i : ℕ) (from : List ℕ) → length to ≤ i → length from ≤ i → filled to i from ≡ to
unfolding filled
filled-end to i from h m = rw (drop_of_length-le from m, take_all i to h) (append-nil to)
