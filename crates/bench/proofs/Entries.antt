-- Counting the used entries, place by place.
use mathlib.Core.Path.{◌≡◌, refl}
use mathlib.Core.List.{List}
use Prim.Native.Nat.{ℕ, suc, ◌+◌, ◌<◌, ◌≤◌}
use native.Mathlib.Numerals.{add-one}
use lib.ListN.{length, drop, get_or, drop_of_length-le}
use lib.Seq.{drop-cons}
use borrow.Author.Tests.{eq-eqb, ne_eqb}
use Rattle.rules.specs.Layout.{used_in}

module _ (is ls : List ℕ) (k : ℕ) where
  pub used-end : length is ≤ k → length (used_in (drop k is) (drop k ls)) ≡ 0
  unfolding used_in
  used-end h = rw (drop_of_length-le is {i = k} h) refl

  pub unused : k < length is → k < length ls → get_or ls k 0 ≡ 0 → length (used_in (drop k is) (drop k ls)) ≡ 0
  unfolding used_in
  unused hi hl z = rw (drop-cons is k 0 hi, drop-cons ls k 0 hl, eq-eqb _ _ z) refl

  pub used-more : k < length is → k < length ls → (get_or ls k 0 ≡ 0 → ⊥)
      → length (used_in (drop k is) (drop k ls)) ≡ suc (length (used_in (drop (k + 1) is) (drop (k + 1) ls)))
  unfolding used_in
  used-more hi hl z = rw (add-one k, drop-cons is k 0 hi, drop-cons ls k 0 hl, ne_eqb _ _ z) refl
