-- A turn of the two loops over what is left of the shards, and their ends.
use mathlib.Core.Path.{◌≡◌, refl, sym, ap, ap₂, ◌∙◌}
use mathlib.Core.List.{List, [], ◌∷◌, ◌++◌}
use Prim.Native.Nat.{ℕ, ◌+◌, ◌≤◌, ◌<◌}
use native.Mathlib.Numerals.{add-one}
use native.Mathlib.Omega.{arith}
use lib.Dec.{eqb}
use lib.ListN.{length, get_or, drop, length-append}
use Rattle.numbers.specs.Choice.{pick}
use Rattle.numbers.specs.Parts.{front, put_at, put_front, put-put, put-none, put-length}
use Rattle.rules.specs.Base.{Bool, true, false}
use Rattle.rules.proofs.TurnLaws.{left-next, left-none}
use Rattle.gc_split.specs.declared.Totals.{Totals}
use Rattle.gc_split.specs.Tally.{closing, closing_rests, rest_of, rests_from, piece_no}

module _ (slot_size : ℕ) (cs zs : List ℕ) (n : ℕ) (t : Totals) where
  pub closing-next : n < length cs → n < length zs
      → closing_rests slot_size (drop n cs) (drop n zs) t
      ≡ closing_rests slot_size (drop (n + 1) cs) (drop (n + 1) zs) (pick (eqb (get_or cs n 0) 0) t (closing slot_size (get_or zs n 0) (get_or cs n 0) t))
  unfolding closing_rests
  closing-next h g = ap₂ (λ (xs ys : List ℕ). closing_rests slot_size xs ys t) (left-next cs n 0 h) (left-next zs n 0 g)

  pub closing_end : length cs ≤ n → closing_rests slot_size (drop n cs) (drop n zs) t ≡ t
  unfolding closing_rests
  closing_end h = ap (λ (xs : List ℕ). closing_rests slot_size xs (drop n zs) t) (left-none cs n h)

-- one file more at most
pub closing-bounds : (slot_size size count : ℕ) (t : Totals) (b : Bool)
    → ((pick b t (closing slot_size size count t)).files ≤ t.files + 1) × ((pick b t (closing slot_size size count t)).positions ≤ t.positions + (size + 1))
unfolding closing
closing-bounds slot_size size count t true = (omega arith, omega arith)
closing-bounds slot_size size count t false = (omega arith, omega arith)

module _ (cs rs : List ℕ) (n : ℕ) where
  pub rests-next : n < length cs → n < length rs
      → rests_from n (drop n cs) (drop n rs) ≡ rest_of (get_or cs n 0) (piece_no n (get_or rs n 0)) ++ rests_from (n + 1) (drop (n + 1) cs) (drop (n + 1) rs)
  unfolding rests_from
  rests-next h g =
      ap₂ (λ (xs ys : List ℕ). rests_from n xs ys) (left-next cs n 0 h) (left-next rs n 0 g)
      ∙ ap (λ (m : ℕ). rest_of (get_or cs n 0) (piece_no n (get_or rs n 0)) ++ rests_from m (drop (n + 1) cs) (drop (n + 1) rs)) (sym (add-one n))

  pub rests-end : length cs ≤ n → rests_from n (drop n cs) (drop n rs) ≡ []
  unfolding rests_from
  rests-end h = ap (λ (xs : List ℕ). rests_from n xs (drop n rs)) (left-none cs n h)

-- at most one
pub rest-length : (count piece : ℕ) → length (rest_of count piece) ≤ 1
unfolding rest_of
rest-length count piece = go (eqb count 0)
  where
    go : (b : Bool) → length (pick b [] (piece ∷ [])) ≤ 1
    go true = omega arith
    go false = omega arith

-- what is left of the shards before n has its places, and the others will have theirs
pub record Placing (all old cs rs s : List ℕ) (left n : ℕ) : Type 0 where
  pub places : put_at s left (rests_from n (drop n cs) (drop n rs)) ≡ all
  pub count : left + length (rests_from n (drop n cs) (drop n rs)) ≡ length (rests_from 0 cs rs)
  pub low : left ≤ n
  pub fits : length s ≡ length old

pub placing-start : (cs rs s : List ℕ) → Placing (front (rests_from 0 cs rs) s) s cs rs s 0 0
placing-start cs rs s = record { places = put_front s (rests_from 0 cs rs); count = omega arith; low = omega arith; fits = refl }

pub placing-turn : (all old cs rs s s' : List ℕ) (left left' n : ℕ) → n < length cs → n < length rs → n < length s → Placing all old cs rs s left n
    → left' ≡ left + length (rest_of (get_or cs n 0) (piece_no n (get_or rs n 0))) → s' ≡ put_at s left (rest_of (get_or cs n 0) (piece_no n (get_or rs n 0)))
    → Placing all old cs rs s' left' (n + 1)
placing-turn all old cs rs s s' left left' n h g k p more put =
    let here = rest_of (get_or cs n 0) (piece_no n (get_or rs n 0)) in
    let rest = rests_from (n + 1) (drop (n + 1) cs) (drop (n + 1) rs) in
    let next = rests-next cs rs n h g in
    let low = p.low in
    let one = rest-length (get_or cs n 0) (piece_no n (get_or rs n 0)) in
    let room : left ≤ length s = omega arith in
    let fit : left + length here ≤ length s = omega arith in
    record {
      places = rw (put, more) (put-put s left here rest room ∙ ap (put_at s left) (sym next) ∙ p.places);
      count = omega (arith, p.count, ap length next, length-append here rest, more);
      low = omega (arith, more);
      fits = ap length put ∙ put-length s left here fit ∙ p.fits;
    }

pub placing-end : (cs rs old s : List ℕ) (left n : ℕ) → length cs ≤ n → Placing (front (rests_from 0 cs rs) old) old cs rs s left n
    → (left ≡ length (rests_from 0 cs rs)) × (s ≡ front (rests_from 0 cs rs) old)
placing-end cs rs old s left n h p =
    let none = rests-end cs rs n h in
    (omega (arith, p.count, ap length none), sym (put-none s left) ∙ ap (put_at s left) (sym none) ∙ p.places)
