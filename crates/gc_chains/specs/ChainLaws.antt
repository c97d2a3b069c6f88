-- A step along a chain, and what holds of every operation of one.
use Rattle.std.specs.Prelude.{◌≡◌, ◌⊎◌, ◌≤◌, ◌<◌, ◌∷◌, ◌+◌}
use Rattle.std.proofs.Math.Path.{refl}
use Rattle.std.proofs.Common.{sym, ap, ◌∙◌, inl, inr, arith}
use borrow.Author.Tests.{eq-eqb, ne_eqb, eqb-false}
use Rattle.rules.specs.Base.{Bool, true, false, List, [], ℕ, zero, suc, length, get_or, drop, eqb, pick}
use Rattle.rules.specs.BaseLaws.{All}
use Rattle.rules.proofs.BaseLaws.{zero-or-more}
use Rattle.rules.specs.Ops.{Op}
use Rattle.gc_files.specs.Places.{op_at}
use Rattle.gc_chains.specs.Chains.{chain_from, chain_ops, Leads}

-- ---- none, and a step
-- no entry has the number 0
pub chain-none : (at : ℕ) (heap xs ps ls : List ℕ) → chain_from 0 (suc at) heap xs ps ls ≡ []
unfolding chain_from
chain-none at heap [] ps ls = refl
chain-none at heap (x ∷ xs) [] ls = refl
chain-none at heap (x ∷ xs) (p ∷ ps) [] = refl
chain-none at heap (x ∷ xs) (p ∷ ps) (l ∷ ls) = rw (ne_eqb 0 (suc at) (λ e. omega arith)) (chain-none (suc at) heap xs ps ls)

-- the entry k further is the next one
chain-at : (k at : ℕ) (heap xs ps ls : List ℕ) → k < length xs → k < length ps → k < length ls → 0 < get_or ps k 0
    → chain_from (at + k) at heap xs ps ls
    ≡ op_at heap (get_or xs k 0) (get_or ps k 0) ∷ chain_from (get_or ls k 0) (suc (at + k)) heap (drop (suc k) xs) (drop (suc k) ps) (drop (suc k) ls)
unfolding chain_from
chain-at k at heap [] ps ls h g m some = absurd (omega arith)
chain-at k at heap (x ∷ xs) [] ls h g m some = absurd (omega arith)
chain-at k at heap (x ∷ xs) (p ∷ ps) [] h g m some = absurd (omega arith)
chain-at zero at heap (x ∷ xs) (p ∷ ps) (l ∷ ls) h g m some =
    let here : at + 0 ≡ at = omega arith in
    rw (here, eq-eqb at at refl, ne_eqb p 0 (λ e. omega arith)) refl
chain-at (suc k) at heap (x ∷ xs) (p ∷ ps) (l ∷ ls) h g m some =
    let there : at + suc k ≡ suc at + k = omega arith in
    rw (there, ne_eqb (suc at + k) at (λ e. omega arith)) (chain-at k (suc at) heap xs ps ls (omega arith) (omega arith) (omega arith) some)

-- the k entries before the next one are passed over
chain-past : (k next at : ℕ) (heap xs ps ls : List ℕ) → (0 < next → at + k ≤ next) → 0 < at
    → chain_from next at heap xs ps ls ≡ chain_from next (at + k) heap (drop k xs) (drop k ps) (drop k ls)
unfolding chain_from
chain-past zero next at heap xs ps ls on some = let here : at + 0 ≡ at = omega arith in rw here refl
chain-past (suc k) next at heap [] ps ls on some = refl
chain-past (suc k) next at heap (x ∷ xs) [] ls on some = none (drop k xs)
  where
    none : (ys : List ℕ) → [] ≡ chain_from next (at + suc k) heap ys [] (drop (suc k) ls)
    none [] = refl
    none (y ∷ ys) = refl
chain-past (suc k) next at heap (x ∷ xs) (p ∷ ps) [] on some = none (drop k xs) (drop k ps)
  where
    none : (ys qs : List ℕ) → [] ≡ chain_from next (at + suc k) heap ys qs []
    none [] qs = refl
    none (y ∷ ys) [] = refl
    none (y ∷ ys) (q ∷ qs) = refl
chain-past (suc k) next at heap (x ∷ xs) (p ∷ ps) (l ∷ ls) on some =
    let there : at + suc k ≡ suc at + k = omega arith in
    rw (ne_eqb next at (λ e. other (zero-or-more next) e), there) (chain-past k next (suc at) heap xs ps ls (λ h. omega (arith, on h)) (omega arith))
  where
    other : (next ≡ 0) ⊎ (0 < next) → next ≡ at → ⊥
    other (inl z) e = omega arith
    other (inr h) e = omega (arith, on h)

-- LAW: an entry that is moved, then the chain that its link leads to
pub chain-step : (heap ids places links : List ℕ) (k : ℕ) → k < length ids → k < length places → k < length links → 0 < get_or places k 0
    → Leads (length ids) places (suc k) (get_or links k 0)
    → chain_ops (suc k) heap ids places links ≡ op_at heap (get_or ids k 0) (get_or places k 0) ∷ chain_ops (get_or links k 0) heap ids places links
chain-step heap ids places links k h g m some lead =
    let here : suc k ≡ 1 + k = omega arith in
    let past : suc (1 + k) ≡ 1 + suc k = omega arith in
    ap (λ (n : ℕ). chain_from n 1 heap ids places links) here
    ∙ chain-at k 1 heap ids places links h g m some
    ∙ ap (λ (n : ℕ). op_at heap (get_or ids k 0) (get_or places k 0) ∷ chain_from (get_or links k 0) n heap (drop (suc k) ids) (drop (suc k) places) (drop (suc k) links)) past
    ∙ ap (λ (os : List Op). op_at heap (get_or ids k 0) (get_or places k 0) ∷ os) (sym (chain-past (suc k) (get_or links k 0) 1 heap ids places links (λ z. omega (arith, lead.on z)) (omega arith)))

-- ---- every operation of a chain
-- they are no more than the entries
pub chain-few : (next at : ℕ) (heap xs ps ls : List ℕ) → length (chain_from next at heap xs ps ls) ≤ length xs
unfolding chain_from
chain-few next at heap [] ps ls = omega arith
chain-few next at heap (x ∷ xs) [] ls = omega arith
chain-few next at heap (x ∷ xs) (p ∷ ps) [] = omega arith
chain-few next at heap (x ∷ xs) (p ∷ ps) (l ∷ ls) = go (eqb next at) (eqb p 0) (chain-few l (suc at) heap xs ps ls) (chain-few next (suc at) heap xs ps ls)
  where
    go : (t u : Bool) → length (chain_from l (suc at) heap xs ps ls) ≤ length xs → length (chain_from next (suc at) heap xs ps ls) ≤ length xs
        → length (pick t (pick u [] (op_at heap x p ∷ chain_from l (suc at) heap xs ps ls)) (chain_from next (suc at) heap xs ps ls)) ≤ suc (length xs)
    go true true h g = omega arith
    go true false h g = omega arith
    go false u h g = omega arith

-- what holds of the operation of each entry that is moved holds of each of a chain
module _ (P : Op → Type 0) (heap : List ℕ) where
  pub chain-each : (next at : ℕ) (xs ps ls : List ℕ) → ((i : ℕ) → i < length xs → 0 < get_or ps i 0 → P (op_at heap (get_or xs i 0) (get_or ps i 0)))
      → All P (chain_from next at heap xs ps ls)
  unfolding chain_from
  chain-each next at [] ps ls h = tt
  chain-each next at (x ∷ xs) [] ls h = tt
  chain-each next at (x ∷ xs) (p ∷ ps) [] h = tt
  chain-each next at (x ∷ xs) (p ∷ ps) (l ∷ ls) h =
      go (eqb next at) (eqb p 0) refl (chain-each l (suc at) xs ps ls (λ i b m. h (suc i) (omega arith) m)) (chain-each next (suc at) xs ps ls (λ i b m. h (suc i) (omega arith) m))
    where
      go : (t u : Bool) → eqb p 0 ≡ u → All P (chain_from l (suc at) heap xs ps ls) → All P (chain_from next (suc at) heap xs ps ls)
          → All P (pick t (pick u [] (op_at heap x p ∷ chain_from l (suc at) heap xs ps ls)) (chain_from next (suc at) heap xs ps ls))
      go true true e a b = tt
      go true false e a b = let moved = eqb-false p 0 e in (h 0 (omega arith) (omega (arith, moved)), a)
      go false u e a b = b

-- where two heaps have the same operation at each place, a chain has the same operations
pub chain_same : (heap after : List ℕ) (next at : ℕ) (xs ps ls : List ℕ) → ((x i : ℕ) → 0 < get_or ps i 0 → op_at after x (get_or ps i 0) ≡ op_at heap x (get_or ps i 0))
    → chain_from next at after xs ps ls ≡ chain_from next at heap xs ps ls
unfolding chain_from
chain_same heap after next at [] ps ls h = refl
chain_same heap after next at (x ∷ xs) [] ls h = refl
chain_same heap after next at (x ∷ xs) (p ∷ ps) [] h = refl
chain_same heap after next at (x ∷ xs) (p ∷ ps) (l ∷ ls) h =
    go (eqb next at) (zero-or-more p) (chain_same heap after l (suc at) xs ps ls (λ y i. h y (suc i))) (chain_same heap after next (suc at) xs ps ls (λ y i. h y (suc i)))
  where
    taken : Bool → Bool → Op → List Op → List Op → List Op
    taken t u op rest others = pick t (pick u [] (op ∷ rest)) others

    go : (t : Bool) → (p ≡ 0) ⊎ (0 < p) → chain_from l (suc at) after xs ps ls ≡ chain_from l (suc at) heap xs ps ls → chain_from next (suc at) after xs ps ls ≡ chain_from next (suc at) heap xs ps ls
        → taken t (eqb p 0) (op_at after x p) (chain_from l (suc at) after xs ps ls) (chain_from next (suc at) after xs ps ls)
        ≡ taken t (eqb p 0) (op_at heap x p) (chain_from l (suc at) heap xs ps ls) (chain_from next (suc at) heap xs ps ls)
    go true (inl none) a b = rw (eq-eqb p 0 none) refl
    go true (inr some) a b = rw (h x 0 some, a) refl
    go false m a b = b
