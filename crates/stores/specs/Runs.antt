-- "the first k stores of such a run, for any k given"
use Rattle.std.specs.Prelude.{◌≡◌, refl, List, [], ◌∷◌, ◌++◌, ◌⊎◌, ℕ, zero, suc, ◌+◌, ◌-◌, ◌≤◌, ◌<◌, length, take, set, drop}
use Rattle.std.proofs.Common.{sym, ap, ap₂, ◌∙◌, ⊎_elim, arith, add-zero, length-append, length-take, take_all, drop-set-lt}
use Rattle.std.proofs.Math.Nat.{sub-zero, suc-sub-suc}
use Rattle.std.proofs.Math.Seq.{take-nil}
use Rattle.std.proofs.lemmas.List.{drop-set-add, take-set-le}
use Rattle.numbers.specs.Parts.{put_at}
use Rattle.rules.specs.Stores.{Store, made, stores_of}
use Rattle.rules.proofs.StoreLaws.{made-append, made-run, stores-length, stores-take, made-length as run_length}

-- k stores may be made: those of a run are made, in its order, as far as k reaches; left is what of k is left
pub record Made (k : ℕ) (run : List Store) (before after : List ℕ) (left : ℕ) : Type 0 where
  pub heap : after ≡ made (take k run) before
  pub rest : left ≡ k - length run

take_split : {A : Type 0} (k : ℕ) (xs ys : List A) → take k (xs ++ ys) ≡ take k xs ++ take (k - length xs) ys
take_split k [] ys = rw (sub-zero k, take-nil k) refl
take_split zero (x ∷ xs) ys = let none : zero - suc (length xs) ≡ zero = omega arith in rw none refl
take_split (suc k) (x ∷ xs) ys = rw (suc-sub-suc k (length xs), take_split k xs ys) refl

-- a writer, and one that goes on where it stopped
pub made_then : {k : ℕ} {xs ys : List Store} {heap next last : List ℕ} {m n : ℕ}
    → Made k xs heap next m → Made m ys next last n → Made k (xs ++ ys) heap last n
made_then {k} {xs} {ys} {heap} {next} {last} {m} {n} a b = record {
  heap =
      b.heap
      ∙ ap₂ (λ (j : ℕ) (h : List ℕ). made (take j ys) h) a.rest a.heap
      ∙ sym (made-append (take k xs) (take (k - length xs) ys) heap)
      ∙ ap (λ (run : List Store). made run heap) (sym (take_split k xs ys));
  rest = omega (arith, a.rest, b.rest, length-append xs ys);
}

-- no store at all
pub made_none : (k : ℕ) (heap : List ℕ) → Made k [] heap heap k
unfolding made
made_none k heap = record { heap = rw (take-nil k) refl; rest = omega arith }

-- where k reaches, the whole run is made
pub made-whole : {k : ℕ} {run : List Store} {heap after : List ℕ} {left : ℕ} → length run ≤ k → Made k run heap after left → after ≡ made run heap
made-whole {k} {run} {heap} h m = m.heap ∙ ap (λ (r : List Store). made r heap) (take_all k run h)

pub made-length : {k : ℕ} {run : List Store} {heap after : List ℕ} {left : ℕ} → Made k run heap after left → length after ≡ length heap
made-length {k} {run} {heap} m = ap length m.heap ∙ run_length (take k run) heap

-- ---- bytes one behind the other
pub stores-append : (at : ℕ) (xs ys : List ℕ) → stores_of at (xs ++ ys) ≡ stores_of at xs ++ stores_of (at + length xs) ys
unfolding stores_of
stores-append at [] ys = rw (add-zero at) refl
stores-append at (x ∷ xs) ys =
    let past : suc at + length xs ≡ at + suc (length xs) = omega arith in
    ap (λ (ss : List Store). record { at = at; byte = x } ∷ ss) (rw (← past) (stores-append (suc at) xs ys))

-- the first k bytes put at their place are the first k stores
pub made-put : (k at : ℕ) (bs heap after : List ℕ) (left : ℕ) → at + length bs ≤ length heap
    → after ≡ put_at heap at (take k bs) → left ≡ k - length bs → Made k (stores_of at bs) heap after left
made-put k at bs heap after left fit e l = record {
  heap =
      e
      ∙ sym (made-run at (take k bs) heap (omega (arith, length-take k bs)))
      ∙ ap (λ (run : List Store). made run heap) (sym (stores-take k at bs));
  rest = omega (arith, l, stores-length at bs);
}

-- bytes behind bytes
pub made-behind : (at mid : ℕ) (xs ys : List ℕ) {k m n : ℕ} {heap next last : List ℕ} → at + length xs ≡ mid
    → Made k (stores_of at xs) heap next m → Made m (stores_of mid ys) next last n → Made k (stores_of at (xs ++ ys)) heap last n
made-behind at mid xs ys e a b = rw (stores-append at xs ys, e) (made_then a b)

-- bytes that end before a store, or begin behind it, stay
pub set_apart : (heap : List ℕ) (at from n b : ℕ) → (at < from) ⊎ (from + n ≤ at) → take n (drop from (set heap at b)) ≡ take n (drop from heap)
set_apart heap at from n b =
    ⊎_elim
    (λ h. ap (take n) (drop-set-lt from heap at b h))
    (λ h. let on : at ≡ from + (at - from) = omega arith in
    ap (λ (k : ℕ). take n (drop from (set heap k b))) on ∙ ap (take n) (drop-set-add from heap (at - from) b)
    ∙ take-set-le n (drop from heap) (at - from) b (omega arith))
