-- A run underway: what of it is still to be made, and by whom it is made whole.
use Rattle.std.specs.Prelude.{◌≡◌, refl, List, [], ◌++◌, ℕ, ◌+◌, length}
use Rattle.std.proofs.Common.{◌∙◌}
use Rattle.rules.specs.Stores.{Store, stores_of}
use Rattle.stores.specs.Runs.{Made, made-behind, made_none, made-length}

-- k stores of a run may be made; some are, and whoever makes the rest, as far as `left` reaches, has made the run as far as k does
pub record Underway (k : ℕ) (run : List Store) (before : List ℕ) (left : ℕ) (rest : List Store) (heap : List ℕ) : Type 0 where
  pub size : length heap ≡ length before
  pub whole : (last : List ℕ) (n : ℕ) → Made left rest heap last n → Made k run before last n

-- nothing is made yet
pub way-start : (k at : ℕ) (xs ys heap : List ℕ) → ys ≡ xs → Underway k (stores_of at xs) heap k (stores_of at ys) heap
way-start k at xs ys heap e = record { size = refl; whole = λ last n m. rw (← e) m }

-- the first bytes of the rest are made
pub way_next : (at mid : ℕ) (xs ys zs : List ℕ) {k m n : ℕ} {run : List Store} {before heap next : List ℕ} → zs ≡ xs ++ ys → at + length xs ≡ mid
    → Underway k run before m (stores_of at zs) heap → Made m (stores_of at xs) heap next n → Underway k run before n (stores_of mid ys) next
way_next at mid xs ys zs e l u a = record {
  size = made-length a ∙ u.size;
  whole = λ last n b. u.whole last n (rw e (made-behind at mid xs ys l a b));
}

-- nothing is left to make
pub way_end : (at : ℕ) (zs : List ℕ) {k m : ℕ} {run : List Store} {before heap : List ℕ} → zs ≡ [] → Underway k run before m (stores_of at zs) heap
    → Made k run before heap m
unfolding stores_of
way_end at zs {k} {m} {run} {before} {heap} e u = u.whole heap m (rw e (made_none m heap))
