-- A turn over the slots of a group, its start and its end.
use mathlib.Core.Path.{◌≡◌, refl, sym, ap, ◌∙◌}
use mathlib.Core.List.{append-nil}
use Prim.Native.Nat.{◌-◌, ◌≤◌, ◌<◌}
use native.Mathlib.Omega.{arith}
use lib.ListN.{length-append}
use lib.Seq.{set_at, append_snoc}
use Rattle.std.specs.Prelude.{◌∷◌, ◌++◌, ◌+◌}
use Rattle.rules.specs.Base.{List, [], ℕ, suc, length, get_or, drop, set, replicate, padded}
use Rattle.rules.specs.TwoCalls.{counted}
use Rattle.gc_candidates.specs.Plan.{planned, planned_from, planned-here, planned-next, planned-start, planned-end}

-- the word behind a run is written
padded-next : (ns : List ℕ) (m n v : ℕ) → length ns ≡ n → n < m → set (padded m ns) n v ≡ padded m (ns ++ (v ∷ []))
unfolding padded
padded-next ns m n v e h =
    let k = m - (n + 1) in
    let more : m - length ns ≡ suc k = omega (arith, e) in
    let less : m - length (ns ++ (v ∷ [])) ≡ k = omega (arith, e, length-append ns (v ∷ [])) in
    rw (more, less) (set_at ns 0 (replicate k 0) v n e ∙ sym (append_snoc ns v (replicate k 0)))

-- of m words: a word for the count, then n slots, those of the group below slot i
pub record Written (slots : List ℕ) (generation m n i : ℕ) (words : List ℕ) : Type 0 where
  pub done : List ℕ
  pub count : length done ≡ n
  pub split : planned slots generation ≡ done ++ planned_from i (drop i slots) generation
  pub laid : words ≡ padded m (0 ∷ done)

module _ (slots : List ℕ) (generation m : ℕ) where
  -- zeros
  pub written_start : 0 < m → Written slots generation m 0 0 (replicate m 0)
  unfolding padded
  written_start h =
      let one : m ≡ suc (m - 1) = omega arith in
      record { done = []; count = refl; split = planned-start slots generation; laid = ap (λ (k : ℕ). replicate k 0) one }

  module _ (n i : ℕ) (ws : List ℕ) (w : Written slots generation m n i ws) where
    -- slot i is of the group
    pub written-here : i < length slots → get_or slots i 0 ≡ generation → n + 1 < m → Written slots generation m (n + 1) (i + 1) (set ws (n + 1) i)
    written-here inside e h = record {
      done = w.done ++ (i ∷ []);
      count = omega (arith, w.count, length-append w.done (i ∷ []));
      split = w.split ∙ ap (λ (rest : List ℕ). w.done ++ rest) (planned-here slots generation i inside e) ∙ sym (append_snoc w.done i _);
      laid = ap (λ (s : List ℕ). set s (n + 1) i) w.laid ∙ padded-next (0 ∷ w.done) m (n + 1) i (omega (arith, w.count)) h;
    }

    -- or not
    pub written_next : i < length slots → (get_or slots i 0 ≡ generation → ⊥) → Written slots generation m n (i + 1) ws
    written_next inside e = record {
      done = w.done;
      count = w.count;
      split = w.split ∙ ap (λ (rest : List ℕ). w.done ++ rest) (planned-next slots generation i inside e);
      laid = w.laid;
    }

    -- the count comes before them
    pub written-end : length slots ≤ i → set ws 0 n ≡ padded m (counted (planned slots generation))
    unfolding padded
    written-end h =
        let all : planned slots generation ≡ w.done =
        w.split ∙ ap (λ (rest : List ℕ). w.done ++ rest) (planned-end slots generation i h) ∙ append-nil w.done in
        rw (w.laid, all, w.count) refl
