-- The empty slots of a heap, as the code lists them.
use Rattle.std.specs.Prelude.{◌≡◌, ◌≤◌, ◌<◌, ◌∷◌, ◌++◌, ◌+◌}
use Rattle.std.proofs.Common.{sym, ap, ◌∙◌, append-nil, add-one, arith, length-take-le, get_or-take, take-suc-set}
use Rattle.std.proofs.Math.Seq.{append_snoc}
use Rattle.rules.specs.Base.{List, [], ℕ, length, get_or, set, take}
use Rattle.rules.specs.declared.Settings.{Settings}
use Rattle.rules.specs.declared.FileMap.{FileMap}
use Rattle.rules.specs.Settings.{slots_in}
use Rattle.rules.specs.FileMap.{empty_slots}

-- the slots of a heap that are empty, ascending
abbrev pub empties_in : Settings → FileMap → List ℕ → List ℕ
empties_in s m heap = empty_slots (slots_in s (length heap)) m.records

-- how many
abbrev pub empty_in : Settings → FileMap → List ℕ → ℕ
empty_in s m heap = length (empties_in s m heap)

-- they stand first in a list with room for them
pub record Listed (empties frees : List ℕ) : Type 0 where
  pub room : length empties ≤ length frees
  pub same : take (length empties) frees ≡ empties

-- one more is listed, others are left
pub listed_next : (frees : List ℕ) (k slot : ℕ) (rest : List ℕ) → k < length frees → take k frees ++ (slot ∷ rest) ≡ take (k + 1) (set frees k slot) ++ rest
listed_next frees k slot rest h =
    let more : take (k + 1) (set frees k slot) ≡ take k frees ++ (slot ∷ []) = rw (add-one k) (take-suc-set frees k slot h) in
    sym (ap (λ (ns : List ℕ). ns ++ rest) more ∙ append_snoc (take k frees) slot rest)

-- none is left
pub listed-end : (empties frees : List ℕ) (k : ℕ) → k ≤ length frees → empties ≡ take k frees ++ [] → (k ≡ length empties) × Listed empties frees
listed-end empties frees k h e =
    let all : empties ≡ take k frees = e ∙ append-nil (take k frees) in
    let many : length empties ≡ k = ap length all ∙ length-take-le k frees h in
    (sym many, record { room = omega (arith, many, h); same = ap (λ (n : ℕ). take n frees) many ∙ sym all })

-- each at its place
pub listed_at : (empties frees : List ℕ) → Listed empties frees → (k : ℕ) → k < length empties → get_or frees k 0 ≡ get_or empties k 0
listed_at empties frees w k h = sym (get_or-take (length empties) frees k 0 h) ∙ ap (λ (ns : List ℕ). get_or ns k 0) w.same
