-- Candidates by a mark and a file count: a number for each slot, so that the groups stay while files are rewritten.
use Rattle.std.specs.Prelude.{◌≡◌, ◌⊎◌, ◌≤◌, ◌<◌, ◌&&◌, ◌∷◌, ◌+◌}
use Rattle.std.proofs.Math.Path.{refl}
use Rattle.std.proofs.Common.{sym, ap, ◌∙◌, subst, inl, inr, not-suc-le-zero, le_of_suc-le-suc, zero-add, arith, drop_of_length-le, drop-cons}
use Rattle.std.proofs.Math.Numerals.{add-one}
use Rattle.std.proofs.Math.ListN.{get_or-eq_default}
use borrow.Author.Tests.{eq-eqb, ne_eqb}
use Rattle.rules.specs.Base.{Bool, true, false, List, [], ℕ, zero, suc, length, get_or, drop, eqb, pick}
use Rattle.numbers.specs.GroupLaws.{either_way}
use Rattle.rules.specs.BaseLaws.{All}
use Rattle.rules.proofs.BaseLaws.{same?}
use Rattle.rules.specs.declared.Record.{Record}
use Rattle.rules.specs.declared.Settings.{Settings}
use Rattle.rules.specs.declared.Claims.{Claims}
use Rattle.rules.specs.FileMap.{is_empty, record_at, slots_where}
use Rattle.rules.specs.Maintenance.{new_generation, is_candidate, group}
use Rattle.rules.proofs.MaintenanceLaws.{candidate}
use Rattle.rules.specs.World.{World, records_of}

-- a candidate's new generation; 0 for any other slot
unfoldable pub plan_for : Settings → Claims → ℕ → ℕ → ℕ → Record → ℕ
plan_for s claims mark count slot r = pick (is_candidate s claims mark count slot r) (new_generation r.label.generation) 0

-- of the records from slot i on
unfoldable pub plan_from : Settings → Claims → ℕ → ℕ → ℕ → List Record → List ℕ
plan_from s claims mark count i [] = []
plan_from s claims mark count i (r ∷ rs) = plan_for s claims mark count i r ∷ plan_from s claims mark count (suc i) rs

-- of all records
unfoldable pub plan_of : Settings → Claims → ℕ → ℕ → List Record → List ℕ
plan_of s claims mark count rs = plan_from s claims mark count 0 rs

-- the slots, from i on, with that number, ascending
unfoldable pub planned_from : ℕ → List ℕ → ℕ → List ℕ
planned_from i [] generation = []
planned_from i (n ∷ ns) generation = pick (eqb n generation) (i ∷ planned_from (suc i) ns generation) (planned_from (suc i) ns generation)

-- of all slots
unfoldable pub planned : List ℕ → ℕ → List ℕ
planned plan generation = planned_from 0 plan generation

-- ---- the groups are read off the plan
for-group : (b : Bool) (n generation : ℕ) → 0 < generation → (b && eqb n generation) ≡ eqb (pick b n 0) generation
for-group true n generation h = refl
for-group false n generation h = sym (ne_eqb 0 generation (λ e. omega arith))

from-group : (s : Settings) (claims : Claims) (mark count generation i : ℕ) (rs : List Record) → 0 < generation
    → slots_where (λ (k : ℕ) (r : Record). is_candidate s claims mark count k r && eqb (new_generation r.label.generation) generation) i rs
    ≡ planned_from i (plan_from s claims mark count i rs) generation
unfolding slots_where planned_from plan_from plan_for
from-group s claims mark count generation i [] h = refl
from-group s claims mark count generation i (r ∷ rs) h =
    rw (from-group s claims mark count generation (suc i) rs h, for-group (is_candidate s claims mark count i r) (new_generation r.label.generation) generation h) refl

-- "They are grouped by new generation"
pub group-planned : (w : World) (generation mark count : ℕ) → 0 < generation
    → group w generation mark count ≡ planned (plan_of w.settings w.claims mark count (records_of w)) generation
unfolding group planned plan_of
group-planned w generation mark count h = from-group w.settings w.claims mark count generation 0 (records_of w) h

-- ---- a plan slot by slot
from-length : (s : Settings) (claims : Claims) (mark count i : ℕ) (rs : List Record) → length (plan_from s claims mark count i rs) ≡ length rs
unfolding plan_from
from-length s claims mark count i [] = refl
from-length s claims mark count i (r ∷ rs) = ap suc (from-length s claims mark count (suc i) rs)

from_at : (s : Settings) (claims : Claims) (mark count i : ℕ) (rs : List Record) (k : ℕ) → k < length rs → get_or (plan_from s claims mark count i rs) k 0 ≡ plan_for s claims mark count (i + k) (record_at rs k)
unfolding plan_from
from_at s claims mark count i [] k h = absurd (not-suc-le-zero h)
from_at s claims mark count i (r ∷ rs) zero h = let e : i ≡ i + 0 = omega arith in ap (λ (n : ℕ). plan_for s claims mark count n r) e
from_at s claims mark count i (r ∷ rs) (suc k) h =
    let e : suc i + k ≡ i + suc k = omega arith in
    from_at s claims mark count (suc i) rs k (le_of_suc-le-suc h) ∙ ap (λ (n : ℕ). plan_for s claims mark count n (record_at rs k)) e

-- as many slots as records
pub plan-length : (s : Settings) (claims : Claims) (mark count : ℕ) (rs : List Record) → length (plan_of s claims mark count rs) ≡ length rs
unfolding plan_of
plan-length s claims mark count rs = from-length s claims mark count 0 rs

-- slot k's number
pub plan-at : (s : Settings) (claims : Claims) (mark count : ℕ) (rs : List Record) (k : ℕ) → k < length rs → get_or (plan_of s claims mark count rs) k 0 ≡ plan_for s claims mark count k (record_at rs k)
unfolding plan_of
plan-at s claims mark count rs k h = from_at s claims mark count 0 rs k h ∙ ap (λ (n : ℕ). plan_for s claims mark count n (record_at rs k)) (zero-add k)

plan-some : (s : Settings) (claims : Claims) (mark count slot : ℕ) (r : Record) → 0 < plan_for s claims mark count slot r → is_empty r ≡ false
unfolding plan_for
plan-some s claims mark count slot r h = go (is_candidate s claims mark count slot r) refl h
  where
    go : (t : Bool) → is_candidate s claims mark count slot r ≡ t → 0 < pick t (new_generation r.label.generation) 0 → is_empty r ≡ false
    go true e h = (candidate s claims mark count slot r e).file
    go false e h = absurd (omega arith)

-- a slot of the plan has a file
pub plan-files : (s : Settings) (claims : Claims) (mark count : ℕ) (rs : List Record) (k : ℕ) → 0 < get_or (plan_of s claims mark count rs) k 0 → is_empty (record_at rs k) ≡ false
plan-files s claims mark count rs k h = go (either_way k (length rs))
  where
    go : (k < length rs) ⊎ (length rs ≤ k) → is_empty (record_at rs k) ≡ false
    go (inl i) = let n = plan-at s claims mark count rs k i in plan-some s claims mark count k (record_at rs k) (omega arith)
    go (inr i) =
        let z : get_or (plan_of s claims mark count rs) k 0 ≡ 0 = get_or-eq_default (plan_of s claims mark count rs) 0 {n = k} (omega (arith, plan-length s claims mark count rs)) in
        absurd (omega arith)

-- ---- a turn over the slots of a group
module _ (plan : List ℕ) (generation i : ℕ) (h : i < length plan) where
  -- slot i is in it
  pub planned-here : get_or plan i 0 ≡ generation → planned_from i (drop i plan) generation ≡ i ∷ planned_from (i + 1) (drop (i + 1) plan) generation
  unfolding planned_from
  planned-here e = rw (drop-cons plan i 0 h, eq-eqb (get_or plan i 0) generation e, add-one i) refl

  -- or not
  pub planned-next : (get_or plan i 0 ≡ generation → ⊥) → planned_from i (drop i plan) generation ≡ planned_from (i + 1) (drop (i + 1) plan) generation
  unfolding planned_from
  planned-next e = rw (drop-cons plan i 0 h, ne_eqb (get_or plan i 0) generation e, add-one i) refl

-- the first turn, and the end
pub planned-start : (plan : List ℕ) (generation : ℕ) → planned plan generation ≡ planned_from 0 (drop 0 plan) generation
unfolding planned
planned-start plan generation = refl

pub planned-end : (plan : List ℕ) (generation i : ℕ) → length plan ≤ i → planned_from i (drop i plan) generation ≡ []
unfolding planned_from
planned-end plan generation i h = rw (drop_of_length-le plan {i = i} h) refl

-- ---- each slot of a group has its number
from_all : (plan : List ℕ) (generation n i : ℕ) → length plan ≤ i + n → All (λ (k : ℕ). (k < length plan) × (get_or plan k 0 ≡ generation)) (planned_from i (drop i plan) generation)
from_all plan generation zero i h = rw (planned-end plan generation i (omega arith)) tt
from_all plan generation (suc n) i h = go (either_way i (length plan)) (same? (get_or plan i 0) generation) (from_all plan generation n (i + 1) (omega arith))
  where
    Numbered : ℕ → Type 0
    Numbered k = (k < length plan) × (get_or plan k 0 ≡ generation)

    go : (i < length plan) ⊎ (length plan ≤ i) → (get_or plan i 0 ≡ generation) ⊎ (get_or plan i 0 ≡ generation → ⊥)
        → All Numbered (planned_from (i + 1) (drop (i + 1) plan) generation) → All Numbered (planned_from i (drop i plan) generation)
    go (inr past) e ih = rw (planned-end plan generation i past) tt
    go (inl inside) (inl e) ih = subst (All Numbered) (sym (planned-here plan generation i inside e)) ((inside, e), ih)
    go (inl inside) (inr e) ih = subst (All Numbered) (sym (planned-next plan generation i inside e)) ih

pub planned-all : (plan : List ℕ) (generation : ℕ) → All (λ (k : ℕ). (k < length plan) × (get_or plan k 0 ≡ generation)) (planned plan generation)
planned-all plan generation = subst (All (λ (k : ℕ). (k < length plan) × (get_or plan k 0 ≡ generation))) (sym (planned-start plan generation)) (from_all plan generation (length plan) 0 (omega arith))
