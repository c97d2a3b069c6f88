-- There are never more lines than slots, and each names a slot of the heap.
use Rattle.std.specs.Prelude.{◌≡◌, refl, Bool, true, false, ◌≤◌, ◌<◌, ◌∷◌, ◌++◌, ◌+◌}
use Rattle.std.proofs.Common.{ap, ◌∙◌, take_all, zero-le, arith, length-append}
use Rattle.std.proofs.lemmas.List.{length-map}
use Rattle.rules.specs.Base.{List, [], map, ℕ, suc, length, take, leb, ltb, pick}
use Rattle.rules.specs.BaseLaws.{All}
use Rattle.rules.proofs.BaseLaws.{all_map, all_append}
use Rattle.rules.specs.Settings.{slots_in}
use Rattle.rules.specs.SettingsLaws.{InRanges, HeapInRange}
use Rattle.rules.proofs.SettingsLaws.{slot-within}
use Rattle.rules.specs.SlotFile.{View, empty, damaged, holds}
use Rattle.rules.specs.Stores.{Store, made}
use Rattle.rules.specs.PruneLaws.{emptying}
use Rattle.faults.specs.Faults.{judged_in}
use Rattle.losses.specs.Types.{Settings, Overlap, Loss}
use Rattle.losses.specs.Salvage.{loss, first_kind, Sound, the_rest, start_of, end_of, placed, in_order, given_up_behind, second_kind, losses_in, report_of, emptying_of}
use Rattle.losses.specs.Lines.{LabelsIn}
use Rattle.losses.specs.Starts.{rest_all, all-in-order, judged-length}

-- "First .. Then the rest"
pub kinds-are : (vs : List View) → losses_in vs ≡ first_kind 0 vs ++ second_kind (in_order (the_rest 0 vs))
unfolding losses_in
kinds-are vs = refl

-- ---- how many
-- of each slot at most one of the two
pub first-and-rest : (k : ℕ) (vs : List View) → length (first_kind k vs) + length (the_rest k vs) ≤ length vs
unfolding first_kind the_rest
first-and-rest k [] = zero-le
first-and-rest k (empty ∷ vs) = omega (arith, first-and-rest (suc k) vs)
first-and-rest k (damaged r ∷ vs) = omega (arith, first-and-rest (suc k) vs)
first-and-rest k (holds f ∷ vs) = omega (arith, first-and-rest (suc k) vs)

placed-length : (x : Sound) (xs : List Sound) → length (placed x xs) ≡ suc (length xs)
unfolding placed
placed-length x [] = refl
placed-length x (y ∷ ys) = go (leb (start_of x) (start_of y)) (placed-length x ys)
  where
    go : (t : Bool) → length (placed x ys) ≡ suc (length ys) → length (pick t (x ∷ y ∷ ys) (y ∷ placed x ys)) ≡ suc (suc (length ys))
    go true ih = refl
    go false ih = ap suc ih

pub order-length : (xs : List Sound) → length (in_order xs) ≡ length xs
unfolding in_order
order-length [] = refl
order-length (x ∷ xs) = placed-length x (in_order xs) ∙ ap suc (order-length xs)

behind-few : (end : ℕ) (xs : List Sound) → length (given_up_behind end xs) ≤ length xs
unfolding given_up_behind
behind-few end [] = zero-le
behind-few end (x ∷ xs) = go (ltb end (start_of x)) (behind-few (end_of x) xs) (behind-few end xs)
  where
    go : (t : Bool) → length (given_up_behind (end_of x) xs) ≤ length xs → length (given_up_behind end xs) ≤ length xs
        → length (pick t (given_up_behind (end_of x) xs) (loss x.slot Overlap ∷ given_up_behind end xs)) ≤ suc (length xs)
    go true a b = omega arith
    go false a b = omega arith

second-few : (xs : List Sound) → length (second_kind xs) ≤ length xs
unfolding second_kind
second-few [] = zero-le
second-few (x ∷ xs) = omega (arith, behind-few (end_of x) xs)

-- no more lines than slots
pub losses-few : (vs : List View) → length (losses_in vs) ≤ length vs
losses-few vs =
    omega (
      arith,
      ap length (kinds-are vs),
      length-append (first_kind 0 vs) (second_kind (in_order (the_rest 0 vs))),
      first-and-rest 0 vs,
      second-few (in_order (the_rest 0 vs)),
      order-length (the_rest 0 vs),
    )

-- ---- which
first-low : (k : ℕ) (vs : List View) → All (λ (x : Loss). x.slot < k + length vs) (first_kind k vs)
unfolding first_kind
first-low k [] = tt
first-low k (v ∷ vs) = go v (all_map _ (λ (x : Loss). x.slot < k + suc (length vs)) (first_kind (suc k) vs) (λ x h. omega arith) (first-low (suc k) vs))
  where
    go : (u : View) → All (λ (x : Loss). x.slot < k + suc (length vs)) (first_kind (suc k) vs)
        → All (λ (x : Loss). x.slot < k + length (u ∷ vs)) (first_kind k (u ∷ vs))
    go empty a = a
    go (damaged r) a = (omega arith, a)
    go (holds f) a = a

behind-low : (n end : ℕ) (xs : List Sound) → All (λ (x : Sound). x.slot < n) xs → All (λ (x : Loss). x.slot < n) (given_up_behind end xs)
unfolding given_up_behind
behind-low n end [] a = tt
behind-low n end (x ∷ xs) a = go (ltb end (start_of x)) (behind-low n (end_of x) xs a.1) (behind-low n end xs a.1)
  where
    go : (t : Bool) → All (λ (y : Loss). y.slot < n) (given_up_behind (end_of x) xs) → All (λ (y : Loss). y.slot < n) (given_up_behind end xs)
        → All (λ (y : Loss). y.slot < n) (pick t (given_up_behind (end_of x) xs) (loss x.slot Overlap ∷ given_up_behind end xs))
    go true p q = p
    go false p q = (a.0, q)

second-low : (n : ℕ) (xs : List Sound) → All (λ (x : Sound). x.slot < n) xs → All (λ (x : Loss). x.slot < n) (second_kind xs)
unfolding second_kind
second-low n [] a = tt
second-low n (x ∷ xs) a = behind-low n (end_of x) xs a.1

-- each is a slot's
pub losses-low : (vs : List View) → All (λ (x : Loss). x.slot < length vs) (losses_in vs)
losses-low vs =
    rw (kinds-are vs)
    (all_append _ (first_kind 0 vs) (second_kind (in_order (the_rest 0 vs)))
    (all_map _ _ (first_kind 0 vs) (λ x h. omega arith) (first-low 0 vs))
    (second-low (length vs) (in_order (the_rest 0 vs)) (all-in-order _ (the_rest 0 vs) (rest_all _ 0 vs (λ i f h e. omega arith)))))

-- ---- the report of a heap
-- a store for each line
pub emptying-of : (s : Settings) (xs : List Loss) → emptying s.slot_bytes (map (λ (x : Loss). x.slot) xs) ≡ emptying_of s xs
unfolding emptying_of
emptying-of s xs = refl

pub stores-many : (s : Settings) (xs : List Loss) → length (emptying_of s xs) ≡ length xs
unfolding emptying_of
stores-many s xs = length-map (map (λ (x : Loss). x.slot) xs) _ ∙ length-map xs _

labels-of : (s : Settings) (heap_len : ℕ) → InRanges s → HeapInRange s heap_len → (xs : List Loss) → All (λ (x : Loss). x.slot < slots_in s heap_len) xs
    → LabelsIn s.slot_bytes (map (λ (x : Loss). x.slot) xs) heap_len
labels-of s heap_len r w [] a = tt
labels-of s heap_len r w (x ∷ xs) a = (omega (arith, slot-within s heap_len x.slot w a.0, r.slot-low), labels-of s heap_len r w xs a.1)

module _ (s : Settings) (heap : List ℕ) (w : HeapInRange s (length heap)) where
  many : length (judged_in s heap) ≡ slots_in s (length heap)
  many = judged-length (slots_in s (length heap)) s.slot_bytes heap

  -- "the report always has room for 256 lines"
  pub report-few : length (report_of s heap) ≤ 256
  report-few = omega (arith, losses-few (judged_in s heap), many, w.most)

  -- each line's slot has its label in the heap
  pub report-labels : InRanges s → LabelsIn s.slot_bytes (map (λ (x : Loss). x.slot) (report_of s heap)) (length heap)
  report-labels r = labels-of s (length heap) r w (report_of s heap)
      (all_map (λ (x : Loss). x.slot < length (judged_in s heap)) (λ (x : Loss). x.slot < slots_in s (length heap)) (report_of s heap) (λ x h. omega (arith, many)) (losses-low (judged_in s heap)))

  -- 256 stores are all
  pub all-emptied : made (take 256 (emptying_of s (report_of s heap))) heap ≡ made (emptying_of s (report_of s heap)) heap
  all-emptied = ap (λ (run : List Store). made run heap) (take_all 256 (emptying_of s (report_of s heap)) (omega (arith, stores-many s (report_of s heap), report-few)))
