-- Request P9: which slots are of the first kind, and which are "the rest".
use Rattle.std.specs.Prelude.{◌≡◌, refl, ◌≤◌, ◌∷◌, ◌++◌, ◌+◌}
use Rattle.std.proofs.Common.{ap, subst, inl, inr, arith}
use Rattle.rules.specs.Base.{Bool, true, false, List, [], ℕ, zero, suc, ltb, pick}
use Rattle.rules.specs.BaseLaws.{All}
use Rattle.rules.proofs.BaseLaws.{all_map}
use Rattle.rules.specs.SlotFile.{File, View, empty, damaged, holds}
use Rattle.theory.specs.Types.{Refusal, Overlap}
use Rattle.theory.specs.Places.{view_at}
use Rattle.theory.proofs.Places.{holds-inj, not-empty, not-damaged}
use Rattle.losses.specs.Salvage.{loss, own_loss, first_kind, Sound, start_of, end_of, the_rest, in_order, given_up_behind, second_kind}
use Rattle.check_theory.specs.Lists.{In}
use Rattle.check_theory.proofs.Lists.{all_in}
use Rattle.check_theory.proofs.Own.{damaged-inj, empty-not, holds_not}
use Rattle.salvage_theory.specs.Types.{Loss}
use Rattle.salvage_theory.specs.InOrder.{Before, Ordered, BySlot}
use Rattle.salvage_theory.proofs.InOrder.{order-ascends}
use Rattle.salvage_theory.specs.Kinds.{OwnLine, Climbs, HoldsSound, OverlapOf, GivenUp}

own_on : (n : ℕ) (v : View) (vs : List View) (x : Loss) → OwnLine (suc n) vs x → OwnLine n (v ∷ vs) x
own_on n v vs x w = let e = w.is in record { off = suc w.off; is = omega arith; own = w.own }

-- LAW: each line of the first kind is a slot's own fault
pub first-own : (n : ℕ) (views : List View) → All (OwnLine n views) (first_kind n views)
unfolding first_kind
first-own n [] = tt
first-own n (v ∷ vs) = go v (all_map (OwnLine (suc n) vs) (OwnLine n (v ∷ vs)) (first_kind (suc n) vs) (own_on n v vs) (first-own (suc n) vs))
  where
    go : (v : View) → All (OwnLine n (v ∷ vs)) (first_kind (suc n) vs) → All (OwnLine n (v ∷ vs)) (own_loss n v ++ first_kind (suc n) vs)
    go empty ih = ih
    go (damaged r) ih = (record { off = 0; is = omega arith; own = refl }, ih)
    go (holds f) ih = ih

-- LAW: and each slot's own fault is a line
pub own_first : (n : ℕ) (views : List View) (k : ℕ) (r : Refusal) → view_at views k ≡ damaged r → In (first_kind n views) (loss (n + k) r)
unfolding first_kind
own_first n [] k r e = absurd (empty-not e)
own_first n (empty ∷ vs) zero r e = absurd (empty-not e)
own_first n (damaged q ∷ vs) zero r e = let h : n ≡ n + 0 = omega arith in inl (λ i. loss (h i) (damaged-inj e i))
own_first n (holds f ∷ vs) zero r e = absurd (holds_not e)
own_first n (empty ∷ vs) (suc k) r e = let h : suc n + k ≡ n + suc k = omega arith in subst (λ (m : ℕ). In (first_kind (suc n) vs) (loss m r)) h (own_first (suc n) vs k r e)
own_first n (damaged q ∷ vs) (suc k) r e = let h : suc n + k ≡ n + suc k = omega arith in inr (subst (λ (m : ℕ). In (first_kind (suc n) vs) (loss m r)) h (own_first (suc n) vs k r e))
own_first n (holds f ∷ vs) (suc k) r e = let h : suc n + k ≡ n + suc k = omega arith in subst (λ (m : ℕ). In (first_kind (suc n) vs) (loss m r)) h (own_first (suc n) vs k r e)

climbs-from : (m n : ℕ) (xs : List Loss) → m ≤ n → Climbs n xs → Climbs m xs
climbs-from m n [] h c = tt
climbs-from m n (x ∷ xs) h c = let a = c.0 in (omega arith, c.1)

-- request P9: "the first kind goes ascending by slot"
pub first-ascends : (n : ℕ) (views : List View) → Climbs n (first_kind n views)
unfolding first_kind
first-ascends n [] = tt
first-ascends n (empty ∷ vs) = climbs-from n (suc n) (first_kind (suc n) vs) (omega arith) (first-ascends (suc n) vs)
first-ascends n (damaged r ∷ vs) = (omega arith, first-ascends (suc n) vs)
first-ascends n (holds f ∷ vs) = climbs-from n (suc n) (first_kind (suc n) vs) (omega arith) (first-ascends (suc n) vs)

holds_on : (n : ℕ) (v : View) (vs : List View) (x : Sound) → HoldsSound (suc n) vs x → HoldsSound n (v ∷ vs) x
holds_on n v vs x w = let e = w.is in record { off = suc w.off; file = w.file; is = omega arith; shows = w.shows; label = w.label }

-- LAW: each of the rest is a slot that holds a sound file
pub rest-holds : (n : ℕ) (views : List View) → All (HoldsSound n views) (the_rest n views)
unfolding the_rest
rest-holds n [] = tt
rest-holds n (empty ∷ vs) = all_map (HoldsSound (suc n) vs) (HoldsSound n (empty ∷ vs)) (the_rest (suc n) vs) (holds_on n empty vs) (rest-holds (suc n) vs)
rest-holds n (damaged r ∷ vs) = all_map (HoldsSound (suc n) vs) (HoldsSound n (damaged r ∷ vs)) (the_rest (suc n) vs) (holds_on n (damaged r) vs) (rest-holds (suc n) vs)
rest-holds n (holds f ∷ vs) = (
  record { off = 0; file = f; is = omega arith; shows = refl; label = refl },
  all_map (HoldsSound (suc n) vs) (HoldsSound n (holds f ∷ vs)) (the_rest (suc n) vs) (holds_on n (holds f) vs) (rest-holds (suc n) vs),
)

-- LAW: and each such slot is among the rest
pub holds-rest : (n : ℕ) (views : List View) (k : ℕ) (f : File) → view_at views k ≡ holds f → In (the_rest n views) (record { slot = n + k; label = f.label })
unfolding the_rest
holds-rest n [] k f e = absurd (not-empty e)
holds-rest n (empty ∷ vs) zero f e = absurd (not-empty e)
holds-rest n (damaged q ∷ vs) zero f e = absurd (not-damaged e)
holds-rest n (holds g ∷ vs) zero f e = let h : n ≡ n + 0 = omega arith in inl (λ i. record { slot = h i; label = (holds-inj e i).label })
holds-rest n (empty ∷ vs) (suc k) f e =
    let h : suc n + k ≡ n + suc k = omega arith in
    subst (λ (m : ℕ). In (the_rest (suc n) vs) (record { slot = m; label = f.label })) h (holds-rest (suc n) vs k f e)
holds-rest n (damaged q ∷ vs) (suc k) f e =
    let h : suc n + k ≡ n + suc k = omega arith in
    subst (λ (m : ℕ). In (the_rest (suc n) vs) (record { slot = m; label = f.label })) h (holds-rest (suc n) vs k f e)
holds-rest n (holds g ∷ vs) (suc k) f e =
    let h : suc n + k ≡ n + suc k = omega arith in
    inr (subst (λ (m : ℕ). In (the_rest (suc n) vs) (record { slot = m; label = f.label })) h (holds-rest (suc n) vs k f e))

-- of slots from n on
pub rest_from : (n : ℕ) (views : List View) → All (λ (x : Sound). n ≤ x.slot) (the_rest n views)
rest_from n views = all_map (HoldsSound n views) (λ (x : Sound). n ≤ x.slot) (the_rest n views) (λ x w. let e = w.is in omega arith) (rest-holds n views)

-- LAW: the rest ascends by slot
pub rest-by-slot : (n : ℕ) (views : List View) → BySlot (the_rest n views)
unfolding the_rest
rest-by-slot n [] = tt
rest-by-slot n (empty ∷ vs) = rest-by-slot (suc n) vs
rest-by-slot n (damaged r ∷ vs) = rest-by-slot (suc n) vs
rest-by-slot n (holds f ∷ vs) = (rest_from (suc n) vs, rest-by-slot (suc n) vs)

-- behind a kept file
pub behind-lines : (P : ℕ → Type 0) (end : ℕ) (ys : List Sound) → All (λ (y : Sound). P y.slot) ys → All (OverlapOf P) (given_up_behind end ys)
unfolding given_up_behind
behind-lines P end [] a = tt
behind-lines P end (y ∷ ys) a = go (ltb end (start_of y)) (λ e. behind-lines P e ys a.1)
  where
    go : (b : Bool) → ((e : ℕ) → All (OverlapOf P) (given_up_behind e ys)) → All (OverlapOf P) (pick b (given_up_behind (end_of y) ys) (loss y.slot Overlap ∷ given_up_behind end ys))
    go true ih = ih (end_of y)
    go false ih = ((refl, a.0), ih end)

-- from the first on
pub second-lines : (P : ℕ → Type 0) (ys : List Sound) → All (λ (y : Sound). P y.slot) ys → All (OverlapOf P) (second_kind ys)
unfolding second_kind
second-lines P [] a = tt
second-lines P (y ∷ ys) a = behind-lines P (end_of y) ys a.1

behind-given : (end : ℕ) (ys : List Sound) → Ordered ys → GivenUp ys (given_up_behind end ys)
unfolding given_up_behind
behind-given end [] o = record { files = []; among = tt; ordered = tt; are = refl }
behind-given end (y ∷ ys) o = go (ltb end (start_of y)) (behind-given (end_of y) ys o.1) (behind-given end ys o.1)
  where
    go : (b : Bool) → GivenUp ys (given_up_behind (end_of y) ys) → GivenUp ys (given_up_behind end ys)
        → GivenUp (y ∷ ys) (pick b (given_up_behind (end_of y) ys) (loss y.slot Overlap ∷ given_up_behind end ys))
    go true later same = record { files = later.files; among = all_map (In ys) (In (y ∷ ys)) later.files (λ z i. inr i) later.among; ordered = later.ordered; are = later.are }
    go false later same = record {
      files = y ∷ same.files;
      among = (inl refl, all_map (In ys) (In (y ∷ ys)) same.files (λ z i. inr i) same.among);
      ordered = (all_map (In ys) (Before y) same.files (λ z i. all_in (Before y) ys o.0 z i) same.among, same.ordered);
      are = ap (λ (xs : List Loss). loss y.slot Overlap ∷ xs) same.are;
    }

-- request P9: "in the order emptied": the second kind goes by ascending masked lsn, equal ones by ascending slot
pub second-ascends : (views : List View) → GivenUp (in_order (the_rest 0 views)) (second_kind (in_order (the_rest 0 views)))
unfolding second_kind
second-ascends views = go (in_order (the_rest 0 views)) (order-ascends (the_rest 0 views) (rest-by-slot 0 views))
  where
    go : (ys : List Sound) → Ordered ys → GivenUp ys (second_kind ys)
    go [] o = record { files = []; among = tt; ordered = tt; are = refl }
    go (y ∷ ys) o =
        let g = behind-given (end_of y) ys o.1 in
        record { files = g.files; among = all_map (In ys) (In (y ∷ ys)) g.files (λ z i. inr i) g.among; ordered = g.ordered; are = g.are }
