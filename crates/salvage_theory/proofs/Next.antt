-- Request P9: the first reported slot emptied, the report is the rest of it.
use Rattle.std.specs.Prelude.{◌≡◌, refl, ◌≤◌, ◌∷◌, ◌++◌, ◌+◌}
use Rattle.std.proofs.Common.{sym, ap, ◌∙◌, subst, arith, zero-add}
use Rattle.rules.specs.Base.{Bool, true, false, List, [], ℕ, zero, suc, set, ltb, pick}
use Rattle.rules.specs.BaseLaws.{All}
use Rattle.rules.proofs.BaseLaws.{all_map}
use Rattle.rules.specs.SlotFile.{View, empty, damaged, holds}
use Rattle.theory.specs.Types.{Overlap}
use Rattle.losses.specs.Salvage.{loss, first_kind, Sound, sound_of, start_of, end_of, the_rest, in_order, given_up_behind, second_kind, losses_in}
use Rattle.salvage_theory.specs.Types.{Loss}
use Rattle.salvage_theory.specs.InOrder.{OneEach, without}
use Rattle.salvage_theory.proofs.InOrder.{order-once, without-here, without_other, without-none, order-without}
use Rattle.salvage_theory.specs.Kinds.{OverlapOf}
use Rattle.salvage_theory.proofs.KindLaws.{behind-lines, rest_from, rest-by-slot}
use Rattle.salvage_theory.specs.Next.{FirstNext}

-- ---- lists of lines
cons_head : {x y : Loss} {xs ys : List Loss} → x ∷ xs ≡ y ∷ ys → x ≡ y
cons_head h = cc

cons_tail : {x y : Loss} {xs ys : List Loss} → x ∷ xs ≡ y ∷ ys → xs ≡ ys
cons_tail h = cc

-- no line is there, and one is
pub none-not : {x : Loss} {xs : List Loss} → [] ≡ x ∷ xs → ⊥
none-not h = let z : ◌≡◌ {A = ℕ} 0 1 = cc in omega arith

-- ---- the second kind
behind-next : (end : ℕ) (ys : List Sound) (x : Loss) (rest : List Loss) → OneEach ys → given_up_behind end ys ≡ x ∷ rest → given_up_behind end (without x.slot ys) ≡ rest
unfolding given_up_behind
behind-next end [] x rest o e = absurd (none-not e)
behind-next end (y ∷ ys) x rest o e = go (ltb end (start_of y)) refl e (behind-next (end_of y) ys x rest o.1)
  where
    go : (b : Bool) → ltb end (start_of y) ≡ b → pick b (given_up_behind (end_of y) ys) (loss y.slot Overlap ∷ given_up_behind end ys) ≡ x ∷ rest
        → (given_up_behind (end_of y) ys ≡ x ∷ rest → given_up_behind (end_of y) (without x.slot ys) ≡ rest)
        → given_up_behind end (without x.slot (y ∷ ys)) ≡ rest
    go true c q ih =
        let others : All (OverlapOf (λ (k : ℕ). y.slot ≡ k → ⊥)) (x ∷ rest)
        = subst (All (OverlapOf (λ (k : ℕ). y.slot ≡ k → ⊥))) q (behind-lines (λ (k : ℕ). y.slot ≡ k → ⊥) (end_of y) ys o.0) in
        ap (given_up_behind end) (without_other x.slot y ys others.0.1)
        ∙ ap (λ (b : Bool). pick b (given_up_behind (end_of y) (without x.slot ys)) (loss y.slot Overlap ∷ given_up_behind end (without x.slot ys))) c
        ∙ ih q
    go false c q ih =
        let same : y.slot ≡ x.slot = ap (λ (l : Loss). l.slot) (cons_head q) in
        ap (given_up_behind end)
        (without-here x.slot y ys same
        ∙ without-none x.slot ys (all_map (λ (z : Sound). y.slot ≡ z.slot → ⊥) (λ (z : Sound). z.slot ≡ x.slot → ⊥) ys (λ z n p. n (same ∙ sym p)) o.0))
        ∙ cons_tail q

second-next : (ys : List Sound) (x : Loss) (rest : List Loss) → OneEach ys → second_kind ys ≡ x ∷ rest → second_kind (without x.slot ys) ≡ rest
unfolding second_kind
second-next [] x rest o e = absurd (none-not e)
second-next (y ∷ ys) x rest o e =
    let others : All (OverlapOf (λ (k : ℕ). y.slot ≡ k → ⊥)) (x ∷ rest)
    = subst (All (OverlapOf (λ (k : ℕ). y.slot ≡ k → ⊥))) e (behind-lines (λ (k : ℕ). y.slot ≡ k → ⊥) (end_of y) ys o.0) in
    ap second_kind (without_other x.slot y ys others.0.1) ∙ behind-next (end_of y) ys x rest o.1 e

-- ---- one slot emptied
-- the rest without it
rest-emptied : (n : ℕ) (views : List View) (k : ℕ) → the_rest n (set views k empty) ≡ without (n + k) (the_rest n views)
unfolding the_rest
rest-emptied n [] k = refl
rest-emptied n (v ∷ vs) zero = go v
  where
    behind : without (n + 0) (the_rest (suc n) vs) ≡ the_rest (suc n) vs
    behind =
        without-none (n + 0) (the_rest (suc n) vs)
        (all_map (λ (x : Sound). suc n ≤ x.slot) (λ (x : Sound). x.slot ≡ n + 0 → ⊥) (the_rest (suc n) vs) (λ x h e. omega arith) (rest_from (suc n) vs))

    go : (v : View) → the_rest (suc n) vs ≡ without (n + 0) (sound_of n v ++ the_rest (suc n) vs)
    go empty = sym behind
    go (damaged r) = sym behind
    go (holds f) = sym (without-here (n + 0) (record { slot = n; label = f.label }) (the_rest (suc n) vs) (omega arith) ∙ behind)
rest-emptied n (v ∷ vs) (suc k) = go v (let h : suc n + k ≡ n + suc k = omega arith in rest-emptied (suc n) vs k ∙ ap (λ (m : ℕ). without m (the_rest (suc n) vs)) h)
  where
    go : (v : View) → the_rest (suc n) (set vs k empty) ≡ without (n + suc k) (the_rest (suc n) vs)
        → sound_of n v ++ the_rest (suc n) (set vs k empty) ≡ without (n + suc k) (sound_of n v ++ the_rest (suc n) vs)
    go empty ih = ih
    go (damaged r) ih = ih
    go (holds f) ih =
        ap (λ (xs : List Sound). record { slot = n; label = f.label } ∷ xs) ih
        ∙ sym (without_other (n + suc k) (record { slot = n; label = f.label }) (the_rest (suc n) vs) (λ e. omega arith))

first_next : (n : ℕ) (views : List View) (x : Loss) (rest : List Loss) → first_kind n views ≡ x ∷ rest → FirstNext n views x rest
unfolding first_kind the_rest
first_next n [] x rest e = absurd (none-not e)
first_next n (empty ∷ vs) x rest e =
    let w = first_next (suc n) vs x rest e in
    let i = w.is in
    record { off = suc w.off; is = omega arith; others = w.others; sound = w.sound }
first_next n (damaged r ∷ vs) x rest e =
    let s : n ≡ x.slot = ap (λ (l : Loss). l.slot) (cons_head e) in
    record { off = 0; is = omega arith; others = cons_tail e; sound = refl }
first_next n (holds f ∷ vs) x rest e =
    let w = first_next (suc n) vs x rest e in
    let i = w.is in
    record { off = suc w.off; is = omega arith; others = w.others; sound = ap (λ (xs : List Sound). record { slot = n; label = f.label } ∷ xs) w.sound }

-- none of the first kind: none after
pub none_first : (n : ℕ) (views : List View) (k : ℕ) → first_kind n views ≡ [] → first_kind n (set views k empty) ≡ []
unfolding first_kind
none_first n [] k e = refl
none_first n (empty ∷ vs) zero e = e
none_first n (damaged r ∷ vs) k e = absurd (none-not (sym e))
none_first n (holds f ∷ vs) zero e = e
none_first n (empty ∷ vs) (suc k) e = none_first (suc n) vs k e
none_first n (holds f ∷ vs) (suc k) e = none_first (suc n) vs k e

-- LAW: "in the order emptied": the first reported slot emptied, the report is the rest of it
pub next-loss : (views : List View) (x : Loss) (rest : List Loss) → losses_in views ≡ x ∷ rest → losses_in (set views x.slot empty) ≡ rest
unfolding losses_in
next-loss views x rest e = go (first_kind 0 views) refl e
  where
    go : (xs : List Loss) → first_kind 0 views ≡ xs → xs ++ second_kind (in_order (the_rest 0 views)) ≡ x ∷ rest
        → first_kind 0 (set views x.slot empty) ++ second_kind (in_order (the_rest 0 (set views x.slot empty))) ≡ rest
    go [] f q =
        ap (λ (ys : List Loss). ys ++ second_kind (in_order (the_rest 0 (set views x.slot empty)))) (none_first 0 views x.slot f)
        ∙ ap (λ (ys : List Sound). second_kind (in_order ys)) (rest-emptied 0 views x.slot ∙ ap (λ (k : ℕ). without k (the_rest 0 views)) (zero-add x.slot))
        ∙ ap second_kind (sym (order-without x.slot (the_rest 0 views) (rest-by-slot 0 views)))
        ∙ second-next (in_order (the_rest 0 views)) x rest (order-once (the_rest 0 views) (rest-by-slot 0 views)) q
    go (y ∷ ys) f q =
        let w = first_next 0 views x ys (f ∙ ap (λ (z : Loss). z ∷ ys) (cons_head q)) in
        let at : x.slot ≡ w.off = w.is ∙ zero-add w.off in
        ap (λ (k : ℕ). first_kind 0 (set views k empty) ++ second_kind (in_order (the_rest 0 (set views k empty)))) at
        ∙ ap (λ (zs : List Loss). zs ++ second_kind (in_order (the_rest 0 (set views w.off empty)))) w.others
        ∙ ap (λ (zs : List Sound). ys ++ second_kind (in_order zs)) w.sound
        ∙ cons_tail q
