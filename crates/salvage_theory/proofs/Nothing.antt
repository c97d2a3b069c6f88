-- Request P9: nothing is reported exactly if no slot has a fault of its own and no two sound files' ranges meet.
use Rattle.std.specs.Prelude.{◌≡◌, refl, ◌⊎◌, ◌<◌, ◌≤◌, ◌∷◌, ◌++◌, ◌+◌}
use Rattle.std.proofs.Common.{sym, ap, ◌∙◌, subst, inl, inr, arith, zero-add, ltb-true, lt-ltb}
use Rattle.rules.specs.Base.{Bool, true, false, List, [], ℕ, suc, ltb, pick}
use Rattle.rules.specs.BaseLaws.{All}
use Rattle.rules.proofs.BaseLaws.{all_map, all_both}
use Rattle.rules.specs.SlotFile.{View, empty, damaged, holds}
use Rattle.theory.specs.Types.{Label, Refusal, Overlap}
use Rattle.disk_location.specs.Locations.{masked_of}
use Rattle.theory.specs.Places.{view_at}
use Rattle.losses.specs.Salvage.{loss, first_kind, Sound, start_of, end_of, the_rest, in_order, given_up_behind, second_kind, losses_in}
use Rattle.check_theory.specs.Lists.{In}
use Rattle.check_theory.proofs.Lists.{in-self, all_in}
use Rattle.salvage_theory.specs.Types.{Loss}
use Rattle.salvage_theory.specs.InOrder.{Before, Ordered, OneEach}
use Rattle.salvage_theory.proofs.InOrder.{before-start, rest-in-order, in-order-rest, order-ascends, order-once}
use Rattle.salvage_theory.specs.Kinds.{HoldsSound}
use Rattle.salvage_theory.proofs.KindLaws.{own_first, rest-holds, holds-rest, rest-by-slot}
use Rattle.salvage_theory.proofs.Next.{none-not}
use Rattle.salvage_theory.specs.Nothing.{NothingToGiveUp, Separate}

-- ---- nothing of the second kind
-- so each starts above the end, and they are separate
behind-separate : (end : ℕ) (ys : List Sound) → given_up_behind end ys ≡ [] → All (λ (y : Sound). end < start_of y) ys × Separate ys
unfolding given_up_behind
behind-separate end [] e = (tt, tt)
behind-separate end (y ∷ ys) e = go (ltb end (start_of y)) refl e (behind-separate (end_of y) ys)
  where
    go : (b : Bool) → ltb end (start_of y) ≡ b → pick b (given_up_behind (end_of y) ys) (loss y.slot Overlap ∷ given_up_behind end ys) ≡ []
        → (given_up_behind (end_of y) ys ≡ [] → All (λ (z : Sound). end_of y < start_of z) ys × Separate ys)
        → All (λ (z : Sound). end < start_of z) (y ∷ ys) × Separate (y ∷ ys)
    go true c q ih =
        let w = ih q in
        let h = ltb-true end (start_of y) c in
        ((h, all_map (λ (z : Sound). end_of y < start_of z) (λ (z : Sound). end < start_of z) ys (λ z l. omega arith) w.0), (w.0, w.1))
    go false c q ih = absurd (none-not (sym q))

second-separate : (ys : List Sound) → second_kind ys ≡ [] → Separate ys
unfolding second_kind
second-separate [] e = tt
second-separate (y ∷ ys) e = behind-separate (end_of y) ys e

-- and back
separate-behind : (end : ℕ) (ys : List Sound) → All (λ (y : Sound). end < start_of y) ys → Separate ys → given_up_behind end ys ≡ []
unfolding given_up_behind
separate-behind end [] a s = refl
separate-behind end (y ∷ ys) a s = rw (lt-ltb end (start_of y) a.0) (separate-behind (end_of y) ys s.0 s.1)

separate-second : (ys : List Sound) → Separate ys → second_kind ys ≡ []
unfolding second_kind
separate-second [] s = refl
separate-second (y ∷ ys) s = separate-behind (end_of y) ys s.0 s.1

-- of two that are separate one ends below the other
separate-two : (ys : List Sound) → Separate ys → (x z : Sound) → In ys x → In ys z → (x.slot ≡ z.slot → ⊥) → (end_of x < start_of z) ⊎ (end_of z < start_of x)
separate-two [] s x z a b n = absurd a
separate-two (y ∷ ys) s x z (inl p) (inl q) n = absurd (n (ap (λ (u : Sound). u.slot) (sym p ∙ q)))
separate-two (y ∷ ys) s x z (inl p) (inr b) n = inl (subst (λ (u : Sound). end_of u < start_of z) p (all_in (λ (u : Sound). end_of y < start_of u) ys s.0 z b))
separate-two (y ∷ ys) s x z (inr a) (inl q) n = inr (subst (λ (u : Sound). end_of u < start_of x) q (all_in (λ (u : Sound). end_of y < start_of u) ys s.0 x a))
separate-two (y ∷ ys) s x z (inr a) (inr b) n = separate-two ys s.1 x z a b n

-- in order, and each two apart: separate
two-separate : (ys : List Sound) → Ordered ys → OneEach ys
    → ((x z : Sound) → In ys x → In ys z → (x.slot ≡ z.slot → ⊥) → (end_of x < start_of z) ⊎ (end_of z < start_of x)) → Separate ys
two-separate [] o d h = tt
two-separate (y ∷ ys) o d h = (
  all_map (λ (z : Sound). (In ys z × Before y z) × (y.slot ≡ z.slot → ⊥)) (λ (z : Sound). end_of y < start_of z) ys
      (λ z p. below z (before-start y z p.0.1) (h y z (inl refl) (inr p.0.0) p.1))
      (all_both (λ (z : Sound). In ys z × Before y z) (λ (z : Sound). y.slot ≡ z.slot → ⊥) ys (all_both (In ys) (Before y) ys (in-self ys) o.0) d.0),
  two-separate ys o.1 d.1 (λ x z a b n. h x z (inr a) (inr b) n),
)
  where
    below : (z : Sound) → start_of y ≤ start_of z → (end_of y < start_of z) ⊎ (end_of z < start_of y) → end_of y < start_of z
    below z l (inl k) = k
    below z l (inr k) = absurd (omega arith)

-- ---- the report
-- of two lists, neither has a line
none_both : (xs ys : List Loss) → xs ++ ys ≡ [] → (xs ≡ []) × (ys ≡ [])
none_both [] ys e = (refl, e)
none_both (x ∷ xs) ys e = absurd (none-not (sym e))

-- LAW: nothing is reported: no slot fails by itself, and no two ranges meet
pub nothing-peaceful : (views : List View) → losses_in views ≡ [] → NothingToGiveUp views
unfolding losses_in
nothing-peaceful views e =
    let w = none_both (first_kind 0 views) (second_kind (in_order (the_rest 0 views))) e in
    record {
      whole = λ k r q. subst (λ (xs : List Loss). In xs (loss (0 + k) r)) w.0 (own_first 0 views k r q);
      apart = λ j k f g p q n.
          let rest = the_rest 0 views in
          separate-two (in_order rest) (second-separate (in_order rest) w.1) (record { slot = 0 + j; label = f.label }) (record { slot = 0 + k; label = g.label })
          (rest-in-order rest (record { slot = 0 + j; label = f.label }) (holds-rest 0 views j f p))
          (rest-in-order rest (record { slot = 0 + k; label = g.label }) (holds-rest 0 views k g q)) (λ z. n (sym (zero-add j) ∙ z ∙ zero-add k));
    }

no_own : (n : ℕ) (views : List View) → ((k : ℕ) (r : Refusal) → view_at views k ≡ damaged r → ⊥) → first_kind n views ≡ []
unfolding first_kind
no_own n [] h = refl
no_own n (empty ∷ vs) h = no_own (suc n) vs (λ k. h (suc k))
no_own n (damaged r ∷ vs) h = absurd (h 0 r refl)
no_own n (holds f ∷ vs) h = no_own (suc n) vs (λ k. h (suc k))

-- LAW: and only then
pub peaceful-nothing : (views : List View) → NothingToGiveUp views → losses_in views ≡ []
unfolding losses_in
peaceful-nothing views p =
    let rest = the_rest 0 views in
    let by-slot = rest-by-slot 0 views in
    ap (λ (xs : List Loss). xs ++ second_kind (in_order rest)) (no_own 0 views p.whole)
    ∙ separate-second (in_order rest) (two-separate (in_order rest) (order-ascends rest by-slot) (order-once rest by-slot) (λ x z a b n. two x z (in-order-rest rest x a) (in-order-rest rest z b) n))
  where
    two : (x z : Sound) → In (the_rest 0 views) x → In (the_rest 0 views) z → (x.slot ≡ z.slot → ⊥) → (end_of x < start_of z) ⊎ (end_of z < start_of x)
    two x z a b n =
        let u = all_in (HoldsSound 0 views) (the_rest 0 views) (rest-holds 0 views) x a in
        let v = all_in (HoldsSound 0 views) (the_rest 0 views) (rest-holds 0 views) z b in
        subst (λ (l : Label). (masked_of l.lsn + l.trailer_offset < start_of z) ⊎ (end_of z < masked_of l.lsn)) u.label
        (subst (λ (l : Label). (masked_of u.file.label.lsn + u.file.label.trailer_offset < masked_of l.lsn) ⊎ (masked_of l.lsn + l.trailer_offset < masked_of u.file.label.lsn)) v.label
        (p.apart u.off v.off u.file v.file u.shows v.shows (λ e. n (u.is ∙ ap (λ (k : ℕ). 0 + k) e ∙ sym v.is))))
