-- Which slots a group has, said of each slot's file; and when two groups are the same.
use Rattle.std.specs.Prelude.{◌≡◌, refl, ◌<◌, ◌∷◌, ◌+◌}
use Rattle.std.proofs.Common.{sym, ap, ◌∙◌, subst, true≢false, ⊎_elim, zero-add, arith, eqb-true, eq-eqb}
use Rattle.std.proofs.Math.ListN.{get_or-eq_default}
use Rattle.numbers.specs.GroupLaws.{either_way}
use Rattle.rules.specs.Base.{Bool, true, false, List, [], ℕ, suc, length, pick}
use Rattle.theory.specs.Types.{Record}
use Rattle.rules.proofs.BaseLaws.{and-true, and-holds}
use Rattle.rules.specs.FileMap.{empty_record, is_empty, record_at, slots_where}
use Rattle.rules.specs.FileMapLaws.{Among}
use Rattle.rules.proofs.FileMapLaws.{is-empty, slot-passes, passes-slot}
use Rattle.rules.specs.Maintenance.{is_candidate, group}
use Rattle.rules.proofs.MaintenanceLaws.{candidate, is-candidate}
use Rattle.rules.specs.World.{World, records_of}
use Rattle.maintenance_theory.specs.Tally.{Ascending}
use Rattle.maintenance_theory.specs.Groups.{Member, tests}

-- a slot that passes it is such a file's
passes-member : (w : World) (g mark count k : ℕ) → tests w g mark count k (record_at (records_of w) k) ≡ true → Member w g mark count k
passes-member w g mark count k h =
    let p = and-true (is_candidate w.settings w.claims mark count k (record_at (records_of w) k)) _ h in
    record { candidate = candidate _ _ _ _ _ _ p.0; generation = eqb-true _ g p.1 }

-- and such a file's slot passes
member-passes : (w : World) (g mark count k : ℕ) → Member w g mark count k → tests w g mark count k (record_at (records_of w) k) ≡ true
member-passes w g mark count k m =
    and-holds (is_candidate w.settings w.claims mark count k (record_at (records_of w) k)) _
    (is-candidate w.settings w.claims mark count k (record_at (records_of w) k) m.candidate) (eq-eqb _ g m.generation)

-- LAW: each slot of a group is such a file's
pub in_group : (w : World) (g mark count k : ℕ) → Among (group w g mark count) k → Member w g mark count k
unfolding group
in_group w g mark count k a =
    let p = slot-passes (tests w g mark count) 0 (records_of w) k a in
    let e = p.is ∙ zero-add p.off in
    passes-member w g mark count k (ap (λ (i : ℕ). tests w g mark count i (record_at (records_of w) i)) e ∙ ap (λ (i : ℕ). tests w g mark count i (record_at (records_of w) p.off)) (sym (zero-add p.off)) ∙ p.passes)

-- a slot behind the last record has no file
member-place : (w : World) (g mark count k : ℕ) → Member w g mark count k → k < length (records_of w)
member-place w g mark count k m =
    ⊎_elim (λ h. h) (λ h. absurd (true≢false (sym is-empty ∙ ap is_empty (sym (get_or-eq_default (records_of w) empty_record {n = k} h)) ∙ m.candidate.file))) (either_way k (length (records_of w)))

-- LAW: and each such file's slot is among them
pub group-has : (w : World) (g mark count k : ℕ) → Member w g mark count k → Among (group w g mark count) k
unfolding group
group-has w g mark count k m =
    let e = zero-add k in
    subst (Among (slots_where (tests w g mark count) 0 (records_of w))) e
    (passes-slot (tests w g mark count) 0 (records_of w) k (member-place w g mark count k m)
    (ap (λ (i : ℕ). tests w g mark count i (record_at (records_of w) k)) e ∙ member-passes w g mark count k m))

-- no slot is in two groups
pub groups-apart : (w : World) (g h mark count k : ℕ) → Among (group w g mark count) k → Among (group w h mark count) k → g ≡ h
groups-apart w g h mark count k a b = sym (in_group w g mark count k a).generation ∙ (in_group w h mark count k b).generation

-- ---- ascending
where-ascending : (f : ℕ → Record → Bool) (i : ℕ) (rs : List Record) → Ascending i (slots_where f i rs)
unfolding slots_where
where-ascending f i [] = tt
where-ascending f i (r ∷ rs) = go (f i r) (where-ascending f (suc i) rs)
  where
    lower : (i : ℕ) (ks : List ℕ) → Ascending (suc i) ks → Ascending i ks
    lower i [] a = tt
    lower i (k ∷ ks) a = let b = a.0 in (omega arith, a.1)

    go : (b : Bool) → Ascending (suc i) (slots_where f (suc i) rs) → Ascending i (pick b (i ∷ slots_where f (suc i) rs) (slots_where f (suc i) rs))
    go true a = (omega arith, a)
    go false a = lower i (slots_where f (suc i) rs) a

-- the slots of a group ascend
pub group-ascending : (w : World) (g mark count : ℕ) → Ascending 0 (group w g mark count)
unfolding group
group-ascending w g mark count = where-ascending (tests w g mark count) 0 (records_of w)

-- ---- the same
where-same : (f h : ℕ → Record → Bool) (i : ℕ) (rs qs : List Record) → length rs ≡ length qs → ((j : ℕ) → f (i + j) (record_at rs j) ≡ h (i + j) (record_at qs j)) → slots_where f i rs ≡ slots_where h i qs
unfolding slots_where
where-same f h i [] [] n e = refl
where-same f h i [] (q ∷ qs) n e = absurd (omega arith)
where-same f h i (r ∷ rs) [] n e = absurd (omega arith)
where-same f h i (r ∷ rs) (q ∷ qs) n e =
    let z : i + 0 ≡ i = omega arith in
    let a : f i r ≡ h i q = ap (λ (m : ℕ). f m r) (sym z) ∙ e 0 ∙ ap (λ (m : ℕ). h m q) z in
    let b = where-same f h (suc i) rs qs (omega arith) (λ j. let s : suc i + j ≡ i + suc j = omega arith in ap (λ (m : ℕ). f m (record_at rs j)) s ∙ e (suc j) ∙ ap (λ (m : ℕ). h m (record_at qs j)) (sym s)) in
    ap (λ (t : Bool). pick t (i ∷ slots_where f (suc i) rs) (slots_where f (suc i) rs)) a ∙ ap (λ (ks : List ℕ). pick (h i q) (i ∷ ks) ks) b

-- two tests that hold of the same are the same
pub both_ways : (a b : Bool) → (a ≡ true → b ≡ true) → (b ≡ true → a ≡ true) → a ≡ b
both_ways true b f g = sym (f refl)
both_ways false true f g = g refl
both_ways false false f g = refl

-- LAW: groups of the same files are the same
pub same-members : (w v : World) (g mark count floor files : ℕ) → length (records_of w) ≡ length (records_of v)
    → ((k : ℕ) → Member w g mark count k → Member v g floor files k) → ((k : ℕ) → Member v g floor files k → Member w g mark count k)
    → group w g mark count ≡ group v g floor files
unfolding group
same-members w v g mark count floor files n to back =
    where-same (tests w g mark count) (tests v g floor files) 0 (records_of w) (records_of v) n (λ j.
    subst (λ (i : ℕ). tests w g mark count i (record_at (records_of w) j) ≡ tests v g floor files i (record_at (records_of v) j)) (sym (zero-add j))
    (both_ways _ _ (λ h. member-passes v g floor files j (to j (passes-member w g mark count j h))) (λ h. member-passes w g mark count j (back j (passes-member v g floor files j h)))))
