-- Request P9: nothing that could stay was given up: each slot of the second kind meets a file that was kept, and no two kept files meet.
use Rattle.std.specs.Prelude.{◌≡◌, ◌⊎◌, ◌≤◌, ◌∷◌, ◌++◌, ◌+◌}
use Rattle.std.proofs.Math.Path.{refl, sym, ap, subst}
use Rattle.std.proofs.Common.{◌∙◌, inl, inr, arith, le-leb, ltb-false, get_or-set_other}
use Rattle.std.proofs.Math.Nat.{zero-add}
use Rattle.rules.specs.Base.{Bool, true, false, List, [], ℕ, set, leb, ltb, pick}
use Rattle.rules.proofs.BaseLaws.{all_map, and-holds, same?}
use Rattle.disk_location.specs.Locations.{masked_of}
use Rattle.rules.specs.SlotFile.{File, View, empty, damaged, holds}
use Rattle.rules.specs.Reopen.{meets}
use Rattle.theory.specs.Types.{Settings, Label, Refusal, Overlap}
use Rattle.theory.specs.Places.{view_at, Apart}
use Rattle.faults.specs.Faults.{judged_in}
use Rattle.check_theory.specs.Lists.{In}
use Rattle.check_theory.proofs.Lists.{all_in}
use Rattle.check_theory.proofs.Own.{holds_not}
use Rattle.losses.specs.Salvage.{loss, first_kind, Sound, start_of, end_of, the_rest, in_order, given_up_behind, second_kind, losses_in, report_of}
use Rattle.salvage_theory.specs.Types.{Loss}
use Rattle.salvage_theory.specs.InOrder.{Before, Ordered, OneEach}
use Rattle.salvage_theory.proofs.InOrder.{before-start, in-order-rest, order-ascends, order-once}
use Rattle.salvage_theory.specs.Kinds.{HoldsSound, OverlapOf}
use Rattle.salvage_theory.proofs.KindLaws.{rest-holds, rest-by-slot, behind-lines}
use Rattle.salvage_theory.proofs.Next.{next-loss}
use Rattle.salvage_theory.proofs.Nothing.{nothing-peaceful}
use Rattle.salvage_theory.specs.Lost.{Lost}
use Rattle.salvage_theory.proofs.Lost.{all-lost, first-lost}
use Rattle.salvage_theory.proofs.Reported.{own-not-overlap}
use Rattle.salvage_theory.specs.KeptFiles.{Taken, KeptFile, left_by, Met, MeetsKept}

left-nothing : (report : List Loss) (views : List View) → losses_in views ≡ report → losses_in (left_by report views) ≡ []
left-nothing [] views e = e
left-nothing (x ∷ report) views e = left-nothing report (set views x.slot empty) (next-loss views x report e)

left_other : (report : List Loss) (views : List View) (k : ℕ) → ((x : Loss) → In report x → x.slot ≡ k → ⊥) → view_at (left_by report views) k ≡ view_at views k
left_other [] views k n = refl
left_other (x ∷ report) views k n =
    left_other report (set views x.slot empty) k (λ y i. n y (inr i)) ∙ get_or-set_other views x.slot k empty empty (λ e. n x (inl refl) (sym e))

-- LAW: the masked ranges of two kept files have nothing in common
pub kept-apart : (views : List View) (j k : ℕ) (f g : File) → KeptFile views j f → KeptFile views k g → (j ≡ k → ⊥) → Apart f g
kept-apart views j k f g p q n =
    let report = losses_in views in
    (nothing-peaceful (left_by report views) (left-nothing report views refl)).apart j k f g
    (left_other report views j p.stays ∙ p.shows) (left_other report views k q.stays ∙ q.shows) n

met-behind : (kept : Sound) (ys : List Sound) → Ordered (kept ∷ ys) → OneEach (kept ∷ ys) → (x : Loss) → In (given_up_behind (end_of kept) ys) x → Met kept ys (given_up_behind (end_of kept) ys) x
unfolding given_up_behind
met-behind kept [] o d x i = absurd i
met-behind kept (y ∷ ys) o d x i =
    go (ltb (end_of kept) (start_of y)) refl i (met-behind y ys o.1 d.1 x) (met-behind kept ys (o.0.1, o.1.1) (d.0.1, d.1.1) x)
  where
    one_more : (z : Sound) → In (kept ∷ ys) z → In (kept ∷ y ∷ ys) z
    one_more z (inl e) = inl e
    one_more z (inr h) = inr (inr h)

    differs : (z : Sound) → In (kept ∷ ys) z → y.slot ≡ z.slot → ⊥
    differs z (inl e) q = d.0.0 (ap (λ (u : Sound). u.slot) e ∙ sym q)
    differs z (inr h) q = all_in (λ (u : Sound). y.slot ≡ u.slot → ⊥) ys d.1.0 z h q

    go : (b : Bool) → ltb (end_of kept) (start_of y) ≡ b → In (pick b (given_up_behind (end_of y) ys) (loss y.slot Overlap ∷ given_up_behind (end_of kept) ys)) x
        → (In (given_up_behind (end_of y) ys) x → Met y ys (given_up_behind (end_of y) ys) x)
        → (In (given_up_behind (end_of kept) ys) x → Met kept ys (given_up_behind (end_of kept) ys) x)
        → Met kept (y ∷ ys) (pick b (given_up_behind (end_of y) ys) (loss y.slot Overlap ∷ given_up_behind (end_of kept) ys)) x
    go true c q later same =
        let m = later q in
        record { given = m.given; among = inr m.among; slot = m.slot; other = m.other; there = inr m.there; stays = m.stays; earlier = m.earlier; high = m.high }
    go false c (inl q) later same =
        let lines = behind-lines (λ (k : ℕ). k ≡ kept.slot → ⊥) (end_of kept) ys
        (all_map (λ (z : Sound). kept.slot ≡ z.slot → ⊥) (λ (z : Sound). z.slot ≡ kept.slot → ⊥) ys (λ z n e. n (sym e)) d.0.1) in
        record {
          given = y;
          among = inl refl;
          slot = ap (λ (l : Loss). l.slot) q;
          other = kept;
          there = inl refl;
          stays = (λ e. d.0.0 (sym e), all_map (OverlapOf (λ (k : ℕ). k ≡ kept.slot → ⊥)) (λ (l : Loss). l.slot ≡ kept.slot → ⊥) (given_up_behind (end_of kept) ys) (λ l w. w.1) lines);
          earlier = o.0.0;
          high = ltb-false (end_of kept) (start_of y) c;
        }
    go false c (inr q) later same =
        let m = same q in
        record { given = m.given; among = inr m.among; slot = m.slot; other = m.other; there = one_more m.other m.there; stays = (differs m.other m.there, m.stays); earlier = m.earlier; high = m.high }

-- ranges of which one starts within the other
meeting : (l m : Label) → masked_of l.lsn ≤ masked_of m.lsn → masked_of m.lsn ≤ masked_of l.lsn + l.trailer_offset → meets l m ≡ true
meeting l m low high =
    and-holds (leb (masked_of l.lsn) (masked_of m.lsn + m.trailer_offset)) (leb (masked_of m.lsn) (masked_of l.lsn + l.trailer_offset))
    (le-leb (masked_of l.lsn) (masked_of m.lsn + m.trailer_offset) (omega arith)) (le-leb (masked_of m.lsn) (masked_of l.lsn + l.trailer_offset) high)

-- in the first of two lists or in the second
in_either : (xs ys : List Loss) (x : Loss) → In (xs ++ ys) x → In xs x ⊎ In ys x
in_either [] ys x h = inr h
in_either (y ∷ xs) ys x (inl e) = inl (inl e)
in_either (y ∷ xs) ys x (inr h) = go (in_either xs ys x h)
  where
    go : In xs x ⊎ In ys x → In (y ∷ xs) x ⊎ In ys x
    go (inl k) = inl (inr k)
    go (inr k) = inr k

module _ (views : List View) (x : Loss) where
  seen : (z : Sound) → In (in_order (the_rest 0 views)) z → HoldsSound 0 views z
  seen z i = all_in (HoldsSound 0 views) (the_rest 0 views) (rest-holds 0 views) z (in-order-rest (the_rest 0 views) z i)

  from-met : (kept : Sound) (ys : List Sound) → in_order (the_rest 0 views) ≡ kept ∷ ys → Met kept ys (given_up_behind (end_of kept) ys) x → MeetsKept views x
  unfolding losses_in second_kind
  from-met kept ys e m =
      let u = seen m.given (subst (λ (zs : List Sound). In zs m.given) (sym e) (inr m.among)) in
      let v = seen m.other (subst (λ (zs : List Sound). In zs m.other) (sym e) m.there) in
      let a : masked_of u.file.label.lsn ≡ start_of m.given = ap (λ (l : Label). masked_of l.lsn) u.label in
      let b : masked_of v.file.label.lsn ≡ start_of m.other = ap (λ (l : Label). masked_of l.lsn) v.label in
      let c : v.file.label.trailer_offset ≡ m.other.label.trailer_offset = ap (λ (l : Label). l.trailer_offset) v.label in
      let low = before-start m.other m.given m.earlier in
      let high = m.high in
      record {
        file = u.file;
        shows = ap (view_at views) (sym m.slot ∙ u.is ∙ zero-add u.off) ∙ u.shows;
        other = v.off;
        kept-file = v.file;
        kept = record { shows = v.shows; stays = λ l i q. stays l v.off v.file v.shows (sym (v.is ∙ zero-add v.off)) (in_either (first_kind 0 views) (second_kind (in_order (the_rest 0 views))) l i) q };
        earlier = taken u v m.earlier;
        met = meeting v.file.label u.file.label (omega arith) (omega arith);
      }
    where
      taken : (u : HoldsSound 0 views m.given) (v : HoldsSound 0 views m.other) → Before m.other m.given → Taken v.off v.file x.slot u.file
      taken u v b =
          let at : m.other.slot ≡ v.off = v.is ∙ zero-add v.off in
          subst (λ (y : Sound). Before y (record { slot = x.slot; label = u.file.label })) (λ i. record { slot = at i; label = sym v.label i })
          (subst (Before m.other) (λ i. record { slot = m.slot i; label = sym u.label i }) b)

      stays : (l : Loss) (k : ℕ) (f : File) → view_at views k ≡ holds f → k ≡ m.other.slot → In (first_kind 0 views) l ⊎ In (second_kind (in_order (the_rest 0 views))) l → l.slot ≡ k → ⊥
      stays l k f s at (inl i) q =
          holds_not (sym s ∙ ap (view_at views) (sym q) ∙ all_in (λ (y : Loss). view_at views y.slot ≡ damaged y.refusal) (first_kind 0 views) (first-lost views) l i)
      stays l k f s at (inr i) q =
          all_in (λ (y : Loss). y.slot ≡ m.other.slot → ⊥) (given_up_behind (end_of kept) ys) m.stays l (subst (λ (zs : List Sound). In (second_kind zs) l) e i) (q ∙ at)

  second_meets : In (second_kind (in_order (the_rest 0 views))) x → MeetsKept views x
  unfolding second_kind
  second_meets i =
      go (in_order (the_rest 0 views)) refl (order-ascends (the_rest 0 views) (rest-by-slot 0 views)) (order-once (the_rest 0 views) (rest-by-slot 0 views)) i
    where
      go : (zs : List Sound) → in_order (the_rest 0 views) ≡ zs → Ordered zs → OneEach zs → In (second_kind zs) x → MeetsKept views x
      go [] e o d h = absurd h
      go (kept ∷ ys) e o d h = from-met kept ys e (met-behind kept ys o d x h)

-- a slot is reported, or is not
reported? : (report : List Loss) (k : ℕ) → ((r : Refusal) × In report (loss k r)) ⊎ ((x : Loss) → In report x → x.slot ≡ k → ⊥)
reported? [] k = inr (λ x i. absurd i)
reported? (y ∷ report) k = go (same? y.slot k) (reported? report k)
  where
    go : (y.slot ≡ k) ⊎ (y.slot ≡ k → ⊥) → ((r : Refusal) × In report (loss k r)) ⊎ ((x : Loss) → In report x → x.slot ≡ k → ⊥)
        → ((r : Refusal) × In (y ∷ report) (loss k r)) ⊎ ((x : Loss) → In (y ∷ report) x → x.slot ≡ k → ⊥)
    go (inl e) w = inl (y.refusal, inl (λ i. loss (e i) y.refusal))
    go (inr n) (inl (r, i)) = inl (r, inr i)
    go (inr n) (inr none) = inr other
      where
        other : (x : Loss) → In (y ∷ report) x → x.slot ≡ k → ⊥
        other x (inl e) q = n (ap (λ (l : Loss). l.slot) e ∙ q)
        other x (inr i) q = none x i q

module _ (s : Settings) (heap : List ℕ) where
  -- request P9: "one whose masked lsn isn't above the end .. of the last kept file": each slot reported with 14 meets a sound one that is not reported
  pub met-a-kept : (x : Loss) → In (report_of s heap) x → x.refusal ≡ Overlap → MeetsKept (judged_in s heap) x
  unfolding losses_in
  met-a-kept x i e = go (in_either (first_kind 0 (judged_in s heap)) (second_kind (in_order (the_rest 0 (judged_in s heap)))) x i)
    where
      go : In (first_kind 0 (judged_in s heap)) x ⊎ In (second_kind (in_order (the_rest 0 (judged_in s heap)))) x → MeetsKept (judged_in s heap) x
      go (inl h) =
          absurd (own-not-overlap s heap x.slot
          (all_in (λ (y : Loss). view_at (judged_in s heap) y.slot ≡ damaged y.refusal) (first_kind 0 (judged_in s heap)) (first-lost (judged_in s heap)) x h ∙ ap damaged e))
      go (inr h) = second_meets (judged_in s heap) x h

  -- request P9: and no two kept files' ranges meet
  pub kept-disjoint : (j k : ℕ) (f g : File) → KeptFile (judged_in s heap) j f → KeptFile (judged_in s heap) k g → (j ≡ k → ⊥) → Apart f g
  kept-disjoint = kept-apart (judged_in s heap)

  -- request P9: so every sound slot that meets a kept one is reported, with 14
  pub meets-kept-reported : (j k : ℕ) (f g : File) → KeptFile (judged_in s heap) j f → view_at (judged_in s heap) k ≡ holds g → (j ≡ k → ⊥) → (Apart f g → ⊥)
      → In (report_of s heap) (loss k Overlap)
  meets-kept-reported j k f g p e n m = go (reported? (report_of s heap) k)
    where
      go : ((r : Refusal) × In (report_of s heap) (loss k r)) ⊎ ((x : Loss) → In (report_of s heap) x → x.slot ≡ k → ⊥) → In (report_of s heap) (loss k Overlap)
      go (inr none) = absurd (m (kept-disjoint j k f g p (record { shows = e; stays = none }) n))
      go (inl (r, i)) = by (all_in (Lost (judged_in s heap)) (report_of s heap) (all-lost (judged_in s heap)) (loss k r) i)
        where
          by : Lost (judged_in s heap) (loss k r) → In (report_of s heap) (loss k Overlap)
          by (inl q) = absurd (holds_not (sym e ∙ q))
          by (inr (q, w)) = subst (λ (t : Refusal). In (report_of s heap) (loss k t)) q i
