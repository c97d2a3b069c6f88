-- "Every unclaimed file with live 0", as facts; records and views after a prune.
use Rattle.std.specs.Prelude.{◌≡◌, ◌⊎◌, ◌≤◌, ◌<◌, ◌∷◌, ◌+◌, ◌*◌}
use Rattle.std.proofs.Math.Path.{refl, ap}
use Rattle.std.proofs.Common.{sym, ◌∙◌, inl, inr, arith, zero-add, eqb-true, eq-eqb, get_or-set_same}
use Rattle.std.proofs.lemmas.Bool.{false≢true, not-true}
use Rattle.std.proofs.Math.ListN.{length-set}
use Rattle.std.proofs.Math.Seq.{get_or-set_other}
use Rattle.rules.specs.Base.{Bool, true, false, not, List, [], ℕ, zero, suc, length, get_or, set, pick}
use Rattle.rules.specs.Types.{Record, Claims}
use Rattle.rules.proofs.BaseLaws.{and-true, same?}
use Rattle.rules.specs.FileMap.{empty_record, is_empty, record_at, slots_where}
use Rattle.rules.specs.FileMapLaws.{Among}
use Rattle.rules.proofs.FileMapLaws.{slot-passes, passes-slot}
use Rattle.rules.specs.Stores.{made}
use Rattle.rules.specs.SlotFile.{View, empty, views_in}
use Rattle.rules.proofs.SlotLaws.{views-length}
use Rattle.rules.proofs.WrittenLaws.{views-emptied}
use Rattle.rules.specs.Prune.{is_dead, emptied_from, prune_stores}
use Rattle.rules.specs.World.{World, records_of}
use Rattle.rules.specs.PruneLaws.{Dead, emptying}

-- a dead file is all of this
pub dead : (claims : Claims) (slot : ℕ) (r : Record) → is_dead claims slot r ≡ true → Dead claims slot r
unfolding is_dead
dead claims slot r e =
    let w3 = and-true _ _ e in
    let w2 = and-true (not (is_empty r)) _ w3.0 in
    record { file = not-true _ w2.0; live = eqb-true _ _ w2.1; unclaimed = not-true _ w3.1 }

-- and back
pub is-dead : (claims : Claims) (slot : ℕ) (r : Record) → Dead claims slot r → is_dead claims slot r ≡ true
unfolding is_dead
is-dead claims slot r w = rw (w.file, eq-eqb r.live 0 w.live, w.unclaimed)

-- ---- records
pub emptied-length : (claims : Claims) (i : ℕ) (rs : List Record) → length (emptied_from claims i rs) ≡ length rs
unfolding emptied_from
emptied-length claims i [] = refl
emptied-length claims i (r ∷ rs) = ap suc (emptied-length claims (suc i) rs)

-- "record emptied", and no other
pub emptied-at : (claims : Claims) (i : ℕ) (rs : List Record) (j : ℕ) → j < length rs
    → record_at (emptied_from claims i rs) j ≡ pick (is_dead claims (i + j) (record_at rs j)) empty_record (record_at rs j)
unfolding emptied_from
emptied-at claims i [] j h = absurd (omega arith)
emptied-at claims i (r ∷ rs) zero h = let here : i + 0 ≡ i = omega arith in rw here
emptied-at claims i (r ∷ rs) (suc j) h = let there : i + suc j ≡ suc i + j = omega arith in rw there (emptied-at claims (suc i) rs j (omega arith))

module _ (n size : ℕ) (some : 0 < size) where
  -- a slot that is empty stays so
  emptying-keeps : (ks : List ℕ) (heap : List ℕ) → ((k : ℕ) → Among ks k → k < n) → n * size ≤ length heap → (j : ℕ) → j < n
      → get_or (views_in n size heap) j empty ≡ empty → get_or (views_in n size (made (emptying size ks) heap)) j empty ≡ empty
  unfolding made
  emptying-keeps [] heap low whole j h e = e
  emptying-keeps (k ∷ ks) heap low whole j h e =
      emptying-keeps ks (set heap (k * size) 0) (λ m a. low m (inr a)) (omega (arith, length-set heap (k * size) 0)) j h
      (ap (λ (vs : List View). get_or vs j empty) (views-emptied n size heap k (low k (inl refl)) whole some) ∙ go (same? j k))
    where
      go : (j ≡ k) ⊎ (j ≡ k → ⊥) → get_or (set (views_in n size heap) k empty) j empty ≡ empty
      go (inl q) = rw q (get_or-set_same (views_in n size heap) k empty empty (omega (arith, low k (inl refl), views-length n size heap)))
      go (inr q) = get_or-set_other (views_in n size heap) k j empty empty q ∙ e

  -- each of them is empty
  pub emptying-these : (ks : List ℕ) (heap : List ℕ) → ((k : ℕ) → Among ks k → k < n) → n * size ≤ length heap → (j : ℕ) → Among ks j
      → get_or (views_in n size (made (emptying size ks) heap)) j empty ≡ empty
  unfolding made
  emptying-these [] heap low whole j a = absurd a
  emptying-these (k ∷ ks) heap low whole j (inl q) =
      emptying-keeps ks (set heap (k * size) 0) (λ m a. low m (inr a)) (omega (arith, length-set heap (k * size) 0)) j (low j (inl q))
      (ap (λ (vs : List View). get_or vs j empty) (views-emptied n size heap k (low k (inl refl)) whole some)
      ∙ rw (← q) (get_or-set_same (views_in n size heap) k empty empty (omega (arith, low k (inl refl), views-length n size heap))))
  emptying-these (k ∷ ks) heap low whole j (inr a) =
      emptying-these ks (set heap (k * size) 0) (λ m b. low m (inr b)) (omega (arith, length-set heap (k * size) 0)) j a

  -- and no other slot changes
  pub emptying-others : (ks : List ℕ) (heap : List ℕ) → ((k : ℕ) → Among ks k → k < n) → n * size ≤ length heap → (j : ℕ) → (Among ks j → ⊥)
      → get_or (views_in n size (made (emptying size ks) heap)) j empty ≡ get_or (views_in n size heap) j empty
  unfolding made
  emptying-others [] heap low whole j none = refl
  emptying-others (k ∷ ks) heap low whole j none =
      emptying-others ks (set heap (k * size) 0) (λ m a. low m (inr a)) (omega (arith, length-set heap (k * size) 0)) j (λ a. none (inr a))
      ∙ ap (λ (vs : List View). get_or vs j empty) (views-emptied n size heap k (low k (inl refl)) whole some)
      ∙ get_or-set_other (views_in n size heap) k j empty empty (λ q. none (inl (sym q)))

-- the stores of a prune
pub prune-stores : (w : World) → prune_stores w ≡ emptying w.settings.slot_bytes (slots_where (is_dead w.claims) 0 (records_of w))
unfolding prune_stores
prune-stores w = refl

-- a dead file's slot is empty, every other as it was
pub prune-view : (n size : ℕ) → 0 < size → (claims : Claims) (rs : List Record) (heap : List ℕ) → ((k : ℕ) → is_empty (record_at rs k) ≡ false → k < n)
    → n ≤ length rs → n * size ≤ length heap → (j : ℕ) → j < n
    → get_or (views_in n size (made (emptying size (slots_where (is_dead claims) 0 rs)) heap)) j empty ≡ pick (is_dead claims j (record_at rs j)) empty (get_or (views_in n size heap) j empty)
prune-view n size some claims rs heap files room whole j h = go (is_dead claims j (record_at rs j)) refl
  where
    low : (k : ℕ) → Among (slots_where (is_dead claims) 0 rs) k → k < n
    low k a =
        let w = slot-passes (is_dead claims) 0 rs k a in
        let at : k ≡ w.off = w.is ∙ zero-add w.off in
        let v = files w.off (dead claims (0 + w.off) (record_at rs w.off) w.passes).file in
        omega arith

    go : (t : Bool) → is_dead claims j (record_at rs j) ≡ t
        → get_or (views_in n size (made (emptying size (slots_where (is_dead claims) 0 rs)) heap)) j empty ≡ pick (is_dead claims j (record_at rs j)) empty (get_or (views_in n size heap) j empty)
    go true e =
        let a : Among (slots_where (is_dead claims) 0 rs) j = rw zero-add at (passes-slot (is_dead claims) 0 rs j (omega arith) (rw zero-add e)) in
        rw e (emptying-these n size some (slots_where (is_dead claims) 0 rs) heap low whole j a)
    go false e = rw e (emptying-others n size some (slots_where (is_dead claims) 0 rs) heap low whole j none)
      where
        none : Among (slots_where (is_dead claims) 0 rs) j → ⊥
        none a =
            let w = slot-passes (is_dead claims) 0 rs j a in
            let at : 0 + w.off ≡ j = sym w.is in
            let same : w.off ≡ j = sym (zero-add w.off) ∙ at in
            false≢true (sym e ∙ ap (λ (k : ℕ). is_dead claims j (record_at rs k)) (sym same) ∙ ap (λ (k : ℕ). is_dead claims k (record_at rs w.off)) (sym at) ∙ w.passes)
