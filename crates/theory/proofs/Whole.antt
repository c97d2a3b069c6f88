-- Files of operations are whole, and small where 3 refuses none of the operations.
use Rattle.std.specs.Prelude.{◌≡◌, refl, ◌<◌, ◌∷◌, ◌++◌, ◌+◌, ◌^◌}
use Rattle.std.proofs.Common.{sym, ap, ◌∙◌, subst, true≢false, inl, inr, arith}
use Rattle.rules.specs.Base.{true, false, List, [], ℕ, length, leb}
use Rattle.disk_location.specs.Locations.{position_of, delete_of, raw_of}
use Rattle.disk_location.proofs.LocationLaws.{delete-raw}
use Rattle.rules.specs.BaseLaws.{All}
use Rattle.rules.proofs.BaseLaws.{any_false}
use Rattle.rules.specs.Refusal.{NoneHolds}
use Rattle.rules.specs.Object.{Stored, objects_in}
use Rattle.rules.specs.ObjectLaws.{stored_object}
use Rattle.rules.specs.Ops.{Content, put, delete, Op, is_delete, size_of, objects_of, entries_of}
use Rattle.rules.specs.OpsLaws.{RisingOps, IdsFit, Stands, stored_here, stored_of}
use Rattle.rules.proofs.OpsLaws.{entries-of-rising, stands-entry, entry-stands, objects-back}
use Rattle.rules.specs.Batch.{too_large, any_too_large}
use Rattle.rules.specs.Read.{object_tests}
use Rattle.rules.proofs.ReopenLaws.{rising-entries}
use Rattle.rules.specs.TableLaws.{Has}
use Rattle.rules.specs.WrittenLaws.{file_of_ops}
use Rattle.rules.proofs.WrittenLaws.{read-clear}
use Rattle.theory.specs.Sound.{StartsAt, WholeFile, SmallFile}

-- what holds of each put's object holds of all objects that stand there
stored-all : (P : Stored → Type 0) (position : ℕ) (os : List Op)
    → ((x : ℕ) (b : List ℕ) (p behind : ℕ) → Stands position os x (put b) p → P (stored_object p x b behind)) → All P (stored_of position os)
unfolding stored_of
stored-all P position [] h = tt
stored-all P position (o ∷ os) h =
    go o.content (λ b e. h o.id b position (length (objects_of os)) (inl (refl, e, refl)))
    (stored-all P (position + size_of o.content) os (λ x b p n s. h x b p n (inr s)))
  where
    go : (c : Content) → ((b : List ℕ) → c ≡ put b → P (stored_object position o.id b (length (objects_of os)))) → All P (stored_of (position + size_of o.content) os)
        → All P (stored_here position o.id c (length (objects_of os)) ++ stored_of (position + size_of o.content) os)
    go (put b) here ih = (here b refl, ih)
    go delete here ih = ih

-- each put's object starts where it stands
stands-starts : (q : ℕ) (os : List Op) (x : ℕ) (b : List ℕ) (p : ℕ) → Stands q os x (put b) p → StartsAt (stored_of q os) x p
unfolding stored_of
stands-starts q [] x b p h = absurd h
stands-starts q (o ∷ os) x b p (inl (i, c, e)) = go o.content c
  where
    go : (d : Content) → d ≡ put b → StartsAt (stored_here q o.id d (length (objects_of os)) ++ stored_of (q + size_of o.content) os) x p
    go (put a) z = inl (i, e)
    go delete z = absurd (let y : ◌≡◌ {A = ℕ} 0 1 = cc in omega arith)
stands-starts q (o ∷ os) x b p (inr h) = go o.content (stands-starts (q + size_of o.content) os x b p h)
  where
    go : (d : Content) → StartsAt (stored_of (q + size_of o.content) os) x p → StartsAt (stored_here q o.id d (length (objects_of os)) ++ stored_of (q + size_of o.content) os) x p
    go (put a) ih = inr ih
    go delete ih = ih

module _ (lsn g : ℕ) (os : List Op) (rising : RisingOps 0 os) (ids : IdsFit os) (size : length (objects_of os) < 2 ^ 64) where
  -- LAW: a file of operations in order is whole
  pub whole-written : WholeFile (file_of_ops lsn g os)
  whole-written = record {
    walked = back (λ (o : Stored). NoneHolds (object_tests o.id o)) (λ x b p n h. read-clear p x b n);
    entered = back (λ (o : Stored). Has (entries_of 0 os) o.id (raw_of o.position false)) (λ x b p n h. stands-entry 0 os x (put b) p h);
    stored = λ x l h d. let w = entry-stands 0 os x l h in
        subst (λ (ss : List Stored). StartsAt ss x (position_of l)) (sym (objects-back os ids size)) (at w.content l x d w.stands w.location);
    repeats = rising-entries 0 (entries_of 0 os) (entries-of-rising 0 0 os rising);
  }
    where
      back : (P : Stored → Type 0) → ((x : ℕ) (b : List ℕ) (p behind : ℕ) → Stands 0 os x (put b) p → P (stored_object p x b behind)) → All P (objects_in (objects_of os))
      back P h = subst (All P) (sym (objects-back os ids size)) (stored-all P 0 os h)

      at : (c : Content) (l x : ℕ) → delete_of l ≡ false → Stands 0 os x c (position_of l) → l ≡ raw_of (position_of l) (is_delete c) → StartsAt (stored_of 0 os) x (position_of l)
      at (put b) l x d h e = stands-starts 0 os x b (position_of l) h
      at delete l x d h e = absurd (true≢false (sym (delete-raw (position_of l) true) ∙ ap delete_of (sym e) ∙ d))

-- LAW: and small, where 3 refuses none of them
pub small-written : (limit lsn g : ℕ) (os : List Op) → IdsFit os → length (objects_of os) < 2 ^ 64 → any_too_large limit os ≡ false → SmallFile limit (file_of_ops lsn g os)
unfolding any_too_large
small-written limit lsn g os ids size h =
    subst (All (λ (o : Stored). leb limit o.size ≡ false)) (sym (objects-back os ids size))
    (stored-all (λ (o : Stored). leb limit o.size ≡ false) 0 os (λ x b p n s. stands-small 0 os (any_false (λ (o : Op). too_large limit o.content) os h) x b p s))
  where
    stands-small : (q : ℕ) (os : List Op) → All (λ (o : Op). too_large limit o.content ≡ false) os → (x : ℕ) (b : List ℕ) (p : ℕ) → Stands q os x (put b) p → leb limit (length b) ≡ false
    stands-small q [] a x b p s = absurd s
    stands-small q (o ∷ os) a x b p (inl (i, c, e)) = sym (ap (too_large limit) c) ∙ a.0
    stands-small q (o ∷ os) a x b p (inr s) = stands-small (q + size_of o.content) os a.1 x b p s
