-- A file of operations says of each id what its last operation says.
use Rattle.std.specs.Prelude.{◌≡◌, refl, ◌⊎◌, ◌<◌, ◌∷◌, ◌+◌, ◌-◌, ◌^◌, None, Some}
use Rattle.std.proofs.Common.{sym, ap, ◌∙◌, subst, inl, inr, arith, eq-eqb, ne_eqb}
use Rattle.std.proofs.Math.Nat.{sub-zero}
use Rattle.rules.specs.Base.{Bool, true, false, List, [], ℕ, suc, length, drop, pick}
use Rattle.theory.specs.Types.{Answer, Held}
use Rattle.disk_location.specs.Locations.{position_of, delete_of, raw_of}
use Rattle.disk_location.proofs.LocationLaws.{delete-raw}
use Rattle.rules.proofs.BaseLaws.{same?}
use Rattle.rules.specs.Refusal.{after}
use Rattle.rules.proofs.RefusalLaws.{decide-clear}
use Rattle.rules.specs.Object.{stored_at}
use Rattle.rules.specs.ObjectLaws.{stored_object}
use Rattle.rules.proofs.ObjectLaws.{stored_back}
use Rattle.rules.specs.Ops.{Content, put, delete, Op, is_delete, size_of, objects_of, entries_of}
use Rattle.rules.specs.OpsLaws.{RisingOps, ops-rise, IdsFit, Stands, Of}
use Rattle.rules.proofs.OpsLaws.{entry-stands, stands-inside, stands-bytes}
use Rattle.rules.specs.SettledLaws.{Last, silent, last, or_earlier, said_by, last_on}
use Rattle.rules.proofs.SettledLaws.{last-below}
use Rattle.rules.specs.Table.{lookup}
use Rattle.rules.specs.TableLaws.{Has}
use Rattle.rules.proofs.TableLaws.{lookup-here, lookup-next, lookup-has, mapped-not}
use Rattle.rules.specs.WrittenLaws.{file_of_ops}
use Rattle.rules.proofs.WrittenLaws.{read-clear}
use Rattle.theory.specs.Picture.{gone, body, broken, object_says, place_says, entry_says, file_says, last_says}
use Rattle.theory.specs.Installed.{over}

-- ---- the last operation on an id, where ids rise
last-stands : (f q : ℕ) (os : List Op) → RisingOps f os → (x : ℕ) (c : Content) (p : ℕ) → Stands q os x c p → last_on os x ≡ last c
unfolding last_on
last-stands f q [] r x c p h = absurd h
last-stands f q (o ∷ os) (ops-rise a r) x c p (inl (i, b, e)) =
    ap (λ (l : Last). or_earlier l (said_by o x)) (last-below (suc o.id) os r x (omega arith)) ∙ rw (eq-eqb o.id x i) (ap last b)
last-stands f q (o ∷ os) (ops-rise a r) x c p (inr h) =
    ap (λ (l : Last). or_earlier l (said_by o x)) (last-stands (suc o.id) (q + size_of o.content) os r x c p h)

last_none : (q : ℕ) (os : List Op) (x : ℕ) → lookup (entries_of q os) x ≡ None → last_on os x ≡ silent
unfolding last_on entries_of
last_none q [] x h = refl
last_none q (o ∷ os) x h = go (last_none (q + size_of o.content) os x) (same? o.id x)
  where
    go : (lookup (entries_of (q + size_of o.content) os) x ≡ None → last_on os x ≡ silent) → (o.id ≡ x) ⊎ (o.id ≡ x → ⊥)
        → or_earlier (last_on os x) (said_by o x) ≡ silent
    go ih (inl i) =
        absurd (mapped-not (sym (lookup-here (record { id = o.id; location = raw_of q (is_delete o.content) }) (entries_of (q + size_of o.content) os) x i) ∙ h))
    go ih (inr i) =
        ap (λ (l : Last). or_earlier l (said_by o x))
        (ih (sym (lookup-next (record { id = o.id; location = raw_of q (is_delete o.content) }) (entries_of (q + size_of o.content) os) x i) ∙ h))
        ∙ rw (ne_eqb o.id x i) refl

-- the later word over the earlier
pub over_last : (a b : Last) → over (last_says a) (last_says b) ≡ last_says (or_earlier a b)
over_last silent b = refl
over_last (last (put c)) b = refl
over_last (last delete) b = refl

-- ---- what was written is read
entry-says : (lsn g : ℕ) (os : List Op) (x r : ℕ) → IdsFit os → length (objects_of os) < 2 ^ 64 → x < 2 ^ 64 → (w : Of 0 os x r)
    → entry_says (file_of_ops lsn g os) (Some r) x ≡ last_says (last w.content)
entry-says lsn g os x r i n t w = go w.content w.stands w.location
  where
    go : (c : Content) → Stands 0 os x c (position_of r) → r ≡ raw_of (position_of r) (is_delete c) → pick (delete_of r) gone (place_says (file_of_ops lsn g os) (position_of r) x) ≡ last_says (last c)
    go delete s e = let d : delete_of r ≡ true = ap delete_of e ∙ delete-raw (position_of r) true in rw d refl
    go (put b) s e =
        let d : delete_of r ≡ false = ap delete_of e ∙ delete-raw (position_of r) false in
        let v = stands-inside 0 os x (put b) (position_of r) s in
        let y = stands-bytes 0 os x b (position_of r) s in
        let m : length b < 2 ^ 64 = omega (arith, v.1) in
        let o : stored_at (position_of r) (drop (position_of r) (objects_of os)) ≡ stored_object (position_of r) x b (length y.0)
        = ap (stored_at (position_of r)) (ap (λ (k : ℕ). drop k (objects_of os)) (sym (sub-zero (position_of r))) ∙ y.1) ∙ stored_back (position_of r) x b y.0 t m in
        ap (λ (c : Bool). pick c gone (place_says (file_of_ops lsn g os) (position_of r) x)) d
        ∙ ap (object_says x) o
        ∙ ap (λ (a : Answer). after a broken (body b)) (decide-clear _ (read-clear (position_of r) x b (length y.0)))

-- ids of 64 bits
pub ids-fit : (os : List Op) → IdsFit os → (q x r : ℕ) → Has (entries_of q os) x r → x < 2 ^ 64
unfolding entries_of
ids-fit [] i q x r h = absurd h
ids-fit (o ∷ os) i q x r (inl (a, b)) = subst (λ (n : ℕ). n < 2 ^ 64) a i.0
ids-fit (o ∷ os) i q x r (inr h) = ids-fit os i.1 (q + size_of o.content) x r h

-- LAW: a file of operations says what the operations say
pub file-says : (lsn g : ℕ) (os : List Op) → RisingOps 0 os → IdsFit os → length (objects_of os) < 2 ^ 64 → (x : ℕ) → file_says (file_of_ops lsn g os) x ≡ last_says (last_on os x)
unfolding file_says
file-says lsn g os r i n x = go (lookup (entries_of 0 os) x) refl
  where
    go : (o : Held) → lookup (entries_of 0 os) x ≡ o → entry_says (file_of_ops lsn g os) o x ≡ last_says (last_on os x)
    go None h = ap last_says (sym (last_none 0 os x h))
    go (Some l) h =
        let a = lookup-has (entries_of 0 os) x l h in
        let w = entry-stands 0 os x l a in
        entry-says lsn g os x l i n (ids-fit os i 0 x l a) w
        ∙ ap last_says (sym (last-stands 0 0 os r x w.content (position_of l) w.stands))
