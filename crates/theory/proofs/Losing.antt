-- "each replaced location's file .. loses one live": live counts as ids leave their old locations, one by one.
use Rattle.std.specs.Prelude.{◌≡◌, ◌∷◌, ◌+◌, ◌-◌, None, Some}
use Rattle.std.proofs.Math.Path.{refl, ap}
use Rattle.std.proofs.Common.{◌∙◌, inl, inr}
use Prim.Native.Nat.{◌≤◌, zero-le}
use native.Mathlib.Omega.{arith}
use Rattle.rules.specs.Base.{Bool, true, false, List, [], ℕ, suc, length}
use Rattle.theory.specs.Types.{Entry, Record, Held, Slot}
use Rattle.disk_location.specs.Locations.{bit_of}
use Rattle.rules.specs.Ops.{Op, size_of, entries_of}
use Rattle.rules.specs.OpsLaws.{RisingOps, ops-rise}
use Rattle.rules.specs.Table.{lookup, loaded_of, load, insert, insert_all}
use Rattle.rules.specs.FileMap.{file_for, less_live}
use Rattle.rules.specs.Install.{file_holding, losing}
use Rattle.rules.specs.TableLaws.{Rising, Has}
use Rattle.rules.proofs.TableLaws.{lookup-insert-other, rising-insert}
use Rattle.theory.specs.Counting.{count, had}
use Rattle.theory.proofs.Counting.{count-insert}
use Rattle.rules.proofs.FileMapLaws.{file-same, less-live-length}
use Rattle.rules.specs.InstallLaws.{is_at}
use Rattle.rules.proofs.InstallLaws.{holding-mapped, less-at}
use Rattle.theory.specs.Losing.{live_at, row_at, rows_for}

-- ---- one file loses one
-- lookups do not change
pub less-file : (o : Slot) (rs : List Record) (l : ℕ) → file_for (less_live o rs) l ≡ file_for rs l
less-file o rs l = file-same (less_live o rs) rs (less-live-length o rs) (λ j. ap (λ (r : Record). r.label.lsn) (less-at o rs j)) l

-- ---- all that are replaced
-- p: being in slot j, said of locations. t is the table before, u what it has become; the ids still to come have not changed.
module _ (p : ℕ → Bool) (j lsn : ℕ) (t : List Entry) where
  held_share : (rs : List Record) (o : Held) → ((m : ℕ) → o ≡ Some m → is_at j (file_for rs m) ≡ p m) → bit_of (is_at j (file_holding rs (loaded_of o))) ≡ had p o
  held_share rs None h = refl
  held_share rs (Some m) h = ap (λ (s : Slot). bit_of (is_at j s)) (holding-mapped rs m) ∙ ap bit_of (h m refl)

  -- LAW: a live count stays the number of ids in the slot, as ids leave it for another
  pub losing-live : (f position : ℕ) (u : List Entry) (os : List Op) (rs : List Record) → Rising 0 u → RisingOps f os
      → ((x : ℕ) → f ≤ x → lookup u x ≡ lookup t x)
      → ((x m : ℕ) → lookup t x ≡ Some m → is_at j (file_for rs m) ≡ p m)
      → ((x l : ℕ) → Has (rows_for lsn position os) x l → p l ≡ false)
      → live_at rs j ≡ count p u
      → live_at (losing t os rs) j ≡ count p (insert_all u (rows_for lsn position os))
  unfolding losing insert_all entries_of
  losing-live f position u [] rs r s same found new c = c
  losing-live f position u (o ∷ os) rs r (ops-rise a s) same found new c =
      losing-live (suc o.id) (position + size_of o.content) (insert u (row_at lsn position o)) os (less_live (file_holding rs (load t o.id)) rs)
      (rising-insert 0 u (row_at lsn position o) zero-le r) s
      (λ x h. lookup-insert-other u (row_at lsn position o) x (λ q. omega arith) ∙ same x (omega arith))
      (λ x m h. ap (is_at j) (less-file (file_holding rs (load t o.id)) rs m) ∙ found x m h)
      (λ x l h. new x l (inr h))
      turn
    where
      turn : live_at (less_live (file_holding rs (load t o.id)) rs) j ≡ count p (insert u (row_at lsn position o))
      turn =
          let v : live_at (less_live (file_holding rs (load t o.id)) rs) j ≡ live_at rs j - bit_of (is_at j (file_holding rs (load t o.id)))
          = ap (λ (r : Record). r.live) (less-at (file_holding rs (load t o.id)) rs j) in
          let w = held_share rs (lookup t o.id) (found o.id) in
          let q : had p (lookup u o.id) ≡ had p (lookup t o.id) = ap (had p) (same o.id a) in
          let y = count-insert 0 p u r (row_at lsn position o) in
          let z : bit_of (p (row_at lsn position o).location) ≡ 0 = ap bit_of (new o.id (row_at lsn position o).location (inl (refl, refl))) in
          omega arith

  -- LAW: all entries of a new file are in its slot
  pub losing-new : (f position : ℕ) (u : List Entry) (os : List Op) → Rising 0 u → RisingOps f os
      → ((x : ℕ) → f ≤ x → lookup u x ≡ lookup t x)
      → ((x m : ℕ) → lookup t x ≡ Some m → p m ≡ false)
      → ((x l : ℕ) → Has (rows_for lsn position os) x l → p l ≡ true)
      → count p (insert_all u (rows_for lsn position os)) ≡ count p u + length os
  unfolding insert_all entries_of
  losing-new f position u [] r s same old new = omega arith
  losing-new f position u (o ∷ os) r (ops-rise a s) same old new =
      let i = losing-new (suc o.id) (position + size_of o.content) (insert u (row_at lsn position o)) os (rising-insert 0 u (row_at lsn position o) zero-le r) s
      (λ x h. lookup-insert-other u (row_at lsn position o) x (λ q. omega arith) ∙ same x (omega arith)) old (λ x l h. new x l (inr h)) in
      let w = count-insert 0 p u r (row_at lsn position o) in
      let z : bit_of (p (row_at lsn position o).location) ≡ 1 = ap bit_of (new o.id (row_at lsn position o).location (inl (refl, refl))) in
      let y : had p (lookup u o.id) ≡ 0 = ap (had p) (same o.id a) ∙ none (lookup t o.id) (old o.id) in
      omega arith
    where
      none : (o : Held) → ((m : ℕ) → o ≡ Some m → p m ≡ false) → had p o ≡ 0
      none None h = refl
      none (Some m) h = ap bit_of (h m refl)
