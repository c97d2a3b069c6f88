-- "Each id maps to its entry of greatest masked position": entry by entry, as stores into the table.
use Rattle.std.specs.Prelude.{◌≡◌, refl, ◌⊎◌, ◌≤◌, ◌<◌, ◌∷◌, ◌++◌, None, Some}
use Rattle.std.proofs.Common.{sym, ap, ◌∙◌, true≢false, inl, inr, zero-le, suc-le-suc, arith}
use Rattle.rules.specs.Base.{Bool, true, false, List, [], ℕ, suc, length, ltb, pick}
use Rattle.rules.specs.BaseLaws.{All}
use Rattle.rules.proofs.BaseLaws.{order}
use Rattle.rules.specs.Table.{lookup, insert}
use Rattle.disk_location.specs.Locations.{masked_of, position_of}
use Rattle.rules.specs.Reopen.{latest, latest_from}
use Rattle.rules.specs.TableLaws.{Rising, rise}
use Rattle.rules.proofs.TableLaws.{lookup-here, lookup-next, lookup-below, insert-next, insert-here, insert-before}
use Rattle.rules.specs.LayoutLaws.{Used}
use Rattle.rules.proofs.ReopenLaws.{latest-next, latest-here, latest-before, latest-rising}
use Rattle.location_table.specs.EntryLaws.{used-insert}
use Rattle.rebuild.specs.Types.{Entry, Held}

-- whether a location replaces what the table has
abbrev pub replaces : Held → ℕ → Bool
replaces None l = true
replaces (Some m) l = ltb (masked_of (position_of m)) (masked_of (position_of l))

-- an entry that is in use
abbrev pub InUse : Entry → Type 0
InUse e = 0 < e.location

-- ---- one entry
-- it replaces what is there: a store
pub latest-insert : (n : Entry) (es : List Entry) → replaces (lookup es n.id) n.location ≡ true → latest n es ≡ insert es n
unfolding latest insert
latest-insert n [] t = refl
latest-insert n (e ∷ es) t = go (latest-insert n es) (order e.id n.id)
  where
    go : (replaces (lookup es n.id) n.location ≡ true → latest n es ≡ insert es n) → (e.id < n.id) ⊎ ((e.id ≡ n.id) ⊎ (n.id < e.id))
        → latest n (e ∷ es) ≡ insert (e ∷ es) n
    go ih (inl h) =
        let held = ap (λ (o : Held). replaces o n.location) (sym (lookup-next e es n.id (λ q. omega arith))) ∙ t in
        latest-next n e es h ∙ ap (λ (ds : List Entry). e ∷ ds) (ih held) ∙ sym (insert-next e es n h)
    go ih (inr (inl h)) =
        let held = ap (λ (o : Held). replaces o n.location) (sym (lookup-here e es n.id h)) ∙ t in
        latest-here n e es h ∙ ap (λ (b : Bool). pick b n e ∷ es) held ∙ sym (insert-here e es n h)
    go ih (inr (inr h)) = latest-before n e es h ∙ sym (insert-before e es n h)

-- it does not: nothing changes
pub latest-keep : (f : ℕ) (n : Entry) (es : List Entry) → Rising f es → replaces (lookup es n.id) n.location ≡ false → latest n es ≡ es
unfolding lookup
latest-keep f n [] r t = absurd (true≢false t)
latest-keep f n (e ∷ es) (rise a r) t = go (latest-keep (suc e.id) n es r) (order e.id n.id)
  where
    go : (replaces (lookup es n.id) n.location ≡ false → latest n es ≡ es) → (e.id < n.id) ⊎ ((e.id ≡ n.id) ⊎ (n.id < e.id))
        → latest n (e ∷ es) ≡ e ∷ es
    go ih (inl h) =
        let held = ap (λ (o : Held). replaces o n.location) (sym (lookup-next e es n.id (λ q. omega arith))) ∙ t in
        latest-next n e es h ∙ ap (λ (ds : List Entry). e ∷ ds) (ih held)
    go ih (inr (inl h)) =
        let held = ap (λ (o : Held). replaces o n.location) (sym (lookup-here e es n.id h)) ∙ t in
        latest-here n e es h ∙ ap (λ (b : Bool). pick b n e ∷ es) held
    go ih (inr (inr h)) =
        let none = lookup-next e es n.id (λ q. omega arith) ∙ lookup-below (suc e.id) es r n.id (omega arith) in
        absurd (true≢false (ap (λ (o : Held). replaces o n.location) (sym none) ∙ t))

-- every entry is in use
latest-used : (n : Entry) (es : List Entry) → InUse n → Rising 0 es → Used es → Used (latest n es)
latest-used n es some r u = go (replaces (lookup es n.id) n.location) refl
  where
    go : (t : Bool) → replaces (lookup es n.id) n.location ≡ t → Used (latest n es)
    go true e = rw (latest-insert n es e) (used-insert es n some u)
    go false e = rw (latest-keep 0 n es r e) u

-- ids are never lost
latest-grows : (n : Entry) (es : List Entry) → length es ≤ length (latest n es)
unfolding latest
latest-grows n [] = zero-le
latest-grows n (e ∷ es) = go (latest-grows n es) (order e.id n.id)
  where
    go : length es ≤ length (latest n es) → (e.id < n.id) ⊎ ((e.id ≡ n.id) ⊎ (n.id < e.id)) → suc (length es) ≤ length (latest n (e ∷ es))
    go ih (inl h) = rw (latest-next n e es h) (suc-le-suc ih)
    go ih (inr (inl h)) = rw (latest-here n e es h) (omega arith)
    go ih (inr (inr h)) = rw (latest-before n e es h) (omega arith)

-- ---- many
pub from-append : (met xs ys : List Entry) → latest_from met (xs ++ ys) ≡ latest_from (latest_from met xs) ys
unfolding latest_from
from-append met [] ys = refl
from-append met (x ∷ xs) ys = from-append (latest x met) xs ys

pub from-used : (met es : List Entry) → Rising 0 met → Used met → All InUse es → Used (latest_from met es)
unfolding latest_from
from-used met [] r u a = u
from-used met (e ∷ es) r u a = from-used (latest e met) es (latest-rising 0 e met zero-le r) (latest-used e met a.0 r u) a.1

pub from-grows : (met es : List Entry) → length met ≤ length (latest_from met es)
unfolding latest_from
from-grows met [] = omega arith
from-grows met (e ∷ es) = omega (arith, latest-grows e met, from-grows (latest e met) es)
