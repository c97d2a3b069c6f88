-- Entries of tables and trailers: stores of old ids, absolute locations, lists one behind the other.
use Rattle.std.specs.Prelude.{◌≡◌, refl, ◌⊎◌, ◌∷◌, ◌++◌, ◌+◌, ◌*◌, ◌%◌, Some}
use Rattle.std.proofs.Common.{sym, ap, ◌∙◌, inl, inr, ⊎_elim, zero-le, arith, eqb-true}
use Rattle.std.proofs.lemmas.Bool.{eqb-false}
use Rattle.rules.specs.Base.{Bool, true, false, List, [], map, ℕ, suc, length, eqb}
use Rattle.theory.specs.Types.{Entry}
use Rattle.rules.proofs.BaseLaws.{same?}
use Rattle.rules.specs.Table.{lookup, insert, insert_all}
use Rattle.rules.specs.TableLaws.{Rising, rise, rise-end, Has}
use Rattle.rules.proofs.TableLaws.{lookup-here, lookup-next, lookup-insert-same, lookup-insert-other, rising-insert, insert-old}
use Rattle.rules.specs.Trailer.{absolute}
use Rattle.theory.specs.Entries.{shift_held}

-- ---- a store of ids that are there takes no room
pub insert-all-old : (t es : List Entry) → Rising 0 t → ((x l : ℕ) → Has es x l → (m : ℕ) × (lookup t x ≡ Some m)) → length (insert_all t es) ≡ length t
unfolding insert_all
insert-all-old t [] r h = refl
insert-all-old t (e ∷ es) r h =
    let w = h e.id e.location (inl (refl, refl)) in
    insert-all-old (insert t e) es (rising-insert 0 t e zero-le r) (λ x l k. still x l k (same? e.id x))
    ∙ insert-old 0 t r e w.0 w.1
  where
    still : (x l : ℕ) → Has es x l → (e.id ≡ x) ⊎ (e.id ≡ x → ⊥) → (m : ℕ) × (lookup (insert t e) x ≡ Some m)
    still x l k (inl q) = (e.location, ap (lookup (insert t e)) (sym q) ∙ lookup-insert-same t e)
    still x l k (inr q) = let w = h x l (inr k) in (w.0, lookup-insert-other t e x q ∙ w.1)

-- ---- "A relative location plus a file's lsn is an absolute one."
pub absolute-location : (n : ℕ) (e : Entry) → (absolute n e).location ≡ e.location + 2 * n
absolute-location n e = go (eqb (e.location % 2) 1) refl
  where
    go : (b : Bool) → eqb (e.location % 2) 1 ≡ b → (absolute n e).location ≡ e.location + 2 * n
    go true q = let o = eqb-true (e.location % 2) 1 q in rw q (omega arith)
    go false q = let o = eqb-false (e.location % 2) 1 q in rw q (omega (arith, o))

-- a lookup among absolute locations
pub lookup-absolute : (n : ℕ) (es : List Entry) (x : ℕ) → lookup (map (absolute n) es) x ≡ shift_held n (lookup es x)
unfolding lookup
lookup-absolute n [] x = refl
lookup-absolute n (e ∷ es) x = go (lookup-absolute n es x) (same? e.id x)
  where
    go : lookup (map (absolute n) es) x ≡ shift_held n (lookup es x) → (e.id ≡ x) ⊎ (e.id ≡ x → ⊥)
        → lookup (absolute n e ∷ map (absolute n) es) x ≡ shift_held n (lookup (e ∷ es) x)
    go ih (inl q) =
        lookup-here (absolute n e) (map (absolute n) es) x q ∙ ap Some (absolute-location n e) ∙ sym (ap (shift_held n) (lookup-here e es x q))
    go ih (inr q) = lookup-next (absolute n e) (map (absolute n) es) x q ∙ ih ∙ sym (ap (shift_held n) (lookup-next e es x q))

-- ids do not change
pub rising-absolute : (n f : ℕ) (es : List Entry) → Rising f es → Rising f (map (absolute n) es)
rising-absolute n f [] r = rise-end
rising-absolute n f (e ∷ es) (rise a r) = rise a (rising-absolute n (suc e.id) es r)

-- an entry, with its absolute location
pub has-absolute : (n : ℕ) (es : List Entry) (x r : ℕ) → Has es x r → Has (map (absolute n) es) x (r + 2 * n)
has-absolute n [] x r h = h
has-absolute n (e ∷ es) x r (inl (a, b)) = inl (a, absolute-location n e ∙ ap (λ (m : ℕ). m + 2 * n) b)
has-absolute n (e ∷ es) x r (inr h) = inr (has-absolute n es x r h)

-- and back
pub absolute-has : (n : ℕ) (es : List Entry) (x l : ℕ) → Has (map (absolute n) es) x l → (r : ℕ) × Has es x r × (l ≡ r + 2 * n)
absolute-has n [] x l h = absurd h
absolute-has n (e ∷ es) x l (inl (a, b)) = (e.location, inl (a, refl), sym b ∙ absolute-location n e)
absolute-has n (e ∷ es) x l (inr h) = let w = absolute-has n es x l h in (w.0, inr w.1, w.2)

-- ---- one list behind the other
pub has-append-l : (s t : List Entry) (x l : ℕ) → Has s x l → Has (s ++ t) x l
has-append-l [] t x l h = absurd h
has-append-l (e ∷ s) t x l (inl h) = inl h
has-append-l (e ∷ s) t x l (inr h) = inr (has-append-l s t x l h)

-- in the second
pub has-append-r : (s t : List Entry) (x l : ℕ) → Has t x l → Has (s ++ t) x l
has-append-r [] t x l h = h
has-append-r (e ∷ s) t x l h = inr (has-append-r s t x l h)

-- in one of the two
pub append-has : (s t : List Entry) (x l : ℕ) → Has (s ++ t) x l → Has s x l ⊎ Has t x l
append-has [] t x l h = inr h
append-has (e ∷ s) t x l (inl h) = inl (inl h)
append-has (e ∷ s) t x l (inr h) = ⊎_elim (λ a. inl (inr a)) inr (append-has s t x l h)
