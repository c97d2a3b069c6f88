-- What "ids" counts: every used entry, and on a table in form each id whose load is not never.
use Rattle.std.specs.Prelude.{◌≡◌, refl, ◌⊎◌, ◌<◌, ◌∷◌, ◌+◌, None, Some}
use Rattle.std.proofs.Common.{sym, ap, ap₂, ◌∙◌, inl, inr, arith}
use Rattle.rules.specs.Base.{Bool, true, false, not, List, [], ℕ, zero, suc, length, keep}
use Rattle.rules.specs.Types.{Entry, Held}
use Rattle.disk_location.specs.Locations.{bit_of}
use Rattle.rules.proofs.BaseLaws.{same?}
use Rattle.rules.specs.Table.{lookup, load, loaded_of, never_written, unmapped}
use Rattle.rules.specs.TableLaws.{Rising, rise, Has}
use Rattle.rules.proofs.TableLaws.{never-unmapped, lookup-here, lookup-next, lookup-below}
use Rattle.rules.specs.Layout.{Table, in_form, used_entries}
use Rattle.rules.proofs.LayoutLaws.{form-rising}
use Rattle.rules.specs.Listing.{written_in}
use Rattle.rules.specs.ListingLaws.{is_written, count_below}

-- by what is held
written_held : (es : List Entry) (x : ℕ) (h : Held) → lookup es x ≡ h → is_written es x ≡ not (unmapped h)
written_held es x h e = ap (λ (o : Held). not (never_written (loaded_of o))) e ∙ ap not (never-unmapped h)

-- an entry's id is written
written-here : (e : Entry) (es : List Entry) (x : ℕ) → e.id ≡ x → is_written (e ∷ es) x ≡ true
written-here e es x h = written_held (e ∷ es) x (Some e.location) (lookup-here e es x h)

-- another's is so or not by the rest
written_next : (e : Entry) (es : List Entry) (x : ℕ) → (e.id ≡ x → ⊥) → is_written (e ∷ es) x ≡ is_written es x
written_next e es x n = ap (λ (o : Held). not (never_written (loaded_of o))) (lookup-next e es x n)

written_has : (es : List Entry) (x l : ℕ) → Has es x l → is_written es x ≡ true
written_has [] x l h = absurd h
written_has (e ∷ es) x l (inl h) = written-here e es x h.0
written_has (e ∷ es) x l (inr h) = go (written_has es x l h) (same? e.id x)
  where
    go : is_written es x ≡ true → (e.id ≡ x) ⊎ (e.id ≡ x → ⊥) → is_written (e ∷ es) x ≡ true
    go rest (inl q) = written-here e es x q
    go rest (inr n) = written_next e es x n ∙ rest

-- LAW: so of any entries, in form or not, all are counted
pub written-length : (es : List Entry) → length (written_in es) ≡ length es
unfolding written_in keep
written-length es = kept es (λ x l h. h)
  where
    kept : (ds : List Entry) → ((x l : ℕ) → Has ds x l → Has es x l) → length (keep (λ (e : Entry). is_written es e.id) ds) ≡ length ds
    kept [] f = refl
    kept (d ∷ ds) f = rw (written_has es d.id d.location (f d.id d.location (inl (refl, refl)))) (ap suc (kept ds (λ x l h. f x l (inr h))))

count_none : (p : ℕ → Bool) (n : ℕ) → ((x : ℕ) → p x ≡ false) → count_below p n ≡ 0
unfolding count_below
count_none p zero h = refl
count_none p (suc n) h = ap₂ ◌+◌ (ap bit_of (h n)) (count_none p n h)

count_same : (p q : ℕ → Bool) (n : ℕ) → ((x : ℕ) → x < n → p x ≡ q x) → count_below p n ≡ count_below q n
unfolding count_below
count_same p q zero h = refl
count_same p q (suc n) h = ap₂ ◌+◌ (ap bit_of (h n (omega arith))) (count_same p q n (λ x l. h x (omega arith)))

-- one number more
count-more : (p q : ℕ → Bool) (a n : ℕ) → a < n → p a ≡ true → q a ≡ false → ((x : ℕ) → (a ≡ x → ⊥) → p x ≡ q x) → count_below p n ≡ suc (count_below q n)
unfolding count_below
count-more p q a zero l t f s = absurd (omega arith)
count-more p q a (suc n) l t f s = go (λ b. count-more p q a n b t f s) (same? a n)
  where
    go : (a < n → count_below p n ≡ suc (count_below q n)) → (a ≡ n) ⊎ (a ≡ n → ⊥) → bit_of (p n) + count_below p n ≡ suc (bit_of (q n) + count_below q n)
    go ih (inl e) =
        let t' : bit_of (p n) ≡ 1 = ap (λ (x : ℕ). bit_of (p x)) (sym e) ∙ ap bit_of t in
        let f' : bit_of (q n) ≡ 0 = ap (λ (x : ℕ). bit_of (q x)) (sym e) ∙ ap bit_of f in
        let r = count_same p q n (λ x b. s x (λ w. omega arith)) in
        omega arith
    go ih (inr d) =
        let same : bit_of (p n) ≡ bit_of (q n) = ap bit_of (s n d) in
        let r = ih (omega arith) in
        omega arith

count-written : (f : ℕ) (es : List Entry) → Rising f es → (n : ℕ) → ((x l : ℕ) → Has es x l → x < n) → count_below (is_written es) n ≡ length es
unfolding lookup
count-written f [] r n h = count_none (is_written []) n (λ x. none x)
  where
    none : (x : ℕ) → is_written [] x ≡ false
    none x = refl
count-written f (e ∷ es) (rise a r) n h =
    count-more (is_written (e ∷ es)) (is_written es) e.id n (h e.id e.location (inl (refl, refl)))
    (written-here e es e.id refl)
    (written_held es e.id None (lookup-below (suc e.id) es r e.id (omega arith)))
    (λ x d. written_next e es x d)
    ∙ ap suc (count-written (suc e.id) es r n (λ x l m. h x l (inr m)))

-- LAW: on a table in form, of ids below any bound that all are below, the number whose load is not never
pub ids-counted : (b : Table) → in_form b ≡ true → (n : ℕ) → ((x l : ℕ) → Has (used_entries b) x l → x < n)
    → length (written_in (used_entries b)) ≡ count_below (is_written (used_entries b)) n
ids-counted b form n h = written-length (used_entries b) ∙ sym (count-written 0 (used_entries b) (form-rising b form) n h)
