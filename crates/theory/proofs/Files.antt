-- The files that views show: 8 to 15 as facts about slots, the file map and the next position that a reopening makes of them.
use Rattle.std.specs.Prelude.{◌≡◌, refl, ◌⊎◌, ◌<◌, ◌≤◌, ◌&&◌, ◌∷◌, ◌++◌, ◌+◌, ◌-◌}
use Rattle.std.proofs.Common.{sym, ap, ◌∙◌, subst, true≢false, inl, inr, arith, leb-true, leb-false, eq-eqb}
use Rattle.std.proofs.lemmas.Bool.{lt-leb}
use Rattle.rules.specs.Base.{Bool, true, false, List, [], map, ℕ, zero, suc, length, replicate, leb, eqb, pick, any, each, larger, greatest}
use Rattle.theory.specs.Types.{Entry, Refusal}
use Rattle.disk_location.specs.Locations.{masked_of, position_of}
use Rattle.rules.proofs.BaseLaws.{or-false, or-clear, replicate-at}
use Rattle.rules.specs.Refusal.{NoneHolds}
use Rattle.rules.specs.SlotFile.{File, View, empty, damaged, holds}
use Rattle.rules.specs.FileMap.{empty_record, record_at}
use Rattle.rules.specs.Reopen.{view_tests, files_in, meets, overlapping, not_rising, record_of, records_from, next_after}
use Rattle.rules.specs.TableLaws.{Has}
use Rattle.theory.specs.Places.{view_at, WellMade, Single, Apart}
use Rattle.theory.proofs.Places.{holds-inj, not-empty, not-damaged}
use Rattle.theory.specs.Files.{falls}

-- ---- some file
pub any-file : (p : File → Bool) (vs : List View) → any p (files_in vs) ≡ false → (k : ℕ) (f : File) → view_at vs k ≡ holds f → p f ≡ false
unfolding files_in each any
any-file p [] h k f e = absurd (not-empty e)
any-file p (empty ∷ vs) h zero f e = absurd (not-empty e)
any-file p (empty ∷ vs) h (suc k) f e = any-file p vs h k f e
any-file p (damaged n ∷ vs) h zero f e = absurd (not-damaged e)
any-file p (damaged n ∷ vs) h (suc k) f e = any-file p vs h k f e
any-file p (holds g ∷ vs) h zero f e = sym (ap p (holds-inj e)) ∙ (or-false (p g) (any p (files_in vs)) h).0
any-file p (holds g ∷ vs) h (suc k) f e = any-file p vs (or-false (p g) (any p (files_in vs)) h).1 k f e

-- and the other way round
pub no-file : (p : File → Bool) (vs : List View) → ((k : ℕ) (f : File) → view_at vs k ≡ holds f → p f ≡ false) → any p (files_in vs) ≡ false
unfolding files_in each any
no-file p [] h = refl
no-file p (empty ∷ vs) h = no-file p vs (λ k. h (suc k))
no-file p (damaged n ∷ vs) h = no-file p vs (λ k. h (suc k))
no-file p (holds g ∷ vs) h = or-clear (p g) (any p (files_in vs)) (h 0 g refl) (no-file p vs (λ k. h (suc k)))

-- ---- 8 to 13: no slot is damaged
pub undamaged : (vs : List View) → NoneHolds (each view_tests vs) → (k : ℕ) (n : Refusal) → view_at vs k ≡ damaged n → ⊥
unfolding each NoneHolds
undamaged [] h k n e = let z : ◌≡◌ {A = ℕ} 0 1 = cc in omega arith
undamaged (empty ∷ vs) h zero n e = let z : ◌≡◌ {A = ℕ} 0 1 = cc in omega arith
undamaged (empty ∷ vs) h (suc k) n e = undamaged vs h k n e
undamaged (damaged m ∷ vs) h k n e = true≢false h.0
undamaged (holds f ∷ vs) h zero n e = let z : ◌≡◌ {A = ℕ} 0 1 = cc in omega arith
undamaged (holds f ∷ vs) h (suc k) n e = undamaged vs h k n e

-- and the other way round
pub no-damage-tests : (vs : List View) → ((k : ℕ) (n : Refusal) → view_at vs k ≡ damaged n → ⊥) → NoneHolds (each view_tests vs)
unfolding each NoneHolds
no-damage-tests [] h = tt
no-damage-tests (empty ∷ vs) h = no-damage-tests vs (λ k. h (suc k))
no-damage-tests (damaged n ∷ vs) h = absurd (h 0 n refl)
no-damage-tests (holds f ∷ vs) h = no-damage-tests vs (λ k. h (suc k))

-- ---- 14: masked ranges
meets-apart : (f g : File) → meets f.label g.label ≡ false → Apart f g
meets-apart f g h =
    go (leb (masked_of f.label.lsn) (masked_of g.label.lsn + g.label.trailer_offset)) refl
    (leb (masked_of g.label.lsn) (masked_of f.label.lsn + f.label.trailer_offset)) refl h
  where
    go : (a : Bool) → leb (masked_of f.label.lsn) (masked_of g.label.lsn + g.label.trailer_offset) ≡ a
        → (b : Bool) → leb (masked_of g.label.lsn) (masked_of f.label.lsn + f.label.trailer_offset) ≡ b → (a && b) ≡ false → Apart f g
    go false p b q e = inr (leb-false _ _ p)
    go true p false q e = inl (leb-false _ _ q)
    go true p true q e = absurd (true≢false e)

apart-meets : (f g : File) → Apart f g → meets f.label g.label ≡ false
apart-meets f g (inr h) = rw (lt-leb (masked_of f.label.lsn) (masked_of g.label.lsn + g.label.trailer_offset) h)
apart-meets f g (inl h) = go (leb (masked_of f.label.lsn) (masked_of g.label.lsn + g.label.trailer_offset))
  where
    go : (b : Bool) → (b && leb (masked_of g.label.lsn) (masked_of f.label.lsn + f.label.trailer_offset)) ≡ false
    go true = lt-leb (masked_of g.label.lsn) (masked_of f.label.lsn + f.label.trailer_offset) h
    go false = refl

swap : (f g : File) → Apart f g → Apart g f
swap f g (inl h) = inr h
swap f g (inr h) = inl h

-- 14 does not hold: files of two slots are apart
pub overlap-apart : (vs : List View) → overlapping (files_in vs) ≡ false
    → (j k : ℕ) (f g : File) → view_at vs j ≡ holds f → view_at vs k ≡ holds g → (j ≡ k → ⊥) → Apart f g
unfolding overlapping files_in each
overlap-apart [] h j k f g p q n = absurd (not-empty p)
overlap-apart (empty ∷ vs) h zero k f g p q n = absurd (not-empty p)
overlap-apart (empty ∷ vs) h (suc j) zero f g p q n = absurd (not-empty q)
overlap-apart (empty ∷ vs) h (suc j) (suc k) f g p q n = overlap-apart vs h j k f g p q (λ z. n (ap suc z))
overlap-apart (damaged m ∷ vs) h zero k f g p q n = absurd (not-damaged p)
overlap-apart (damaged m ∷ vs) h (suc j) zero f g p q n = absurd (not-damaged q)
overlap-apart (damaged m ∷ vs) h (suc j) (suc k) f g p q n = overlap-apart vs h j k f g p q (λ z. n (ap suc z))
overlap-apart (holds c ∷ vs) h zero zero f g p q n = absurd (n refl)
overlap-apart (holds c ∷ vs) h zero (suc k) f g p q n =
    let w = or-false (any (λ (d : File). meets c.label d.label) (files_in vs)) (overlapping (files_in vs)) h in
    subst (λ (e : File). Apart e g) (holds-inj p) (meets-apart c g (any-file (λ (d : File). meets c.label d.label) vs w.0 k g q))
overlap-apart (holds c ∷ vs) h (suc j) zero f g p q n =
    let w = or-false (any (λ (d : File). meets c.label d.label) (files_in vs)) (overlapping (files_in vs)) h in
    subst (Apart f) (holds-inj q) (swap c f (meets-apart c f (any-file (λ (d : File). meets c.label d.label) vs w.0 j f p)))
overlap-apart (holds c ∷ vs) h (suc j) (suc k) f g p q n =
    let w = or-false (any (λ (d : File). meets c.label d.label) (files_in vs)) (overlapping (files_in vs)) h in
    overlap-apart vs w.1 j k f g p q (λ z. n (ap suc z))

-- and the other way round
pub no-overlap : (vs : List View)
    → ((j k : ℕ) (f g : File) → view_at vs j ≡ holds f → view_at vs k ≡ holds g → (j ≡ k → ⊥) → Apart f g) → overlapping (files_in vs) ≡ false
unfolding overlapping files_in each
no-overlap [] h = refl
no-overlap (empty ∷ vs) h = no-overlap vs (λ j k f g p q n. h (suc j) (suc k) f g p q (λ z. n (omega arith)))
no-overlap (damaged m ∷ vs) h = no-overlap vs (λ j k f g p q n. h (suc j) (suc k) f g p q (λ z. n (omega arith)))
no-overlap (holds f ∷ vs) h =
    or-clear (any (λ (d : File). meets f.label d.label) (files_in vs)) (overlapping (files_in vs))
    (no-file (λ (d : File). meets f.label d.label) vs (λ k g p. apart-meets f g (h 0 (suc k) f g refl p (λ z. omega arith))))
    (no-overlap vs (λ j k f g p q n. h (suc j) (suc k) f g p q (λ z. n (omega arith))))

-- no entry passes: none that is there does
any-has : (p : Entry → Bool) (es : List Entry) → any p es ≡ false → (x l : ℕ) → Has es x l → p (record { id = x; location = l }) ≡ false
unfolding any
any-has p [] h x l a = absurd a
any-has p (e ∷ es) h x l (inl (a, b)) =
    let q : ◌≡◌ {A = Entry} e (record { id = x; location = l }) = λ i. record { id = a i; location = b i } in
    sym (ap p q) ∙ (or-false (p e) (any p es) h).0
any-has p (e ∷ es) h x l (inr a) = any-has p es (or-false (p e) (any p es) h).1 x l a

-- 15 does not hold: an id stands at a position once
pub clear-single : (es : List Entry) → not_rising es ≡ false → Single es
unfolding not_rising
clear-single [] h x r q a b e = absurd a
clear-single (d ∷ es) h x r q a b e =
    go (or-false (any (falls d) es) (not_rising es) h).0 (clear-single es (or-false (any (falls d) es) (not_rising es) h).1 x r q) a b
  where
    later : any (falls d) es ≡ false → (m : ℕ) → d.id ≡ x → Has es x m → position_of d.location < position_of m
    later n m p k =
        let w : (eqb x d.id && leb (position_of m) (position_of d.location)) ≡ false = any-has (falls d) es n x m k in
        leb-false _ _ (rw (eq-eqb x d.id (sym p)) at w)

    go : any (falls d) es ≡ false → (Has es x r → Has es x q → position_of r ≡ position_of q → r ≡ q)
        → ((d.id ≡ x) × (d.location ≡ r)) ⊎ Has es x r → ((d.id ≡ x) × (d.location ≡ q)) ⊎ Has es x q → r ≡ q
    go n ih (inl (p, u)) (inl (t, v)) = sym u ∙ v
    go n ih (inl (p, u)) (inr k) = let w = later n q p k in let y : position_of d.location ≡ position_of r = ap position_of u in absurd (omega arith)
    go n ih (inr k) (inl (p, u)) = let w = later n r p k in let y : position_of d.location ≡ position_of q = ap position_of u in absurd (omega arith)
    go n ih (inr k) (inr l) = ih k l e

-- ---- next position
larger-le : (a b : ℕ) → (a ≤ larger a b) × (b ≤ larger a b)
larger-le a b = go (leb a b) refl
  where
    go : (t : Bool) → leb a b ≡ t → (a ≤ pick t b a) × (b ≤ pick t b a)
    go true h = let w = leb-true a b h in (omega arith, omega arith)
    go false h = let w = leb-false a b h in (omega arith, omega arith)

greatest-le : (m : File → ℕ) (vs : List View) (k : ℕ) (f : File) → view_at vs k ≡ holds f → m f ≤ greatest m (files_in vs)
unfolding greatest files_in each
greatest-le m [] k f h = absurd (not-empty h)
greatest-le m (empty ∷ vs) zero f h = absurd (not-empty h)
greatest-le m (empty ∷ vs) (suc k) f h = greatest-le m vs k f h
greatest-le m (damaged n ∷ vs) zero f h = absurd (not-damaged h)
greatest-le m (damaged n ∷ vs) (suc k) f h = greatest-le m vs k f h
greatest-le m (holds g ∷ vs) zero f h =
    let u : m g ≡ m f = ap m (holds-inj h) in
    let w = larger-le (m g) (greatest m (files_in vs)) in
    omega arith
greatest-le m (holds g ∷ vs) (suc k) f h = let w = larger-le (m g) (greatest m (files_in vs)) in let u = greatest-le m vs k f h in omega arith

-- the next position is never 0
pub next-positive : (vs : List View) → 0 < next_after (files_in vs)
unfolding next_after
next-positive vs = omega arith

-- LAW: the next position lies above every file
pub next-above : (vs : List View) (k : ℕ) (f : File) → view_at vs k ≡ holds f → WellMade f
    → masked_of f.label.lsn + f.label.trailer_offset < next_after (files_in vs)
unfolding next_after
next-above vs k f h m =
    let a = greatest-le (λ (g : File). masked_of g.label.lsn) vs k f h in
    let b = greatest-le (λ (g : File). g.label.file_size) vs k f h in
    let c = m.sized in
    omega arith

-- ---- the file map
records-at : (table : List Entry) (vs : List View) (m k : ℕ) → record_at (map (record_of table) vs ++ replicate m empty_record) k ≡ record_of table (view_at vs k)
records-at table [] m k = replicate-at m k empty_record
records-at table (v ∷ vs) m zero = refl
records-at table (v ∷ vs) m (suc k) = records-at table vs m k

-- LAW: each slot's record is that of its view
pub record-from : (table : List Entry) (vs : List View) (k : ℕ) → record_at (records_from table vs) k ≡ record_of table (view_at vs k)
unfolding records_from
record-from table vs k = records-at table vs (256 - length vs) k
