-- Files in slots: bounds, disjoint masked ranges; an entry's location is looked up in the file where it stands.
use Rattle.std.specs.Prelude.{◌≡◌, refl, ◌⊎◌, ◌<◌, ◌≤◌, ◌&&◌, ◌∷◌, ◌++◌, ◌+◌, ◌-◌, ◌*◌, ◌/◌, ◌%◌, ◌^◌, Some}
use Rattle.std.proofs.Common.{sym, ap, ◌∙◌, subst, inl, inr, ⊎_elim, arith, ltb-true, ltb-false, le-leb, eq-eqb, ne_eqb}
use Rattle.std.proofs.lemmas.Bool.{lt-leb}
use Rattle.rules.specs.Base.{Bool, true, false, List, [], ℕ, zero, suc, length, ltb, leb, eqb, each}
use Rattle.theory.specs.Types.{Entry, Record, Refusal}
use Rattle.disk_location.specs.Locations.{masked_of, position_of}
use Rattle.disk_location.proofs.LocationLaws.{masked-pos}
use Rattle.rules.specs.SlotFile.{File, View, empty, damaged, holds}
use Rattle.rules.specs.FileMap.{recorded, empty_record, record_at, file_for}
use Rattle.rules.specs.Reopen.{file_of, files_in, in_range}
use Rattle.rules.proofs.BaseLaws.{same?}
use Rattle.rules.specs.TableLaws.{Rising, Has}
use Rattle.rules.proofs.TableLaws.{mapped-one, has-lookup}
use Rattle.theory.proofs.Entries.{has-absolute, absolute-has, has-append-l, has-append-r, append-has}
use Rattle.theory.specs.Newest.{masked_at}
use Rattle.rules.proofs.FileMapLaws.{file-is}
use Rattle.rules.specs.InstallLaws.{is_at}
use Rattle.theory.specs.Places.{view_at, rows_in, rows_of, WellMade, Single, Apart, Agrees, Filed, Stands}

-- rising ids stand once
pub rising-single : (f : ℕ) (es : List Entry) → Rising f es → Single es
rising-single f es s x r q a b e = mapped-one (sym (has-lookup f es s x r a) ∙ has-lookup f es s x q b)

-- ---- arithmetic of the batch bit
pub masked-at : (n p : ℕ) → n < 2 ^ 63 → masked_of n + p < 2 ^ 62 → masked_of (n + p) ≡ masked_of n + p
unfolding masked_of
masked-at n p a b = omega arith

-- an lsn is its masked position, or that with the batch bit
pub kinds : (n : ℕ) → n < 2 ^ 63 → (n ≡ masked_of n) ⊎ (n ≡ masked_of n + 2 ^ 62)
unfolding masked_of
kinds n h = go (ltb n (2 ^ 62)) refl
  where
    go : (b : Bool) → ltb n (2 ^ 62) ≡ b → (n ≡ n % 2 ^ 62 + n / 2 ^ 63 * 2 ^ 63) ⊎ (n ≡ n % 2 ^ 62 + n / 2 ^ 63 * 2 ^ 63 + 2 ^ 62)
    go true q = let w = ltb-true n (2 ^ 62) q in inl (omega arith)
    go false q = let w = ltb-false n (2 ^ 62) q in inr (omega arith)

-- a file that begins at or below a place inside another, from which it is apart, begins below it
lower : (a ta b tb p : ℕ) → a < 2 ^ 63 → masked_of a + ta < 2 ^ 62 → p ≤ ta → b < 2 ^ 63 → masked_of b + tb < 2 ^ 62
    → (masked_of a + ta < masked_of b) ⊎ (masked_of b + tb < masked_of a) → b ≤ a + p → b < a
lower a ta b tb p h2 h3 h4 h5 h6 d h7 = go (kinds a h2) (kinds b h5) d
  where
    go : (a ≡ masked_of a) ⊎ (a ≡ masked_of a + 2 ^ 62) → (b ≡ masked_of b) ⊎ (b ≡ masked_of b + 2 ^ 62)
        → (masked_of a + ta < masked_of b) ⊎ (masked_of b + tb < masked_of a) → b < a
    go (inl u) (inl v) (inl d) = omega arith
    go (inl u) (inl v) (inr d) = omega arith
    go (inl u) (inr v) (inl d) = omega arith
    go (inl u) (inr v) (inr d) = omega arith
    go (inr u) (inl v) (inl d) = omega arith
    go (inr u) (inl v) (inr d) = omega arith
    go (inr u) (inr v) (inl d) = omega arith
    go (inr u) (inr v) (inr d) = omega arith

-- an entry's masked position is its position in the file, counted from the masked lsn
pub masked-entry : (f : File) → WellMade f → (x r : ℕ) → Has f.entries x r → masked_at (r + 2 * f.label.lsn) ≡ masked_of f.label.lsn + position_of r
masked-entry f m x r h =
    let i = m.inside x r h in
    let w = m.within in
    let q : (r + 2 * f.label.lsn) / 2 ≡ f.label.lsn + r / 2 = omega arith in
    ap masked_of q ∙ masked-at f.label.lsn (r / 2) m.low (omega arith)

-- ---- constructors
pub holds-inj : {f g : File} → holds f ≡ holds g → f ≡ g
holds-inj h = cc

-- an empty slot shows no file
pub not-empty : {f : File} → empty ≡ holds f → ⊥
not-empty h = let z : ◌≡◌ {A = ℕ} 0 1 = cc in omega arith

-- nor does a damaged one
pub not-damaged : {n : Refusal} {f : File} → damaged n ≡ holds f → ⊥
not-damaged h = let z : ◌≡◌ {A = ℕ} 0 1 = cc in omega arith

-- a file is in one of the slots
pub holds-lt : (views : List View) (k : ℕ) (f : File) → view_at views k ≡ holds f → k < length views
holds-lt [] k f h = absurd (not-empty h)
holds-lt (v ∷ vs) zero f h = omega arith
holds-lt (v ∷ vs) (suc k) f h = let w = holds-lt vs k f h in omega arith

-- ---- membership: an entry among all rows stands in a slot
pub stands-has : (views : List View) (x l k : ℕ) → Stands views x l k → Has (rows_of views) x l
unfolding files_in each
stands-has [] x l k s = absurd (not-empty s.shows)
stands-has (v ∷ vs) x l zero s =
    subst (λ (u : View). Has (each rows_in (file_of u ++ files_in vs)) x l) (sym s.shows)
    (has-append-l (rows_in s.file) (rows_of vs) x l
    (subst (Has (rows_in s.file) x) (sym s.located) (has-absolute s.file.label.lsn s.file.entries x s.raw s.entry)))
stands-has (v ∷ vs) x l (suc k) s =
    go v (stands-has vs x l k (record { file = s.file; raw = s.raw; shows = s.shows; entry = s.entry; located = s.located }))
  where
    go : (u : View) → Has (rows_of vs) x l → Has (rows_of (u ∷ vs)) x l
    go empty h = h
    go (damaged n) h = h
    go (holds f) h = has-append-r (rows_in f) (rows_of vs) x l h

-- and back
pub has-stands : (views : List View) (x l : ℕ) → Has (rows_of views) x l → (k : ℕ) × Stands views x l k
unfolding files_in each
has-stands [] x l h = absurd h
has-stands (v ∷ vs) x l h = go (has-stands vs x l) v refl h
  where
    next : (k : ℕ) × Stands vs x l k → (k : ℕ) × Stands (v ∷ vs) x l k
    next w = let s = w.1 in (suc w.0, record { file = s.file; raw = s.raw; shows = s.shows; entry = s.entry; located = s.located })

    go : (Has (rows_of vs) x l → (k : ℕ) × Stands vs x l k) → (u : View) → v ≡ u → Has (rows_of (u ∷ vs)) x l → (k : ℕ) × Stands (v ∷ vs) x l k
    go ih empty e a = next (ih a)
    go ih (damaged n) e a = next (ih a)
    go ih (holds f) e a = ⊎_elim (λ b.
        let w = absolute-has f.label.lsn f.entries x l b in
        (0, record { file = f; raw = w.0; shows = e; entry = w.1; located = w.2 })) (λ b. next (ih b)) (append-has (rows_in f) (rows_of vs) x l a)

module _ (views : List View) (rs : List Record) (filed : Filed views rs) where
  -- the record of a slot with a file
  pub record-holds : (k : ℕ) (f : File) → view_at views k ≡ holds f → record_at rs k ≡ recorded f.label (record_at rs k).live (record_at rs k).synced
  record-holds k f h = (subst (λ (v : View). Agrees v (record_at rs k)) h (filed.agree k)).0

  -- and its mark is 0 or 1
  pub mark-fits : (k : ℕ) (f : File) → view_at views k ≡ holds f → (record_at rs k).synced ≤ 1
  mark-fits k f h = (subst (λ (v : View). Agrees v (record_at rs k)) h (filed.agree k)).1

  -- of an empty one
  pub record-empty : (k : ℕ) → view_at views k ≡ empty → record_at rs k ≡ empty_record
  record-empty k h = subst (λ (v : View). Agrees v (record_at rs k)) h (filed.agree k)

  -- none is damaged
  pub no-damage : (k : ℕ) (n : Refusal) → view_at views k ≡ damaged n → ⊥
  no-damage k n h = subst (λ (v : View). Agrees v (record_at rs k)) h (filed.agree k)

  below-own : (k : ℕ) (f : File) (r : ℕ) → view_at views k ≡ holds f → position_of r ≤ f.label.trailer_offset
      → (j : ℕ) → (j ≡ k → ⊥) → 2 * (record_at rs j).label.lsn ≤ r + 2 * f.label.lsn → (record_at rs j).label.lsn < f.label.lsn
  below-own k f r h i j n c = go (view_at views j) refl
    where
      go : (v : View) → view_at views j ≡ v → (record_at rs j).label.lsn < f.label.lsn
      go empty e =
          let q : (record_at rs j).label.lsn ≡ 0 = ap (λ (r : Record). r.label.lsn) (record-empty j e) in
          let w = masked-pos f.label.lsn (filed.made k f h).placed in
          omega arith
      go (damaged m) e = absurd (no-damage j m e)
      go (holds g) e =
          let q : (record_at rs j).label.lsn ≡ g.label.lsn = ap (λ (r : Record). r.label.lsn) (record-holds j g e) in
          let a = filed.made k f h in
          let b = filed.made j g e in
          let w : g.label.lsn ≤ f.label.lsn + r / 2 = omega arith in
          let v = lower f.label.lsn f.label.trailer_offset g.label.lsn g.label.trailer_offset (r / 2) a.low a.within i b.low b.within
          (filed.apart k j f g h e (λ z. n (sym z))) w in
          omega arith

  -- LAW: a location inside a file is looked up in that file
  pub own-place : (k : ℕ) (f : File) (r : ℕ) → view_at views k ≡ holds f → position_of r ≤ f.label.trailer_offset → file_for rs (r + 2 * f.label.lsn) ≡ Some k
  own-place k f r h i =
      let q : (record_at rs k).label.lsn ≡ f.label.lsn = ap (λ (r : Record). r.label.lsn) (record-holds k f h) in
      let a = masked-pos f.label.lsn (filed.made k f h).placed in
      let b = holds-lt views k f h in
      let c = filed.fits in
      file-is rs (r + 2 * f.label.lsn) k (record {
        place = omega arith;
        used = omega arith;
        low = omega arith;
        most = λ j l c. most j (same? j k) c;
        first = λ j l c. let w = below-own k f r h i j (λ z. omega arith) c in omega arith;
      })
    where
      most : (j : ℕ) → (j ≡ k) ⊎ (j ≡ k → ⊥) → 2 * (record_at rs j).label.lsn ≤ r + 2 * f.label.lsn → (record_at rs j).label.lsn ≤ (record_at rs k).label.lsn
      most j (inl q) c = rw q (omega arith)
      most j (inr q) c =
          let w = below-own k f r h i j q c in
          let z : (record_at rs k).label.lsn ≡ f.label.lsn = ap (λ (r : Record). r.label.lsn) (record-holds k f h) in
          omega arith

  -- LAW: an entry's location is looked up in its own file
  pub own-file : (x l k : ℕ) → Stands views x l k → file_for rs l ≡ Some k
  own-file x l k s =
      ap (file_for rs) s.located ∙ own-place k s.file s.raw s.shows ((filed.made k s.file s.shows).inside x s.raw s.entry)

  masked-stands : (x l k : ℕ) (s : Stands views x l k) → masked_at l ≡ masked_of s.file.label.lsn + position_of s.raw
  masked-stands x l k s = ap masked_at s.located ∙ masked-entry s.file (filed.made k s.file s.shows) x s.raw s.entry

  -- LAW: an entry's masked position lies in the masked range of its own file, and of no other
  pub in-own-range : (x l k : ℕ) (s : Stands views x l k) → in_range s.file.label (masked_at l) ≡ true
  in-own-range x l k s =
      let p = masked-stands x l k s in
      let i = (filed.made k s.file s.shows).inside x s.raw s.entry in
      let a : masked_of s.file.label.lsn ≤ masked_at l = omega arith in
      let b : masked_at l ≤ masked_of s.file.label.lsn + s.file.label.trailer_offset = omega arith in
      rw (le-leb (masked_of s.file.label.lsn) (masked_at l) a, le-leb (masked_at l) (masked_of s.file.label.lsn + s.file.label.trailer_offset) b)

  -- and in no other file's
  pub in-no-other : (x l k j : ℕ) (s : Stands views x l k) (g : File) → view_at views j ≡ holds g → (j ≡ k → ⊥) → in_range g.label (masked_at l) ≡ false
  in-no-other x l k j s g h n =
      let p = masked-stands x l k s in
      let i = (filed.made k s.file s.shows).inside x s.raw s.entry in
      go (masked_at l) p i (filed.apart j k g s.file h s.shows n)
    where
      go : (m : ℕ) → m ≡ masked_of s.file.label.lsn + position_of s.raw → position_of s.raw ≤ s.file.label.trailer_offset → Apart g s.file
          → (leb (masked_of g.label.lsn) m && leb m (masked_of g.label.lsn + g.label.trailer_offset)) ≡ false
      go m p i (inl a) =
          let b : masked_of g.label.lsn ≤ m = omega arith in
          let c : masked_of g.label.lsn + g.label.trailer_offset < m = omega arith in
          rw (le-leb (masked_of g.label.lsn) m b, lt-leb m (masked_of g.label.lsn + g.label.trailer_offset) c)
      go m p i (inr a) =
          let b : m < masked_of g.label.lsn = omega arith in
          rw (lt-leb (masked_of g.label.lsn) m b)

  -- LAW: the file found for an entry's location is the one in whose masked range it lies
  pub found-in-range : (x l k j : ℕ) (s : Stands views x l k) (g : File) → view_at views j ≡ holds g → is_at j (file_for rs l) ≡ in_range g.label (masked_at l)
  found-in-range x l k j s g h = ap (is_at j) (own-file x l k s) ∙ go (same? k j)
    where
      go : (k ≡ j) ⊎ (k ≡ j → ⊥) → eqb k j ≡ in_range g.label (masked_at l)
      go (inl q) =
          let e : s.file ≡ g = holds-inj (sym s.shows ∙ ap (view_at views) q ∙ h) in
          eq-eqb k j q ∙ sym (in-own-range x l k s) ∙ ap (λ (c : File). in_range c.label (masked_at l)) e
      go (inr q) = ne_eqb k j q ∙ sym (in-no-other x l k j s g h (λ z. q (sym z)))

  -- LAW: two entries of one id and one masked position are the same
  pub distinct : (x l m : ℕ) → Has (rows_of views) x l → Has (rows_of views) x m → masked_at l ≡ masked_at m → l ≡ m
  distinct x l m a b e = go (has-stands views x l a) (has-stands views x m b)
    where
      go : (k : ℕ) × Stands views x l k → (j : ℕ) × Stands views x m j → l ≡ m
      go (k, s) (j, t) = at_one (same? k j)
        where
          at_one : (k ≡ j) ⊎ (k ≡ j → ⊥) → l ≡ m
          at_one (inl q) =
              let f : s.file ≡ t.file = holds-inj (sym s.shows ∙ ap (view_at views) q ∙ t.shows) in
              let z : s.file.label.lsn ≡ t.file.label.lsn = ap (λ (g : File). g.label.lsn) f in
              let u = masked-stands x l k s in
              let v = masked-stands x m j t in
              let n : masked_of s.file.label.lsn ≡ masked_of t.file.label.lsn = ap masked_of z in
              let w : s.raw ≡ t.raw = filed.single j t.file t.shows x s.raw t.raw
              (subst (λ (g : File). Has g.entries x s.raw) f s.entry) t.entry (omega arith) in
              let o = s.located in
              let p = t.located in
              omega arith
          at_one (inr q) =
              let u = masked-stands x l k s in
              let v = masked-stands x m j t in
              let i = (filed.made k s.file s.shows).inside x s.raw s.entry in
              let h = (filed.made j t.file t.shows).inside x t.raw t.entry in
              absurd (⊎_elim (λ z. omega arith) (λ z. omega arith) (filed.apart k j s.file t.file s.shows t.shows q))
