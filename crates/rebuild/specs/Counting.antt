-- Live counts in one pass over the table: an entry counts for the file that a lookup finds, if it lies in its range.
use Rattle.std.specs.Prelude.{◌≡◌, refl, ◌⊎◌, ◌<◌, ◌≤◌, ◌∷◌, ◌++◌, ◌+◌, ◌-◌, ◌*◌, None, Some}
use Rattle.std.proofs.Common.{sym, ap₂, ◌∙◌, true≢false, inl, inr, zero-le, arith, not-suc-le-zero, le_of_suc-le-suc, add-one, le-leb, ne_eqb, take_all}
use Rattle.std.proofs.Math.Path.{ap}
use Rattle.std.proofs.Math.Nat.{add-zero}
use Rattle.std.proofs.lemmas.List.{length-map}
use Rattle.std.proofs.Math.ListN.{length-append, get_or-eq_default}
use Rattle.std.proofs.Math.Seq.{take-suc}
use Rattle.numbers.specs.GroupLaws.{either_way}
use Rattle.rules.specs.Base.{Bool, true, false, List, [], map, ℕ, zero, suc, length, get_or, set, take, replicate, pick, any, keep}
use Rattle.rules.proofs.BaseLaws.{or-false, order, replicate-at, within-true}
use Rattle.rules.specs.Types.{Slot}
use Rattle.disk_location.proofs.LocationLaws.{masked-pos}
use Rattle.rules.specs.FileMap.{empty_label, recorded, empty_record}
use Rattle.rules.specs.Table.{no_entry}
use Rattle.rules.specs.SlotFile.{View, bytes_of_slot, views_in}
use Rattle.rules.proofs.SlotLaws.{views-length}
use Rattle.rules.specs.Reopen.{in_range, masked_position, mapped_into}
use Rattle.file_lists.specs.Lists.{lsn_at}
use Rattle.reopen_tests.specs.Labels.{no_file, label_at, label_of, labels_of, clash, overlaps}
use Rattle.reopen_tests.specs.Shown.{Surveyed, shown-file, shown-at}
use Rattle.ordered_files.specs.Found.{lsn-found, lsn-none}
use Rattle.rebuild.specs.Types.{Label, Entry}
use Rattle.rebuild.specs.Records.{masked_lsn, masked-none, slot_record, counted}

-- the ids mapped into a slot's file; none into a slot without one
abbrev pub live_of : List Entry → Label → ℕ
live_of table l = pick (no_file l) 0 (mapped_into table l)

-- what 8 and 14 leave of the labels: a file has a masked lsn, and "Files' masked ranges .. must be disjoint"
pub record Apart (ls : List Label) : Type 0 where
  pub placed : (k : ℕ) → no_file (label_at ls k) ≡ false → 0 < masked_lsn (label_at ls k)
  pub apart : overlaps ls ≡ false

-- the slot, one past the last for none
abbrev pub index_of : Slot → ℕ
index_of (Some k) = k
index_of None = 256

-- ---- ranges apart
-- the end of a file's range
abbrev end_of : Label → ℕ
end_of l = masked_lsn l + l.trailer_offset

empty-no-file : no_file empty_label ≡ false → ⊥
empty-no-file e = true≢false e

file-within : (ls : List Label) (k : ℕ) → no_file (label_at ls k) ≡ false → k < length ls
file-within ls k e = go (either_way k (length ls))
  where
    go : (k < length ls) ⊎ (length ls ≤ k) → k < length ls
    go (inl h) = h
    go (inr h) = absurd (empty-no-file (sym (ap no_file (get_or-eq_default ls empty_label {n = k} h)) ∙ e))

-- LAW: what a survey and 14 leave of the labels
behind-slots : (vs : List View) (m k : ℕ) → length vs ≤ k → label_at (map label_of vs ++ replicate m empty_label) k ≡ empty_label
behind-slots [] m k h = replicate-at m k empty_label
behind-slots (v ∷ vs) m zero h = absurd (not-suc-le-zero h)
behind-slots (v ∷ vs) m (suc k) h = behind-slots vs m k (le_of_suc-le-suc h)

pub surveyed-apart : (n size : ℕ) (heap : List ℕ) (ls : List Label) → Surveyed n size heap ls → overlaps ls ≡ false → Apart ls
unfolding labels_of
surveyed-apart n size heap ls w none = record { placed = λ k f. at k (either_way k n) f; apart = none }
  where
    views : List View
    views = views_in n size heap

    behind : (k : ℕ) → n ≤ k → label_at ls k ≡ empty_label
    behind k h = ap (λ (ms : List Label). label_at ms k) w.labels ∙ behind-slots views (256 - length views) k (omega (arith, views-length n size heap))

    at : (k : ℕ) → (k < n) ⊎ (n ≤ k) → no_file (label_at ls k) ≡ false → 0 < masked_lsn (label_at ls k)
    at k (inl h) f = (shown-file (bytes_of_slot size heap k) (label_at ls k) (shown-at n size heap ls w k h) f).bounds.masked
    at k (inr h) f = absurd (empty-no-file (sym (ap no_file (behind k h)) ∙ f))

clash-at : (l : Label) (ls : List Label) → any (clash l) ls ≡ false → (k : ℕ) → no_file (label_at ls k) ≡ false → clash l (label_at ls k) ≡ false
unfolding any
clash-at l [] e k f = absurd (empty-no-file f)
clash-at l (m ∷ ls) e zero f = (or-false (clash l m) (any (clash l) ls) e).0
clash-at l (m ∷ ls) e (suc k) f = clash-at l ls (or-false (clash l m) (any (clash l) ls) e).1 k f

-- two ranges that meet clash
meet-clash : (l m : Label) → no_file l ≡ false → no_file m ≡ false → masked_lsn l ≤ end_of m → masked_lsn m ≤ end_of l → clash l m ≡ true
meet-clash l m f g p q = rw (f, g, le-leb (masked_lsn l) (end_of m) p, le-leb (masked_lsn m) (end_of l) q) refl

never-meet : (ls : List Label) → overlaps ls ≡ false → (j k : ℕ) → j < k → no_file (label_at ls j) ≡ false → no_file (label_at ls k) ≡ false
    → masked_lsn (label_at ls j) ≤ end_of (label_at ls k) → masked_lsn (label_at ls k) ≤ end_of (label_at ls j) → ⊥
unfolding overlaps
never-meet [] e j k h f g p q = empty-no-file f
never-meet (l ∷ ls) e zero zero h f g p q = not-suc-le-zero h
never-meet (l ∷ ls) e zero (suc k) h f g p q =
    true≢false (sym (meet-clash l (label_at ls k) f g p q) ∙ clash-at l ls (or-false (any (clash l) ls) (overlaps ls) e).0 k g)
never-meet (l ∷ ls) e (suc j) zero h f g p q = not-suc-le-zero h
never-meet (l ∷ ls) e (suc j) (suc k) h f g p q = never-meet ls (or-false (any (clash l) ls) (overlaps ls) e).1 j k (le_of_suc-le-suc h) f g p q

-- ---- in ranges apart a position lies in no range but that of the file that the lookup finds
module _ (ls : List Label) (apart : Apart ls) (position : ℕ) where
  lsn-at : (k : ℕ) → get_or (map masked_lsn ls) k 0 ≡ masked_lsn (label_at ls k)
  lsn-at k = go ls k
    where
      go : (ms : List Label) (i : ℕ) → get_or (map masked_lsn ms) i 0 ≡ masked_lsn (label_at ms i)
      go [] i = sym masked-none
      go (m ∷ ms) zero = refl
      go (m ∷ ms) (suc i) = go ms i

  -- the file that is found
  pub found-file : (k : ℕ) → lsn_at (map masked_lsn ls) (2 * position) ≡ Some k → (k < length ls) × (no_file (label_at ls k) ≡ false)
  found-file k e =
      let w = lsn-found (map masked_lsn ls) (2 * position) k e in
      let some = masked-pos (label_at ls k).lsn (omega (arith, w.used, lsn-at k)) in
      (omega (arith, w.place, length-map ls masked_lsn), ne_eqb (label_at ls k).lsn 0 (λ z. omega arith))

  pub in-found : (k : ℕ) → lsn_at (map masked_lsn ls) (2 * position) ≡ Some k → (j : ℕ) → no_file (label_at ls j) ≡ false → in_range (label_at ls j) position ≡ true → j ≡ k
  in-found k e j f r = go (order j k)
    where
      range : (masked_lsn (label_at ls j) ≤ position) × (position ≤ end_of (label_at ls j))
      range = within-true (masked_lsn (label_at ls j)) (end_of (label_at ls j)) position r

      least : masked_lsn (label_at ls k) ≤ position
      least = omega (arith, (lsn-found (map masked_lsn ls) (2 * position) k e).low, lsn-at k)

      most : masked_lsn (label_at ls j) ≤ masked_lsn (label_at ls k)
      most =
          let m : 2 * get_or (map masked_lsn ls) j 0 ≤ 2 * position = omega (arith, range.0, lsn-at j) in
          omega (arith, (lsn-found (map masked_lsn ls) (2 * position) k e).most j (omega (arith, file-within ls j f, length-map ls masked_lsn)) m, lsn-at j, lsn-at k)

      go : (j < k) ⊎ ((j ≡ k) ⊎ (k < j)) → j ≡ k
      go (inr (inl q)) = q
      go (inl q) = absurd (never-meet ls apart.apart j k q f (found-file k e).1 (omega (arith, most)) (omega (arith, least, range.1)))
      go (inr (inr q)) = absurd (never-meet ls apart.apart k j q (found-file k e).1 f (omega (arith, least, range.1)) (omega (arith, most)))

  pub in-none : lsn_at (map masked_lsn ls) (2 * position) ≡ None → (j : ℕ) → no_file (label_at ls j) ≡ false → in_range (label_at ls j) position ≡ true → ⊥
  in-none e j f r =
      let range = within-true (masked_lsn (label_at ls j)) (end_of (label_at ls j)) position r in
      let above = lsn-none (map masked_lsn ls) (2 * position) e j (omega (arith, file-within ls j f, length-map ls masked_lsn)) (omega (arith, apart.placed j f, lsn-at j)) in
      omega (arith, above, range.0, lsn-at j)

-- ---- one entry more
keep_append : (f : Entry → Bool) (es ds : List Entry) → keep f (es ++ ds) ≡ keep f es ++ keep f ds
unfolding keep
keep_append f [] ds = refl
keep_append f (e ∷ es) ds = go (f e) (keep_append f es ds)
  where
    go : (t : Bool) → keep f (es ++ ds) ≡ keep f es ++ keep f ds → pick t (e ∷ keep f (es ++ ds)) (keep f (es ++ ds)) ≡ pick t (e ∷ keep f es) (keep f es) ++ keep f ds
    go true ih = ap (λ (xs : List Entry). e ∷ xs) ih
    go false ih = ih

keep-most : (f : Entry → Bool) (es : List Entry) → length (keep f es) ≤ length es
unfolding keep
keep-most f [] = zero-le
keep-most f (e ∷ es) = go (f e) (keep-most f es)
  where
    go : (t : Bool) → length (keep f es) ≤ length es → length (pick t (e ∷ keep f es) (keep f es)) ≤ suc (length es)
    go true h = omega arith
    go false h = omega arith

module _ (es : List Entry) (l : Label) (i : ℕ) (h : i < length es) where
  taken-one : mapped_into (take (i + 1) es) l ≡ mapped_into (take i es) l + mapped_into (get_or es i no_entry ∷ []) l
  unfolding mapped_into
  taken-one =
      let inside : Entry → Bool = λ (e : Entry). in_range l (masked_position e) in
      ap (λ (xs : List Entry). length (keep inside xs)) (ap (λ (n : ℕ). take n es) (add-one i) ∙ take-suc es i no_entry h)
      ∙ ap length (keep_append inside (take i es) (get_or es i no_entry ∷ []))
      ∙ length-append (keep inside (take i es)) (keep inside (get_or es i no_entry ∷ []))

  count-in : in_range l (masked_position (get_or es i no_entry)) ≡ true → mapped_into (take (i + 1) es) l ≡ mapped_into (take i es) l + 1
  unfolding mapped_into keep
  count-in e = taken-one ∙ ap (λ (t : Bool). mapped_into (take i es) l + length (pick t (get_or es i no_entry ∷ []) [])) e

  count-out : in_range l (masked_position (get_or es i no_entry)) ≡ false → mapped_into (take (i + 1) es) l ≡ mapped_into (take i es) l
  unfolding mapped_into keep
  count-out e = taken-one ∙ ap (λ (t : Bool). mapped_into (take i es) l + length (pick t (get_or es i no_entry ∷ []) [])) e ∙ add-zero (mapped_into (take i es) l)

  -- of any slot where the entry does not lie in its file
  live_out : (no_file l ≡ false → in_range l (masked_position (get_or es i no_entry)) ≡ true → ⊥) → live_of (take (i + 1) es) l ≡ live_of (take i es) l
  live_out out = go (no_file l) refl (in_range l (masked_position (get_or es i no_entry))) refl
    where
      go : (t : Bool) → no_file l ≡ t → (r : Bool) → in_range l (masked_position (get_or es i no_entry)) ≡ r → live_of (take (i + 1) es) l ≡ live_of (take i es) l
      go true f r e = rw f refl
      go false f true e = absurd (out f e)
      go false f false e = rw f (count-out e)

-- ---- all slots: one count more, or none
same-counts : (f g : Label → ℕ) (ls : List Label) → ((j : ℕ) → g (label_at ls j) ≡ f (label_at ls j)) → map g ls ≡ map f ls
same-counts f g [] e = refl
same-counts f g (l ∷ ls) e = ap₂ (λ (n : ℕ) (ns : List ℕ). n ∷ ns) (e 0) (same-counts f g ls (λ j. e (suc j)))

one_more : (f g : Label → ℕ) (ls : List Label) (k : ℕ) → k < length ls → g (label_at ls k) ≡ f (label_at ls k) + 1
    → ((j : ℕ) → (j ≡ k → ⊥) → g (label_at ls j) ≡ f (label_at ls j)) → set (map f ls) k (get_or (map f ls) k 0 + 1) ≡ map g ls
one_more f g [] k h here there = absurd (not-suc-le-zero h)
one_more f g (l ∷ ls) zero h here there = ap₂ (λ (n : ℕ) (ns : List ℕ). n ∷ ns) (sym here) (sym (same-counts f g ls (λ j. there (suc j) (λ z. omega arith))))
one_more f g (l ∷ ls) (suc k) h here there =
    ap₂ (λ (n : ℕ) (ns : List ℕ). n ∷ ns) (sym (there 0 (λ z. omega arith))) (one_more f g ls k (le_of_suc-le-suc h) here (λ j d. there (suc j) (λ z. d (omega arith))))

-- the counts of the first i entries
abbrev pub lives_to : List Entry → ℕ → List Label → List ℕ
lives_to es i ls = map (live_of (take i es)) ls

-- the entry at i, its position, the slot that is found for it and that slot's number
module _ (ls : List Label) (apart : Apart ls) (es : List Entry) (i : ℕ) (h : i < length es) (position : ℕ) (at : position ≡ masked_position (get_or es i no_entry)) where
  outside : (l : Label) → (no_file l ≡ false → in_range l position ≡ true → ⊥) → live_of (take (i + 1) es) l ≡ live_of (take i es) l
  outside l out = live_out es l i h (λ f q. out f (ap (in_range l) at ∙ q))

  module _ (s : Slot) (e : s ≡ lsn_at (map masked_lsn ls) (2 * position)) (k : ℕ) (is : k ≡ index_of s) where
    -- LAW: an entry in the range of the file that is found counts there, and nowhere else
    pub count-found : k < 256 → in_range (label_at ls k) position ≡ true → set (lives_to es i ls) k (get_or (lives_to es i ls) k 0 + 1) ≡ lives_to es (i + 1) ls
    count-found low r = go s (sym e) is
      where
        go : (o : Slot) → lsn_at (map masked_lsn ls) (2 * position) ≡ o → k ≡ index_of o → set (lives_to es i ls) k (get_or (lives_to es i ls) k 0 + 1) ≡ lives_to es (i + 1) ls
        go None q z = absurd (omega arith)
        go (Some j) q z =
            let found = q ∙ ap Some (sym z) in
            let w = found-file ls apart position k found in
            one_more (live_of (take i es)) (live_of (take (i + 1) es)) ls k w.0 (rw w.1 (count-in es (label_at ls k) i h (ap (in_range (label_at ls k)) (sym at) ∙ r)))
            (λ m d. outside (label_at ls m) (λ f u. d (in-found ls apart position k found m f u)))

    -- LAW: else it counts nowhere
    pub count-nowhere : length ls ≤ 256 → (256 ≤ k) ⊎ (in_range (label_at ls k) position ≡ false) → lives_to es i ls ≡ lives_to es (i + 1) ls
    count-nowhere few miss = sym (same-counts (live_of (take i es)) (live_of (take (i + 1) es)) ls (λ j. outside (label_at ls j) (λ f u. out s (sym e) is miss j f u)))
      where
        out : (o : Slot) → lsn_at (map masked_lsn ls) (2 * position) ≡ o → k ≡ index_of o → (256 ≤ k) ⊎ (in_range (label_at ls k) position ≡ false)
            → (j : ℕ) → no_file (label_at ls j) ≡ false → in_range (label_at ls j) position ≡ true → ⊥
        out None q z m j f u = in-none ls apart position q j f u
        out (Some n) q z (inl m) j f u = let w = (found-file ls apart position n q).0 in omega arith
        out (Some n) q z (inr m) j f u = true≢false (sym u ∙ ap (λ (x : ℕ). in_range (label_at ls x) position) (in-found ls apart position n q j f u ∙ sym z) ∙ m)

-- before the first entry
pub live-start : (es : List Entry) (ls : List Label) → replicate (length ls) 0 ≡ lives_to es 0 ls
unfolding mapped_into keep
live-start es [] = refl
live-start es (l ∷ ls) = ap₂ (λ (n : ℕ) (ns : List ℕ). n ∷ ns) (go (no_file l)) (live-start es ls)
  where
    go : (t : Bool) → ◌≡◌ {A = ℕ} 0 (pick t 0 0)
    go true = refl
    go false = refl

-- behind the last
pub live_end : (es : List Entry) (i : ℕ) (ls : List Label) → length es ≤ i → lives_to es i ls ≡ map (live_of es) ls
live_end es i ls h = rw (take_all i es h) refl

-- no count is above the number of entries
live-most : (es : List Entry) (l : Label) → live_of es l ≤ length es
unfolding mapped_into
live-most es l = go (no_file l)
  where
    go : (t : Bool) → pick t 0 (mapped_into es l) ≤ length es
    go true = zero-le
    go false = keep-most (λ (e : Entry). in_range l (masked_position e)) es

pub counts-most : (es : List Entry) (ls : List Label) (k : ℕ) → get_or (map (live_of es) ls) k 0 ≤ length es
counts-most es [] k = zero-le
counts-most es (l ∷ ls) zero = live-most es l
counts-most es (l ∷ ls) (suc k) = counts-most es ls k

-- ---- a slot's record, by its live count
pub record-live : (es : List Entry) (ls : List Label) (k : ℕ) → slot_record (label_at ls k) (get_or (map (live_of es) ls) k 0) ≡ counted es (label_at ls k)
record-live es [] k = refl
record-live es (l ∷ ls) zero = go (no_file l)
  where
    go : (t : Bool) → pick t empty_record (recorded l (pick t 0 (mapped_into es l)) 1) ≡ pick t empty_record (recorded l (mapped_into es l) 1)
    go true = refl
    go false = refl
record-live es (l ∷ ls) (suc k) = record-live es ls k
