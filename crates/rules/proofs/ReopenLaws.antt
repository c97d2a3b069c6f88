-- "Each id maps to its entry of greatest masked position", entry by entry; and what 14 and 15 leave known.
use Rattle.std.specs.Prelude.{◌≡◌, refl, ◌⊎◌, ◌≤◌, ◌<◌, ◌&&◌, ◌∷◌, ◌+◌, ◌-◌}
use Rattle.std.proofs.Common.{inl, inr, zero-le, arith, length-append}
use borrow.Author.Tests.{leb-false, lt-ltb, le-ltb, lt-leb, eq-eqb, ne_eqb}
use Rattle.std.proofs.lemmas.List.{length-map, length-replicate}
use Rattle.rules.specs.Base.{Bool, true, false, List, [], map, ℕ, suc, length, replicate, leb, ltb, eqb, any, pick}
use Rattle.rules.specs.Types.{Entry, Label}
use Rattle.disk_location.specs.Locations.{masked_of, position_of}
use Rattle.rules.specs.BaseLaws.{All}
use Rattle.rules.proofs.BaseLaws.{all_map, any_false, any-clear, or-false, or-clear, and-false, order}
use Rattle.rules.specs.TableLaws.{Rising, rise, rise-end}
use Rattle.rules.specs.FileMap.{empty_record}
use Rattle.rules.specs.SlotFile.{File, View}
use Rattle.rules.specs.Reopen.{meets, overlapping, not_rising, masked_position, latest, latest_from, latest_of, record_of, records_from}
use Rattle.rules.specs.ReopenLaws.{Disjoint, Apart}

-- ---- the table
-- the clauses of latest, by facts in the place of tests
module _ (n e : Entry) (es : List Entry) where
  -- behind lower ids
  pub latest-next : e.id < n.id → latest n (e ∷ es) ≡ e ∷ latest n es
  unfolding latest
  latest-next h = rw (lt-ltb e.id n.id h)

  -- of two of one id the later stays
  pub latest-here : e.id ≡ n.id → latest n (e ∷ es) ≡ pick (ltb (masked_position e) (masked_position n)) n e ∷ es
  unfolding latest
  latest-here h = simp (le-ltb e.id n.id (omega arith), eq-eqb e.id n.id h)

  -- before greater ones
  pub latest-before : n.id < e.id → latest n (e ∷ es) ≡ n ∷ e ∷ es
  unfolding latest
  latest-before h = rw (le-ltb e.id n.id (omega arith), ne_eqb e.id n.id (λ q. omega arith))

-- ids stay in order
pub latest-rising : (f : ℕ) (n : Entry) (es : List Entry) → f ≤ n.id → Rising f es → Rising f (latest n es)
unfolding latest
latest-rising f n [] low r = rise low rise-end
latest-rising f n (e ∷ es) low (rise a r) = go (λ h. latest-rising (suc e.id) n es h r) (order e.id n.id)
  where
    here : (t : Bool) → e.id ≡ n.id → Rising f (pick t n e ∷ es)
    here true h = rise low (rw h at r)
    here false h = rise a r

    go : (e.id < n.id → Rising (suc e.id) (latest n es)) → (e.id < n.id) ⊎ ((e.id ≡ n.id) ⊎ (n.id < e.id)) → Rising f (latest n (e ∷ es))
    go ih (inl h) = rw (latest-next n e es h) (rise a (ih h))
    go ih (inr (inl h)) = rw (latest-here n e es h) (here (ltb (masked_position e) (masked_position n)) h)
    go ih (inr (inr h)) = rw (latest-before n e es h) (rise low (rise h r))

-- entry by entry
pub from-rising : (met es : List Entry) → Rising 0 met → Rising 0 (latest_from met es)
unfolding latest_from
from-rising met [] r = r
from-rising met (e ∷ es) r = from-rising (latest e met) es (latest-rising 0 e met zero-le r)

-- ids strictly rise
pub latest-of-rising : (es : List Entry) → Rising 0 (latest_of es)
latest-of-rising es = from-rising [] es rise-end

disjoint : (r s : Label) → meets r s ≡ false → Disjoint r s
disjoint r s e = go (and-false _ _ e)
  where
    go : (leb (masked_of r.lsn) (masked_of s.lsn + s.trailer_offset) ≡ false) ⊎ (leb (masked_of s.lsn) (masked_of r.lsn + r.trailer_offset) ≡ false) → Disjoint r s
    go (inl h) = inl (leb-false _ _ h)
    go (inr h) = inr (leb-false _ _ h)

meets-not : (r s : Label) → Disjoint r s → meets r s ≡ false
meets-not r s (inl h) = rw (lt-leb (masked_of r.lsn) (masked_of s.lsn + s.trailer_offset) h)
meets-not r s (inr h) = rw (lt-leb (masked_of s.lsn) (masked_of r.lsn + r.trailer_offset) h) (go (leb (masked_of r.lsn) (masked_of s.lsn + s.trailer_offset)))
  where
    go : (t : Bool) → (t && false) ≡ false
    go true = refl
    go false = refl

-- "Files' masked ranges .. must be disjoint"
pub files-apart : (fs : List File) → overlapping fs ≡ false → Apart fs
unfolding overlapping
files-apart [] e = tt
files-apart (f ∷ fs) e =
    let w = or-false (any (λ (g : File). meets f.label g.label) fs) (overlapping fs) e in
    (all_map _ _ fs (λ g m. disjoint f.label g.label m) (any_false (λ (g : File). meets f.label g.label) fs w.0), files-apart fs w.1)

pub apart-files : (fs : List File) → Apart fs → overlapping fs ≡ false
unfolding overlapping
apart-files [] a = refl
apart-files (f ∷ fs) a =
    or-clear _ _ (any-clear (λ (g : File). meets f.label g.label) fs (all_map _ _ fs (λ g d. meets-not f.label g.label d) a.0)) (apart-files fs a.1)

-- ids that rise are not repeated, so 15 does not hold
pub rising-entries : (f : ℕ) (es : List Entry) → Rising f es → not_rising es ≡ false
unfolding not_rising
rising-entries f [] r = refl
rising-entries f (e ∷ es) (rise a r) =
    or-clear _ _ (any-clear (λ (d : Entry). eqb d.id e.id && leb (position_of d.location) (position_of e.location)) es (others (suc e.id) es r (omega arith))) (rising-entries (suc e.id) es r)
  where
    others : (g : ℕ) (ds : List Entry) → Rising g ds → e.id < g → All (λ (d : Entry). (eqb d.id e.id && leb (position_of d.location) (position_of e.location)) ≡ false) ds
    others g [] q low = tt
    others g (d ∷ ds) (rise b q) low = (rw (ne_eqb d.id e.id (λ z. omega arith)), others (suc d.id) ds q (omega arith))

-- ---- "a file map of 256 records"
pub records-from-length : (table : List Entry) (views : List View) → length views ≤ 256 → length (records_from table views) ≡ 256
unfolding records_from
records-from-length table views h =
    omega (arith, length-append (map (record_of table) views) (replicate (256 - length views) empty_record), length-map views (record_of table), length-replicate (256 - length views) empty_record)
