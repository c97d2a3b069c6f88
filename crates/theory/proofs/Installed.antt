-- A file of operations is added above all others: the invariant holds again, and the file's entries count before what was said.
use Rattle.std.specs.Prelude.{◌≡◌, ◌⊎◌, ◌<◌, ◌≤◌, ◌+◌, ◌-◌, ◌*◌, ◌/◌, ◌%◌, ◌^◌, Err, None, Ok, Some}
use Rattle.std.proofs.Math.Path.{refl, sym, ap}
use Rattle.std.proofs.Common.{◌∙◌, subst, ⊎_elim, zero-le}
use Rattle.std.proofs.Math.Logic.{inl, inr}
use native.Mathlib.Omega.{arith}
use Rattle.std.proofs.Math.ListN.{length-set}
use Rattle.std.proofs.Math.Seq.{get_or-set_same, get_or-set_other}
use Rattle.rules.specs.Base.{Bool, true, false, List, ℕ, length, drop, eqb, pick}
use Rattle.theory.specs.Types.{Record, Answer, Held, Slot}
use Rattle.disk_location.specs.Locations.{masked_of, position_of, delete_of}
use Rattle.rules.proofs.BaseLaws.{same?}
use Rattle.rules.specs.Refusal.{decide, after}
use Rattle.rules.specs.Object.{stored_at}
use Rattle.rules.specs.Ops.{Op, objects_of, entries_of}
use Rattle.rules.proofs.OpsLaws.{file-length, entries-of-rising, entries-of-inside}
use Rattle.rules.specs.SlotFile.{File, View, empty, damaged, holds}
use Rattle.rules.specs.Table.{lookup, insert_all}
use Rattle.rules.specs.TableLaws.{Rising, Has, or_else}
use Rattle.rules.proofs.TableLaws.{lookup-has, table-ext, rising-insert-all, lookup-insert-all, has-lookup}
use Rattle.rules.specs.FileMap.{recorded, empty_record, record_at, with_live, file_for}
use Rattle.rules.specs.Install.{new_label, new_record, losing}
use Rattle.rules.specs.InstallLaws.{Less}
use Rattle.rules.proofs.InstallLaws.{losing-length, losing-record}
use Rattle.rules.specs.Reopen.{files_in, table_of, in_range, mapped_into}
use Rattle.rules.specs.Read.{object_tests}
use Rattle.theory.specs.Entries.{shift_held}
use Rattle.theory.proofs.Entries.{lookup-absolute, rising-absolute, has-absolute, absolute-has}
use Rattle.theory.specs.Counting.{count}
use Rattle.theory.proofs.Counting.{count_none}
use Rattle.theory.specs.Newest.{masked_at}
use Rattle.theory.proofs.Newest.{newest-iff, newest-one, newest-insert-all}
use Rattle.theory.specs.Places.{view_at, rows_in, rows_of, WellMade, Single, Apart, Agrees, Filed, Stands}
use Rattle.theory.proofs.Places.{rising-single, stands-has, has-stands, not-empty, holds-inj, own-file, in-own-range, in-no-other, found-in-range, distinct, masked-entry}
use Rattle.theory.specs.Losing.{live_at, rows_for}
use Rattle.theory.proofs.Losing.{losing-live, losing-new}
use Rattle.rules.specs.WrittenLaws.{file_of_ops}
use Rattle.theory.specs.Picture.{Picture, Said, gone, body, broken, place_says, entry_says, file_says, view_says, slot_says, held_says, picture_says, added}
use Rattle.theory.proofs.Says.{held-says, held_same}
use Rattle.theory.proofs.Whole.{whole-written}
use Rattle.theory.specs.Sound.{WholeFile, Sound}
use Rattle.theory.proofs.Sound.{newest-table, rising-table, table-rising, table-newest, table-stands}
use Rattle.theory.specs.Installed.{over, Addable}

module _ (bounds : ℕ) (p : Picture) (told : ℕ → Said) (s : Sound bounds p told) (k lsn g : ℕ) (os : List Op) (a : Addable bounds p k lsn os) where
  new-made : WellMade (file_of_ops lsn g os)
  unfolding new_record new_label
  new-made =
      let b = a.base in
      let c = s.started in
      let d = a.within in
      record {
        placed = omega arith;
        low = a.low;
        within = omega arith;
        sized = let n = file-length os in omega arith;
        inside = λ x r h. let w = entries-of-inside 0 os x r h in omega arith;
      }

  view-new : view_at (added lsn g p k os).views k ≡ holds (file_of_ops lsn g os)
  unfolding added
  view-new = get_or-set_same p.views k (holds (file_of_ops lsn g os)) empty a.slot

  -- every other slot shows what it showed
  pub view-old : (j : ℕ) → (j ≡ k → ⊥) → view_at (added lsn g p k os).views j ≡ view_at p.views j
  unfolding added
  view-old j n = get_or-set_other p.views k j (holds (file_of_ops lsn g os)) empty n

  in-records : k < length (losing p.table os p.records)
  in-records = let x = losing-length p.table os p.records in let y = s.filed.fits in let z = a.slot in omega arith

  record-new : record_at (added lsn g p k os).records k ≡ new_record lsn g os
  unfolding added
  record-new = get_or-set_same (losing p.table os p.records) k (new_record lsn g os) empty_record in-records

  record-old : (j : ℕ) → (j ≡ k → ⊥) → record_at (added lsn g p k os).records j ≡ record_at (losing p.table os p.records) j
  unfolding added
  record-old j n = get_or-set_other (losing p.table os p.records) k j (new_record lsn g os) empty_record n

  is-new : (j : ℕ) (h : File) → view_at (added lsn g p k os).views j ≡ holds h → j ≡ k → file_of_ops lsn g os ≡ h
  is-new j h e z = holds-inj (sym view-new ∙ ap (view_at (added lsn g p k os).views) (sym z) ∙ e)

  agrees-less : (v : View) (r t : Record) → Agrees v r → Less r t → Agrees v t
  agrees-less empty r t h z =
      let u : r.live ≡ 0 = ap (λ (r : Record). r.live) h in
      let w = z.less in
      let n : t.live ≡ 0 = omega arith in
      z.same ∙ ap (with_live r) n ∙ ap (λ (r : Record). with_live r 0) h
  agrees-less (damaged n) r t h z = h
  agrees-less (holds c) r t h z =
      let m : t.synced ≡ r.synced = ap (λ (r : Record). r.synced) z.same in
      let f = h.1 in
      (z.same ∙ ap (λ (r : Record). with_live r t.live) h.0 ∙ ap (recorded c.label t.live) (sym m), omega arith)

  apart-new : (j : ℕ) (h : File) → view_at p.views j ≡ holds h → Apart (file_of_ops lsn g os) h
  unfolding new_record new_label
  apart-new j h e = let u = s.above j h e in let v = a.base in inr (omega arith)

  -- the files after
  filed-fits : length (added lsn g p k os).views ≤ length (added lsn g p k os).records
  unfolding added
  filed-fits =
      let u = length-set p.views k (holds (file_of_ops lsn g os)) in
      let v = length-set (losing p.table os p.records) k (new_record lsn g os) in
      let x = losing-length p.table os p.records in
      let y = s.filed.fits in
      omega arith

  -- views and records tell of the same files again
  pub filed-added : Filed (added lsn g p k os).views (added lsn g p k os).records
  unfolding new_record
  filed-added = record {
    fits = filed-fits;
    agree = λ j. agree j (same? j k);
    made = λ j h e. made j h e (same? j k);
    single = λ j h e. single j h e (same? j k);
    apart = λ i j h c e d n. apart i j h c e d n (same? i k) (same? j k);
  }
    where
      agree : (j : ℕ) → (j ≡ k) ⊎ (j ≡ k → ⊥) → Agrees (view_at (added lsn g p k os).views j) (record_at (added lsn g p k os).records j)
      agree j (inl z) = rw (z, view-new, record-new) (refl, zero-le)
      agree j (inr z) =
          rw (view-old j z, record-old j z)
          (agrees-less (view_at p.views j) (record_at p.records j) (record_at (losing p.table os p.records) j)
          (s.filed.agree j) (losing-record p.table os p.records j))

      made : (j : ℕ) (h : File) → view_at (added lsn g p k os).views j ≡ holds h → (j ≡ k) ⊎ (j ≡ k → ⊥) → WellMade h
      made j h e (inl z) = subst WellMade (is-new j h e z) new-made
      made j h e (inr z) = s.filed.made j h (sym (view-old j z) ∙ e)

      single : (j : ℕ) (h : File) → view_at (added lsn g p k os).views j ≡ holds h → (j ≡ k) ⊎ (j ≡ k → ⊥) → Single h.entries
      single j h e (inl z) =
          subst (λ (c : File). Single c.entries) (is-new j h e z) (rising-single 0 (entries_of 0 os) (entries-of-rising 0 0 os a.rising))
      single j h e (inr z) = s.filed.single j h (sym (view-old j z) ∙ e)

      apart : (i j : ℕ) (h c : File) → view_at (added lsn g p k os).views i ≡ holds h → view_at (added lsn g p k os).views j ≡ holds c → (i ≡ j → ⊥)
          → (i ≡ k) ⊎ (i ≡ k → ⊥) → (j ≡ k) ⊎ (j ≡ k → ⊥) → Apart h c
      apart i j h c e d n (inl u) (inl v) = absurd (n (u ∙ sym v))
      apart i j h c e d n (inl u) (inr v) = subst (λ (b : File). Apart b c) (is-new i h e u) (apart-new j c (sym (view-old j v) ∙ d))
      apart i j h c e d n (inr u) (inl v) =
          subst (Apart h) (is-new j c d v) (⊎_elim (λ z. inr z) (λ z. inl z) (apart-new i h (sym (view-old i u) ∙ e)))
      apart i j h c e d n (inr u) (inr v) = s.filed.apart i j h c (sym (view-old i u) ∙ e) (sym (view-old j v) ∙ d) n

  -- ---- which entries stand
  stands-old : (x l j : ℕ) → Stands p.views x l j → (j ≡ k → ⊥) × Stands (added lsn g p k os).views x l j
  stands-old x l j t =
      let n : j ≡ k → ⊥ = λ z. not-empty (sym a.free ∙ ap (view_at p.views) (sym z) ∙ t.shows) in
      (n, record { file = t.file; raw = t.raw; shows = view-old j n ∙ t.shows; entry = t.entry; located = t.located })

  -- the new entries stand in the new file
  pub stands-new : (x l : ℕ) → Has (rows_for lsn 0 os) x l → Stands (added lsn g p k os).views x l k
  unfolding new_record new_label
  stands-new x l h =
      let z = absolute-has lsn (entries_of 0 os) x l h in
      record { file = file_of_ops lsn g os; raw = z.0; shows = view-new; entry = z.1; located = z.2 }

  rows_split : (x l : ℕ) → Has (rows_of (added lsn g p k os).views) x l → Has (rows_of p.views) x l ⊎ Has (rows_for lsn 0 os) x l
  unfolding new_record new_label
  rows_split x l h = go (has-stands (added lsn g p k os).views x l h)
    where
      at : (j : ℕ) (t : Stands (added lsn g p k os).views x l j) → (j ≡ k) ⊎ (j ≡ k → ⊥) → Has (rows_of p.views) x l ⊎ Has (rows_for lsn 0 os) x l
      at j t (inl z) =
          let e : t.file ≡ file_of_ops lsn g os = sym (is-new j t.file t.shows z) in
          inr (subst (λ (c : File). Has (rows_in c) x l) e
          (subst (Has (rows_in t.file) x) (sym t.located) (has-absolute t.file.label.lsn t.file.entries x t.raw t.entry)))
      at j t (inr z) =
          inl (stands-has p.views x l j (record { file = t.file; raw = t.raw; shows = sym (view-old j z) ∙ t.shows; entry = t.entry; located = t.located }))

      go : (j : ℕ) × Stands (added lsn g p k os).views x l j → Has (rows_of p.views) x l ⊎ Has (rows_for lsn 0 os) x l
      go (j, t) = at j t (same? j k)

  rows_join : (x l : ℕ) → Has (rows_of p.views) x l ⊎ Has (rows_for lsn 0 os) x l → Has (rows_of (added lsn g p k os).views) x l
  rows_join x l (inl h) =
      let z = has-stands p.views x l h in
      stands-has (added lsn g p k os).views x l z.0 (stands-old x l z.0 z.1).1
  rows_join x l (inr h) = stands-has (added lsn g p k os).views x l k (stands-new x l h)

  rows-rising : Rising 0 (rows_for lsn 0 os)
  rows-rising = rising-absolute lsn 0 (entries_of 0 os) (entries-of-rising 0 0 os a.rising)

  -- the new entries are above all that the table holds
  all_above : (x l m : ℕ) → Has (rows_for lsn 0 os) x l → lookup p.table x ≡ Some m → masked_at m < masked_at l
  unfolding new_record new_label
  all_above x l m h e =
      let n = absolute-has lsn (entries_of 0 os) x l h in
      let z = table-stands bounds p told s x m e in
      let t = z.1 in
      let u = masked-entry (file_of_ops lsn g os) new-made x n.0 n.1 in
      let v = masked-entry t.file (s.filed.made z.0 t.file t.shows) x t.raw t.entry in
      let i = (s.filed.made z.0 t.file t.shows).inside x t.raw t.entry in
      let b = a.base in
      let c = s.above z.0 t.file t.shows in
      let d : masked_at l ≡ masked_at (n.0 + 2 * lsn) = ap masked_at n.2 in
      let y : masked_at m ≡ masked_at (t.raw + 2 * t.file.label.lsn) = ap masked_at t.located in
      omega arith

  -- LAW: the table with the file's entries stored is the one that a reopening makes of the files
  pub newest-added : insert_all p.table (rows_for lsn 0 os) ≡ table_of (files_in (added lsn g p k os).views)
  newest-added =
      table-ext 0 0 (insert_all p.table (rows_for lsn 0 os)) (table_of (files_in (added lsn g p k os).views))
      (rising-insert-all p.table (rows_for lsn 0 os) (table-rising bounds p told s)) (rising-table (added lsn g p k os).views) each-one
    where
      each-one : (x : ℕ) → lookup (insert_all p.table (rows_for lsn 0 os)) x ≡ lookup (table_of (files_in (added lsn g p k os).views)) x
      each-one x =
          newest-one (Has (rows_of (added lsn g p k os).views) x) (lookup (insert_all p.table (rows_for lsn 0 os)) x) (lookup (table_of (files_in (added lsn g p k os).views)) x)
          (distinct (added lsn g p k os).views (added lsn g p k os).records filed-added x)
          (newest-iff (λ l. Has (rows_of p.views) x l ⊎ Has (rows_for lsn 0 os) x l) (Has (rows_of (added lsn g p k os).views) x)
          (lookup (insert_all p.table (rows_for lsn 0 os)) x) (rows_join x) (rows_split x)
          (newest-insert-all 0 p.table (rows_for lsn 0 os) x (Has (rows_of p.views) x) rows-rising (λ l m. all_above x l m) (table-newest bounds p told s x)))
          (newest-table (added lsn g p k os).views x)

  -- ---- live counts
  -- the locations held lie outside the new file's masked range, the new ones inside it
  old-outside : (x m : ℕ) → lookup p.table x ≡ Some m → in_range (new_label lsn g os) (masked_at m) ≡ false
  old-outside x m e =
      let z = table-stands bounds p told s x m e in
      let t = stands-old x m z.0 z.1 in
      in-no-other (added lsn g p k os).views (added lsn g p k os).records filed-added x m z.0 k t.1 (file_of_ops lsn g os) view-new (λ q. t.0 (sym q))

  new-inside : (x l : ℕ) → Has (rows_for lsn 0 os) x l → in_range (new_label lsn g os) (masked_at l) ≡ true
  unfolding new_record new_label stands-new objects_of
  new-inside x l h = in-own-range (added lsn g p k os).views (added lsn g p k os).records filed-added x l k (stands-new x l h)

  counted-new : length os ≡ mapped_into (insert_all p.table (rows_for lsn 0 os)) (new_label lsn g os)
  unfolding mapped_into
  counted-new =
      let u : count (λ (l : ℕ). in_range (new_label lsn g os) (masked_at l)) p.table ≡ 0
      = count_none (λ (l : ℕ). in_range (new_label lsn g os) (masked_at l)) p.table
      (λ x l h. old-outside x l (has-lookup 0 p.table (table-rising bounds p told s) x l h)) in
      let v = losing-new (λ (l : ℕ). in_range (new_label lsn g os) (masked_at l)) k lsn p.table 0 0 p.table os (table-rising bounds p told s) a.rising
      (λ x h. refl) old-outside new-inside in
      omega arith

  counted-old : (j : ℕ) (h : File) → (j ≡ k → ⊥) → view_at p.views j ≡ holds h
      → live_at (losing p.table os p.records) j ≡ mapped_into (insert_all p.table (rows_for lsn 0 os)) h.label
  unfolding mapped_into
  counted-old j h n e =
      losing-live (λ (l : ℕ). in_range h.label (masked_at l)) j lsn p.table 0 0 p.table os p.records (table-rising bounds p told s) a.rising
      (λ x b. refl)
      (λ x m b. let z = table-stands bounds p told s x m b in found-in-range p.views p.records s.filed x m z.0 j z.1 h e)
      (λ x l b. in-no-other (added lsn g p k os).views (added lsn g p k os).records filed-added x l k j (stands-new x l b) h (view-old j n ∙ e) n)
      (s.counted j h e)

  -- LAW: every live count is again the number of ids mapped into the file
  pub counted-added : (j : ℕ) (h : File) → view_at (added lsn g p k os).views j ≡ holds h
      → live_at (added lsn g p k os).records j ≡ mapped_into (insert_all p.table (rows_for lsn 0 os)) h.label
  unfolding new_record new_label mapped_into
  counted-added j h e = go (same? j k)
    where
      go : (j ≡ k) ⊎ (j ≡ k → ⊥) → live_at (added lsn g p k os).records j ≡ mapped_into (insert_all p.table (rows_for lsn 0 os)) h.label
      go (inl z) =
          ap (live_at (added lsn g p k os).records) z ∙ ap (λ (r : Record). r.live) record-new ∙ counted-new
          ∙ ap (λ (c : File). mapped_into (insert_all p.table (rows_for lsn 0 os)) c.label) (is-new j h e z)
      go (inr z) = ap (λ (r : Record). r.live) (record-old j z) ∙ counted-old j h z (sym (view-old j z) ∙ e)

  -- ---- what is said
  over-entry : (r x : ℕ) (t : Said) → over (entry_says (file_of_ops lsn g os) (Some r) x) t ≡ entry_says (file_of_ops lsn g os) (Some r) x
  over-entry r x t = go (delete_of r) (decide (object_tests x (stored_at (position_of r) (drop (position_of r) (objects_of os)))))
    where
      go : (b : Bool) (c : Answer)
          → over (pick b gone (after c broken (body (stored_at (position_of r) (drop (position_of r) (objects_of os))).body))) t
          ≡ pick b gone (after c broken (body (stored_at (position_of r) (drop (position_of r) (objects_of os))).body))
      go true c = refl
      go false (Ok _) = refl
      go false (Err n) = refl

  -- of an old location the same is said
  old-says : (x : ℕ) (o : Held) → lookup p.table x ≡ o → held_says (added lsn g p k os) o x ≡ held_says p o x
  old-says x None h = refl
  old-says x (Some l) h =
      let z = table-stands bounds p told s x l h in
      let t = stands-old x l z.0 z.1 in
      held_same (added lsn g p k os) p l x (
      ap (λ (o : Slot). slot_says (added lsn g p k os) o l x) (own-file (added lsn g p k os).views (added lsn g p k os).records filed-added x l z.0 t.1)
      ∙ same z.0 t.0
      ∙ sym (ap (λ (o : Slot). slot_says p o l x) (own-file p.views p.records s.filed x l z.0 z.1)))
    where
      same : (j : ℕ) → (j ≡ k → ⊥) → slot_says (added lsn g p k os) (Some j) l x ≡ slot_says p (Some j) l x
      same j n =
          let m : (record_at (added lsn g p k os).records j).label.lsn ≡ (record_at p.records j).label.lsn
          = ap (λ (r : Record). r.label.lsn) (record-old j n ∙ (losing-record p.table os p.records j).same) in
          ap (λ (v : View). view_says v (position_of l - (record_at (added lsn g p k os).records j).label.lsn) x) (view-old j n)
          ∙ ap (λ (i : ℕ). view_says (view_at p.views j) (position_of l - i) x) m

  new-says : (x r : ℕ) → Has (entries_of 0 os) x r → held_says (added lsn g p k os) (Some (r + 2 * lsn)) x ≡ entry_says (file_of_ops lsn g os) (Some r) x
  unfolding new_record new_label
  new-says x r h =
      let y : file_for (added lsn g p k os).records (r + 2 * lsn) ≡ Some k
      = own-file (added lsn g p k os).views (added lsn g p k os).records filed-added x (r + 2 * lsn) k (stands-new x (r + 2 * lsn) (has-absolute lsn (entries_of 0 os) x r h)) in
      let even : (r + 2 * lsn) % 2 ≡ r % 2 = omega arith in
      let d : delete_of (r + 2 * lsn) ≡ delete_of r = ap (λ (n : ℕ). eqb n 1) even in
      let b : (record_at (added lsn g p k os).records k).label.lsn ≡ lsn = ap (λ (t : Record). t.label.lsn) record-new in
      let c : (r + 2 * lsn) / 2 - (record_at (added lsn g p k os).records k).label.lsn ≡ r / 2 = omega arith in
      held-says (added lsn g p k os) (r + 2 * lsn) x (delete_of r) d
      ∙ ap (pick (delete_of r) gone) (
      ap (λ (o : Slot). slot_says (added lsn g p k os) o (r + 2 * lsn) x) y
      ∙ ap (λ (v : View). view_says v ((r + 2 * lsn) / 2 - (record_at (added lsn g p k os).records k).label.lsn) x) view-new
      ∙ ap (λ (n : ℕ). place_says (file_of_ops lsn g os) n x) c)

  table-lookup : (x : ℕ) → lookup (insert_all p.table (rows_for lsn 0 os)) x ≡ or_else (shift_held lsn (lookup (entries_of 0 os) x)) (lookup p.table x)
  table-lookup x =
      lookup-insert-all 0 p.table (rows_for lsn 0 os) rows-rising x
      ∙ ap (λ (o : Held). or_else o (lookup p.table x)) (lookup-absolute lsn (entries_of 0 os) x)

  -- LAW: of each id the file's entry is read, or else what was read before
  pub says-added : (x : ℕ) → held_says (added lsn g p k os) (lookup (insert_all p.table (rows_for lsn 0 os)) x) x ≡ over (file_says (file_of_ops lsn g os) x) (picture_says p x)
  unfolding picture_says file_says
  says-added x = ap (λ (o : Held). held_says (added lsn g p k os) o x) (table-lookup x) ∙ go (lookup (entries_of 0 os) x) refl
    where
      go : (o : Held) → lookup (entries_of 0 os) x ≡ o
          → held_says (added lsn g p k os) (or_else (shift_held lsn o) (lookup p.table x)) x
          ≡ over (entry_says (file_of_ops lsn g os) o x) (held_says p (lookup p.table x) x)
      go None h = old-says x (lookup p.table x) refl
      go (Some r) h = new-says x r (lookup-has (entries_of 0 os) x r h) ∙ sym (over-entry r x (held_says p (lookup p.table x) x))

  above-added : (j : ℕ) (h : File) → view_at (added lsn g p k os).views j ≡ holds h → masked_of h.label.lsn + h.label.trailer_offset < (added lsn g p k os).next
  unfolding new_record new_label added
  above-added j h e = go (same? j k)
    where
      go : (j ≡ k) ⊎ (j ≡ k → ⊥) → masked_of h.label.lsn + h.label.trailer_offset < (added lsn g p k os).next
      go (inl z) =
          let u : masked_of lsn + length (objects_of os) ≡ masked_of h.label.lsn + h.label.trailer_offset
          = ap (λ (d : File). masked_of d.label.lsn + d.label.trailer_offset) (is-new j h e z) in
          let b = a.base in
          omega arith
      go (inr z) = let u = s.above j h (sym (view-old j z) ∙ e) in omega arith

  whole-added : (j : ℕ) (h : File) → view_at (added lsn g p k os).views j ≡ holds h → WholeFile h
  whole-added j h e = go (same? j k)
    where
      go : (j ≡ k) ⊎ (j ≡ k → ⊥) → WholeFile h
      go (inl z) = let n = a.within in subst WholeFile (is-new j h e z) (whole-written lsn g os a.rising a.ids (omega arith))
      go (inr z) = s.whole j h (sym (view-old j z) ∙ e)

  narrow-added : (x l : ℕ) → Has (insert_all p.table (rows_for lsn 0 os)) x l → x < 2 ^ 64
  narrow-added x l h =
      go (lookup (rows_for lsn 0 os) x) refl
      (sym (lookup-insert-all 0 p.table (rows_for lsn 0 os) rows-rising x)
      ∙ has-lookup 0 (insert_all p.table (rows_for lsn 0 os)) (rising-insert-all p.table (rows_for lsn 0 os) (table-rising bounds p told s)) x l h)
    where
      go : (o : Held) → lookup (rows_for lsn 0 os) x ≡ o → or_else o (lookup p.table x) ≡ Some l → x < 2 ^ 64
      go (Some m) e d = a.narrow x m (lookup-has (rows_for lsn 0 os) x m e)
      go None e d = s.narrow x l (lookup-has p.table x l d)

  -- LAW: the invariant after a file is added
  pub sound-added : Sound bounds (added lsn g p k os) (λ x. over (file_says (file_of_ops lsn g os) x) (told x))
  unfolding added picture_says
  sound-added = record {
    filed = filed-added;
    whole = whole-added;
    sized = length-set (losing p.table os p.records) k (new_record lsn g os) ∙ losing-length p.table os p.records ∙ s.sized;
    started = let z = s.started in omega arith;
    above = above-added;
    newest = newest-added;
    room = a.room;
    narrow = narrow-added;
    counted = counted-added;
    says = λ x. says-added x ∙ ap (over (file_says (file_of_ops lsn g os) x)) (s.says x);
  }
