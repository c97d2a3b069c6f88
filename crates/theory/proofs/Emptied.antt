-- Files with no live entry are removed: the invariant holds again and nothing else is said of any id.
use Rattle.std.specs.Prelude.{◌≡◌, ◌⊎◌, ◌-◌, None, Some}
use Rattle.std.proofs.Math.Path.{refl, sym, ap}
use Rattle.std.proofs.Common.{◌∙◌, inl, inr}
use Rattle.std.proofs.Math.Logic.{⊎_elim}
use native.Mathlib.Omega.{arith}
use Rattle.rules.specs.Base.{List, ℕ}
use Rattle.theory.specs.Types.{Entry, Record, Held, Slot}
use Rattle.disk_location.specs.Locations.{position_of}
use Rattle.rules.specs.SlotFile.{File, View, holds}
use Rattle.rules.specs.Table.{lookup}
use Rattle.rules.specs.TableLaws.{Has}
use Rattle.rules.proofs.TableLaws.{lookup-has, table-ext}
use Rattle.rules.specs.FileMap.{record_at}
use Rattle.rules.specs.Reopen.{files_in, table_of, in_range, mapped_into}
use Rattle.theory.proofs.Counting.{count-has}
use Rattle.theory.specs.Newest.{masked_at}
use Rattle.theory.proofs.Newest.{newest-less, newest-one}
use Rattle.theory.specs.Places.{view_at, rows_of, Agrees, Filed, Stands}
use Rattle.theory.proofs.Places.{stands-has, has-stands, not-empty, own-file, in-own-range, distinct}
use Rattle.theory.specs.Losing.{live_at}
use Rattle.theory.specs.Picture.{Picture, Said, view_says, slot_says, held_says, picture_says}
use Rattle.theory.proofs.Says.{held_same}
use Rattle.theory.specs.Sound.{Sound}
use Rattle.theory.proofs.Sound.{newest-table, rising-table, table-rising, table-newest, table-stands}
use Rattle.theory.specs.Emptied.{KeptOrEmptied, Emptied}

module _ (bounds : ℕ) (p : Picture) (told : ℕ → Said) (s : Sound bounds p told) (q : Picture) (e : Emptied p q) where
  -- a file that is there was there, with that live count
  back : (k : ℕ) (f : File) → view_at q.views k ≡ holds f → (view_at p.views k ≡ holds f) × (record_at q.records k ≡ record_at p.records k)
  back k f h = ⊎_elim (λ c. (sym c.0 ∙ h, c.1)) (λ c. absurd (not-empty (sym c.1 ∙ h))) (e.each k)

  filed-emptied : Filed q.views q.records
  filed-emptied = record {
    fits = e.fits;
    agree = λ k. agree k (e.each k);
    made = λ k f h. s.filed.made k f (back k f h).0;
    single = λ k f h. s.filed.single k f (back k f h).0;
    apart = λ j k f g h i n. s.filed.apart j k f g (back j f h).0 (back k g i).0 n;
  }
    where
      agree : (k : ℕ) → KeptOrEmptied p q k → Agrees (view_at q.views k) (record_at q.records k)
      agree k (inl c) = rw (c.0, c.1) (s.filed.agree k)
      agree k (inr c) = rw (c.1, c.2) refl

  -- what the table maps into a slot keeps the slot
  kept : (x l k : ℕ) → lookup p.table x ≡ Some l → Stands p.views x l k
      → (view_at q.views k ≡ view_at p.views k) × (record_at q.records k ≡ record_at p.records k)
  unfolding mapped_into
  kept x l k h t = ⊎_elim (λ c. c) (λ c. absurd (no c.0)) (e.each k)
    where
      no : live_at p.records k ≡ 0 → ⊥
      no z =
          let b = count-has (λ (m : ℕ). in_range t.file.label (masked_at m)) p.table x l (lookup-has p.table x l h)
          (in-own-range p.views p.records s.filed x l k t) in
          let c = s.counted k t.file t.shows in
          omega arith

  stands-kept : (x l k : ℕ) → lookup p.table x ≡ Some l → Stands p.views x l k → Stands q.views x l k
  stands-kept x l k h t =
      record { file = t.file; raw = t.raw; shows = (kept x l k h t).0 ∙ t.shows; entry = t.entry; located = t.located }

  -- LAW: the table that a reopening makes is the same
  newest-emptied : q.table ≡ table_of (files_in q.views)
  newest-emptied =
      e.table ∙ table-ext 0 0 p.table (table_of (files_in q.views)) (table-rising bounds p told s) (rising-table q.views) same
    where
      same : (x : ℕ) → lookup p.table x ≡ lookup (table_of (files_in q.views)) x
      same x =
          newest-one (Has (rows_of q.views) x) (lookup p.table x) (lookup (table_of (files_in q.views)) x)
          (distinct q.views q.records filed-emptied x)
          (newest-less (Has (rows_of p.views) x) (Has (rows_of q.views) x) (lookup p.table x)
          (λ l h. let z = has-stands q.views x l h in
          let t = z.1 in
          stands-has p.views x l z.0 (record { file = t.file; raw = t.raw; shows = (back z.0 t.file t.shows).0; entry = t.entry; located = t.located }))
          (λ l h. let z = table-stands bounds p told s x l h in stands-has q.views x l z.0 (stands-kept x l z.0 h z.1))
          (table-newest bounds p told s x))
          (newest-table q.views x)

  -- LAW: nothing else is said
  says-emptied : (x : ℕ) → picture_says q x ≡ picture_says p x
  unfolding picture_says
  says-emptied x = ap (λ (t : List Entry). held_says q (lookup t x) x) e.table ∙ go (lookup p.table x) refl
    where
      go : (o : Held) → lookup p.table x ≡ o → held_says q o x ≡ held_says p o x
      go None h = refl
      go (Some l) h =
          let z = table-stands bounds p told s x l h in
          let c = kept x l z.0 h z.1 in
          held_same q p l x (
          ap (λ (o : Slot). slot_says q o l x) (own-file q.views q.records filed-emptied x l z.0 (stands-kept x l z.0 h z.1))
          ∙ ap (λ (v : View). view_says v (position_of l - (record_at q.records z.0).label.lsn) x) c.0
          ∙ ap (λ (r : Record). view_says (view_at p.views z.0) (position_of l - r.label.lsn) x) c.1
          ∙ sym (ap (λ (o : Slot). slot_says p o l x) (own-file p.views p.records s.filed x l z.0 z.1)))

  -- LAW: the invariant after files of no live entry are removed
  pub sound-emptied : Sound bounds q told
  sound-emptied = record {
    filed = filed-emptied;
    whole = λ k f h. s.whole k f (back k f h).0;
    sized = e.sized ∙ s.sized;
    started = rw e.next s.started;
    above = λ k f h. rw e.next (s.above k f (back k f h).0);
    newest = newest-emptied;
    room = rw e.table s.room;
    narrow = rw e.table s.narrow;
    counted = λ k f h. ap (λ (r : Record). r.live) (back k f h).1 ∙ s.counted k f (back k f h).0 ∙ ap (λ (t : List Entry). mapped_into t f.label) (sym e.table);
    says = λ x. says-emptied x ∙ s.says x;
  }
