-- G: what an accepted reopening means, whoever wrote the files.
use Rattle.std.specs.Prelude.{◌≡◌, refl, ◌≤◌, ◌∷◌, Err, Ok}
use Rattle.std.proofs.Math.Path.{sym, ap, subst}
use Rattle.std.proofs.Common.{◌∙◌, true≢false, arith, ltb-false, eq-eqb}
use Rattle.rules.specs.Base.{Bool, true, false, List, [], ℕ, length, each}
use Rattle.theory.specs.Types.{Entry, Record, Refusal, Limits, Answer}
use Rattle.disk_location.proofs.LocationLaws.{masked-pos}
use Rattle.rules.specs.Refusal.{◌gives◌, decide, after, number_of, NoneHolds}
use Rattle.rules.proofs.RefusalLaws.{clear-when, none_first, none_rest}
use Rattle.rules.proofs.Answers.{known}
use Rattle.rules.specs.Condition1.{out_of_range}
use Rattle.rules.proofs.Condition1Laws.{in-limits}
use Rattle.rules.specs.SlotFile.{File, View, empty, damaged, holds, views_in, bytes_of_slot}
use Rattle.rules.specs.Table.{lookup}
use Rattle.rules.specs.TableLaws.{Has}
use Rattle.rules.proofs.TableLaws.{has-lookup}
use Rattle.rules.specs.Layout.{capacity_of, laid_out, used_entries}
use Rattle.rules.specs.LayoutLaws.{Used}
use Rattle.rules.proofs.LayoutLaws.{used-laid-out}
use Rattle.rules.specs.FileMap.{recorded, file_for}
use Rattle.rules.specs.Reopen.{view_tests, files_in, not_rising, table_of, reopen_tests, mapped_into, record_of, records_from, in_range, given_up, opened, reopen_call}
use Rattle.rules.proofs.ReopenLaws.{records-from-length}
use Rattle.rules.specs.World.{World, slots_of, accepted, After, unchanged}
use Rattle.theory.specs.Counting.{count}
use Rattle.theory.proofs.Counting.{count_same}
use Rattle.theory.specs.Newest.{masked_at, Newest}
use Rattle.theory.specs.Places.{view_at, rows_of, WellMade, Agrees, Filed}
use Rattle.theory.proofs.Places.{stands-has, has-stands, own-file, found-in-range, distinct, holds-lt}
use Rattle.rules.proofs.SlotLaws.{views-length, views-at}
use Rattle.rules.proofs.SeenLaws.{seen}
use Rattle.rules.specs.InstallLaws.{is_at}
use Rattle.theory.proofs.Files.{any-file, undamaged, overlap-apart, clear-single, next-above, record-from}
use Rattle.theory.specs.Picture.{views_of}
use Rattle.theory.proofs.Sound.{newest-table, rising-table}
use Rattle.theory.specs.Reopened.{Opened, Passed}

-- a refusal's number is not 0
pub refused-not : (r : Refusal) → number_of r ≡ 0 → ⊥
refused-not r e = true≢false (sym (eq-eqb (number_of r) 0 e) ∙ (known r).some)

tests-passed : (w : World) → out_of_range w.settings (length w.heap) w.table ≡ false → NoneHolds (reopen_tests w (views_of w))
    → reopen_call w ≡ opened w (views_of w) → Passed w
unfolding reopen_tests NoneHolds
tests-passed w l n e =
    let a = none_rest (each view_tests (views_of w)) _ n in
    record {
      limits = in-limits w.settings (length w.heap) w.table l;
      whole = undamaged (views_of w) (none_first (each view_tests (views_of w)) _ n);
      clear = a.0;
      once = a.1.0;
      room = ltb-false _ _ a.1.1.0;
      is = e;
    }

-- an accepted reopening went through all tests
pub passed : (w : World) → (reopen_call w).answer ≡ accepted [] → Passed w
unfolding reopen_call decide given_up
passed w h = go (out_of_range w.settings (length w.heap) w.table) refl h
  where
    go : (b : Bool) → out_of_range w.settings (length w.heap) w.table ≡ b
        → (after (decide (b gives Limits ∷ [])) (unchanged w) (after (decide (reopen_tests w (views_of w))) (given_up w) (opened w (views_of w)))).answer ≡ accepted []
        → Passed w
    go true l e = let z : ◌≡◌ {A = ℕ} 1 0 = ap (λ g. g.number) e in absurd (omega arith)
    go false l e = by (decide (reopen_tests w (views_of w))) refl e
      where
        by : (a : Answer) → decide (reopen_tests w (views_of w)) ≡ a → (after a (given_up w) (opened w (views_of w))).answer ≡ accepted [] → Passed w
        by (Err r) c e = absurd (refused-not r (ap (λ g. g.number) e))
        by (Ok _) c e = tests-passed w l (clear-when (reopen_tests w (views_of w)) c) (rw (l, c) refl)

-- a file that a slot of the heap shows is well made
pub shown-made : (n size : ℕ) (heap : List ℕ) (k : ℕ) (f : File) → view_at (views_in n size heap) k ≡ holds f → WellMade f
shown-made n size heap k f h =
    let l = holds-lt (views_in n size heap) k f h in
    let m = views-length n size heap in
    let e = views-at n size heap k (omega arith) in
    let s = seen (bytes_of_slot size heap k) f (sym e ∙ h) in
    let b = s.bounds in
    record { placed = b.masked; low = b.lsn; within = b.end; sized = b.offset; inside = λ x l h. (s.inside x l h).inside }

-- every entry of a table of well made files has a location
pub rows-used : (views : List View) → ((k : ℕ) (f : File) → view_at views k ≡ holds f → WellMade f) → Used (table_of (files_in views))
rows-used views made x l h =
    let n = subst (Newest (Has (rows_of views) x)) (has-lookup 0 (table_of (files_in views)) (rising-table views) x l h) (newest-table views x) in
    let z = has-stands views x l n.0 in
    let s = z.1 in
    let a = masked-pos s.file.label.lsn (made z.0 s.file s.shows).placed in
    let b = s.located in
    omega arith

module _ (w : World) (p : Passed w) where
  abbrev reopened_table : List Entry
  reopened_table = table_of (files_in (views_of w))

  abbrev reopened_records : List Record
  reopened_records = records_from (table_of (files_in (views_of w))) (views_of w)

  views-fit : length (views_of w) ≤ 256
  views-fit = let a = views-length (slots_of w) w.settings.slot_bytes w.heap in let b = p.limits.heap.most in omega arith

  made : (k : ℕ) (f : File) → view_at (views_of w) k ≡ holds f → WellMade f
  made = shown-made (slots_of w) w.settings.slot_bytes w.heap

  -- views and records tell of the same files
  pub filed-reopened : Filed (views_of w) (records_from (table_of (files_in (views_of w))) (views_of w))
  filed-reopened = record {
    fits = let a = records-from-length (table_of (files_in (views_of w))) (views_of w) views-fit in let b = views-fit in omega arith;
    agree = λ k. rw (record-from (table_of (files_in (views_of w))) (views_of w) k) (agrees k (view_at (views_of w) k) refl);
    made = made;
    single = λ k f h. clear-single f.entries (any-file (λ (g : File). not_rising g.entries) (views_of w) p.once k f h);
    apart = overlap-apart (views_of w) p.clear;
  }
    where
      agrees : (k : ℕ) (v : View) → view_at (views_of w) k ≡ v → Agrees v (record_of (table_of (files_in (views_of w))) v)
      agrees k empty e = refl
      agrees k (damaged r) e = p.whole k r e
      agrees k (holds f) e = (refl, omega arith)

  -- the ids mapped into a file's masked range are those whose location is looked up in it
  mapped-into : (k : ℕ) (f : File) → view_at (views_of w) k ≡ holds f → mapped_into (table_of (files_in (views_of w))) f.label
      ≡ count (λ (l : ℕ). is_at k (file_for (records_from (table_of (files_in (views_of w))) (views_of w)) l)) (table_of (files_in (views_of w)))
  unfolding mapped_into
  mapped-into k f h = count_same (λ (l : ℕ). in_range f.label (masked_at l)) (λ (l : ℕ). is_at k (file_for reopened_records l)) reopened_table each-one
    where
      each-one : (x l : ℕ) → Has (table_of (files_in (views_of w))) x l
          → in_range f.label (masked_at l) ≡ is_at k (file_for (records_from (table_of (files_in (views_of w))) (views_of w)) l)
      each-one x l a =
          let n = subst (Newest (Has (rows_of (views_of w)) x)) (has-lookup 0 (table_of (files_in (views_of w))) (rising-table (views_of w)) x l a) (newest-table (views_of w) x) in
          let z = has-stands (views_of w) x l n.0 in
          sym (found-in-range (views_of w) reopened_records filed-reopened x l z.0 k z.1 f h)

  opened-means : Opened w (opened w (views_of w)).world
  unfolding opened
  opened-means =
      let table : used_entries (laid_out (capacity_of w.table) (table_of (files_in (views_of w)))) ≡ table_of (files_in (views_of w))
      = used-laid-out (capacity_of w.table) (table_of (files_in (views_of w))) (rows-used (views_of w) made) in
      record {
        mentioned = λ x l h. has-stands (views_of w) x l (subst (Newest (Has (rows_of (views_of w)) x)) (sym (ap (λ (t : List Entry). lookup t x) table) ∙ h) (newest-table (views_of w) x)).0;
        greatest = λ x l m h s.
            (subst (Newest (Has (rows_of (views_of w)) x)) (sym (ap (λ (t : List Entry). lookup t x) table) ∙ h) (newest-table (views_of w) x)).1 m
            (stands-has (views_of w) x m s.0 s.1);
        one = λ x l m s t.
            distinct (views_of w) reopened_records filed-reopened x l m (stands-has (views_of w) x l s.0 s.1) (stands-has (views_of w) x m t.0 t.1);
        unmentioned = λ x l h s.
            subst (Newest (Has (rows_of (views_of w)) x)) (sym (ap (λ (t : List Entry). lookup t x) table) ∙ h) (newest-table (views_of w) x) l
            (stands-has (views_of w) x l s.0 s.1);
        found = λ x l k s. own-file (views_of w) reopened_records filed-reopened x l k s;
        labelled = λ k f h.
            let q = record-from reopened_table (views_of w) k ∙ ap (record_of reopened_table) h in
            q ∙ ap (λ (r : Record). recorded f.label r.live 1) (sym q);
        counted = λ k f h.
            ap (λ (r : Record). r.live) (record-from reopened_table (views_of w) k ∙ ap (record_of reopened_table) h)
            ∙ mapped-into k f h ∙ ap (count (λ (l : ℕ). is_at k (file_for reopened_records l))) (sym table);
        above = λ k f h. next-above (views_of w) k f h (made k f h);
      }

-- G: an accepted reopening maps each id to its entry of greatest masked position, and counts as live the ids mapped into each file
pub reopened-means : (w : World) → (reopen_call w).answer ≡ accepted [] → Opened w (reopen_call w).world
reopened-means w h = let p = passed w h in subst (λ (a : After). Opened w a.world) (sym p.is) (opened-means w p)
