-- Reopening a store of the invariant: accepted, with the same table, records and live counts, every file's mark set, and a next position
-- above every file.
use Rattle.std.specs.Prelude.{◌≡◌, refl, ◌≤◌, None, Some}
use Rattle.std.proofs.Common.{sym, ap, ◌∙◌, subst, arith, ext_get_or}
use Rattle.std.proofs.lemmas.List.{length-map}
use Rattle.disk_location.proofs.LocationLaws.{masked-pos}
use borrow.Author.Tests.{le-ltb}
use Rattle.rules.specs.Base.{List, [], ℕ, length, each}
use Rattle.theory.specs.Types.{Label, Record, Entry, Held, Slot}
use Rattle.rules.specs.Refusal.{decide, NoneHolds}
use Rattle.rules.proofs.RefusalLaws.{decide-clear, none-append}
use Rattle.rules.proofs.Condition1Laws.{limits-in}
use Rattle.rules.specs.SlotFile.{File, View, empty, damaged, holds}
use Rattle.rules.specs.Table.{lookup}
use Rattle.rules.specs.Layout.{capacity_of, laid_out}
use Rattle.rules.proofs.LayoutLaws.{laid-out-used}
use Rattle.rules.specs.FileMap.{recorded, empty_record, record_at, file_for}
use Rattle.rules.proofs.FileMapLaws.{not-empty}
use Rattle.rules.specs.Sync.{marked, marked_all}
use Rattle.rules.specs.Claims.{no_claims}
use Rattle.rules.specs.Reopen.{view_tests, files_in, not_rising, table_of, reopen_tests, mapped_into, record_of, records_from, next_after, opened, reopen_call}
use Rattle.rules.proofs.ReopenLaws.{records-from-length}
use Rattle.rules.specs.World.{World, records_of, accepted}
use Rattle.theory.specs.Places.{view_at}
use Rattle.theory.proofs.Places.{record-holds, mark-fits, record-empty, no-damage}
use Rattle.theory.specs.Marks.{marked_picture}
use Rattle.theory.proofs.Marks.{marked_empty, marked-set, marked-at, sound-marked}
use Rattle.theory.proofs.Files.{no-file, no-damage-tests, no-overlap, next-positive, next-above, record-from}
use Rattle.theory.specs.Picture.{Picture, views_of, picture_of, Said, slot_says, held_says, picture_says}
use Rattle.theory.proofs.Says.{held_same}
use Rattle.theory.specs.SoundWorld.{bounds_of, SoundWorld}
use Rattle.history_theory.specs.Again.{again}

-- what is said does not hang on the next position
says-next : (p : Picture) (n x : ℕ) → picture_says (record { views = p.views; records = p.records; table = p.table; next = n }) x ≡ picture_says p x
unfolding picture_says
says-next p n x = held (lookup p.table x)
  where
    found : (o : Slot) (l : ℕ) → slot_says (record { views = p.views; records = p.records; table = p.table; next = n }) o l x ≡ slot_says p o l x
    found None l = refl
    found (Some k) l = refl

    held : (o : Held) → held_says (record { views = p.views; records = p.records; table = p.table; next = n }) o x ≡ held_says p o x
    held None = refl
    held (Some l) = held_same (record { views = p.views; records = p.records; table = p.table; next = n }) p l x (found (file_for p.records l) l)

module _ (w : World) (told : ℕ → Said) (s : SoundWorld w told) where
  fits : length (views_of w) ≤ 256
  fits = let a = s.sound.filed.fits in let b = s.sound.sized in omega arith

  -- LAW: each record and live count is found again, with the mark set
  records-again : records_from (table_of (files_in (views_of w))) (views_of w) ≡ marked_all (records_of w)
  records-again =
      ext_get_or empty_record (records_from (table_of (files_in (views_of w))) (views_of w)) (marked_all (records_of w))
      (records-from-length (table_of (files_in (views_of w))) (views_of w) fits ∙ sym s.sound.sized ∙ sym (length-map (records_of w) marked))
      (λ k h. record-from (table_of (files_in (views_of w))) (views_of w) k ∙ go k (view_at (views_of w) k) refl ∙ sym (marked-at (records_of w) k))
    where
      go : (k : ℕ) (v : View) → view_at (views_of w) k ≡ v → record_of (table_of (files_in (views_of w))) v ≡ marked (record_at (records_of w) k)
      go k empty e = sym (ap marked (record-empty (views_of w) (records_of w) s.sound.filed k e) ∙ marked_empty)
      go k (damaged r) e = absurd (no-damage (views_of w) (records_of w) s.sound.filed k r e)
      go k (holds f) e =
          let q = record-holds (views_of w) (records_of w) s.sound.filed k f e in
          let l : (record_at (records_of w) k).label.lsn ≡ f.label.lsn = ap (λ (r : Record). r.label.lsn) q in
          let a = masked-pos f.label.lsn (s.sound.filed.made k f e).placed in
          ap (λ (t : List Entry). recorded f.label (mapped_into t f.label) 1) (sym s.sound.newest)
          ∙ ap (λ (n : ℕ). recorded f.label n 1) (sym (s.sound.counted k f e))
          ∙ ap (λ (c : Label). recorded c (record_at (records_of w) k).live 1) (sym (ap (λ (r : Record). r.label) q))
          ∙ sym (marked-set (record_at (records_of w) k) (not-empty (record_at (records_of w) k) (omega arith))
          (mark-fits (views_of w) (records_of w) s.sound.filed k f e))

  -- LAW: each id's location is found again, in the same buffer
  table-again : laid_out (capacity_of w.table) (table_of (files_in (views_of w))) ≡ w.table
  table-again =
      ap (laid_out (capacity_of w.table)) (sym s.sound.newest) ∙ laid-out-used w.table s.tidy.form s.tidy.limits.table.even

  tests-clear : NoneHolds (reopen_tests w (views_of w))
  unfolding reopen_tests NoneHolds
  tests-clear =
      none-append (each view_tests (views_of w)) _ (no-damage-tests (views_of w) (no-damage (views_of w) (records_of w) s.sound.filed)) (
        no-overlap (views_of w) s.sound.filed.apart,
        (
          no-file (λ (f : File). not_rising f.entries) (views_of w) (λ k f h. (s.sound.whole k f h).repeats),
          (
            le-ltb (capacity_of w.table) (length (table_of (files_in (views_of w)))) (subst (λ (t : List Entry). length t ≤ capacity_of w.table) s.sound.newest s.sound.room),
            tt,
          ),
        ),
      )

  opened-again : opened w (views_of w) ≡ record { answer = accepted []; world = again w }
  unfolding opened
  opened-again = λ i. record {
    answer = accepted [];
    world = record {
      settings = w.settings;
      state = record {
        settings = s.tidy.settings i;
        heap_len = s.tidy.heap_len i;
        table_len = s.tidy.table-len i;
        files = record { records = records-again i };
        next_position = next_after (files_in (views_of w));
      };
      claims = no_claims;
      heap = w.heap;
      table = table-again i;
    };
  }

  -- LAW: a reopening is accepted, and finds the store as it was
  pub reopen-accepted : reopen_call w ≡ record { answer = accepted []; world = again w }
  unfolding reopen_call decide
  reopen-accepted =
      rw (limits-in w.settings (length w.heap) w.table s.tidy.limits, decide-clear (reopen_tests w (views_of w)) tests-clear) opened-again

  -- LAW: the invariant after a reopening
  pub sound-again : SoundWorld (again w) told
  sound-again =
      let t = s.tidy in
      let p = sound-marked (bounds_of w) (picture_of w) told s.sound in
      record {
        tidy = record { limits = t.limits; settings = t.settings; heap_len = t.heap_len; table-len = t.table-len; form = t.form };
        sound = record {
          filed = p.filed;
          whole = p.whole;
          sized = p.sized;
          started = next-positive (views_of w);
          above = λ k f h. next-above (views_of w) k f h (p.filed.made k f h);
          newest = p.newest;
          room = p.room;
          narrow = p.narrow;
          counted = p.counted;
          says = λ x. says-next (marked_picture (picture_of w)) (next_after (files_in (views_of w))) x ∙ p.says x;
        };
      }
