-- N: a heap whose slots all begin with byte 0 reopens with no file and next position 1, and the invariant holds.
use Rattle.std.proofs.Math.Path.{◌≡◌, refl, sym, ap}
use Rattle.std.proofs.Common.{◌∙◌, subst, add-zero, get_or-take}
use Prim.Native.Nat.{◌≤◌, zero-le}
use native.Mathlib.Omega.{arith}
use Rattle.std.proofs.Math.ListN.{length-replicate, get_or-eq_default}
use Rattle.std.proofs.Math.Seq.{ext_get_or, get_or-drop}
use borrow.Author.Tests.{eq-eqb, ltb-true, ltb-false, le-ltb}
use Rattle.std.specs.Prelude.{◌∷◌, ◌*◌}
use Rattle.rules.specs.Base.{Bool, true, false, List, [], ℕ, suc, length, get_or, take, drop, replicate, ltb, any, each, greatest}
use Rattle.theory.specs.Types.{Entry, Refusal}
use Rattle.rules.specs.Refusal.{decide, NoneHolds}
use Rattle.rules.proofs.RefusalLaws.{decide-clear, none-append}
use Rattle.rules.specs.Condition1.{out_of_range}
use Rattle.rules.specs.Condition1Laws.{InLimits}
use Rattle.rules.proofs.Condition1Laws.{in-limits}
use Rattle.rules.specs.Label.{label_in}
use Rattle.rules.specs.SlotFile.{bytes_of_slot, File, View, empty, damaged, holds, view_in}
use Rattle.rules.proofs.SlotLaws.{views-length, views-at}
use Rattle.rules.specs.SettledLaws.{last_on}
use Rattle.rules.specs.Table.{lookup}
use Rattle.rules.specs.TableLaws.{rise-end, Has}
use Rattle.rules.specs.Layout.{capacity_of, laid_out, used_entries}
use Rattle.rules.proofs.LayoutLaws.{laid-out-capacity, laid-out-even, used-laid-out, form-laid-out}
use Rattle.rules.specs.FileMap.{empty_record, no_files}
use Rattle.rules.specs.Claims.{no_claims}
use Rattle.rules.specs.Reopen.{view_tests, files_in, overlapping, not_rising, latest_from, table_of, reopen_tests, record_of, records_from, next_after, state_of, opened, reopen_call}
use Rattle.rules.proofs.ReopenLaws.{records-from-length}
use Rattle.rules.specs.World.{World, slots_of, accepted}
use Rattle.rules.proofs.BaseLaws.{replicate-at}
use Rattle.theory.specs.Places.{view_at}
use Rattle.theory.proofs.Places.{not-empty}
use Rattle.theory.proofs.Files.{no-damage-tests, record-from}
use Rattle.theory.specs.Picture.{views_of, picture_of, held_says, picture_says}
use Rattle.theory.specs.SoundWorld.{SoundWorld}
use Rattle.history_theory.specs.Writing.{engine}
use Rattle.history_theory.specs.Fresh.{Blank, fresh}

-- "First byte 0 means the slot is empty, whatever follows."
pub blank-view : (slot : List ℕ) → get_or slot 0 0 ≡ 0 → view_in slot ≡ empty
unfolding view_in label_in
blank-view slot h = let z : get_or (take 64 slot) 0 0 ≡ 0 = get_or-take 64 slot 0 0 (omega arith) ∙ h in rw (eq-eqb (get_or (take 64 slot) 0 0) 0 z) refl

no-files : (vs : List View) → ((k : ℕ) → view_at vs k ≡ empty) → files_in vs ≡ []
unfolding files_in each
no-files [] h = refl
no-files (empty ∷ vs) h = no-files vs (λ k. h (suc k))
no-files (damaged r ∷ vs) h = absurd (let e = h 0 in let z : ◌≡◌ {A = ℕ} 0 1 = cc in omega arith)
no-files (holds f ∷ vs) h = absurd (not-empty (sym (h 0)))

module _ (w : World) (range : out_of_range w.settings (length w.heap) w.table ≡ false) (blank : Blank w) where
  limits : InLimits w.settings (length w.heap) w.table
  limits = in-limits w.settings (length w.heap) w.table range

  -- no slot shows a file
  pub views-blank : (k : ℕ) → view_at (views_of w) k ≡ empty
  unfolding bytes_of_slot
  views-blank k = go (ltb k (slots_of w)) refl
    where
      go : (b : Bool) → ltb k (slots_of w) ≡ b → view_at (views_of w) k ≡ empty
      go true h =
          let i = ltb-true k (slots_of w) h in
          let s = limits.settings.slot-low in
          let d = drop (k * w.settings.slot_bytes) w.heap in
          views-at (slots_of w) w.settings.slot_bytes w.heap k i
          ∙ blank-view (bytes_of_slot w.settings.slot_bytes w.heap k)
          (get_or-take w.settings.slot_bytes d 0 0 (omega arith) ∙ get_or-drop (k * w.settings.slot_bytes) w.heap 0 0
          ∙ ap (λ (n : ℕ). get_or w.heap n 0) (add-zero (k * w.settings.slot_bytes)) ∙ blank k i)
      go false h =
          let i = ltb-false k (slots_of w) h in
          let n = views-length (slots_of w) w.settings.slot_bytes w.heap in
          get_or-eq_default (views_of w) empty {n = k} (omega arith)

  none : files_in (views_of w) ≡ []
  none = no-files (views_of w) views-blank

  no_table : table_of (files_in (views_of w)) ≡ []
  unfolding table_of latest_from each
  no_table = ap table_of none

  no-records : records_from (table_of (files_in (views_of w))) (views_of w) ≡ no_files
  unfolding no_files
  no-records =
      ext_get_or empty_record (records_from (table_of (files_in (views_of w))) (views_of w)) (replicate 256 empty_record)
      (records-from-length (table_of (files_in (views_of w))) (views_of w) fits ∙ sym (length-replicate 256 empty_record))
      (λ k h. record-from (table_of (files_in (views_of w))) (views_of w) k ∙ ap (record_of (table_of (files_in (views_of w)))) (views-blank k) ∙ sym (replicate-at 256 k empty_record))
    where
      fits : length (views_of w) ≤ 256
      fits = let a = views-length (slots_of w) w.settings.slot_bytes w.heap in let b = limits.heap.most in omega arith

  tests-clear : NoneHolds (reopen_tests w (views_of w))
  unfolding reopen_tests NoneHolds overlapping any
  tests-clear =
      none-append (each view_tests (views_of w)) _ (no-damage-tests (views_of w) (λ k r e. damage (sym (views-blank k) ∙ e))) (
        ap overlapping none,
        (ap (any (λ (f : File). not_rising f.entries)) none, (ap (λ (t : List Entry). ltb (capacity_of w.table) (length t)) no_table ∙ le-ltb (capacity_of w.table) 0 zero-le, tt)),
      )
    where
      damage : {r : Refusal} → empty ≡ damaged r → ⊥
      damage e = let z : ◌≡◌ {A = ℕ} 0 1 = cc in omega arith

  opened-fresh : opened w (views_of w) ≡ record { answer = accepted []; world = fresh w }
  unfolding opened next_after greatest
  opened-fresh = λ i. record {
    answer = accepted [];
    world = record {
      settings = w.settings;
      state = state_of w (no-records i) (ap next_after none i);
      claims = no_claims;
      heap = w.heap;
      table = laid_out (capacity_of w.table) (no_table i);
    };
  }

  -- LAW: it is accepted, with no file and next position 1
  pub fresh-opens : reopen_call w ≡ record { answer = accepted []; world = fresh w }
  unfolding reopen_call decide
  fresh-opens = rw (range, decide-clear (reopen_tests w (views_of w)) tests-clear) opened-fresh

  no-entries : used_entries (laid_out (capacity_of w.table) []) ≡ []
  no-entries = used-laid-out (capacity_of w.table) [] (λ x l h. absurd h)

  -- LAW: the invariant holds, and nothing was heard
  pub sound-fresh : SoundWorld (fresh w) (engine [])
  unfolding last_on picture_says lookup no_files
  sound-fresh =
      let a = laid-out-capacity (capacity_of w.table) [] zero-le in
      let b = laid-out-even (capacity_of w.table) [] zero-le in
      let lo = limits.table.some in
      let hi = limits.table.most in
      let no : (k : ℕ) (f : File) → view_at (views_of w) k ≡ holds f → ⊥ = λ k f e. not-empty (sym (views-blank k) ∙ e) in
      record {
        tidy = record {
          limits = record { settings = limits.settings; heap = limits.heap; table = record { even = b; some = omega arith; most = omega arith } };
          settings = refl;
          heap_len = refl;
          table-len = a;
          form = form-laid-out (capacity_of w.table) [] (λ x l h. absurd h) rise-end;
        };
        sound = record {
          filed = record {
            fits = let n = views-length (slots_of w) w.settings.slot_bytes w.heap in let m = limits.heap.most in let r = length-replicate 256 empty_record in omega arith;
            agree = λ k. rw (views-blank k) (replicate-at 256 k empty_record);
            made = λ k f e. absurd (no k f e);
            single = λ k f e. absurd (no k f e);
            apart = λ j k f g e. absurd (no j f e);
          };
          whole = λ k f e. absurd (no k f e);
          sized = length-replicate 256 empty_record;
          started = omega arith;
          above = λ k f e. absurd (no k f e);
          newest = no-entries ∙ sym no_table;
          room = rw no-entries zero-le;
          narrow = λ x l h. absurd (subst (λ (t : List Entry). Has t x l) no-entries h);
          counted = λ k f e. absurd (no k f e);
          says = λ x. ap (λ (t : List Entry). held_says (picture_of (fresh w)) (lookup t x) x) no-entries;
        };
      }
