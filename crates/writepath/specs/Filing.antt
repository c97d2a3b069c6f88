-- A batch that makes a file: what is known of it, and what it leaves.
use Rattle.std.proofs.Math.Path.{◌≡◌, refl, sym, ap}
use Rattle.std.proofs.Common.{◌∙◌, arith}
use Rattle.std.proofs.Math.Logic.{⊎_elim}
use Rattle.std.specs.Prelude.{Option, Some, None, unwrap_or, Ok, Err, ◌≤◌, ◌<◌, ◌∷◌, ◌+◌, ◌^◌}
use Rattle.rules.specs.Base.{List, [], ℕ, length}
use Rattle.rules.specs.declared.Settings.{Settings}
use Rattle.rules.specs.declared.State.{State}
use Rattle.rules.specs.declared.Refusal.{Refusal}
use Rattle.rules.specs.Refusal.{decide}
use Rattle.rules.proofs.RefusalLaws.{done-or-refused, after-refused, after-done}
use Rattle.rules.specs.Settings.{slots_in}
use Rattle.rules.specs.Ops.{Op, objects_of, entries_of, file_bytes, settled}
use Rattle.rules.specs.Batch.{batch_in, ops_of}
use Rattle.rules.specs.Table.{insert_all}
use Rattle.rules.specs.Layout.{Table, used_entries, capacity_of}
use Rattle.rules.specs.FileMap.{lowest_empty}
use Rattle.rules.proofs.FileMapLaws.{lowest-empty}
use Rattle.rules.specs.Condition1Laws.{Passed}
use Rattle.rules.proofs.Condition1Laws.{passed}
use Rattle.rules.specs.Install.{installed, installed_all, new_slot}
use Rattle.rules.specs.Write.{write_tests, written, write_call}
use Rattle.rules.specs.WriteLaws.{Accepted}
use Rattle.rules.proofs.WriteLaws.{write-accepted}
use Rattle.rules.specs.World.{World, leaving, answer_given, accepted, unchanged}
use Rattle.batch.specs.Reading.{ops_in}
use Rattle.batch.specs.ReadingLaws.{ops-of}
use Rattle.batch_file.specs.Steps.{Sized}
use Rattle.write_decision.specs.Decisions.{Decision, filed, decision_of, decision-refused, decision-done}
use Rattle.write_decision.specs.declared.NewFile.{NewFile}

-- none of 1 to 7, and the batch is not empty
pub record Filed (s : Settings) (t : State) (heap : List ℕ) (b : Table) (bytes : List ℕ) (slot count total : ℕ) : Type 0 where
  pub limits : Passed s (length heap) b t
  pub sized : Sized bytes count total
  pub fits : 64 + length (file_bytes (settled (ops_in bytes))) ≤ s.slot_bytes
  pub lowest : slot ≡ lowest_empty (slots_in s (length heap)) t.files.records
  pub free : slot < slots_in s (length heap)
  pub ids : length (insert_all (used_entries b) (entries_of 0 (settled (ops_in bytes)))) ≤ capacity_of b
  pub last : t.next_position + (total + 1) ≤ 2 ^ 62

-- ---- what a decision says of the call
-- by what was decided
module _ (w : World) (bytes : List ℕ) where
  -- a refusal
  pub call-refused : (r : Refusal) → decision_of w bytes ≡ Err r → leaving (answer_given (Err r)) w ≡ write_call w bytes
  unfolding write_call
  call-refused r e = ⊎_elim
      (λ d. absurd (ok-kept (sym (decision-done w bytes d) ∙ e)))
      (λ d. let same : d.0 ≡ r = refusal-one (sym (decision-refused w bytes d.0 d.1) ∙ e) in
      sym (after-refused (decide (write_tests w bytes)) r (unchanged w) _ (d.1 ∙ ap Err same)))
      (done-or-refused (decide (write_tests w bytes)))
    where
      ok-kept : {f : Option NewFile} → ◌≡◌ {A = Decision} (Ok f) (Err r) → ⊥
      ok-kept e = let z : ◌≡◌ {A = ℕ} 0 1 = cc in omega arith

      refusal-one : {q : Refusal} → ◌≡◌ {A = Decision} (Err q) (Err r) → q ≡ r
      refusal-one e = cc

  -- any other decision: no refusal was given
  accepted-when : (p : Decision) → decision_of w bytes ≡ p → ((r : Refusal) → p ≡ Err r → ⊥) → decide (write_tests w bytes) ≡ Ok tt
  accepted-when p e n = ⊎_elim (λ d. d) (λ d. absurd (n d.0 (sym e ∙ decision-refused w bytes d.0 d.1))) (done-or-refused (decide (write_tests w bytes)))

  -- so the call does what it says
  call-done : decide (write_tests w bytes) ≡ Ok tt → leaving (accepted []) (written w (settled (ops_of (batch_in bytes)))) ≡ write_call w bytes
  unfolding write_call
  call-done d = sym (after-done (decide (write_tests w bytes)) (unchanged w) _ d)

  -- "An empty batch succeeds and changes nothing."
  pub call_kept : decision_of w bytes ≡ Ok None → leaving (answer_given (Ok tt)) w ≡ write_call w bytes
  unfolding written installed_all
  call_kept e =
      let d = accepted-when (Ok None) e (λ r q. let z : ◌≡◌ {A = ℕ} 0 1 = cc in omega arith) in
      ap (leaving (accepted [])) (sym (none (settled (ops_of (batch_in bytes))) (sym (decision-done w bytes d) ∙ e))) ∙ call-done d
    where
      none : (ops : List Op) → ◌≡◌ {A = Decision} (Ok (filed (new_slot w) ops)) (Ok None) → written w ops ≡ w
      none [] e = refl
      none (o ∷ os) e = absurd (let z : ◌≡◌ {A = ℕ} 0 1 = cc in omega arith)

  module _ (f : NewFile) (e : decision_of w bytes ≡ Ok (Some f)) where
    -- no refusal was given
    done : decide (write_tests w bytes) ≡ Ok tt
    done = accepted-when (Ok (Some f)) e (λ r q. let z : ◌≡◌ {A = ℕ} 0 1 = cc in omega arith)

    -- so this is known
    knows : Accepted w bytes
    knows = write-accepted w bytes done

    -- of the operations of the walk
    same : settled (ops_of (batch_in bytes)) ≡ settled (ops_in bytes)
    same = ap settled (ops-of bytes knows.parsed)

    -- which say the decision
    shown : filed (new_slot w) (settled (ops_in bytes)) ≡ Some f
    shown = ap (filed (new_slot w)) (sym same) ∙ file-one (sym (decision-done w bytes done) ∙ e)
      where
        file-one : {g h : Option NewFile} → ◌≡◌ {A = Decision} (Ok g) (Ok h) → g ≡ h
        file-one e = cc

    -- a file
    pub call-written : (after : World) → after ≡ installed (2 ^ 62) 0 w (settled (ops_in bytes)) → leaving (answer_given (Ok tt)) after ≡ write_call w bytes
    unfolding written installed_all
    call-written after h = ap (leaving (accepted [])) (h ∙ sym (one (settled (ops_in bytes)) shown) ∙ ap (written w) (sym same)) ∙ call-done done
      where
        one : (ops : List Op) → filed (new_slot w) ops ≡ Some f → written w ops ≡ installed (2 ^ 62) 0 w ops
        one [] q = absurd (let z : ◌≡◌ {A = ℕ} 0 1 = cc in omega arith)
        one (o ∷ os) q = refl

    -- its numbers
    numbers : (ops : List Op) → filed (new_slot w) ops ≡ Some f → (f.slot ≡ new_slot w) × (f.count ≡ length ops) × (f.total ≡ length (objects_of ops)) × (0 < length ops)
    numbers [] q = absurd (let z : ◌≡◌ {A = ℕ} 0 1 = cc in omega arith)
    numbers (o ∷ os) q =
        let file : Option NewFile → NewFile = λ g. unwrap_or g f in
        (ap (λ (g : Option NewFile). (file g).slot) (sym q), ap (λ (g : Option NewFile). (file g).count) (sym q), ap (λ (g : Option NewFile). (file g).total) (sym q), omega arith)

    -- and what is known of it
    pub decision-filed : Filed w.settings w.state w.heap w.table bytes f.slot f.count f.total
    decision-filed =
        let told = numbers (settled (ops_in bytes)) shown in
        let some : 0 < length (settled (ops_of (batch_in bytes))) = rw same told.3 in
        let limits = passed w.settings (length w.heap) w.table w.state knows.passed in
        let fits : 64 + length (file_bytes (settled (ops_in bytes))) ≤ w.settings.slot_bytes = rw (← same) (knows.fits some) in
        let last : w.state.next_position + (length (objects_of (settled (ops_in bytes))) + 1) ≤ 2 ^ 62 = rw (← same) (knows.last some) in
        let low = lowest-empty (slots_in w.settings (length w.heap)) w.state.files.records (knows.slot some) in
        record {
          limits = limits;
          sized = record { entries = told.1; objects = told.2; small = omega (arith, told.2, last) };
          fits = fits;
          lowest = told.0;
          free = omega (arith, told.0, low.place);
          ids = rw (← same) knows.ids;
          last = omega (arith, told.2, last);
        }
