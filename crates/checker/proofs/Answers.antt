-- The call's answer, by the paper's number and values.
use Rattle.std.specs.Prelude.{◌≡◌, true, false, Err, Ok}
use Rattle.std.proofs.Math.Path.{refl}
use Rattle.std.proofs.Common.{◌∙◌}
use Rattle.rules.specs.Base.{List, [], ℕ, length, map}
use Rattle.rules.proofs.RefusalLaws.{decide-none, decide-first, decide-next}
use Rattle.rules.specs.Settings.{slots_in}
use Rattle.rules.specs.SlotFile.{views_in}
use Rattle.rules.specs.Layout.{Table, capacity_of}
use Rattle.rules.specs.Condition1.{out_of_range}
use Rattle.faults.specs.Faults.{judged, faults_of, listing, check_call}
use Rattle.checker.specs.Types.{Settings, Limits}
use Rattle.checker.specs.Answers.{checked, list_of}

module _ (s : Settings) (heap : List ℕ) (table : Table) (words : List ℕ) where
  -- 1
  pub check-refused : out_of_range s (length heap) table ≡ true → checked (Err Limits) words ≡ check_call s heap table words
  unfolding check_call
  check-refused e = rw (decide-first (out_of_range s (length heap) table) Limits [] e)

  -- the list, and its number
  pub check-listed : out_of_range s (length heap) table ≡ false → (n : ℕ) (after : List ℕ)
      → let xs = list_of (capacity_of table) (map judged (views_in (slots_in s (length heap)) s.slot_bytes heap)) in
      n ≡ length xs → after ≡ listing xs words → checked (Ok n) after ≡ check_call s heap table words
  unfolding check_call faults_of
  check-listed e n last a b =
      let clear = decide-next (out_of_range s (length heap) table) Limits [] e ∙ decide-none in
      rw (clear, a, b) refl
