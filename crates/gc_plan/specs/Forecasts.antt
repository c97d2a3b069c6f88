-- What is foretold group by group, as the code keeps it, and that it is what the definitions foretell.
use Rattle.std.specs.Prelude.{◌≡◌, ◌≤◌, ◌<◌, ◌∷◌, ◌++◌, ◌+◌, ◌-◌, ◌*◌, ◌^◌, Err, Ok, Option, Some, None}
use Rattle.std.proofs.Math.Path.{refl, sym, ap}
use Rattle.std.proofs.Common.{◌∙◌, true≢false, arith, lt-ltb, le-ltb}
use Rattle.rules.specs.Base.{Bool, true, false, List, [], ℕ, length, ltb, pick, sum}
use Rattle.rules.specs.BaseLaws.{All}
use Rattle.rules.specs.declared.Settings.{Settings}
use Rattle.rules.specs.declared.Refusal.{Refusal}
use Rattle.rules.specs.Types.{Answer}
use Rattle.rules.specs.SettingsLaws.{InRanges}
use Rattle.rules.specs.Refusal.{Test, decide, after}
use Rattle.rules.specs.Ops.{Op, file_bytes}
use Rattle.rules.specs.Install.{empty_of, room_tests, position_tests}
use Rattle.rules.specs.Maintenance.{going, stopped, group, found, files_of, source_tests}
use Rattle.rules.specs.TwoCalls as calls
use Rattle.rules.specs.TwoCalls.{mark_of, count_of, positions_in, foretold_tests, foretold, foretelling}
use Rattle.rules.specs.World.{World}
use Rattle.gc_group.specs.Source.{Source, source_in}
use Rattle.gc_split.specs.declared.Totals.{Totals}
use Rattle.gc_split.specs.Tally.{totals_for}
use Rattle.gc_course.specs.declared.Halt.{Halt}
use Rattle.gc_course.specs.Runs.{is_going, stop_of}
use Rattle.gc_decision.specs.Decisions.{ops_in, out_of, totals_in, decision_tests, decision-world, decision-fits, totals-world}
use Rattle.gc_decision.specs.Sizes.{total-bytes}
use Rattle.gc_plan.specs.declared.Forecast.{Forecast}

-- the bytes of file_size of a group's files: T, 12, and 16 for each entry
abbrev pub bytes_by : Totals → ℕ
bytes_by t = t.positions + 11 * t.files + 16 * t.entries

-- what is foretold after a group that nothing refuses: "slots used and the base grow from group to group"
abbrev pub joined_with : Totals → Forecast → Forecast
joined_with t f = record {
  halt = None;
  files = f.files + t.files;
  bytes = f.bytes + bytes_by t;
  room = record { empty = f.room.empty - t.files; base = f.room.base + t.positions };
}

-- what is foretold after a group
abbrev pub joined_by : ℕ → Totals → Forecast → Answer → Forecast
joined_by generation t f (Err r) = record { halt = Some (record { refusal = r; generation = generation }); files = f.files; bytes = f.bytes; room = f.room }
joined_by generation t f (Ok _) = joined_with t f

-- a group's tests as the code takes them, by what room is left
abbrev pub tests_left : Settings → Source → List ℕ → Forecast → List Test
tests_left s source slots f = decision_tests s source slots f.room.empty f.room.base

-- a group foretold: nothing more once one is refused; one of too few files is passed over
unfoldable pub foretold_by : Settings → Source → ℕ → List ℕ → Forecast → Option Halt → Forecast
foretold_by s source generation slots f (Some h) = f
foretold_by s source generation slots f None =
    pick (ltb (length slots) s.min_compaction_files) f (joined_by generation (totals_in s source slots) f (decide (tests_left s source slots f)))

-- ---- in the steps that code takes
module _ (s : Settings) (source : Source) (generation : ℕ) (slots : List ℕ) (f : Forecast) where
  -- nothing more once a group is refused
  pub foretold-halted : is_going f.halt ≡ false → f ≡ foretold_by s source generation slots f f.halt
  unfolding foretold_by
  foretold-halted e = go f.halt e
    where
      go : (h : Option Halt) → is_going h ≡ false → f ≡ foretold_by s source generation slots f h
      go None e = absurd (true≢false e)
      go (Some h) e = refl

  -- none was refused: by the group's files
  going-by : is_going f.halt ≡ true → foretold_by s source generation slots f None ≡ foretold_by s source generation slots f f.halt
  going-by e = go f.halt e
    where
      go : (h : Option Halt) → is_going h ≡ true → foretold_by s source generation slots f None ≡ foretold_by s source generation slots f h
      go None e = refl
      go (Some h) e = absurd (true≢false (sym e))

  -- too few
  pub foretold-few : is_going f.halt ≡ true → length slots < s.min_compaction_files → f ≡ foretold_by s source generation slots f f.halt
  unfolding foretold_by
  foretold-few e h = rw (lt-ltb (length slots) s.min_compaction_files h) at (going-by e)

  -- enough: as they are decided
  pub foretold-group : is_going f.halt ≡ true → s.min_compaction_files ≤ length slots
      → (a : Answer) (t : Totals) → a ≡ decide (tests_left s source slots f) → (a ≡ Ok tt → t ≡ totals_in s source slots)
      → joined_by generation t f a ≡ foretold_by s source generation slots f f.halt
  unfolding foretold_by
  foretold-group e h a t q told =
      totals a told
      ∙ ap (joined_by generation (totals_in s source slots) f) q
      ∙ (rw (le-ltb (length slots) s.min_compaction_files h) at (going-by e))
    where
      totals : (a : Answer) → (a ≡ Ok tt → t ≡ totals_in s source slots) → joined_by generation t f a ≡ joined_by generation (totals_in s source slots) f a
      totals (Err r) told = refl
      totals (Ok _) told = ap (λ (u : Totals). joined_by generation u f (Ok tt)) (told refl)

-- ---- bounds
-- the files take empty slots, and each a slot's bytes at most; the base is a number of the code
pub record Within (f : Forecast) : Type 0 where
  pub slots : f.files + f.room.empty ≤ 256
  pub bytes : f.bytes ≤ 1048576 * f.files
  pub last : f.room.base < 2 ^ 64

-- what 4, 5 and 7 leave of a group's totals
pub record Fits (t : Totals) (f : Forecast) : Type 0 where
  pub slots : t.files ≤ f.room.empty
  pub positions : f.room.base + t.positions < 2 ^ 64
  pub bytes : bytes_by t ≤ 1048576 * t.files

-- files that each fit a slot
sum_fits : (size : ℕ) → size ≤ 1048576 → (files : List (List Op)) → All (λ (ops : List Op). 64 + length (file_bytes ops) ≤ size) files
    → sum (λ (ops : List Op). length (file_bytes ops)) files ≤ 1048576 * length files
unfolding sum
sum_fits size h [] a = omega arith
sum_fits size h (ops ∷ files) a = omega (arith, h, a.0, sum_fits size h files a.1)

-- the totals' bytes are those of the files
bytes-are : (s : Settings) (source : Source) (slots : List ℕ)
    → bytes_by (totals_in s source slots) ≡ sum (λ (ops : List Op). length (file_bytes ops)) (out_of s source slots)
unfolding totals_in totals_for
bytes-are s source slots = sym (total-bytes s.target_file_size s.slot_bytes (ops_in source slots))

-- no file, no position; else 7 bounds them
last-position : (base : ℕ) (files : List (List Op)) → base < 2 ^ 64 → (0 < length files → base + positions_in files ≤ 2 ^ 62) → base + positions_in files < 2 ^ 64
unfolding sum
last-position base [] low h = omega arith
last-position base (ops ∷ files) low h = omega (arith, h (omega arith))

module _ (s : Settings) (source : Source) (slots : List ℕ) (f : Forecast) (ranges : InRanges s) (b : Within f) where
  -- a group that is not refused fits
  pub fits-done : decide (tests_left s source slots f) ≡ Ok tt → Fits (totals_in s source slots) f
  unfolding totals_in totals_for
  fits-done e =
      let files = out_of s source slots in
      let fit = decision-fits s source slots f.room.empty f.room.base e in
      record {
        slots = fit.room.slots;
        positions = last-position f.room.base files b.last fit.positions;
        bytes = omega (arith, bytes-are s source slots, sum_fits s.slot_bytes ranges.slot-high files fit.room.fits);
      }

-- ---- in a call's world
-- the same as the definitions have it: positions are what the base grew by
abbrev pub forecast_in : World → Forecast → calls.Forecast
forecast_in w f = record { stop = stop_of f.halt; files = f.files; bytes = f.bytes; positions = f.room.base - mark_of w }

-- what is left of the world's own room
pub record Standing (w : World) (f : Forecast) : Type 0 where
  pub bounds : Within f
  pub slots : f.files + f.room.empty ≡ empty_of w
  pub base : mark_of w ≤ f.room.base

-- as the plan starts
pub standing-start : (w : World) → empty_of w ≤ 256 → mark_of w < 2 ^ 64 → Standing w (record { halt = None; files = 0; bytes = 0; room = record { empty = empty_of w; base = mark_of w } })
standing-start w few low = record { bounds = record { slots = omega (arith, few); bytes = omega arith; last = low }; slots = omega arith; base = omega arith }

module _ (w : World) (generation : ℕ) (slots : List ℕ) (f : Forecast) (here : Standing w f) where
  -- a group's tests
  tests-are : tests_left w.settings (source_in w) slots f
      ≡ foretold_tests w (forecast_in w f) slots (files_of w.settings.target_file_size (found w slots))
  unfolding foretold_tests
  tests-are =
      let files = files_of w.settings.target_file_size (found w slots) in
      let empty : f.room.empty ≡ empty_of w - f.files = omega (arith, here.slots) in
      let base : f.room.base ≡ mark_of w + (f.room.base - mark_of w) = omega (arith, here.base) in
      decision-world w slots f.room.empty f.room.base
      ∙ ap (λ (n : ℕ). source_tests w slots ++ (room_tests w.settings.slot_bytes n files ++ position_tests f.room.base files)) empty
      ∙ ap (λ (n : ℕ). source_tests w slots ++ (room_tests w.settings.slot_bytes (empty_of w - f.files) files ++ position_tests n files)) base

  -- what a group that is not refused adds
  done-is : let files = files_of w.settings.target_file_size (found w slots) in
      forecast_in w (joined_by generation (totals_in w.settings (source_in w) slots) f (Ok tt)) ≡ record {
        stop = going;
        files = f.files + length files;
        bytes = f.bytes + sum (λ (ops : List Op). length (file_bytes ops)) files;
        positions = f.room.base - mark_of w + positions_in files;
      }
  unfolding totals_for
  done-is =
      let files = files_of w.settings.target_file_size (found w slots) in
      let t = totals_in w.settings (source_in w) slots in
      let same : t ≡ totals_for w.settings.slot_bytes (length (found w slots)) files = totals-world w slots in
      let count : t.files ≡ length files = ap (λ (u : Totals). u.files) same in
      let bytes : bytes_by t ≡ sum (λ (ops : List Op). length (file_bytes ops)) files = ap bytes_by same ∙ sym (total-bytes w.settings.target_file_size w.settings.slot_bytes (found w slots)) in
      let positions : t.positions ≡ positions_in files = ap (λ (u : Totals). u.positions) same in
      let grown : f.room.base + t.positions - mark_of w ≡ f.room.base - mark_of w + positions_in files = omega (arith, positions, here.base) in
      λ i. record { stop = going; files = f.files + count i; bytes = f.bytes + bytes i; positions = grown i }

  -- a group foretold is the definition's
  pub foretold-is : slots ≡ group w generation (mark_of w) (count_of w)
      → forecast_in w (foretold_by w.settings (source_in w) generation slots f f.halt) ≡ foretelling (stop_of f.halt) w generation (forecast_in w f)
  unfolding foretold_by foretold
  foretold-is e = go f.halt
    where
      files : List (List Op)
      files = files_of w.settings.target_file_size (found w slots)

      by : (a : Answer) → forecast_in w (joined_by generation (totals_in w.settings (source_in w) slots) f a)
          ≡ after a (λ (r : Refusal). record { stop = stopped r generation; files = f.files; bytes = f.bytes; positions = f.room.base - mark_of w })
          (record {
            stop = going;
            files = f.files + length files;
            bytes = f.bytes + sum (λ (ops : List Op). length (file_bytes ops)) files;
            positions = f.room.base - mark_of w + positions_in files;
          })
      by (Err r) = refl
      by (Ok _) = done-is

      decided : forecast_in w (joined_by generation (totals_in w.settings (source_in w) slots) f (decide (tests_left w.settings (source_in w) slots f)))
          ≡ foretold w generation slots (forecast_in w f)
      decided = by (decide (tests_left w.settings (source_in w) slots f)) ∙ rw tests-are refl

      chosen : (few : Bool) → forecast_in w (pick few f (joined_by generation (totals_in w.settings (source_in w) slots) f (decide (tests_left w.settings (source_in w) slots f))))
          ≡ pick few (forecast_in w f) (foretold w generation slots (forecast_in w f))
      chosen true = refl
      chosen false = decided

      go : (h : Option Halt) → forecast_in w (foretold_by w.settings (source_in w) generation slots f h) ≡ foretelling (stop_of h) w generation (forecast_in w f)
      go (Some h) = refl
      go None = rw (← e) (chosen (ltb (length slots) w.settings.min_compaction_files))

  -- and stands in the world as well
  pub standing-next : InRanges w.settings → Standing w (foretold_by w.settings (source_in w) generation slots f f.halt)
  unfolding foretold_by
  standing-next ranges = go f.halt
    where
      joins : (a : Answer) → (a ≡ Ok tt → Fits (totals_in w.settings (source_in w) slots) f)
          → Standing w (joined_by generation (totals_in w.settings (source_in w) slots) f a)
      joins (Err r) h =
          let b = here.bounds in
          record { bounds = record { slots = b.slots; bytes = b.bytes; last = b.last }; slots = here.slots; base = here.base }
      joins (Ok _) h =
          let b = here.bounds in
          let t = h refl in
          record {
            bounds = record { slots = omega (arith, b.slots, t.slots); bytes = omega (arith, b.bytes, t.bytes); last = t.positions };
            slots = omega (arith, here.slots, t.slots);
            base = omega (arith, here.base);
          }

      chosen : (few : Bool) → Standing w (pick few f (joined_by generation (totals_in w.settings (source_in w) slots) f (decide (tests_left w.settings (source_in w) slots f))))
      chosen true = here
      chosen false = joins (decide (tests_left w.settings (source_in w) slots f)) (fits-done w.settings (source_in w) slots f ranges here.bounds)

      go : (h : Option Halt) → Standing w (foretold_by w.settings (source_in w) generation slots f h)
      go (Some h) = here
      go None = chosen (ltb (length slots) w.settings.min_compaction_files)
