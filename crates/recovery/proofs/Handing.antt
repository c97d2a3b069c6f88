-- What the filled table tells.
use mathlib.Core.Path.{◌≡◌, sym, ap, ◌∙◌}
use mathlib.Core.Bool.{Bool, true, false}
use mathlib.Core.List.{List}
use Prim.Native.Nat.{ℕ}
use lib.Dec.{leb}
use lib.ListN.{length}
use Rattle.numbers.specs.Choice.{pick}
use Rattle.rules.specs.Base.{each}
use Rattle.rules.specs.BaseLaws.{All}
use Rattle.rules.specs.Layout.{Table, capacity_of, used_entries, laid_out, cleared}
use Rattle.rules.specs.SlotFile.{View}
use Rattle.rules.specs.Reopen.{files_in, table_of}
use Rattle.location_table.specs.Tables.{Formed}
use Rattle.reopen_tests.specs.Shown.{Sound}
use Rattle.rebuild.specs.Filled.{rows_of, Filled, filled-formed, filled-used}
use Rattle.rebuild.proofs.FillTurns.{views-in-use}
use Rattle.recovery.specs.Types.{Entry}
use Rattle.recovery.specs.Reopening.{Blank}
use Rattle.recovery.proofs.Steps.{blank-formed, blank-used, filled-table}

module _ (b : Table) (blank : Blank b) (views : List View) (room : Bool) (after : Table) (w : Filled b (each rows_of (files_in views)) room after) where
  answer : leb (length (table_of (files_in views))) (capacity_of b) ≡ room
  answer = sym (w.answer ∙ ap (λ (es : List Entry). leb (length es) (capacity_of b)) (filled-table b views (blank-used b blank)))

  left : after ≡ pick room (laid_out (capacity_of b) (table_of (files_in views))) (cleared b)
  left = w.left ∙ ap (λ (es : List Entry). pick room (laid_out (capacity_of b) es) (cleared b)) (filled-table b views (blank-used b blank))

  -- 6: the buffer is zeros
  pub no_room : room ≡ false → (leb (length (table_of (files_in views))) (capacity_of b) ≡ false) × (after ≡ cleared b)
  no_room e = (answer ∙ e, left ∙ ap (λ (t : Bool). pick t (laid_out (capacity_of b) (table_of (files_in views))) (cleared b)) e)

  -- else the table is laid out
  pub has_room : room ≡ true → (leb (length (table_of (files_in views))) (capacity_of b) ≡ true) × (after ≡ laid_out (capacity_of b) (table_of (files_in views)))
  has_room e = (answer ∙ e, left ∙ ap (λ (t : Bool). pick t (laid_out (capacity_of b) (table_of (files_in views))) (cleared b)) e)

  module _ (size : ℕ) (sound : All (Sound size) views) (e : room ≡ true) where
    whole : Filled b (each rows_of (files_in views)) true after
    whole = rw e at w

    pub room-formed : Formed after
    room-formed = filled-formed b (blank-formed b blank) (each rows_of (files_in views)) after (views-in-use size views sound) whole

    pub room-used : used_entries after ≡ table_of (files_in views)
    room-used = filled-used b (blank-formed b blank) (each rows_of (files_in views)) after (views-in-use size views sound) whole ∙ filled-table b views (blank-used b blank)
