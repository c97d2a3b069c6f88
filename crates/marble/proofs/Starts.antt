-- Which heaps a life of results may start from: those of which the checker lists nothing, and so those whose slots all begin with byte 0.
use Rattle.std.specs.Prelude.{◌≡◌, refl, Ok}
use Rattle.std.proofs.Common.{sym, ap, ◌∙◌, arith}
use Rattle.numbers.specs.LittleEndian.{Bytes}
use Rattle.rules.specs.Base.{Bool, true, false, List, [], ℕ, length, map}
use Rattle.rules.specs.Condition1.{out_of_range}
use Rattle.rules.proofs.Condition1Laws.{limits-in}
use Rattle.rules.specs.Layout.{capacity_of}
use Rattle.rules.proofs.LayoutLaws.{used-laid-out}
use Rattle.rules.specs.Ops.{Op}
use Rattle.rules.specs.World.{World, After}
use Rattle.theory.proofs.Places.{not-empty}
use Rattle.theory.specs.SoundWorld.{SmallWorld}
use Rattle.theory.proofs.Reopened.{passed}
use Rattle.history_theory.specs.Fresh.{Blank}
use Rattle.history_theory.proofs.Fresh.{views-blank, fresh-opens}
use Rattle.history_theory.specs.Writing.{engine}
use Rattle.history_theory.specs.Clean.{Clean, heard_at}
use Rattle.history_theory.proofs.Clean.{sound-clean}
use Rattle.recovery.specs.declared.Reopened.{Reopened}
use Rattle.faults.specs.Faults.{Checked, check_call}
use Rattle.checker.specs.Answers.{CheckAnswer}
use Rattle.check_theory.proofs.CleanLists.{clean-list, list-clean}
use Rattle.check_theory.proofs.Calls.{check-limits, empty-checked, checked-empty}
use Rattle.marble.proofs.Unique.{check-one}
use Rattle.marble.specs.Results.{reopened, checked, left, Admitted, begun, Lived, reached}
use Rattle.marble.proofs.Lives.{life-sound}

-- ---- clean is: "P5's checker lists nothing"
-- where the result of `check` says so
pub checked-clean : (w : World) (before after : List ℕ) → Admitted w (checked before (Ok 0) after) → Bytes w.heap → Clean w
checked-clean w before after a bytes =
    list-clean w (range (out_of_range w.settings (length w.heap) w.table) refl) bytes (checked-empty w before (sym (ap (λ (c : Checked). c.answer) a)))
  where
    range : (b : Bool) → out_of_range w.settings (length w.heap) w.table ≡ b → b ≡ false
    range false e = refl
    range true e =
        absurd (let z : ◌≡◌ {A = ℕ} 0 1 = ap (λ (c : Checked). c.answer.number) (a ∙ check-limits w.settings w.heap w.table before e) in omega arith)

-- and it says so of every clean heap, with the listing as it was
pub clean-checked : (w : World) → Clean w → (before : List ℕ) (r : CheckAnswer) (after : List ℕ) → Admitted w (checked before r after) → (r ≡ Ok 0) × (after ≡ before)
clean-checked w c before r after a =
    check-one (check_call w.settings w.heap w.table before) r (Ok 0) after before a
    (sym (empty-checked w (limits-in w.settings (length w.heap) w.table (passed w c.reopens).limits) (clean-list w c) before))

-- ---- what a life leaves: another may start from it
pub life-clean : (l : Lived) → Bytes (reached l).world.heap → Clean (reached l).world
life-clean l = sound-clean (reached l).world (engine (reached l).history) (life-sound l)

-- ---- a heap whose slots all begin with byte 0 is clean (`blank-clean`)
module _ (w : World) (range : out_of_range w.settings (length w.heap) w.table ≡ false) (blank : Blank w) where
  -- a life begins with nothing heard
  pub blank-begun : (r : Reopened) (table : List ℕ) → Admitted w (reopened r table)
      → begun w r table ≡ record { world = left w (reopened r table); history = [] }
  blank-begun r table a =
      ap (λ (h : List Op). record { world = left w (reopened r table); history = h })
      (ap (λ (x : After). heard_at x.world) (a ∙ fresh-opens w range blank)
      ∙ ap (map _) (used-laid-out (capacity_of w.table) [] (λ x l h. absurd h)))

  -- and no object is of max_object_size or more
  pub blank-small : SmallWorld w
  blank-small k f e = absurd (not-empty (sym (views-blank w range blank k) ∙ e))
