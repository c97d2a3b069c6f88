use mathlib.Core.Path.{refl, sym, ap, ◌∙◌}
use mathlib.Core.List.{List}
use Rattle.rules.specs.Refusal.{decide}
use Rattle.rules.specs.SlotFile.{slot_tests}
use Rattle.slot_file.specs.Labels.{inside}
use Rattle.slot_file.specs.Slots.{entry_tests}
use Prim.Native.Nat.{ℕ}
use lib.ListN.{length}
use Rattle.slot_file.proofs.slot.check_file.Goals as goal

pub returns-then-out_of_bounds : goal.returns-then-out_of_bounds
unfolding slot_tests decide
returns-then-out_of_bounds c = rw (← c.out_of_bounds.ensures, c.if-out_of_bounds.true) refl

pub trailer_part-requires : goal.trailer_part-requires
trailer_part-requires c =
    inside (length c.args.slot.now) c.args.l (sym c.out_of_bounds.ensures ∙ c.if-out_of_bounds.false)

pub returns : goal.returns
unfolding slot_tests entry_tests decide
returns c =
    let r = c.args.l in
    c.check_trailer.ensures ∙ ap (λ (t : List ℕ). decide (entry_tests r t)) c.trailer_part.ensures
    ∙ sym (rw (← c.out_of_bounds.ensures, c.if-out_of_bounds.false) refl)
