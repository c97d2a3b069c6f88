use mathlib.Core.Path.{◌≡◌, refl, sym, ap, ◌∙◌}
use mathlib.Core.List.{List}
use Prim.Native.Nat.{ℕ}
use Rattle.rules.specs.Trailer.{entries_in}
use mathlib.Core.Bool.{Bool}
use Rattle.rules.specs.declared.Label.{Label}
use Rattle.rules.specs.SlotFile.{trailer_part, trailer_entries}
use Rattle.rules.specs.Reopen.{not_rising}
use Rattle.faults.proofs.rising.Goals as goal

pub trailer_part-requires : goal.trailer_part-requires
trailer_part-requires c = record { file = c.requires.bounds.size; objects = c.requires.bounds.offset }

pub falls-requires : goal.falls-requires
falls-requires c = rw c.trailer_part.ensures c.requires.fits

-- what 15 says of the file
asked : (b : Bool) (part slot : List ℕ) (l : Label) → b ≡ not_rising (entries_in part) → part ≡ trailer_part l slot
    → b ≡ not_rising (trailer_entries l slot)
asked b part slot l said at = said ∙ ap (λ (bytes : List ℕ). not_rising (entries_in bytes)) at

pub returns-then-falls : goal.returns-then-falls
returns-then-falls c = rw (c.requires.seen, sym (asked _ _ c.args.slot.now c.args.l c.falls.ensures c.trailer_part.ensures) ∙ c.if-falls.true) refl

pub returns : goal.returns
returns c = rw (c.requires.seen, sym (asked _ _ c.args.slot.now c.args.l c.falls.ensures c.trailer_part.ensures) ∙ c.if-falls.false) refl
