use mathlib.Core.Path.{refl, sym, ◌∙◌}
use Rattle.rules.proofs.SettingsLaws.{in-ranges}
use Rattle.rules.specs.Condition1.{out_of_range}
use Rattle.limits.proofs.out_of_range.Goals as goal

pub returns-then-not-in_ranges : goal.returns-then-not-in_ranges
unfolding out_of_range
returns-then-not-in_ranges c = rw (sym c.in_ranges.ensures ∙ c.if-not-in_ranges.true) refl

pub heap_in_range-requires : goal.heap_in_range-requires
heap_in_range-requires c = in-ranges c.args.s (sym c.in_ranges.ensures ∙ c.if-not-in_ranges.false)

pub returns-then-not-heap_in_range : goal.returns-then-not-heap_in_range
unfolding out_of_range
returns-then-not-heap_in_range c = rw (sym c.in_ranges.ensures ∙ c.if-not-in_ranges.false, sym c.heap_in_range.ensures ∙ c.if-not-heap_in_range.true) refl

pub returns : goal.returns
unfolding out_of_range
returns c = rw (sym c.in_ranges.ensures ∙ c.if-not-in_ranges.false, sym c.heap_in_range.ensures ∙ c.if-not-heap_in_range.false, c.lengths_in_range.ensures) refl
