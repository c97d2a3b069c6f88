use Rattle.rules.specs.Reopen.{files_in, overlapping}
use mathlib.Core.Path.{sym, ap, ◌∙◌, ◌≡◌}
use mathlib.Core.Bool.{Bool}
use mathlib.Core.List.{List}
use Prim.Native.Nat.{ℕ}
use Rattle.rules.specs.declared.Label.{Label}
use Rattle.rules.specs.SlotFile.{views_in}
use Rattle.reopen_tests.specs.Labels.{overlaps}
use Rattle.reopen_tests.specs.Shown.{Surveyed, sound-views}
use Rattle.reopen_tests.specs.Overlaps.{overlapping-labels}
use Rattle.reopen_tests.specs.Tests.{first-overlap, first-falls, none-refuses}
use Rattle.reopen_tests.proofs.over_all.check.Goals as goal

-- 14 on the labels is 14 on the files
clashing : (n size : ℕ) (heap : List ℕ) (labels : List Label) (b : Bool) → Surveyed n size heap labels → b ≡ overlaps labels
    → overlapping (files_in (views_in n size heap)) ≡ b
clashing n size heap labels b s said =
    overlapping-labels size (views_in n size heap) (sound-views n size heap _ s)
    ∙ ap overlaps (sym s.labels) ∙ sym said

pub returns-then-overlaps : goal.returns-then-overlaps
returns-then-overlaps c =
    let a = c.args in
    sym (first-overlap (views_in a.n a.size a.heap.now) c.requires.clear (clashing a.n a.size a.heap.now _ c.overlaps.result c.requires c.overlaps.ensures ∙ c.if-overlaps.true))

pub not_rising-requires : goal.not_rising-requires
not_rising-requires c = c.requires

pub returns-then-not_rising : goal.returns-then-not_rising
returns-then-not_rising c =
    let a = c.args in
    sym (first-falls (views_in a.n a.size a.heap.now) c.requires.clear (clashing a.n a.size a.heap.now _ c.overlaps.result c.requires c.overlaps.ensures ∙ c.if-overlaps.false) (sym c.not_rising.ensures ∙ c.if-not_rising.true))

pub returns : goal.returns
returns c =
    let a = c.args in
    sym (none-refuses (views_in a.n a.size a.heap.now) c.requires.clear (clashing a.n a.size a.heap.now _ c.overlaps.result c.requires c.overlaps.ensures ∙ c.if-overlaps.false) (sym c.not_rising.ensures ∙ c.if-not_rising.false))
