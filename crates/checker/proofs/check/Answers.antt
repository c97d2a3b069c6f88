use mathlib.Core.Path.{sym, ap, ◌∙◌}
use native.Mathlib.Nat.{zero-add}
use lib.ListN.{length}
use Rattle.rules.proofs.SettingsLaws.{heap-whole}
use Rattle.rules.proofs.Condition1Laws.{in-limits}
use Rattle.file_faults.proofs.Telling.{told-listing}
use Rattle.rules.specs.Base.{List, ℕ}
use Rattle.rules.specs.Settings.{slots_in}
use Rattle.faults.specs.Faults.{listing}
use Rattle.checker.specs.Types.{Fault}
use Rattle.checker.specs.SlotLines.{slots_judged}
use Rattle.checker.specs.Answers.{list_of}
use Rattle.checker.proofs.Answers.{check-refused, check-listed}
use native.Mathlib.Omega.{arith}
use Rattle.checker.proofs.check.Goals as goal

pub returns-then-out_of_range : goal.returns-then-out_of_range
returns-then-out_of_range c =
    let a = c.args in
    check-refused a.settings a.heap.now a.table.now a.listing.now (sym c.out_of_range.ensures ∙ c.if-out_of_range.true)

pub nonzero_div-n : goal.nonzero_div-n
nonzero_div-n c =
    let a = c.args in
    omega (arith, (in-limits a.settings (length a.heap.now) a.table.now (sym c.out_of_range.ensures ∙ c.if-out_of_range.false)).settings.slot-low)

pub listed-requires : goal.listed-requires
listed-requires c =
    let a = c.args in
    let w = in-limits a.settings (length a.heap.now) a.table.now (sym c.out_of_range.ensures ∙ c.if-out_of_range.false) in
    (omega (arith, heap-whole a.settings (length a.heap.now) w.heap), w.heap.most, w.settings.slot-high, omega (arith, c.capacity.ensures, w.table.most))

pub returns : goal.returns
returns c =
    let a = c.args in
    let told = c.listed.ensures in
    let found : ℕ → List Fault = λ (room : ℕ). list_of room (slots_judged (slots_in a.settings (length a.heap.now)) a.settings.slot_bytes a.heap.now) in
    let room = c.capacity.ensures in
    check-listed a.settings a.heap.now a.table.now a.listing.now (sym c.out_of_range.ensures ∙ c.if-out_of_range.false) _ _
    (told.count ∙ zero-add _ ∙ ap (λ (n : ℕ). length (found n)) room) (told.words ∙ told-listing _ a.listing.now ∙ ap (λ (n : ℕ). listing (found n) a.listing.now) room)
