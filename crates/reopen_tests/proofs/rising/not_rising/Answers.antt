use mathlib.Core.Path.{sym, refl, ◌∙◌}
use Rattle.rules.specs.SlotFile.{views_in}
use Rattle.rules.proofs.SlotLaws.{slots_apart, views-length}
use Rattle.reopen_tests.specs.Ascending.{file_falls}
use Rattle.reopen_tests.specs.Shown.{shown-at}
use Rattle.reopen_tests.proofs.TestTurns.{slot-here, slot-later, slot-end, slot_read}
use native.Mathlib.Omega.{arith}
use Rattle.reopen_tests.proofs.rising.not_rising.Goals as goal

pub loop-k-init : goal.loop-k-init
loop-k-init c = refl

pub slot_at-requires : goal.slot_at-requires
slot_at-requires c =
    let a = c.args in
    omega (arith, c.requires.within, slots_apart a.size c.loop-k.k a.n c.loop-k-test.true)

pub slot_falls-requires : goal.slot_falls-requires
slot_falls-requires c =
    let a = c.args in
    rw c.slot_at.ensures (shown-at a.n a.size a.heap.now a.slots.labels c.requires c.loop-k.k c.loop-k-test.true)

pub returns-then-slot_falls : goal.returns-then-slot_falls
returns-then-slot_falls c =
    let a = c.args in
    let k = c.loop-k.k in
    let low = c.loop-k-test.true in
    let said = slot_read file_falls a.n a.size a.heap.now k low _ c.slot_at.ensures ∙ sym c.slot_falls.ensures ∙ c.if-slot_falls.true in
    sym (slot-here file_falls (views_in a.n a.size a.heap.now) k (omega (arith, views-length a.n a.size a.heap.now)) said) ∙ c.loop-k.invariant

pub loop-k-preserved : goal.loop-k-preserved
loop-k-preserved c =
    let a = c.args in
    let k = c.loop-k.k in
    let low = c.loop-k-test.true in
    let said = slot_read file_falls a.n a.size a.heap.now k low _ c.slot_at.ensures ∙ sym c.slot_falls.ensures ∙ c.if-slot_falls.false in
    slot-later file_falls (views_in a.n a.size a.heap.now) k (omega (arith, views-length a.n a.size a.heap.now)) said ∙ c.loop-k.invariant

pub returns : goal.returns
returns c =
    let a = c.args in
    sym (slot-end file_falls (views_in a.n a.size a.heap.now) c.loop-k.k (omega (arith, views-length a.n a.size a.heap.now))) ∙ c.loop-k.invariant
