use mathlib.Core.Path.{sym, ap, ◌∙◌}
use Prim.Native.Nat.{ℕ, ◌/◌}
use Rattle.rules.specs.Base.{each}
use Rattle.rules.specs.Refusal.{decide}
use Rattle.rules.specs.Reopen.{view_tests}
use Rattle.rules.specs.Settings.{slots_in}
use Rattle.rules.proofs.SettingsLaws.{heap-whole}
use Rattle.rules.specs.SlotFile.{views_in}
use Rattle.reopen_tests.specs.Labels.{surveyed}
use Rattle.reopen_tests.specs.Tests.{told-refused, told-clear, told-labels, slots-refuse}
use Rattle.recovery.specs.Reopening.{bare}
use Rattle.recovery.proofs.Steps.{tests-refuse, cleared-blank, blank-same, gives_up}
use native.Mathlib.Omega.{arith}
use lib.ListN.{length}
use Rattle.recovery.proofs.recovered.Goals as goal

pub survey-requires : goal.survey-requires
survey-requires c =
    let a = c.args in
    record {
      size_in_bounds = omega (arith, heap-whole a.settings (length a.heap.now) c.requires.heap);
      n_bound = c.requires.heap.most;
    }

pub tested-requires : goal.tested-requires
unfolding surveyed
tested-requires c =
    let a = c.args in
    let heap = a.heap.now in
    let views = views_in (slots_in a.settings (length heap)) a.settings.slot_bytes heap in
    let done = c.in-Ok.is in (
      record {
        within = omega (arith, heap-whole a.settings (length heap) c.requires.heap);
        most = c.requires.heap.most;
        clear = told-clear (decide (each view_tests views)) views _ c.survey.ensures _ done;
        labels = told-labels (decide (each view_tests views)) views _ c.survey.ensures _ done;
      },
      c.requires.settings.slot-high,
      cleared-blank a.table.now c.requires.table.even _ c.clear.ensures,
    )

pub returns-in-Err : goal.returns-in-Err
unfolding surveyed
returns-in-Err c =
    let a = c.args in
    let heap = a.heap.now in
    let views = views_in (slots_in a.settings (length heap)) a.settings.slot_bytes heap in
    let wiped = c.clear in
    let said = slots-refuse views _ (told-refused (decide (each view_tests views)) views _ c.survey.ensures _ c.in-Err.is) in
    gives_up a.settings heap a.table.now _ _ _ c.in-Err.r c.given_up.ensures (c.capacity.ensures ∙ ap (λ (n : ℕ). n / 2) wiped.auto.table) wiped.ensures
    ∙ sym (tests-refuse (bare a.settings heap a.table.now) views c.in-Err.r said)

pub returns-in-Ok : goal.returns-in-Ok
unfolding surveyed
returns-in-Ok c =
    let a = c.args in
    let heap = a.heap.now in
    let views = views_in (slots_in a.settings (length heap)) a.settings.slot_bytes heap in
    c.tested.ensures
    ∙ blank-same a.settings heap a.table.now views _ c.clear.ensures
