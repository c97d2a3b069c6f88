use mathlib.Core.Path.{sym, ap, ◌∙◌, subst}
use mathlib.Core.List.{List}
use Prim.Native.Nat.{ℕ}
use native.Mathlib.Nat.{zero-add}
use native.Mathlib.Omega.{arith}
use lib.ListN.{length, take}
use Rattle.rules.proofs.SettingsLaws.{heap-whole}
use Rattle.rules.specs.Stores.{Store, made}
use Rattle.rules.specs.PruneLaws.{emptying}
use Rattle.losses.specs.Salvage.{report_of}
use Rattle.losses.specs.Lines.{LabelsIn, reports-front, reports-slots}
use Rattle.losses.specs.Few.{emptying-of, report-few, report-labels}
use Rattle.salvage.proofs.give_up.Goals as goal

pub nonzero_div-n : goal.nonzero_div-n
nonzero_div-n c = omega (arith, c.requires.0.slot-low)

pub list_losses-lines-requires : goal.list_losses-lines-requires
list_losses-lines-requires c =
    let a = c.args in
    let w = c.requires.1 in
    (omega (arith, heap-whole a.settings (length a.heap.now) w), w.most, c.requires.2)

pub empty_slots-requires : goal.empty_slots-requires
empty_slots-requires c =
    let a = c.args in
    let w = c.requires.1 in
    let told = c.list_losses-lines.ensures in record {
      lines_in_bounds = omega (arith, told.count, report-few a.settings a.heap.now w, c.list_losses-lines.auto.report, c.requires.2);
      labels_in = subst (λ (ks : List ℕ). LabelsIn a.settings.slot_bytes ks (length a.heap.now)) (sym (reports-slots told)) (report-labels a.settings a.heap.now w c.requires.0);
    }

pub returns : goal.returns
returns c =
    let a = c.args in
    let told = c.list_losses-lines.ensures in
    let run = ap (emptying a.settings.slot_bytes) (reports-slots told) ∙ emptying-of a.settings (report_of a.settings a.heap.now) in record {
      counts = told.count ∙ zero-add _;
      reports = reports-front told;
      heap = c.empty_slots.ensures.heap ∙ ap (λ (ss : List Store). made (take a.left ss) a.heap.now) run;
    }
