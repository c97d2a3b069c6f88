use mathlib.Core.Path.{◌≡◌, sym, ap, ap₂, ◌∙◌}
use mathlib.Core.Bool.{Bool, ◌||◌}
use mathlib.Core.List.{List}
use Prim.Native.Nat.{◌+◌}
use native.Mathlib.Omega.{arith}
use lib.ListN.{drop, get_or, set}
use Rattle.rules.specs.Base.{any}
use Rattle.rules.specs.declared.Record.{Record}
use Rattle.rules.specs.FileMap.{empty_record}
use Rattle.rules.specs.Sync.{is_unsynced, marked}
use Rattle.record_marks.proofs.MarkTurns.{upto-here, upto_next, upto-end, changed-next, changed-end}
use Rattle.record_marks.proofs.mark.Goals as goal

pub loop-r-preserved : goal.loop-r-preserved
loop-r-preserved c =
    let l = c.loop-r in
    let i = l.r-index in
    let rs = c.args.records.now in
    let here : get_or l.records i empty_record ≡ get_or rs i empty_record = ap (λ (xs : List Record). get_or xs i empty_record) l.invariant.marked ∙ upto-here i rs in
    record {
      marked = ap₂ (λ (xs : List Record) (r : Record). set xs i r) l.invariant.marked (c.marked.ensures ∙ ap marked here) ∙ upto_next i rs (omega arith);
      changed = ap (λ (b : Bool). (l.changed || b) || any is_unsynced (drop (i + 1) rs)) (c.is_unsynced-changed.ensures ∙ ap is_unsynced here)
          ∙ sym (changed-next rs i l.changed (omega arith))
          ∙ l.invariant.changed;
    }

pub returns : goal.returns
returns c =
    let l = c.loop-r in
    let rs = c.args.records.now in
    record {
      marks = l.invariant.marked ∙ upto-end l.r-index rs (omega arith);
      answers = sym (changed-end rs l.r-index l.changed (omega arith)) ∙ l.invariant.changed;
    }
