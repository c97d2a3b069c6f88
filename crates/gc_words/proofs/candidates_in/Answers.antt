use mathlib.Core.Path.{ap, ◌∙◌}
use Rattle.rules.specs.declared.FileMap.{FileMap}
use Rattle.gc_candidates.specs.Plan.{plan_of}
use Rattle.gc_words.proofs.candidates_in.Goals as goal

pub plan-requires : goal.plan-requires
plan-requires c =
    record {
      in_ranges = c.requires.in_ranges;
      bounded = rw c.files_in-files.ensures c.requires.bounded;
    }

pub returns : goal.returns
returns c =
    let a = c.args in
    c.plan.ensures ∙ ap (λ (m : FileMap). plan_of a.settings a.claims a.mark a.count m.records) c.files_in-files.ensures
