use mathlib.Core.Path.{ap, ◌∙◌}
use Prim.Native.Nat.{ℕ, ◌+◌, ◌*◌}
use Rattle.disk_location.proofs.LocationLaws.{batch-plain}
use Rattle.file_map.specs.Records.{labelled}
use Rattle.writepath.proofs.new_label.Goals as goal

pub returns : goal.returns
returns c =
    let a = c.args in
    c.new_label.ensures
    ∙ ap (λ (lsn : ℕ). labelled lsn a.total (a.total + (12 + 16 * a.count)) a.count 0) (c.with_batch-lsn.ensures ∙ batch-plain a.base c.requires.base_bound)
