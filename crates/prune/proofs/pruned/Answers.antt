use mathlib.Core.Path.{◌≡◌, ◌∙◌}
use borrow.Author.Rules.{rules}
use lib.ListN.{length}
use Rattle.file_map.proofs.RecordTurns.{mapped-length}
use Rattle.prune.specs.CallLaws.{pruned-parts}
use Rattle.prune.proofs.EmptyingTurns.{all_made}
use Rattle.prune.proofs.pruned.Goals as goal

pub returns : goal.returns
returns c =
    let a = c.args in
    let all-records : length a.state.files.records ≡ 256 = search (mapped-length, rules) in
    λ table. pruned-parts a.settings a.state a.claims a.heap.now table a.due _ _ c.prune_stores-next.ensures.records (c.prune_stores-next.ensures.heap ∙ all_made a.settings.slot_bytes a.claims a.due a.state.files.records a.heap.now all-records)
