use mathlib.Core.Path.{ap, ◌∙◌}
use Rattle.gc_split.specs.Tally.{Tally, entering, taking}
use Rattle.gc_split.proofs.BoundLaws.{cut-within}
use native.Mathlib.Omega.{arith}
use lib.ListN.{length, get_or}
use Rattle.gc_split.proofs.join.Goals as goal

pub enter-requires : goal.enter-requires
enter-requires c =
    let n = c.args.shard in
    let cut = cut-within c.args.settings.target_file_size c.args.settings.slot_bytes n _ c.requires.3 in
    let told = c.cut_off-t.ensures in
    let short = c.requires.1 in
    let room = c.requires.2 in record {
      shard_bound = (c.requires.0, ap (λ (t : Tally). length t.rounds) told ∙ cut.round_shards);
      size_bound = (omega (arith, ap (λ (t : Tally). get_or t.sizes n 0) told, cut.sizes n), omega (arith, ap (λ (t : Tally). get_or t.counts n 0) told, cut.counts n));
    }

pub overflow_add-result : goal.overflow_add-result
overflow_add-result c =
    let n = c.args.shard in
    let cut = cut-within c.args.settings.target_file_size c.args.settings.slot_bytes n _ c.requires.3 in
    let entries = ap (λ (t : Tally). t.totals.entries) c.cut_off-t.ensures in
    let room = c.requires.2 in
    omega (arith, entries, cut.entries)

pub returns : goal.returns
unfolding entering taking
returns c =
    let e = c.enter.ensures in
    rw (e.sizes, e.counts, e.rounds) (ap (entering c.args.shard c.args.size) c.cut_off-t.ensures)
