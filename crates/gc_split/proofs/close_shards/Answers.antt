use borrow.Author.Rules.{rules}
use Rattle.gc_split.proofs.ShardLaws.{counts-long}
use Rattle.gc_split.proofs.close_shards.Goals as goal

pub slice_bounds-counts-end : goal.slice_bounds-counts-end
slice_bounds-counts-end c = let long = counts-long c.args.shards.now c.requires.shards in search (long, rules)

pub slice_bounds-close_rests-end : goal.slice_bounds-close_rests-end
slice_bounds-close_rests-end c = let long = counts-long c.args.shards.now c.requires.shards in search (long, rules)

pub close_rests-requires : goal.close_rests-requires
close_rests-requires c = c.requires

pub returns : goal.returns
returns c = c.close_rests.ensures
