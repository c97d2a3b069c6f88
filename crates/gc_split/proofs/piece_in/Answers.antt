use mathlib.Core.Path.{sym, ap, ◌∙◌}
use native.Mathlib.Omega.{arith}
use borrow.Author.Rules.{rules}
use Rattle.gc_split.specs.Tally.{piece_no}
use Rattle.gc_split.proofs.ShardLaws.{shards-long, round-at}
use Rattle.gc_split.proofs.piece_in.Goals as goal

pub offset_bounds-shards-shard : goal.offset_bounds-shards-shard
offset_bounds-shards-shard c = let long = shards-long c.args.shards.now c.requires.1 in search (long, rules)

pub bounds-shards-shard : goal.bounds-shards-shard
bounds-shards-shard c = let long = shards-long c.args.shards.now c.requires.1 in search (long, rules)

pub piece-requires : goal.piece-requires
piece-requires c =
    let here = round-at c.args.shards.now c.args.shard c.requires.0 in
    record {
      shard_bound = c.requires.0;
      round_bound = omega (arith, here, c.requires.2);
    }

pub returns : goal.returns
returns c =
    let n = c.args.shard in
    let here = round-at c.args.shards.now n c.requires.0 in
    let few = c.requires.2 in
    let same = c.piece.ensures ∙ ap (piece_no n) (sym here) in
    record {
      answers = same;
      fits = omega (arith, same, c.requires.0);
    }
