use Prim.Native.Nat.{◌+◌}
use native.Mathlib.Omega.{arith}
use borrow.Author.Rules.{rules}
use lib.ListN.{get_or, length-set}
use Rattle.gc_split.proofs.ShardLaws.{shards-long, size-at, count_at, entered}
use Rattle.gc_split.proofs.enter.Goals as goal

pub bounds-shards-shard : goal.bounds-shards-shard
bounds-shards-shard c =
    let long = shards-long c.args.shards.now c.requires.shard_bound.1 in
    search (long, rules)

pub overflow_add-sum : goal.overflow_add-sum
overflow_add-sum c =
    omega (arith, size-at c.args.shards.now c.args.shard c.requires.shard_bound.0, c.requires.size_bound.0)

pub bounds-shards-shard-2 : goal.bounds-shards-shard-2
bounds-shards-shard-2 c =
    let long = shards-long c.args.shards.now c.requires.shard_bound.1 in
    search (long, rules)

pub overflow_add-count-2 : goal.overflow_add-count-2
overflow_add-count-2 c =
    omega (arith, count_at c.args.shards.now c.args.shard c.requires.shard_bound.0, c.requires.size_bound.1)

pub bounds-shards-shard-3 : goal.bounds-shards-shard-3
bounds-shards-shard-3 c =
    let long = shards-long c.args.shards.now c.requires.shard_bound.1 in
    search (long, rules)

pub bounds-shards-shard-4 : goal.bounds-shards-shard-4
bounds-shards-shard-4 c =
    let a = c.args in
    let long = shards-long a.shards.now c.requires.shard_bound.1 in
    let one = length-set a.shards.now a.shard (get_or a.shards.now a.shard 0 + a.size) in
    search (long, one, rules)

pub returns : goal.returns
returns c =
    let e = entered c.args.shards.now c.args.shard c.requires.shard_bound.0 c.args.size in
    record {
      sizes = e.0;
      counts = e.1;
      rounds = e.2;
    }
