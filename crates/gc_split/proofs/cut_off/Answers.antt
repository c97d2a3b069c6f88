use mathlib.Core.Path.{refl, ◌∙◌}
use borrow.Author.Tests.{le-ltb, lt-ltb}
use Rattle.gc_split.specs.Tally.{sizes_in, cutting}
use Rattle.gc_split.proofs.ShardLaws.{shards-long, size-at, count_at, round-at, restarted}
use Prim.Native.Nat.{◌+◌, ◌<◌}
use native.Mathlib.Omega.{arith}
use borrow.Author.Rules.{rules}
use lib.ListN.{length, get_or}
use Rattle.gc_split.proofs.cut_off.Goals as goal

pub offset_bounds-shards-shard : goal.offset_bounds-shards-shard
offset_bounds-shards-shard c = let long = shards-long c.args.shards.now c.requires.within.round_shards in search (long, rules)

pub bounds-shards-shard : goal.bounds-shards-shard
bounds-shards-shard c = let long = shards-long c.args.shards.now c.requires.within.round_shards in search (long, rules)

pub returns-then-size-settings : goal.returns-then-size-settings
unfolding cutting
returns-then-size-settings c =
    let a = c.args in
    let here = size-at a.shards.now a.shard c.requires.shard_bound in
    rw (le-ltb a.settings.target_file_size (get_or (sizes_in a.shards.now) a.shard 0) (omega (arith, here, c.if-size-settings.true))) refl

pub offset_bounds-shards-shard-2 : goal.offset_bounds-shards-shard-2
offset_bounds-shards-shard-2 c = let long = shards-long c.args.shards.now c.requires.within.round_shards in search (long, rules)

pub bounds-shards-shard-2 : goal.bounds-shards-shard-2
bounds-shards-shard-2 c = let long = shards-long c.args.shards.now c.requires.within.round_shards in search (long, rules)

pub offset_bounds-shards-shard-3 : goal.offset_bounds-shards-shard-3
offset_bounds-shards-shard-3 c = let long = shards-long c.args.shards.now c.requires.within.round_shards in search (long, rules)

pub bounds-shards-shard-3 : goal.bounds-shards-shard-3
bounds-shards-shard-3 c = let long = shards-long c.args.shards.now c.requires.within.round_shards in search (long, rules)

pub piece-requires : goal.piece-requires
piece-requires c =
    let within = c.requires.within in
    let here = round-at c.args.shards.now c.args.shard c.requires.shard_bound in
    record {
      shard_bound = c.requires.shard_bound;
      round_bound = omega (arith, here, within.rounds c.args.shard, within.entries);
    }

pub offset_bounds-shards-shard-4 : goal.offset_bounds-shards-shard-4
offset_bounds-shards-shard-4 c = let long = shards-long c.args.shards.now c.requires.within.round_shards in search (long, rules)

pub bounds-shards-shard-4 : goal.bounds-shards-shard-4
bounds-shards-shard-4 c = let long = shards-long c.args.shards.now c.requires.within.round_shards in search (long, rules)

pub offset_bounds-shards-shard-5 : goal.offset_bounds-shards-shard-5
offset_bounds-shards-shard-5 c = let long = shards-long c.args.shards.now c.requires.within.round_shards in search (long, rules)

pub bounds-shards-shard-5 : goal.bounds-shards-shard-5
bounds-shards-shard-5 c =
    let a = c.args in
    let long = shards-long a.shards.now c.requires.within.round_shards in
    let room : 65 + a.shard < length a.shards.now = omega (arith, long, c.requires.shard_bound) in
    search (room, rules)

pub overflow_add-shards-2 : goal.overflow_add-shards-2
overflow_add-shards-2 c =
    let within = c.requires.within in
    let here = round-at c.args.shards.now c.args.shard c.requires.shard_bound in
    omega (arith, here, within.rounds c.args.shard, within.entries)

pub offset_bounds-shards-shard-6 : goal.offset_bounds-shards-shard-6
offset_bounds-shards-shard-6 c = let long = shards-long c.args.shards.now c.requires.within.round_shards in search (long, rules)

pub bounds-shards-shard-6 : goal.bounds-shards-shard-6
bounds-shards-shard-6 c =
    let a = c.args in
    let long = shards-long a.shards.now c.requires.within.round_shards in
    let room : 130 + a.shard < length a.shards.now = omega (arith, long, c.requires.shard_bound) in
    search (room, rules)

pub closed-requires : goal.closed-requires
closed-requires c =
    let within = c.requires.within in
    let n = c.args.shard in
    let k = within.entries in
    let size = size-at c.args.shards.now n c.requires.shard_bound in
    let count = count_at c.args.shards.now n c.requires.shard_bound in
    (omega (arith, size, within.sizes n), omega (arith, count, within.counts n), omega (arith, within.files), omega (arith, within.positions))

pub returns : goal.returns
unfolding cutting
returns c =
    let s = c.args.shards.now in
    let n = c.args.shard in
    let h = c.requires.shard_bound in
    let size = size-at s n h in
    let over : c.args.settings.target_file_size < get_or (sizes_in s) n 0 = omega (arith, size, c.if-size-settings.false) in
    restarted s n h (get_or s (130 + n) 0 + 1) _ _
    ∙ rw (lt-ltb c.args.settings.target_file_size (get_or (sizes_in s) n 0) over, c.note.ensures, c.piece.ensures, c.closed.ensures, size, count_at s n h, round-at s n h) refl
