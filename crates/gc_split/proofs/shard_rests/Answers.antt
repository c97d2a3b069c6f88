use mathlib.Core.Path.{sym, ap, ◌∙◌, subst}
use mathlib.Core.List.{List}
use Prim.Native.Nat.{ℕ}
use borrow.Author.Rules.{rules}
use lib.ListN.{length}
use Rattle.numbers.specs.Parts.{front}
use Rattle.gc_split.specs.Tally.{counts_in, rests_from, Numbered}
use Rattle.gc_split.proofs.ShardLaws.{shards-long, all-rounds}
use Rattle.gc_split.proofs.shard_rests.Goals as goal

pub slice_bounds-counts-end : goal.slice_bounds-counts-end
slice_bounds-counts-end c = let long = shards-long c.args.shards.now c.requires.same in search (long, rules)

pub slice_bounds-rests-end : goal.slice_bounds-rests-end
slice_bounds-rests-end c = let long = shards-long c.args.shards.now c.requires.same in search (long, rules)

pub rests-requires : goal.rests-requires
rests-requires c =
    let s = c.args.shards.now in
    subst (λ (rs : List ℕ). Numbered (counts_in s) rs c.args.left.now) (sym (all-rounds s c.requires.same)) c.requires

pub returns : goal.returns
returns c =
    let s = c.args.shards.now in
    let e = all-rounds s c.requires.same in
    let told = c.rests.ensures in record {
      counts = told.counts ∙ ap (λ (rs : List ℕ). length (rests_from 0 (counts_in s) rs)) e;
      writes = told.writes ∙ ap (λ (rs : List ℕ). front (rests_from 0 (counts_in s) rs) c.args.left.now) e;
    }
