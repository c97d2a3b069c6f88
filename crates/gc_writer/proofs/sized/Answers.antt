use mathlib.Core.List.{List}
use mathlib.Core.Path.{◌≡◌, ap}
use Prim.Native.Nat.{ℕ, ◌+◌, ◌≤◌}
use native.Mathlib.Omega.{arith}
use borrow.Author.Rules.{rules}
use lib.ListN.{length}
use Rattle.batch.specs.SizeLaws.{size-bound, total-next, total-end}
use Rattle.rules.specs.Layout.{table_ids}
use Rattle.gc_chains.specs.Chains.{chain_ops}
use Rattle.gc_chains.specs.ChainLaws.{chain-few}
use Rattle.gc_writer.specs.Walk.{walk_end}
use Rattle.gc_writer.proofs.sized.Goals as goal

-- not more are counted than the table has entries
few : (first i count : ℕ) (heap ids places links : List ℕ)
    → count + length (chain_ops i heap ids places links) ≡ length (chain_ops first heap ids places links) → length ids ≤ 65536 → count ≤ 65536
few first i count heap ids places links counted short = omega (arith, chain-few first 1 heap ids places links)

pub loop-i-init : goal.loop-i-init
loop-i-init c = (c.requires.leads, omega arith, omega arith, omega arith)

pub turn_at-t-requires : goal.turn_at-t-requires
turn_at-t-requires c =
    record {
      walking = c.requires.walking;
      i_nonzero = omega (arith, c.loop-i-test.true);
      leads = c.loop-i.invariant.0;
    }

pub overflow_add-count : goal.overflow_add-count
overflow_add-count c =
    let a = c.args in
    let most = few a.first c.loop-i.i c.loop-i.count a.heap.now (table_ids a.table.now) a.places.now a.links.now c.loop-i.invariant.1 c.requires.table_len_bound in
    search (most, rules)

pub overflow_add-total : goal.overflow_add-total
overflow_add-total c =
    let t = c.turn_at-t in
    let a = c.args in
    let most = few a.first c.loop-i.i c.loop-i.count a.heap.now (table_ids a.table.now) a.places.now a.links.now c.loop-i.invariant.1 c.requires.table_len_bound in
    omega (arith, most, c.loop-i.invariant.3, t.ensures.long, size-bound t.result.operation, t.ensures.short)

pub loop-i-smaller : goal.loop-i-smaller
loop-i-smaller c = c.turn_at-t.ensures.less

pub loop-i-preserved : goal.loop-i-preserved
loop-i-preserved c =
    let t = c.turn_at-t.ensures in
    let inv = c.loop-i.invariant in (
      t.leads,
      omega (arith, inv.1, ap length t.step.next),
      omega (arith, inv.2, t.long, total-next t.step),
      omega (arith, inv.3, t.long, size-bound c.turn_at-t.result.operation, t.short),
    )

pub returns : goal.returns
returns c =
    let a = c.args in
    let none = walk_end a.heap.now (table_ids a.table.now) a.places.now a.links.now c.loop-i.i c.loop-i-test.false in
    record {
      count = omega (arith, c.loop-i.invariant.1, ap length none);
      total = omega (arith, c.loop-i.invariant.2, total-end none);
    }
