use native.Mathlib.Nat.{zero-add}
use Rattle.rules.specs.Layout.{table_ids, table_locations, used_entries}
use Rattle.rules.proofs.LayoutLaws.{ids-count, locations-count}
use Rattle.rules.proofs.ListingLaws.{written-length}
use Rattle.bench.proofs.Entries.{used-end, unused, used-more}
use mathlib.Core.Path.{sym, ◌∙◌}
use native.Mathlib.Omega.{arith}
use Rattle.bench.proofs.show.used.Goals as goal

pub loop-k-init : goal.loop-k-init
unfolding used_entries
loop-k-init c = zero-add _

pub returns-then-location_at-eq0 : goal.returns-then-location_at-eq0
returns-then-location_at-eq0 c =
    let t = c.args.table.now in
    let is = ids-count t in
    let ls = locations-count t in
    let over = unused (table_ids t) (table_locations t) c.loop-k.k (omega arith) (omega arith) (sym c.location_at.ensures ∙ c.if-location_at-eq0.true) in
    let all = written-length (used_entries t) in
    omega (arith, c.loop-k.invariant)

pub loop-k-preserved : goal.loop-k-preserved
loop-k-preserved c =
    let t = c.args.table.now in
    let is = ids-count t in
    let ls = locations-count t in
    let more = used-more (table_ids t) (table_locations t) c.loop-k.k (omega arith) (omega arith) (λ z. c.if-location_at-eq0.false (c.location_at.ensures ∙ z)) in
    omega (arith, c.loop-k.invariant)

pub returns : goal.returns
returns c =
    let t = c.args.table.now in
    let is = ids-count t in
    let over = used-end (table_ids t) (table_locations t) c.loop-k.k (omega arith) in
    let all = written-length (used_entries t) in
    omega (arith, c.loop-k.invariant)
