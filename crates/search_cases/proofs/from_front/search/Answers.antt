use Rattle.std.proofs.Common.{◌≡◌, ◌<◌, Err, sym, ap, ◌∙◌, arith}
use Rattle.location_table.proofs.Searching.{below-start, below-past, not-below-here, gap-end, gap-free, found_here, gap-met}
use Rattle.search_cases.proofs.from_front.search.Goals as goal
use Rattle.search_cases.proofs.from_front.search.Goals.{then-location_at-eq0-via-then-location_at-eq0, then-location_at-eq0-via-else-location_at-eq0+then-id-here}

pub loop-i-init : goal.loop-i-init
loop-i-init c = below-start c.args.table.now c.args.id

pub returns-then-location_at-eq0-clause-finds : goal.returns-then-location_at-eq0-clause-finds
returns-then-location_at-eq0-clause-finds c =
    let l = c.loop-i in
    let t = c.args.table.now in
    let x = c.args.id in
    let e = c.id_at-here.ensures in
    elim c.then-location_at-eq0.branch [
      | then-location_at-eq0-via-then-location_at-eq0 w ↦ gap-free t x c.requires l.i l.invariant (sym c.location_at.ensures ∙ w.if-location_at-eq0.true)
      | then-location_at-eq0-via-else-location_at-eq0+then-id-here w ↦
          let low : x < c.id_at-here.result = w.if-id-here.true in
          gap-met t x c.requires l.i l.invariant (not-below-here t x c.requires l.i (omega arith)) (λ q. w.if-location_at-eq0.false (c.location_at.ensures ∙ q)) (λ q. absurd (omega arith))
    ]

pub returns-then-id-here-2-clause-finds : goal.returns-then-id-here-2-clause-finds
returns-then-id-here-2-clause-finds c =
    found_here c.args.table.now c.args.id c.requires c.loop-i.i (λ q. c.if-location_at-eq0.false (c.location_at.ensures ∙ q)) (c.if-id-here-2.true ∙ c.id_at-here.ensures)

pub loop-i-preserved : goal.loop-i-preserved
loop-i-preserved c =
    let e = c.id_at-here.ensures in
    below-past c.args.table.now c.args.id c.requires c.loop-i.i (λ q. c.if-location_at-eq0.false (c.location_at.ensures ∙ q)) (omega arith)

pub returns-clause-finds : goal.returns-clause-finds
returns-clause-finds c =
    let l = c.loop-i in
    let end : c.capacity-n.result ≡ l.i = omega arith in
    ap Err end ∙ gap-end c.args.table.now c.args.id c.requires l.i l.invariant (omega (arith, c.capacity-n.ensures))
