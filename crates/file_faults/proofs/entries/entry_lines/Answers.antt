use mathlib.Core.Path.{refl, sym, ap, ap₂, ◌∙◌}
use Prim.Native.Nat.{ℕ, ◌<◌}
use lib.ListN.{length}
use Rattle.rules.proofs.TurnLaws.{each_next, each-end}
use Rattle.rules.specs.Table.{no_entry}
use Rattle.rules.specs.Trailer.{entries_in}
use Rattle.trailer.specs.Entries.{entries-count}
use Rattle.faults.specs.Faults.{line, line_if, entry_faults}
use Rattle.file_faults.specs.Types.{OtherId, Object}
use Rattle.file_faults.proofs.Telling.{tells_none, tells_as, going_start, going-as, going_on, going-last}
use Rattle.file_faults.specs.Walks.{walked_from}
use Rattle.file_faults.proofs.Walks.{start-front, entry-line}
use native.Mathlib.Omega.{arith}
use Rattle.file_faults.proofs.entries.entry_lines.Goals as goal

pub loop-k-init : goal.loop-k-init
loop-k-init c = (c.count-k-end.ensures, refl, start-front c.args.objects.now, going_start)

pub walk_for-at-requires : goal.walk_for-at-requires
walk_for-at-requires c = c.loop-k.invariant.2

pub note_if-told-requires : goal.note_if-told-requires
note_if-told-requires c =
    omega (arith, c.loop-k.invariant.3.count, c.requires.trailer_bound)

pub loop-k-preserved : goal.loop-k-preserved
loop-k-preserved c =
    let a = c.args in
    let objects = a.objects.now in
    let es = entries_in a.trailer.now in
    let f = entry_faults a.slot (walked_from objects 0) in
    let k = c.loop-k.k in
    let low : k < length es = omega (arith, c.loop-k.invariant.0, entries-count a.trailer.now c.requires.trailer_in_bounds, c.loop-k-test.true) in
    let told =
    ap₂ line_if c.unmet.ensures (c.at_object-x.ensures ∙ ap (λ (p : ℕ). line a.slot OtherId (Object p)) c.position-position.ensures)
    ∙ sym (entry-line a.slot objects c.entry-e.result) ∙ ap f c.entry-e.ensures in
    (c.loop-k.invariant.0, c.note_if-told.auto.listing ∙ c.loop-k.invariant.1, c.walk_for-at.ensures.start, going_on (going-as (each_next es k no_entry low f) c.loop-k.invariant.3) (tells_as told c.note_if-told.ensures.tells))

pub returns : goal.returns
returns c =
    let a = c.args in
    let es = entries_in a.trailer.now in
    let f = entry_faults a.slot (walked_from a.objects.now 0) in
    going-last (going-as (each-end es c.loop-k.k (omega (arith, c.loop-k.invariant.0, entries-count a.trailer.now c.requires.trailer_in_bounds, c.loop-k-test.false)) f) c.loop-k.invariant.3) (tells_none c.loop-k.told c.loop-k.listing)
