use Prim.Native.Nat.{◌+◌}
use mathlib.Core.Path.{◌≡◌, refl, sym, ap, ◌∙◌}
use native.Mathlib.Omega.{arith}
use lib.ListN.{get_or, drop}
use Rattle.file_lists.specs.Lists.{leads_lsn, lead_lsn, slot_of, lsn_at}
use Rattle.file_lists.proofs.LeadTurns.{lead_of, lead-next, lead-end, leads-took, leads-far, leads-less, slot-some}
use Rattle.file_lists.proofs.lsn_at.Goals as goal
use Rattle.file_lists.proofs.lsn_at.Goals.{then-best-lsn+then-lsn-location, else-best-lsn, else-best-lsn-via-then-best-lsn+else-lsn-location, else-best-lsn-via-else-best-lsn}

pub loop-i-init : goal.loop-i-init
unfolding lsn_at slot_of
loop-i-init c = (refl, refl)

pub loop-i-preserved : goal.loop-i-preserved
loop-i-preserved c =
    let ns = c.args.lsns.now in
    let location = c.args.location in
    let l = c.loop-i in
    let i = l.i in
    let n = get_or ns i 0 in
    let b = lead_of l.best l.slot in
    let now = c.if-best-lsn in
    let turned : (now.slot ≡ slot_of (lead_of now.best now.slot)) × (leads_lsn n i location b ≡ lead_of now.best now.slot) =
    elim now.branch [
      | then-best-lsn+then-lsn-location w ↦ rw (w.best-is, w.slot-is) (sym (slot-some (record { lsn = n; slot = i }) (λ z. omega (arith, w.if-best-lsn.true))), leads-took n i location b w.if-best-lsn.true w.if-lsn-location.true)
      | else-best-lsn w ↦ rw (w.best-is, w.slot-is) (
        l.invariant.0,
        elim w.else-best-lsn.branch [
          | else-best-lsn-via-then-best-lsn+else-lsn-location v ↦ leads-far n i location b v.if-best-lsn.true v.if-lsn-location.false
          | else-best-lsn-via-else-best-lsn v ↦ leads-less n i location b v.if-best-lsn.false
        ],
      )
    ] in
    (turned.0, l.invariant.1 ∙ ap slot_of (lead-next ns i location b (omega arith) ∙ ap (lead_lsn (drop (i + 1) ns) (i + 1) location) turned.1))

pub returns : goal.returns
returns c =
    let l = c.loop-i in
    l.invariant.0 ∙ sym (l.invariant.1 ∙ ap slot_of (lead-end c.args.lsns.now l.i c.args.location (lead_of l.best l.slot) (omega arith)))
