use Rattle.std.proofs.Common.{refl, sym, ap, ap₂, ◌∙◌, ℕ, ◌+◌, drop, drop_of_length-le}
use Rattle.checksum.specs.Checksum.{crc_from, crc-nil}
use Rattle.checksum.proofs.ByteTurns.{bytes-turn, list-turn}
use Rattle.checksum.proofs.feed.Goals as goal
use Rattle.checksum.proofs.feed.Goals.{in-Some-split_at_checked, in_default-split_at_checked}

pub loop-word-init : goal.loop-word-init
loop-word-init c = (λ j. (c.type_inv.s j).fits, refl)

pub loop-word-preserved : goal.loop-word-preserved
loop-word-preserved c =
    let l = c.loop-word in
    let turn = bytes-turn 8 l.rest.now c.in-Some.word.now c.in-Some.more.now l.x c.get.result c.eight-x.result l.invariant.0 c.in-Some.ensures.cases c.get.ensures c.eight-x.ensures in
    (turn.0, turn.1 ∙ l.invariant.1)

pub loop-b-init : goal.loop-b-init
loop-b-init c =
    let l = c.loop-word in
    elim c.match-split_at_checked-2.branch [
      | in-Some-split_at_checked w ↦
          let arm = w.in-Some-split_at_checked in
          let turn = bytes-turn 4 l.rest.now arm.word.now arm.more.now l.x w.get-in-Some-split_at_checked.result w.four-x.result l.invariant.0 arm.ensures.cases w.get-in-Some-split_at_checked.ensures w.four-x.ensures in
          ap₂ crc_from w.x-is (ap (λ r. r.now) w.rest-is) ∙ turn.1 ∙ l.invariant.1
      | in_default-split_at_checked w ↦ ap₂ crc_from w.x-is (ap (λ r. r.now) w.rest-is) ∙ l.invariant.1
    ]

pub loop-b-preserved : goal.loop-b-preserved
loop-b-preserved c =
    let l = c.loop-b in
    ap (λ (x : ℕ). crc_from x (drop (l.b-index + 1) c.match-split_at_checked-2.rest.now)) c.one-x.ensures ∙ list-turn c.match-split_at_checked-2.rest.now l.b-index l.x c.loop-b-test.true ∙ l.invariant

pub returns : goal.returns
returns c =
    let l = c.loop-b in
    let end = drop_of_length-le c.match-split_at_checked-2.rest.now {i = l.b-index} c.loop-b-test.false in
    sym (crc-nil l.x) ∙ ap (crc_from l.x) (sym end) ∙ l.invariant
