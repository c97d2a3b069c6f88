use Rattle.std.proofs.Common.{◌≡◌, ◌+◌, ◌*◌, sym, ap, ◌∙◌, arith}
use Rattle.numbers.specs.Parts.{put_front, put-none, put_at}
use Rattle.script.proofs.WordTurns.{text-turn, text-end, put_two}
use Rattle.script.proofs.hex.put_text.Goals as goal

pub loop-k-init : goal.loop-k-init
loop-k-init c = put_front _ _

pub loop-k-preserved : goal.loop-k-preserved
loop-k-preserved c =
    let w = c.args.bytes.now in
    let on : (c.loop-k.k + 1) * 2 ≡ c.loop-k.k * 2 + 1 + 1 = omega arith in
    rw (on, c.glyph.ensures, c.glyph-in-loop-k.ensures)
    (put_two c.loop-k.out (c.loop-k.k * 2) _ _ _ (omega arith)
    ∙ ap (put_at c.loop-k.out (c.loop-k.k * 2)) (sym (text-turn w c.loop-k.k (omega arith)))
    ∙ c.loop-k.invariant)

pub returns : goal.returns
returns c =
    let w = c.args.bytes.now in
    sym (put-none _ (c.loop-k.k * 2)) ∙ ap (put_at c.loop-k.out (c.loop-k.k * 2)) (sym (text-end w c.loop-k.k (omega arith))) ∙ c.loop-k.invariant
