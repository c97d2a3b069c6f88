use Rattle.std.proofs.Common.{ℕ, List, ◌+◌, ◌*◌, ◌/◌, ◌<◌, ◌≤◌, ◌++◌, sym, ap, ◌∙◌, set, drop, length, length-take, arith}
use Rattle.numbers.specs.Parts.{put_front, put_step, put-none, put_at}
use Rattle.numbers.proofs.Lent.{front-part}
use Rattle.script.specs.AskedLaws.{bytes-length}
use Rattle.script.specs.Hex.{bytes_of}
use Rattle.script.proofs.WordTurns.{pair_turn, pair_end}
use Rattle.script.proofs.hex.put_bytes.Goals as goal

pub loop-k-init : goal.loop-k-init
loop-k-init c = put_front _ _

pub loop-k-preserved : goal.loop-k-preserved
loop-k-preserved c =
    let w = c.args.word.now in
    let l = c.loop-k in
    let inside : l.k < length w / 2 = omega (arith, length-take (length w / 2) c.args.out.now) in
    ap (λ (b : ℕ). put_at (set l.b-items l.k b) (l.k + 1) (bytes_of (drop ((l.k + 1) * 2) w))) c.pair.ensures
    ∙ put_step _ _ _ _ (omega (arith, length-take (length w / 2) c.args.out.now))
    ∙ ap (put_at l.b-items l.k) (sym (pair_turn w l.k inside))
    ∙ l.invariant

pub returns : goal.returns
returns c =
    let w = c.args.word.now in
    let l = c.loop-k in
    let all : length w / 2 ≤ l.k = omega (arith, length-take (length w / 2) c.args.out.now, c.requires) in
    ap (λ (s : List ℕ). s ++ drop (length w / 2) c.args.out.now) (sym (put-none _ l.k) ∙ ap (put_at l.b-items l.k) (sym (pair_end w l.k all)) ∙ l.invariant)
    ∙ front-part c.args.out.now (bytes_of w) (length w / 2) (bytes-length w)
