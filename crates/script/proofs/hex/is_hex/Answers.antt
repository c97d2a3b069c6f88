use Rattle.std.proofs.Common.{sym, ◌∙◌, ne_eqb}
use Rattle.script.proofs.WordTurns.{odd-none, even-hex, digits-all}
use Rattle.script.proofs.hex.is_hex.Goals as goal

pub returns-then-word-eq0 : goal.returns-then-word-eq0
returns-then-word-eq0 c =
    let w = c.args.word.now in
    c.all_digits.ensures ∙ digits-all w ∙ sym (even-hex w c.if-word-eq0.true)

pub returns-else-word-eq0 : goal.returns-else-word-eq0
returns-else-word-eq0 c = ne_eqb _ _ c.if-word-eq0.false ∙ sym (odd-none c.args.word.now c.if-word-eq0.false)
