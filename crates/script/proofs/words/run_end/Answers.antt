use Rattle.std.proofs.Common.{◌+◌, ◌-◌, take, drop, length, length-drop, take_all, ap, ◌∙◌, arith}
use Rattle.script.specs.Words.{run_of}
use Rattle.script.proofs.WordTurns.{run-taken}
use Rattle.script.proofs.words.run_end.Goals as goal

pub returns-clause-answers : goal.returns-clause-answers
returns-clause-answers c =
    let s = c.args.text.now in
    let from = c.args.from in
    let all = take_all (length s - from) (drop from s) (omega (arith, length-drop from s)) in
    ap (λ n. from + n) (c.run.ensures ∙ run-taken c.args.blank (take (length s - from) (drop from s)) ∙ ap (run_of c.args.blank) all)
