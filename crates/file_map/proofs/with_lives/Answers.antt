use mathlib.Core.Path.{◌≡◌, ap, ◌∙◌}
use native.Mathlib.Omega.{arith}
use borrow.Author.Rules.{rules}
use lib.ListN.{length, get_or, set, length-set}
use mathlib.Core.List.{List}
use Rattle.rules.specs.declared.Record.{Record}
use Rattle.rules.specs.FileMap.{record_at, with_live}
use Rattle.file_map.proofs.RecordTurns.{mapped-length, lives_to, lives-start, lives-read, lives-next, lives-end}
use Rattle.file_map.proofs.with_lives.Goals as goal

pub loop-i-init : goal.loop-i-init
loop-i-init c =
    let rs = c.args.m.records in
    let ls = c.args.lives.now in
    let l : length rs ≡ 256 = search (mapped-length, rules) in
    (l, lives-start rs ls)

pub loop-i-preserved : goal.loop-i-preserved
loop-i-preserved c =
    let rs = c.args.m.records in
    let ls = c.args.lives.now in
    let l : length rs ≡ 256 = search (mapped-length, rules) in
    let i = c.loop-i.i in
    let e = c.loop-i.invariant.1 in (
      simp length-set (omega arith),
      ap (λ (s : List Record). set s i c.with_live.result) e
          ∙ ap (set (lives_to i rs ls) i) (c.with_live.ensures ∙ ap (λ (r : Record). with_live r (get_or ls i 0)) (ap (λ (s : List Record). record_at s i) e ∙ lives-read rs ls i (omega arith) (omega arith)))
          ∙ lives-next rs ls i (omega arith) (omega arith),
    )

pub returns : goal.returns
returns c =
    let rs = c.args.m.records in
    let ls = c.args.lives.now in
    let l : length rs ≡ 256 = search (mapped-length, rules) in
    c.loop-i.invariant.1 ∙ lives-end rs ls c.loop-i.i (omega arith)
