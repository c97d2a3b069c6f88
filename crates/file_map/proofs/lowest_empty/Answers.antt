use Prim.Native.Nat.{ℕ}
use mathlib.Core.Path.{◌≡◌, ap, ◌∙◌}
use native.Mathlib.Omega.{arith}
use borrow.Author.Rules.{rules}
use lib.ListN.{length}
use Rattle.std.specs.Option.{unwrap_or}
use Rattle.std.specs.declared.option.Option.{Option}
use Rattle.file_map.proofs.RecordTurns.{mapped-length, lowest_position}
use Rattle.file_map.proofs.lowest_empty.Goals as goal

pub returns : goal.returns
returns c =
    let n = c.args.n in
    let rs = c.args.m.records in
    let l : length rs ≡ 256 = search (mapped-length, rules) in
    c.unwrap_or.ensures ∙ ap (λ (o : Option ℕ). unwrap_or o n) c.first_empty.ensures ∙ lowest_position n rs (omega arith)
