use mathlib.Core.Path.{refl, sym, ap, ◌∙◌, ◌≡◌}
use mathlib.Core.List.{List, ◌++◌}
use Prim.Native.Nat.{◌*◌, ◌+◌, ◌-◌}
use lib.ListN.{take, length, set, length-set}
use Rattle.rules.specs.declared.Record.{Record}
use Rattle.file_map.proofs.RecordTurns.{mapped-length}
use Rattle.as_numbers.specs.StateWords.{records_from, state_in}
use Rattle.as_numbers.proofs.StateWordTurns.{read_next, read-end}
use native.Mathlib.Omega.{arith}
use borrow.Author.Rules.{rules}
use Rattle.as_numbers.proofs.state_words.files_in.Goals as goal

pub loop-k-init : goal.loop-k-init
loop-k-init c =
    let rs = c.no_files-files.result.records in
    let len : length rs ≡ 256 = search (mapped-length, rules) in
    (len, refl)

pub loop-k-preserved : goal.loop-k-preserved
loop-k-preserved c =
    let l = c.loop-k in
    let ws = c.args.words.now in
    let rs = l.r-items in
    let read = c.record_at.ensures in (
      length-set rs l.k c.record_at.result ∙ l.invariant.0,
      ap (λ (r : Record). take (l.k + 1) (set rs l.k r) ++ records_from (256 - (l.k + 1)) ws (8 + 7 * (l.k + 1))) read ∙ read_next rs ws l.k (omega arith) l.invariant.0 ∙ l.invariant.1,
    )

pub returns : goal.returns
unfolding state_in
returns c =
    let l = c.loop-k in
    let ws = c.args.words.now in
    ap (λ (rs : List Record). record { records = rs }) (sym (read-end l.r-items ws l.k (omega arith) (omega arith) l.invariant.0) ∙ l.invariant.1)
