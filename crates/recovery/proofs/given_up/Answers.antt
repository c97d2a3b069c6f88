use Rattle.std.specs.Prelude.{Err}
use mathlib.Core.Path.{ap, ap₂, ◌∙◌}
use mathlib.Core.List.{List}
use Rattle.recovery.specs.declared.Reopened.{Reopened}
use Rattle.recovery.specs.Types.{Record, State, Claims}
use Rattle.file_map.specs.Records.{state_by}
use Rattle.recovery.proofs.given_up.Goals as goal

pub returns : goal.returns
returns c =
    let a = c.args in
    let handed : State → Claims → Reopened = λ (s : State) (d : Claims). record { answer = Err a.refusal; state = s; claims = d } in
    ap₂ handed (c.state_of.ensures ∙ ap (λ (rs : List Record). state_by a.settings a.heap_len a.table_len rs 1) c.no_files.ensures) c.no_claims.ensures
