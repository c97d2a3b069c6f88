use mathlib.Core.Path.{◌≡◌, sym, ap, ap₂, ◌∙◌}
use borrow.Author.Rules.{rules}
use Rattle.std.specs.Prelude.{◌∷◌}
use Rattle.rules.specs.Base.{List, [], ℕ, length}
use Rattle.rules.specs.Sync.{Synced, sync_call, sync_state}
use Rattle.rules.specs.World.{Given, accepted, state_with}
use Rattle.file_map.proofs.RecordTurns.{mapped-length}
use Rattle.desk.specs.Types.{Record, Bench}
use Rattle.desk.specs.Desk.{desk, gave, marks}
use Rattle.desk.specs.Commands.{with_state}
use Rattle.desk.proofs.Marking.{sync-whole}
use Rattle.desk.proofs.calls.sync.Goals as goal

pub returns : goal.returns
unfolding sync_state
returns c =
    let b = c.args.b in
    let s = b.state in
    let rs = s.files.records in
    let all : length rs ≡ 256 = search (mapped-length, rules) in
    let left = sync-whole rs all in
    let answer : accepted (c.sync-done.result.changed ∷ []) ≡ (sync_call rs).answer = ap (λ (n : ℕ). accepted (n ∷ [])) c.sync-done.ensures.answers ∙ sym (ap (λ (x : Synced). x.answer) left) in
    let records : c.sync-done.result.files.records ≡ (sync_call rs).records = c.sync-done.ensures.marks ∙ sym (ap (λ (x : Synced). x.records) left) in
    λ heap table.
    ap₂ (λ (g : Given) (next : Bench). record { reply = gave marks g; desk = desk next heap table }) answer
    (c.with_state.ensures ∙ ap (λ (qs : List Record). with_state b (state_with s qs s.next_position)) records)
