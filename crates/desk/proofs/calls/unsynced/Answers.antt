use mathlib.Core.Path.{◌≡◌, sym, ap, ◌∙◌}
use borrow.Author.Rules.{rules}
use Rattle.std.specs.Prelude.{◌∷◌}
use Rattle.rules.specs.Base.{[], ℕ, length}
use Rattle.rules.specs.World.{Given, accepted}
use Rattle.file_map.proofs.RecordTurns.{mapped-length}
use Rattle.desk.specs.Desk.{desk, gave, marks}
use Rattle.desk.proofs.Marking.{unsynced-whole}
use Rattle.desk.proofs.calls.unsynced.Goals as goal

pub returns : goal.returns
returns c =
    let b = c.args.b in
    let rs = b.state.files.records in
    let len : length rs ≡ 256 = search (mapped-length, rules) in
    λ heap table.
    ap (λ (g : Given). record { reply = gave marks g; desk = desk b heap table })
    (ap (λ (n : ℕ). accepted (n ∷ [])) c.unsynced-n.ensures ∙ sym (unsynced-whole rs len))
