-- Two results that the contract of `reopen` admits are equal, with every lent entry.
use Rattle.std.specs.Prelude.{◌≡◌}
use Rattle.std.proofs.Common.{sym, ap, ◌∙◌}
use Rattle.rules.specs.Base.{List, ℕ}
use Rattle.rules.proofs.Answers.{answer-one}
use Rattle.rules.specs.Layout.{Table}
use Rattle.rules.specs.Reopen.{reopen_call}
use Rattle.rules.specs.World.{World, After}
use Rattle.recovery.specs.declared.Reopened.{Reopened}
use Rattle.recovery.specs.Types.{Settings}
use Rattle.recovery.specs.Reopening.{leaves}

pub reopen-one : (w : World) (settings : Settings) (heap : List ℕ) (r q : Reopened) (b t : Table)
    → leaves settings r heap b ≡ reopen_call w → leaves settings q heap t ≡ reopen_call w → (r ≡ q) × (b ≡ t)
reopen-one w settings heap r q b t e f =
    let same : leaves settings r heap b ≡ leaves settings q heap t = e ∙ sym f in
    let answer = answer-one r.answer q.answer (ap (λ (a : After). a.answer) same) in
    let state = ap (λ (a : After). a.world.state) same in
    let claims = ap (λ (a : After). a.world.claims) same in
    (λ i. record { answer = answer i; state = state i; claims = claims i }, ap (λ (a : After). a.world.table) same)
