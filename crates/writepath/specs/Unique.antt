-- The contract of write admits one result only.
use Rattle.std.specs.Prelude.{◌≡◌}
use Rattle.std.proofs.Common.{sym, ap, ap₂, ◌∙◌}
use Rattle.rules.specs.Base.{List, ℕ}
use Rattle.rules.specs.declared.Settings.{Settings}
use Rattle.rules.specs.declared.State.{State}
use Rattle.rules.specs.declared.Claims.{Claims}
use Rattle.rules.specs.Types.{Answer}
use Rattle.rules.proofs.Answers.{answer-one}
use Rattle.rules.specs.Layout.{Table}
use Rattle.rules.specs.Write.{write_call}
use Rattle.rules.specs.World.{World, After, world, leaving, answer_given}
use Rattle.writepath.specs.declared.Written.{Written}

-- what the contract says of a result, the heap and the table
abbrev pub Writes : Settings → World → List ℕ → Claims → Written → List ℕ → Table → Type 0
Writes s w bytes c r heap table = leaving (answer_given r.answer) (world s r.state c heap table) ≡ write_call w bytes

-- any two are equal
pub write-one : (s : Settings) (w : World) (bytes : List ℕ) (c : Claims) (a b : Written) (h k : List ℕ) (t u : Table)
    → Writes s w bytes c a h t → Writes s w bytes c b k u → (a ≡ b) × (h ≡ k) × (t ≡ u)
write-one s w bytes c a b h k t u p q =
    let e = p ∙ sym q in
    let answers = answer-one a.answer b.answer (ap (λ (x : After). x.answer) e) in
    let states = ap (λ (x : After). x.world.state) e in (
      ap₂ (λ (x : Answer) (y : State). record { answer = x; state = y }) answers states,
      ap (λ (x : After). x.world.heap) e,
      ap (λ (x : After). x.world.table) e,
    )
