use mathlib.Core.Path.{ap, ap₂}
use mathlib.Core.Bool.{Bool, not, ◌||◌}
use Rattle.rules.specs.Claims.{release_call}
use Rattle.claims.proofs.Asked.{whole, left}
use Rattle.claims.proofs.release.Goals as goal

pub returns : goal.returns
unfolding release_call
returns c =
    let a = c.args in
    let told = c.decided-answer.ensures a.state.files a.claims c.bad_files-bad.ensures in
    let bar = ap₂ (λ (x y : Bool). x || y) c.empty_at.ensures (ap not c.is_claimed.ensures) in
    let asked = whole a.s _ a.state a.claims a.heap.now a.table.now a.slot _ _ _ told c.rest_of.ensures bar in
    rw (c.ended.ensures.answers, c.ended.ensures.leaves, c.without_claim.ensures, asked) (left a.s a.state a.claims _ a.heap.now a.table.now _)
