-- A rewrite that neither 1 nor 22 refuses.
use Rattle.std.specs.Prelude.{◌≡◌, ◌≤◌, ◌<◌}
use Rattle.std.proofs.Common.{ap, ◌∙◌, arith}
use Rattle.rules.specs.Base.{false, not, [], ℕ, within}
use Rattle.rules.proofs.BaseLaws.{within-holds}
use Rattle.rules.specs.Types.{Limits, Generation}
use Rattle.rules.specs.Refusal.{decide}
use Rattle.rules.proofs.RefusalLaws.{decide-none, decide-next, after-done}
use Rattle.rules.specs.Maintenance.{Course}
use Rattle.rules.specs.TwoCalls.{refused_noting, rewrite_tests, generation_rewritten, rewrite_of}
use Rattle.rules.specs.World.{World}

-- LAW: where neither 1 nor 22 holds the generation's group decides
pub rewrite-opens : (w : World) (room generation mark count : ℕ) → refused_noting w room ≡ false → 0 < generation → generation ≤ 3
    → rewrite_of w room generation mark count ≡ generation_rewritten w generation mark count
unfolding rewrite_of rewrite_tests
rewrite-opens w room generation mark count fine low high =
    after-done {A = Course} (decide (rewrite_tests w room generation)) _ _
    (decide-next (refused_noting w room) Limits _ fine
    ∙ decide-next (not (within 1 3 generation)) Generation [] (ap not (within-holds 1 3 generation (omega arith) high))
    ∙ decide-none)
