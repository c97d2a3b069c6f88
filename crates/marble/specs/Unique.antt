-- "Show that any two results it admits are equal": one law for each public call, from its contract alone.
use Rattle.std.specs.Prelude.{◌≡◌}
use Rattle.rules.specs.Base.{List, ℕ}
use Rattle.rules.specs.declared.Settings.{Settings}
use Rattle.rules.specs.declared.State.{State}
use Rattle.rules.specs.World.{After, world, leaving, answer_given}
use Rattle.claims.specs.declared.ClaimAnswer.{ClaimAnswer}
use Rattle.faults.specs.Faults.{Checked}
use Rattle.checker.specs.Answers.{CheckAnswer, checked}
pub use Rattle.recovery.proofs.Unique.{reopen-one}
pub use Rattle.writepath.specs.Unique.{write-one}
pub use Rattle.readpath.specs.ReadLaws.{read_one, part-one}
pub use Rattle.through.proofs.ThroughLaws.{through-one, through-part-one}
pub use Rattle.gc_plan.specs.Unique.{plan-one}
pub use Rattle.gc.proofs.Unique.{rewrite-one}
pub use Rattle.gc_nightly.specs.Unique.{nightly-one}
pub use Rattle.prune.specs.CallLaws.{prune-one}
pub use Rattle.marks_in_place.specs.Unique.{one-count, one-sync}
pub use Rattle.salvage.specs.Answers.{salvage-one}

-- ---- claim and release: what their contracts say of a result, for the call's definition
abbrev pub Claims-leaves : Settings → State → List ℕ → List ℕ → After → ClaimAnswer → Type 0
Claims-leaves s state heap table after r = leaving (answer_given r.answer) (world s state r.claims heap table) ≡ after

-- what its contract says of a result, for the call's definition
abbrev pub Checks : Checked → CheckAnswer → List ℕ → Type 0
Checks c r listing = checked r listing ≡ c
