-- A generation's group, by the plan that mark and count give: left, or rewritten.
use Rattle.std.specs.Prelude.{◌≡◌, ◌≤◌, ◌<◌, Ok}
use Rattle.std.proofs.Math.Path.{refl}
use Rattle.std.proofs.Common.{sym, ap, ◌∙◌}
use borrow.Author.Tests.{lt-ltb, le-ltb}
use Rattle.rules.specs.Base.{List, ℕ, length}
use Rattle.rules.specs.Maintenance.{group, rewrite_group}
use Rattle.rules.specs.TwoCalls.{generation_rewritten}
use Rattle.rules.specs.World.{World, records_of}
use Rattle.gc_candidates.specs.Plan.{plan_of, planned, group-planned}
use Rattle.gc_rewrite.specs.Courses.{course_given}

module _ (w : World) (generation mark count : ℕ) (plan : List ℕ) (p : plan ≡ plan_of w.settings w.claims mark count (records_of w)) (low : 0 < generation) where
  same : group w generation mark count ≡ planned plan generation
  same = group-planned w generation mark count low ∙ ap (λ (ns : List ℕ). planned ns generation) (sym p)

  -- "a generation that yields no group succeeds with count 0"
  pub generation-left : length (planned plan generation) < w.settings.min_compaction_files → course_given generation (Ok 0) w ≡ generation_rewritten w generation mark count
  unfolding generation_rewritten
  generation-left h = rw (same, lt-ltb (length (planned plan generation)) w.settings.min_compaction_files h) refl

  -- any other is rewritten
  pub generation-rewritten : w.settings.min_compaction_files ≤ length (planned plan generation)
      → rewrite_group generation (planned plan generation) 0 w ≡ generation_rewritten w generation mark count
  unfolding generation_rewritten
  generation-rewritten h = rw (same, le-ltb (length (planned plan generation)) w.settings.min_compaction_files h) refl
