-- The last operation on an id, step by step; pieces that are named lie in their slices; what the contracts admit is one.
use Rattle.std.specs.Prelude.{◌≡◌, ◌≤◌, ◌-◌, Ok}
use Rattle.rules.specs.Base.{List, ℕ, length, take, drop, eqb, pick}
use Rattle.rules.specs.Answers.{value_at}
use Rattle.rules.specs.Ops.{Content, put, delete}
use Rattle.rules.specs.Batch.{Parsed, malformed, parsed}
use Rattle.rules.specs.World.{Given}
use Rattle.through.specs.Answers.{ThroughAnswer}
use Rattle.through.specs.declared.ThroughLookup.TheVariants.{InBatch, InHeap, ThroughDeleted, ThroughNever}

-- ---- a put's body is the last of the bytes of its operation
abbrev pub Ends : List ℕ → ℕ → Content → Type 0
Ends s behind (put body) = (length body ≤ behind) × (take (length body) (drop (behind - length body) s) ≡ body)
Ends s behind delete = Unit {0}

abbrev pub EndsIn : List ℕ → Parsed → Type 0
EndsIn s malformed = Unit {0}
EndsIn s (parsed o behind) = Ends s behind o.content

-- by the kind, and then which slice, start and length
abbrev pub through_values : Given → ThroughAnswer
through_values g =
    pick (eqb (value_at g 0) 0) (Ok ThroughNever)
    (pick (eqb (value_at g 0) 1) (Ok ThroughDeleted) (pick (eqb (value_at g 1) 1) (Ok (InBatch (value_at g 2) (value_at g 3))) (Ok (InHeap (value_at g 2) (value_at g 3)))))
