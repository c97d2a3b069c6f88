-- "The last operation on the id in the batch decides": the piece that is named is the body of the last put, as the plain engine hears the batch.
use Rattle.std.specs.Prelude.{◌∷◌}
use Rattle.rules.specs.Base.{List, [], ℕ, take, drop}
use Rattle.rules.specs.Ops.{put, delete}
use Rattle.rules.specs.SettledLaws.{Last, silent, last}
use Rattle.through.specs.declared.LastOperation.{LastOperation}
use Rattle.through.specs.declared.LastOperation.TheVariants.{Puts, Deletes, NoOperation}

-- what an operation of the batch says, its body read where it lies
abbrev pub heard_in : List ℕ → LastOperation → Last
heard_in s (Puts start size) = last (put (take size (drop start s)))
heard_in s Deletes = last delete
heard_in s NoOperation = silent

-- worked out: 5 put as two bytes and again as none, 6 put and then deleted
abbrev pub worked : List ℕ
worked = 5 ∷ 1 ∷ 2 ∷ 65 ∷ 66 ∷ 6 ∷ 1 ∷ 1 ∷ 67 ∷ 5 ∷ 1 ∷ 0 ∷ 6 ∷ 0 ∷ []
