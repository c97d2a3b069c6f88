-- One operation of the walk, as the file's bytes have it: its object, its entry, and what is behind them.
use Rattle.std.specs.Prelude.{◌≡◌, Bool, List, [], ◌∷◌, ◌++◌, ℕ, ◌+◌, ◌^◌, ◌<◌, length, take, drop}
use Rattle.std.proofs.Math.Path.{refl, ap, ap₂}
use Rattle.std.proofs.Common.{◌∙◌}
use Rattle.std.proofs.Math.Bool.{true, false}
use Rattle.numbers.specs.Choice.{pick}
use Rattle.disk_location.specs.Locations.{raw_of}
use Rattle.rules.specs.declared.Entry.{Entry}
use Rattle.rules.specs.Base.{each}
use Rattle.rules.specs.Trailer.{entry_bytes}
use Rattle.rules.specs.Ops.{Op, put, delete, is_delete, content_bytes, objects_of, entries_of, settled}
use Rattle.rules.proofs.OpsLaws.{content-length, objects-cons}
use Rattle.batch.specs.Reading.{op_in, ops_in}
use Rattle.batch.specs.Sizes.{size_in}
use Rattle.batch.specs.SizeLaws.{size_is}
use Rattle.batch.specs.WalkLaws.{Stepped}
use Rattle.batch.specs.declared.Operation.{Operation}

-- an operation's entry, by the numbers
abbrev pub entry_in : ℕ → Operation → Entry
entry_in position o = record { id = o.id; location = raw_of position o.delete }

-- what `sizes` told of a batch: how many operations count, and T
pub record Sized (s : List ℕ) (count total : ℕ) : Type 0 where
  pub entries : count ≡ length (settled (ops_in s))
  pub objects : total ≡ length (objects_of (settled (ops_in s)))
  pub small : total < 2 ^ 62

module _ {s : List ℕ} {ops : List Op} {o : Operation} {rest : List Op} (e : Stepped s ops o rest) where
  pub content-size : length (content_bytes o.id (op_in s o).content) ≡ size_in o
  content-size = content-length o.id (op_in s o).content ∙ size_is s o e.inside

  pub objects-next : objects_of ops ≡ content_bytes o.id (op_in s o).content ++ objects_of rest
  objects-next = ap objects_of e.next ∙ objects-cons (op_in s o) rest

  entries_next : (position : ℕ) → entries_of position ops ≡ entry_in position o ∷ entries_of (position + size_in o) rest
  unfolding entries_of
  entries_next position =
      ap (entries_of position) e.next
      ∙ ap₂ (λ (d : Bool) (n : ℕ). record { id = o.id; location = raw_of position d } ∷ entries_of (position + n) rest) (mark o.delete) (size_is s o e.inside)
    where
      mark : (d : Bool) → is_delete (pick d delete (put (take o.len (drop o.start s)))) ≡ d
      mark true = refl
      mark false = refl

  pub each_next : (position : ℕ) → each entry_bytes (entries_of position ops) ≡ entry_bytes (entry_in position o) ++ each entry_bytes (entries_of (position + size_in o) rest)
  unfolding each
  each_next position = ap (each entry_bytes) (entries_next position)

-- nothing is left
pub each-end : (position : ℕ) {ops : List Op} → ops ≡ [] → each entry_bytes (entries_of position ops) ≡ []
unfolding entries_of each
each-end position e = ap (λ (os : List Op). each entry_bytes (entries_of position os)) e
