-- What a batch comes to: the refusal that is given, nothing, or a file.
use Rattle.std.specs.Prelude.{◌≡◌, ◌∷◌, Option, Some, None, Result, Ok, Err}
use Rattle.rules.specs.Base.{false, List, [], ℕ, length}
use Rattle.rules.specs.declared.Refusal.{Refusal}
use Rattle.rules.specs.declared.Refusal.TheVariants.{BatchBytes, ObjectSize}
use Rattle.rules.specs.declared.Settings.{Settings}
use Rattle.rules.specs.declared.State.{State}
use Rattle.rules.specs.Refusal.{Test, ◌gives◌, decide, after}
use Rattle.rules.proofs.RefusalLaws.{after-refused, after-done}
use Rattle.rules.specs.Ops.{Op, objects_of, settled}
use Rattle.rules.specs.Batch.{batch_in, is_malformed, ops_of, any_too_large}
use Rattle.rules.specs.Layout.{Table}
use Rattle.rules.specs.Condition1.{condition_one}
use Rattle.rules.specs.Install.{new_slot}
use Rattle.rules.specs.Write.{write_tests}
use Rattle.rules.specs.World.{World}
use Rattle.write_decision.specs.declared.NewFile.{NewFile}

-- a refusal; or the file that a batch makes, if it makes one
abbrev pub Decision : Type 0
Decision = Result (Option NewFile) Refusal

-- "An empty batch succeeds and changes nothing."; any other makes a file
abbrev pub filed : ℕ → List Op → Option NewFile
filed slot [] = None
filed slot (o ∷ os) = Some (record { slot = slot; count = length (o ∷ os); total = length (objects_of (o ∷ os)) })

-- what a call's world and batch come to
unfoldable pub decision_of : World → List ℕ → Decision
decision_of w bytes = after (decide (write_tests w bytes)) Err (Ok (filed (new_slot w) (settled (ops_of (batch_in bytes)))))

-- 2 and 3
abbrev pub batch_tests : Settings → List ℕ → List Test
batch_tests s bytes = is_malformed (batch_in bytes) gives BatchBytes ∷ any_too_large s.max_object_size (ops_of (batch_in bytes)) gives ObjectSize ∷ []

-- 1 to 3 do not refuse
pub record Parsed (s : Settings) (t : State) (heap : List ℕ) (b : Table) (bytes : List ℕ) : Type 0 where
  pub passed : condition_one s (length heap) b t ≡ false
  pub parsed : decide (batch_tests s bytes) ≡ Ok tt

-- a refusal that is given is the decision
pub decision-refused : (w : World) (bytes : List ℕ) (r : Refusal) → decide (write_tests w bytes) ≡ Err r → decision_of w bytes ≡ Err r
unfolding decision_of
decision-refused w bytes r e = after-refused (decide (write_tests w bytes)) r Err _ e

-- where none is given, the operations say
pub decision-done : (w : World) (bytes : List ℕ) → decide (write_tests w bytes) ≡ Ok tt → decision_of w bytes ≡ Ok (filed (new_slot w) (settled (ops_of (batch_in bytes))))
unfolding decision_of
decision-done w bytes e = after-done (decide (write_tests w bytes)) Err _ e
