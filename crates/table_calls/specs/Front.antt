-- What each call that stores asks first, and what a clear front tells.
use Rattle.std.specs.Prelude.{◌≡◌, ◌∷◌, ◌++◌, Err, Ok}
use Rattle.std.proofs.lemmas.Bool.{not-false}
use Rattle.rules.specs.Base.{Bool, false, List, []}
use Rattle.rules.specs.declared.Refusal.{Refusal}
use Rattle.rules.specs.declared.Refusal.TheVariants.{Limits, Location}
use Rattle.rules.specs.Refusal.{Test, ◌gives◌, decide, after, NoneHolds}
use Rattle.rules.proofs.RefusalLaws.{clear-when, decide-early, after-refused}
use Rattle.rules.specs.Layout.{Table}
use Rattle.rules.specs.TableCalls.{TableAfter, not_form}
use Rattle.location_table.specs.Tables.{Formed}
use Rattle.location_table.specs.LayoutLaws.{formed-of}

-- "Order: 1, 20 (a given raw 0)": what each call that stores asks first
abbrev pub front_tests : Table → Bool → List Test
front_tests b absent = not_form b gives Limits ∷ absent gives Location ∷ []

-- ---- the front of a call that stores: clear, or its refusal
pub record FrontClear (b : Table) (absent : Bool) : Type 0 where
  pub form : not_form b ≡ false
  pub given : absent ≡ false
  pub table : Formed b

module _ (b : Table) (absent : Bool) where
  pub front-clear : decide (front_tests b absent) ≡ Ok tt → FrontClear b absent
  unfolding NoneHolds
  front-clear e =
      let n = clear-when (front_tests b absent) e in
      record { form = n.0; given = n.1.0; table = formed-of b (not-false _ n.0) }

  pub front-refused : (rest : List Test) (r : Refusal) (refused : Refusal → TableAfter) (accepted : TableAfter) → decide (front_tests b absent) ≡ Err r
      → after (decide (front_tests b absent ++ rest)) refused accepted ≡ refused r
  front-refused rest r refused accepted e = after-refused _ r refused accepted (decide-early (front_tests b absent) rest r e)
