-- "Show that any two results it admits are equal": one law for each public call, from its contract alone.
use Rattle.std.specs.Prelude.{◌≡◌, refl, Err, Ok}
use Rattle.std.proofs.Common.{sym, ap, ap₂, ◌∙◌}
use Rattle.rules.specs.Base.{List, ℕ}
use Rattle.rules.specs.declared.Settings.{Settings}
use Rattle.rules.specs.declared.State.{State}
use Rattle.rules.specs.declared.Claims.{Claims}
use Rattle.rules.specs.Types.{Answer, CountsAnswer, LoadAnswer, GreaterAnswer, CompareAnswer}
use Rattle.rules.specs.Answers.{by_number, value_at}
use Rattle.rules.proofs.Answers.{inverse-one, known, answer-one, counts-one, load_one, compare-one, greater-one}
use Rattle.rules.specs.Counts.{counts_call}
use Rattle.rules.specs.World.{World, Given, After, world, leaving, answer_given, counts_given, load_given, compare_given, greater_given}
use Rattle.rules.specs.TableCalls.{TableAfter}
use Rattle.location_table.specs.Tables.{leaving as table_leaving}
use Rattle.claims.specs.declared.ClaimAnswer.{ClaimAnswer}
use Rattle.faults.specs.Faults.{Checked}
use Rattle.checker.specs.Answers.{CheckAnswer, check_given}
use Rattle.recovery.proofs.Unique.{reopen-one}
use Rattle.writepath.specs.Unique.{write-one}
use Rattle.readpath.specs.ReadLaws.{read_one, part-one}
use Rattle.through.proofs.ThroughLaws.{through-one, through-part-one}
use Rattle.gc_plan.specs.Unique.{plan-one}
use Rattle.gc.proofs.Unique.{rewrite-one}
use Rattle.gc_nightly.specs.Unique.{nightly-one}
use Rattle.prune.specs.CallLaws.{prune-one}
use Rattle.marks_in_place.specs.Unique.{one-count, one-sync}
use Rattle.salvage.specs.Answers.{salvage-one}
use Rattle.marble.specs.Unique.{Claims-leaves, Checks}

-- any two are equal
pub claim-one : (s : Settings) (state : State) (heap table : List ℕ) (after : After) (a b : ClaimAnswer)
    → Claims-leaves s state heap table after a → Claims-leaves s state heap table after b → a ≡ b
claim-one s state heap table after a b p q =
    let e = p ∙ sym q in
    ap₂ (λ (x : Answer) (y : Claims). record { answer = x; claims = y })
    (answer-one a.answer b.answer (ap (λ (x : After). x.answer) e)) (ap (λ (x : After). x.world.claims) e)

-- ---- counts
pub counts-call-one : (w : World) (a b : CountsAnswer) → leaving (counts_given a) w ≡ counts_call w → leaving (counts_given b) w ≡ counts_call w → a ≡ b
counts-call-one w a b p q = counts-one a b (ap (λ (x : After). x.answer) (p ∙ sym q))

-- ---- check: the answer, and every word of the lent listing
-- one number and number of faults, one answer
check-answer-one : (a b : CheckAnswer) → check_given a ≡ check_given b → a ≡ b
check-answer-one = inverse-one check_given (λ (g : Given). by_number g Err (Ok (value_at g 0))) go
  where
    go : (a : CheckAnswer) → by_number (check_given a) Err (Ok (value_at (check_given a) 0)) ≡ a
    go (Ok n) = refl
    go (Err r) = rw ((known r).some, (known r).back)

pub check-one : (c : Checked) (a b : CheckAnswer) (xs ys : List ℕ) → Checks c a xs → Checks c b ys → (a ≡ b) × (xs ≡ ys)
check-one c a b xs ys p q =
    let e = p ∙ sym q in
    (check-answer-one a b (ap (λ (x : Checked). x.answer) e), ap (λ (x : Checked). x.listing) e)

-- ---- the four table calls: answer and buffer, for the call's definition
-- one answer type after the other, by the law that number and values settle it
module _ {A : Type 0} (given : A → Given) (one : (a b : A) → given a ≡ given b → a ≡ b) where
  pub table-call-one : (after : TableAfter) (a b : A) (t u : List ℕ) → table_leaving (given a) t ≡ after
      → table_leaving (given b) u ≡ after → (a ≡ b) × (t ≡ u)
  table-call-one after a b t u p q =
      let e = p ∙ sym q in
      (one a b (ap (λ (x : TableAfter). x.answer) e), ap (λ (x : TableAfter). x.table) e)

-- load, store, compare-and-store, store-if-greater
pub load-call-one : (after : TableAfter) (a b : LoadAnswer) (t u : List ℕ) → table_leaving (load_given a) t ≡ after
    → table_leaving (load_given b) u ≡ after → (a ≡ b) × (t ≡ u)
load-call-one = table-call-one load_given load_one

pub store-call-one : (after : TableAfter) (a b : Answer) (t u : List ℕ) → table_leaving (answer_given a) t ≡ after
    → table_leaving (answer_given b) u ≡ after → (a ≡ b) × (t ≡ u)
store-call-one = table-call-one answer_given answer-one

pub compare-call-one : (after : TableAfter) (a b : CompareAnswer) (t u : List ℕ) → table_leaving (compare_given a) t ≡ after
    → table_leaving (compare_given b) u ≡ after → (a ≡ b) × (t ≡ u)
compare-call-one = table-call-one compare_given compare-one

pub greater-call-one : (after : TableAfter) (a b : GreaterAnswer) (t u : List ℕ) → table_leaving (greater_given a) t ≡ after
    → table_leaving (greater_given b) u ≡ after → (a ≡ b) × (t ≡ u)
greater-call-one = table-call-one greater_given greater-one
