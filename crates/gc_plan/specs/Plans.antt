-- What the call `plan` gives.
use Rattle.std.specs.Prelude.{◌≡◌, ◌⊎◌, ◌<◌, ◌∷◌, ◌++◌, Err, Ok, Option, Some, None}
use Rattle.std.proofs.Math.Path.{refl}
use Rattle.std.proofs.Common.{sym, ap, ◌∙◌, inl, inr, arith, eq-eqb, ne_eqb}
use Rattle.std.proofs.lemmas.List.{length-map}
use Rattle.std.proofs.Math.ListN.{get_or-map}
use Rattle.rules.specs.Base.{Bool, true, false, List, [], map, ℕ, suc, length, get_or, replicate, ltb, eqb, pick}
use Rattle.rules.proofs.BaseLaws.{same?}
use Rattle.rules.specs.declared.Refusal.TheVariants.{Limits}
use Rattle.rules.specs.Refusal.{◌gives◌, after, decide}
use Rattle.rules.proofs.RefusalLaws.{decide-none, decide-first, decide-next, after-refused, after-done}
use Rattle.rules.specs.Maintenance.{Stop, going, stopped}
use Rattle.rules.specs.TwoCalls.{refused_noting, mark_of, count_of, planned_slots, forecast_of, stop_given, counted, plan_values, plan_call, notes_left}
use Rattle.rules.specs.World.{World, records_of, Given, accepted, refused}
use Rattle.gc_candidates.specs.Plan.{plan_of, planned, planned_from, group-planned}
use Rattle.gc_course.specs.declared.Halt.{Halt}
use Rattle.gc_course.specs.Runs.{stop_of}
use Rattle.gc_plan.specs.declared.PlanValues.{PlanValues}
use Rattle.gc_plan.specs.declared.Planned.{Planned}

-- ---- the slots
-- a generation, or 0: "none where it has fewer files than min_compaction_files"
abbrev pub due_for : ℕ → List ℕ → ℕ → ℕ
due_for least plan generation = pick (ltb (length (planned plan generation)) least) 0 generation

-- of each slot
unfoldable pub due_in : ℕ → List ℕ → List ℕ
due_in least plan = map (due_for least plan) plan

-- the groups by the plan's own mark and file count
abbrev pub candidates_of : World → List ℕ
candidates_of w = plan_of w.settings w.claims (mark_of w) (count_of w) (records_of w)

-- "which generations, which slots": for each slot the generation whose rewrite takes its file, or 0
unfoldable pub planned_generations : World → List ℕ
planned_generations w = due_in w.settings.min_compaction_files (candidates_of w)

-- ---- the whole answer
-- a refusal foretold, or none, as the code has it
abbrev pub halt_of : Stop → Option Halt
halt_of going = None
halt_of (stopped r g) = Some (record { refusal = r; generation = g })

-- a plan
unfoldable pub plan_in : World → PlanValues
plan_in w = record {
  mark = mark_of w;
  count = count_of w;
  files = (forecast_of w).files;
  bytes = (forecast_of w).bytes;
  foretold = halt_of (forecast_of w).stop;
  slots = planned_generations w;
}

-- 1, and a plan of zeros beside it
abbrev pub no_plan : Planned
no_plan = record {
  answer = Err Limits;
  plan = record { mark = 0; count = 0; files = 0; bytes = 0; foretold = None; slots = replicate 256 0 };
}

-- "`plan` refuses with 1 only"
unfoldable pub plan_result : World → ℕ → Planned
plan_result w room = pick (refused_noting w room) no_plan (record { answer = Ok tt; plan = plan_in w })

-- the values of a plan, in the order of the definitions
abbrev pub values_of : PlanValues → List ℕ
values_of p =
    p.mark ∷ p.count ∷ p.files ∷ p.bytes ∷ (stop_given (stop_of p.foretold)
    ++ (counted (planned p.slots 1) ++ (counted (planned p.slots 2) ++ counted (planned p.slots 3))))

-- the number and the values of an answer; no values where it is refused
unfoldable pub plan_given : Planned → Given
plan_given r = after r.answer refused (accepted (values_of r.plan))

-- ---- the slots of a generation
module _ (least generation : ℕ) (low : 0 < generation) (plan : List ℕ) where
  -- enough files: each slot of the group stays; too few: none does
  from-due : (i : ℕ) (ns : List ℕ)
      → planned_from i (map (due_for least plan) ns) generation ≡ pick (ltb (length (planned plan generation)) least) [] (planned_from i ns generation)
  unfolding planned_from
  from-due i [] = none (ltb (length (planned plan generation)) least)
    where
      none : (b : Bool) → [] ≡ pick {A = List ℕ} b [] []
      none true = refl
      none false = refl
  from-due i (n ∷ ns) = go (same? n generation) (from-due (suc i) ns)
    where
      rest : List ℕ
      rest = planned_from (suc i) ns generation

      -- a slot of another group is in none of this one
      other : (b : Bool) → (n ≡ generation → ⊥) → eqb (pick b 0 n) generation ≡ false
      other true d = ne_eqb 0 generation (λ e. omega arith)
      other false d = ne_eqb n generation d

      here : (b : Bool) → (more : List ℕ) → more ≡ pick b [] rest
          → pick (eqb (pick b 0 generation) generation) (i ∷ more) more ≡ pick b [] (i ∷ rest)
      here true more ih = rw (ne_eqb 0 generation (λ e. omega arith)) ih
      here false more ih = rw (eq-eqb generation generation refl) (ap (λ (ks : List ℕ). i ∷ ks) ih)

      go : (n ≡ generation) ⊎ (n ≡ generation → ⊥) → planned_from (suc i) (map (due_for least plan) ns) generation ≡ pick (ltb (length (planned plan generation)) least) [] rest
          → pick (eqb (due_for least plan n) generation) (i ∷ planned_from (suc i) (map (due_for least plan) ns) generation) (planned_from (suc i) (map (due_for least plan) ns) generation)
          ≡ pick (ltb (length (planned plan generation)) least) [] (pick (eqb n generation) (i ∷ rest) rest)
      go (inl e) ih = rw (e, eq-eqb generation generation refl) (here (ltb (length (planned plan generation)) least) _ ih)
      go (inr d) ih = rw (other (ltb (length (planned plan n)) least) d, ne_eqb n generation d) ih

  -- of all slots
  planned-due : planned (due_in least plan) generation ≡ pick (ltb (length (planned plan generation)) least) [] (planned plan generation)
  unfolding planned due_in
  planned-due = from-due 0 plan

-- a plan's slots of a generation are the group's
pub due-slots : (w : World) (generation : ℕ) → 0 < generation → planned (planned_generations w) generation ≡ planned_slots w generation
unfolding planned_generations planned_slots
due-slots w generation low =
    planned-due w.settings.min_compaction_files generation low (candidates_of w)
    ∙ ap (λ (slots : List ℕ). pick (ltb (length slots) w.settings.min_compaction_files) [] slots) (sym (group-planned w generation (mark_of w) (count_of w) low))

-- ---- the answer is the definition's
halt-stop : (s : Stop) → stop_of (halt_of s) ≡ s
halt-stop going = refl
halt-stop (stopped r g) = refl

-- and back
stop-halt : (h : Option Halt) → halt_of (stop_of h) ≡ h
stop-halt None = refl
stop-halt (Some h) = refl

values-are : (w : World) → values_of (plan_in w) ≡ plan_values w
unfolding plan_in plan_values
values-are w = rw (halt-stop (forecast_of w).stop, due-slots w 1 (omega arith), due-slots w 2 (omega arith), due-slots w 3 (omega arith)) refl

-- number and values of the result are the call's
pub plan-given : (w : World) (room : ℕ) → plan_given (plan_result w room) ≡ plan_call w room
unfolding plan_given plan_result plan_call
plan-given w room = go (refused_noting w room)
  where
    go : (b : Bool) → plan_given (pick b no_plan (record { answer = Ok tt; plan = plan_in w })) ≡ after (decide (b gives Limits ∷ [])) refused (accepted (plan_values w))
    go true = sym (after-refused _ Limits _ _ (decide-first true Limits [] refl))
    go false = ap accepted (values-are w) ∙ sym (after-done _ _ _ (decide-next false Limits [] refl ∙ decide-none))

-- ---- in the steps that code takes
-- slot i's
pub due-at : (least : ℕ) (plan : List ℕ) (i : ℕ) → get_or (due_in least plan) i 0 ≡ due_for least plan (get_or plan i 0)
unfolding due_in
due-at least plan i = ap (get_or (map (due_for least plan) plan) i) (none (ltb (length (planned plan 0)) least)) ∙ get_or-map (due_for least plan) plan i 0
  where
    none : (b : Bool) → ◌≡◌ {A = ℕ} 0 (pick b 0 0)
    none true = refl
    none false = refl

-- as many slots as records
pub due-length : (least : ℕ) (plan : List ℕ) → length (due_in least plan) ≡ length plan
unfolding due_in
due-length least plan = length-map plan (due_for least plan)

-- the parts of a plan
pub plan-made : (w : World) (p : PlanValues) → p.mark ≡ mark_of w → p.count ≡ count_of w → p.files ≡ (forecast_of w).files → p.bytes ≡ (forecast_of w).bytes
    → stop_of p.foretold ≡ (forecast_of w).stop → p.slots ≡ planned_generations w → p ≡ plan_in w
unfolding plan_in
plan-made w p mark count files bytes stop slots =
    let halt : p.foretold ≡ halt_of (forecast_of w).stop = sym (stop-halt p.foretold) ∙ ap halt_of stop in
    λ i. record { mark = mark i; count = count i; files = files i; bytes = bytes i; foretold = halt i; slots = slots i }

-- the call: 1
pub plan-refused : (w : World) (room : ℕ) → refused_noting w room ≡ true → no_plan ≡ plan_result w room
unfolding plan_result
plan-refused w room e = rw e refl

-- not 1
pub plan-accepted : (w : World) (room : ℕ) → refused_noting w room ≡ false → (p : PlanValues) → p ≡ plan_in w → record { answer = Ok tt; plan = p } ≡ plan_result w room
unfolding plan_result
plan-accepted w room e p q = rw (e, q) refl

-- the notes on 1
pub notes-kept : (r : Planned) → r ≡ no_plan → (notes : List ℕ) → notes ≡ notes_left (plan_given r) notes
unfolding plan_given
notes-kept r e notes = rw e refl

-- any other answer is not 1
pub plan-own : (p : PlanValues) → (plan_given (record { answer = Ok tt; plan = p })).number ≡ 1 → ⊥
unfolding plan_given
plan-own p e = omega arith
