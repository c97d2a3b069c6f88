-- What the demands say of results of `plan`, `rewrite` and `nightly` that their contracts admit, on every store of demand 3, where the lent notes are long enough.
use Rattle.rules.specs.Types.{stopped_with}
use Rattle.std.specs.Prelude.{◌≡◌, ◌⊎◌, ◌≤◌, ◌<◌, Err, Ok}
use Rattle.std.proofs.Common.{sym, ap, ◌∙◌, subst, inl, inr, ⊎_elim}
use Rattle.rules.specs.Base.{true, List, map, ℕ, sum}
use Rattle.rules.specs.BaseLaws.{All}
use Rattle.rules.specs.declared.Refusal.{Refusal}
use Rattle.rules.proofs.Answers.{maintain-one}
use Rattle.rules.specs.Layout.{capacity_of}
use Rattle.rules.specs.Table.{lookup}
use Rattle.rules.specs.Maintenance.{group, start_group, maintain_call}
use Rattle.rules.specs.TwoCalls.{plan_values, nightly_call}
use Rattle.rules.specs.World.{After, accepted, leaving, rewrite_given, maintain_given, mappings}
use Rattle.theory.specs.SoundWorld.{SmallWorld}
use Rattle.maintenance_theory.specs.Stopping.{Spent, Refusable}
use Rattle.history_theory.specs.History.{Life}
use Rattle.history_theory.specs.Clean.{resumed}
use Rattle.history_theory.proofs.Clean.{clean-starts}
use Rattle.maintenance_theory.specs.Finished.{before, AnswersAs}
use Rattle.maintenance_theory.specs.FirstRefused.{generations}
use Rattle.maintenance_theory.specs.Exactly.{Inside, rewritten, ids_moved}
use Rattle.maintenance_theory.proofs.AsBefore.{job-as-before, job-answer, small-lived-job, job-moves}
use Rattle.maintenance_theory.specs.Rewrites.{RewriteEnds}
use Rattle.maintenance_theory.proofs.Rewrites.{rewrite-ends}
use Rattle.maintenance_theory.specs.Foretold.{Foretells}
use Rattle.maintenance_theory.proofs.Foretold.{plan-foretells}
use Rattle.gc_course.specs.declared.Request.{Request}
use Rattle.gc_plan.specs.declared.Planned.{Planned}
use Rattle.gc_plan.specs.Plans.{plan_given}
use Rattle.gc_plan.specs.Unique.{plan-tells}
use Rattle.gc.specs.declared.Rewritten.{Rewritten}
use Rattle.gc_nightly.specs.declared.Maintained.{Maintained}
use Rattle.marble.specs.Results.{Notes, room_in, Result, planned, rewrote, maintained, left, Admitted, gave, Lived, reached}
use Rattle.marble.specs.Lives.{calls_of}
use Rattle.marble.proofs.Lives.{results-called, life-sound}
use Rattle.marble.specs.Maintaining.{GivesBut}

module _ (l : Lived) (notes : Notes) (enough : capacity_of (reached l).world.table ≤ room_in notes) (notes' : Notes) where
  -- ---- the nightly job
  module _ (r : Maintained) (heap table : List ℕ) (m : Admitted (reached l).world (maintained notes r heap table notes')) where
    -- REQUEST P7: "this gives the same table, records and heap as the old call on success and on refusal", and the same answer
    pub nightly-as-before : leaving (maintain_given r.answer) (left (reached l).world (maintained notes r heap table notes')) ≡ maintain_call (reached l).world
    nightly-as-before = m.0 ∙ job-as-before (reached l).history (reached l).world (life-sound l) (room_in notes) enough

    -- what its definition answers
    as-answered : (refuses : Refusal → ℕ → Type 0) → AnswersAs refuses (reached l).world (maintain_given r.answer) → GivesBut refuses (reached l).world r
    as-answered refuses (inl e) = inl (maintain-one r.answer _ e)
    as-answered refuses (inr (q, g, e, s)) = inr (q, g, maintain-one r.answer _ e, s)

    -- DEMAND 2: a group stops it with 4, 5 or 7 only, or with 3 where an object of the group is of max_object_size or more
    pub maintain-answers : GivesBut (λ q g. Refusable (reached l).world (start_group (reached l).world g) q) (reached l).world r
    maintain-answers =
        as-answered _ (subst (λ (a : After). AnswersAs (λ q g. Refusable (reached l).world (start_group (reached l).world g) q) (reached l).world a.answer) (sym m.0)
        (job-answer (reached l).history (reached l).world (life-sound l) (room_in notes) enough))

    -- DEMAND 2, without power cuts before: with 4, 5 or 7 only, if no object was so large as the life began
    pub maintain-moves : SmallWorld l.start → (rs : List Result) → l.events ≡ map gave rs → GivesBut (λ q g. Spent q) (reached l).world r
    maintain-moves small rs e =
        as-answered _ (subst (λ (a : After). AnswersAs (λ q g. Spent q) (reached l).world a.answer) (sym m.0) answers)
      where
        from : Life
        from = resumed l.start

        answers : AnswersAs (λ q g. Spent q) (reached l).world (nightly_call (reached l).world (room_in notes)).answer
        answers =
            subst (λ (b : Life). capacity_of b.world.table ≤ room_in notes → AnswersAs (λ q g. Spent q) b.world (nightly_call b.world (room_in notes)).answer) (results-called l rs e)
            (λ wide. small-lived-job from (clean-starts l.start l.clean) (calls_of from rs) (room_in notes) wide (subst (λ (a : After). SmallWorld a.world) l.first small)) enough

    -- and its count is the number of the ids whose location, as the job starts, is in a file of a group that it rewrites
    pub maintain-counts :
        (r.answer ≡ Ok (sum (ids_moved (reached l).world) generations))
        ⊎ ((q : Refusal) × (g : ℕ) × (r.answer ≡ Err (stopped_with q g (sum (ids_moved (reached l).world) generations))))
    maintain-counts =
        ⊎_elim (λ e. inl (maintain-one r.answer _ (ap (λ (a : After). a.answer) m.0 ∙ e)))
        (λ z. inr (z.0, z.1, maintain-one r.answer _ (ap (λ (a : After). a.answer) m.0 ∙ z.2)))
        (job-moves (reached l).history (reached l).world (life-sound l) (room_in notes) enough).counts

    -- every other id has the location that it had
    pub maintain-leaves : (x : ℕ) → All (λ (g : ℕ). rewritten (reached l).world g ≡ true → Inside (reached l).world (start_group (reached l).world g) x → ⊥) generations
        → lookup (mappings (left (reached l).world (maintained notes r heap table notes'))) x ≡ lookup (mappings (reached l).world) x
    maintain-leaves x n =
        ap (λ (a : After). lookup (mappings a.world) x) m.0
        ∙ (job-moves (reached l).history (reached l).world (life-sound l) (room_in notes) enough).others x n

  -- ---- one generation
  -- DEMAND 2, REQUEST P7: how a rewrite with any mark and count ends, what it moves and what it leaves
  pub life-rewrites : (asked : Request) (r : Rewritten) (heap table : List ℕ) → Admitted (reached l).world (rewrote notes asked r heap table notes')
      → 0 < asked.generation → asked.generation ≤ 3
      → RewriteEnds (reached l).world asked.generation (group (reached l).world asked.generation asked.mark asked.count)
      (leaving (rewrite_given r.answer) (left (reached l).world (rewrote notes asked r heap table notes')))
  life-rewrites asked r heap table m some most =
      subst (RewriteEnds (reached l).world asked.generation (group (reached l).world asked.generation asked.mark asked.count)) (sym m.0)
      (rewrite-ends (reached l).history (reached l).world (life-sound l) (room_in notes) enough asked.generation asked.mark asked.count some most)

  -- ---- the plan
  -- REQUEST P7: "what the plan said is what happens": the result has the values of the plan, and these are the job's slots, files, bytes and refusal
  pub life-foretells : (r : Planned) → Admitted (reached l).world (planned notes r notes')
      → (plan_given r ≡ accepted (plan_values (reached l).world)) × Foretells (reached l).world (room_in notes)
  life-foretells r m =
      let f = plan-foretells (reached l).history (reached l).world (life-sound l) (room_in notes) enough in
      (plan-tells (reached l).world notes.places notes.pieces r notes'.places notes'.pieces m ∙ f.plan, f)
