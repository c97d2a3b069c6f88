-- The steps of a prune, and that any two results which its contract admits are equal.
use Rattle.std.specs.Prelude.{◌≡◌, Err, Ok}
use Rattle.std.proofs.Common.{sym, ap, ◌∙◌}
use Rattle.rules.specs.Base.{Bool, true, false, not, List, [], ℕ, pick}
use Rattle.rules.specs.declared.Settings.{Settings}
use Rattle.rules.specs.declared.Record.{Record}
use Rattle.rules.specs.declared.State.{State}
use Rattle.rules.specs.declared.Claims.{Claims}
use Rattle.rules.specs.declared.Refusal.TheVariants.{Limits}
use Rattle.rules.specs.Refusal.{decide}
use Rattle.rules.proofs.Answers.{answer-one}
use Rattle.rules.specs.FileMap.{slots_where}
use Rattle.rules.specs.Stores.{made}
use Rattle.rules.specs.Condition1.{refused1}
use Rattle.rules.specs.Prune.{is_dead, emptied_from, prune_stores, pruned, prune_call}
use Rattle.rules.specs.PruneLaws.{emptying}
use Rattle.rules.specs.World.{World, world, state_with, After, leaving, answer_given}
use Rattle.prune.specs.declared.PruneAnswer.{PruneAnswer}

module _ (s : Settings) (t : State) (c : Claims) (heap table : List ℕ) where
  -- records and heap as they are left; where a prune is not due, all as it was
  pub pruned-parts : (due : Bool) (rs : List Record) (h : List ℕ) → rs ≡ pick due (emptied_from c 0 t.files.records) t.files.records
      → h ≡ made (pick due (emptying s.slot_bytes (slots_where (is_dead c) 0 t.files.records)) []) heap
      → world s (state_with t rs t.next_position) c h table ≡ pick due (pruned (world s t c heap table)) (world s t c heap table)
  unfolding pruned prune_stores made
  pruned-parts true rs h p q = λ i. world s (state_with t (p i) t.next_position) c (q i) table
  pruned-parts false rs h p q = λ i. world s (state_with t (p i) t.next_position) c (q i) table

  -- what the contract says of a result and of the heap after the call
  abbrev pub Prunes : PruneAnswer → List ℕ → Type 0
  Prunes r h = leaving (answer_given r.answer) (world s r.state c h table) ≡ prune_call (world s t c heap table)

-- refused with 1 it changes nothing
pub prune-decided : (w : World) (refused : Bool) → refused ≡ refused1 w → leaving (answer_given (pick refused (Err Limits) (Ok tt))) (pick (not refused) (pruned w) w) ≡ prune_call w
unfolding prune_call decide
prune-decided w true e = rw (sym e)
prune-decided w false e = rw (sym e)

-- result and heap are the same
pub record Same (r q : PruneAnswer) (h g : List ℕ) : Type 0 where
  pub result : r ≡ q
  pub heap : h ≡ g

pub prune-one : (s : Settings) (t : State) (c : Claims) (heap table : List ℕ) (r q : PruneAnswer) (h g : List ℕ)
    → Prunes s t c heap table r h → Prunes s t c heap table q g → Same r q h g
prune-one s t c heap table r q h g p e =
    let both = p ∙ sym e in
    let answer = answer-one r.answer q.answer (ap (λ (a : After). a.answer) both) in
    let state = ap (λ (a : After). a.world.state) both in
    record { result = λ i. record { answer = answer i; state = state i }; heap = ap (λ (a : After). a.world.heap) both }
