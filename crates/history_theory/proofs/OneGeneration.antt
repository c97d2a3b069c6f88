-- Request P7: a rewrite of one named generation, of any world, whatever numbers it is given.
use Rattle.std.specs.Prelude.{◌≡◌, refl, ◌⊎◌, ◌≤◌, Err, Ok}
use Rattle.std.proofs.Common.{sym, ap, ◌∙◌, subst, inl, inr, ⊎_elim}
use Rattle.std.proofs.lemmas.Bool.{not-false}
use Rattle.rules.specs.Base.{Bool, true, false, List, ℕ, length, ltb, pick, within}
use Rattle.theory.specs.Types.{Refusal, Answer}
use Rattle.rules.proofs.BaseLaws.{within-true}
use Rattle.rules.specs.Refusal.{decide, after, NoneHolds}
use Rattle.rules.proofs.RefusalLaws.{clear-when, done-or-refused}
use Rattle.rules.specs.Maintenance.{group, found, files_of, Stop, going, stopped, Course, group_tests, rewrite_group}
use Rattle.rules.proofs.MaintenanceLaws.{group-added, group-kept}
use Rattle.rules.specs.TwoCalls.{rewrite_tests, generation_rewritten, rewrite_of, rewrite_answered, rewrite_call}
use Rattle.rules.specs.World.{World}
use Rattle.history_theory.specs.OneGeneration.{StopsOrKeeps}

-- the answer leaves the world alone
answered-world : (o : Stop) (moved : ℕ) (w : World) → (rewrite_answered o moved w).world ≡ w
answered-world (stopped r g) moved w = refl
answered-world going moved w = refl

-- LAW: what a rewrite leaves is what its course leaves
pub rewrite-world : (w : World) (room g mark count : ℕ) → (rewrite_call w room g mark count).world ≡ (rewrite_of w room g mark count).world
rewrite-world w room g mark count =
    let c = rewrite_of w room g mark count in
    answered-world c.stop c.moved c.world

-- neither 1 nor 22 held: a generation of 1..3
pub generation-named : (w : World) (room g : ℕ) → decide (rewrite_tests w room g) ≡ Ok tt → (1 ≤ g) × (g ≤ 3)
unfolding rewrite_tests NoneHolds
generation-named w room g e = within-true 1 3 g (not-false (within 1 3 g) (clear-when (rewrite_tests w room g) e).1.0)

-- LAW: what holds before, and of a generation of 1..3 rewritten, holds after a rewrite
pub rewrite-leaves : (P : World → Type 0) (w : World) (room g mark count : ℕ) → P w → (1 ≤ g → g ≤ 3 → P (generation_rewritten w g mark count).world)
    → P (rewrite_call w room g mark count).world
unfolding rewrite_of
rewrite-leaves P w room g mark count before named = subst P (sym (rewrite-world w room g mark count)) (go (decide (rewrite_tests w room g)) refl)
  where
    go : (a : Answer) → decide (rewrite_tests w room g) ≡ a
        → P (after {A = Course} a (λ (r : Refusal). record { stop = stopped r g; moved = 0; world = w }) (generation_rewritten w g mark count)).world
    go (Err r) e = before
    go (Ok _) e = let n = generation-named w room g e in named n.0 n.1

group-stops : (g : ℕ) (slots : List ℕ) (w : World) → StopsOrKeeps w g (rewrite_group g slots 0 w)
group-stops g slots w =
    ⊎_elim (λ e. inl (ap (λ (c : Course). c.stop) (group-added g slots 0 w e))) (λ z. inr (z.0, group-kept g slots 0 w z.0 z.1))
    (done-or-refused (decide (group_tests w slots (files_of w.settings.target_file_size (found w slots)))))

-- LAW: so is the course of every rewrite
pub rewrite-stops : (w : World) (room g mark count : ℕ) → StopsOrKeeps w g (rewrite_of w room g mark count)
unfolding rewrite_of generation_rewritten
rewrite-stops w room g mark count = go (decide (rewrite_tests w room g)) (ltb (length (group w g mark count)) w.settings.min_compaction_files)
  where
    go : (a : Answer) (b : Bool)
        → StopsOrKeeps w g (after {A = Course} a (λ (r : Refusal). record { stop = stopped r g; moved = 0; world = w })
        (pick b (record { stop = going; moved = 0; world = w }) (rewrite_group g (group w g mark count) 0 w)))
    go (Err r) b = inr (r, refl)
    go (Ok _) true = inl refl
    go (Ok _) false = group-stops g (group w g mark count) w

-- LAW: "A refusal changes no state or buffer"
pub rewrite-refused : (w : World) (room g mark count : ℕ) → ((rewrite_call w room g mark count).answer.number ≡ 0 → ⊥) → (rewrite_call w room g mark count).world ≡ w
rewrite-refused w room g mark count n =
    let c = rewrite_of w room g mark count in
    ⊎_elim (λ e. absurd (n (ap (λ (o : Stop). (rewrite_answered o c.moved c.world).answer.number) e)))
    (λ z. rewrite-world w room g mark count ∙ ap (λ (d : Course). d.world) z.1) (rewrite-stops w room g mark count)
