-- "A refusal stops the call, keeps finished groups": of every world, the world left is the one in which the refused generation's turn came.
use Rattle.std.specs.Prelude.{◌≡◌, refl, ◌⊎◌, Err, Ok}
use Rattle.std.proofs.Common.{sym, ap, ◌∙◌, subst, inl, inr, arith}
use Rattle.rules.specs.Base.{Bool, true, false, List, ℕ, length, ltb, pick, keep}
use Rattle.theory.specs.Types.{Refusal, Limits, stopped_with}
use Rattle.rules.proofs.Answers.{maintain-one}
use Rattle.rules.specs.Refusal.{decide}
use Rattle.rules.proofs.RefusalLaws.{done-or-refused}
use Rattle.rules.specs.Condition1.{refused1}
use Rattle.rules.specs.Maintenance.{found, files_of, Stop, going, stopped, Course, start_group, group_tests, rewrite_group, onward, groups_from, course_of, ended, maintain_call}
use Rattle.rules.proofs.MaintenanceLaws.{group-added, group-kept}
use Rattle.rules.specs.World.{World, maintain_given, After}
use Rattle.maintenance_theory.specs.Exactly.{turn}
use Rattle.maintenance_theory.specs.Halting.{KeepsFinished}

going_on : (r : Refusal) (g : ℕ) → going ≡ stopped r g → ⊥
going_on r g e = let z : ◌≡◌ {A = ℕ} 0 1 = cc in omega arith

same_stop : (r q : Refusal) (g h : ℕ) → stopped r g ≡ stopped q h → g ≡ h
same_stop r q g h e = cc

-- a generation's turn that ends with a refusal: its own, with nothing changed, or one that was there
module _ (slots : List ℕ) (g : ℕ) (c : Course) (r : Refusal) (h : ℕ) where
  refused-group : (rewrite_group g slots c.moved c.world).stop ≡ stopped r h → (h ≡ g) × ((rewrite_group g slots c.moved c.world).world ≡ c.world)
  refused-group e = go (done-or-refused (decide (group_tests c.world slots (files_of c.world.settings.target_file_size (found c.world slots)))))
    where
      go : (decide (group_tests c.world slots (files_of c.world.settings.target_file_size (found c.world slots))) ≡ Ok tt)
          ⊎ ((q : Refusal) × (decide (group_tests c.world slots (files_of c.world.settings.target_file_size (found c.world slots))) ≡ Err q))
          → (h ≡ g) × ((rewrite_group g slots c.moved c.world).world ≡ c.world)
      go (inl d) = absurd (going_on r h (sym (ap (λ (x : Course). x.stop) (group-added g slots c.moved c.world d)) ∙ e))
      go (inr (q, d)) =
          let k = group-kept g slots c.moved c.world q d in
          (same_stop r q h g (sym e ∙ ap (λ (x : Course). x.stop) k), ap (λ (x : Course). x.world) k)

  halts : (stop : Stop) → c.stop ≡ stop → (onward stop g slots c).stop ≡ stopped r h
      → ((c.stop ≡ going) × (h ≡ g) × ((onward stop g slots c).world ≡ c.world)) ⊎ ((c.stop ≡ stopped r h) × ((onward stop g slots c).world ≡ c.world))
  halts (stopped q k) s e = inr (e, refl)
  halts going s e = go (ltb (length slots) c.world.settings.min_compaction_files) e
    where
      go : (b : Bool) → (pick b c (rewrite_group g slots c.moved c.world)).stop ≡ stopped r h
          → ((c.stop ≡ going) × (h ≡ g) × ((pick b c (rewrite_group g slots c.moved c.world)).world ≡ c.world))
          ⊎ ((c.stop ≡ stopped r h) × ((pick b c (rewrite_group g slots c.moved c.world)).world ≡ c.world))
      go true e = absurd (going_on r h (sym s ∙ e))
      go false e = let z = refused-group e in inl (s, z.0, z.1)

course-halts : (w : World) (r : Refusal) (h : ℕ) → (course_of w).stop ≡ stopped r h → KeepsFinished w h (course_of w).world
unfolding course_of groups_from keep
course-halts w r h e = third (halts (start_group w 3) 3 c3 r h c3.stop refl e)
  where
    c1 : Course
    c1 = record { stop = going; moved = 0; world = w }

    c2 : Course
    c2 = onward c1.stop 1 (start_group w 1) c1

    c3 : Course
    c3 = onward c2.stop 2 (start_group w 2) c2

    c4 : Course
    c4 = onward c3.stop 3 (start_group w 3) c3

    at : (g : ℕ) (c : Course) → turn w g ≡ c → (v : World) → v ≡ c.world → c.stop ≡ going → h ≡ g → KeepsFinished w h v
    at g c t v a b d = subst (λ (k : ℕ). KeepsFinished w k v) (sym d) (record { world = a ∙ sym (ap (λ (x : Course). x.world) t); going = ap (λ (x : Course). x.stop) t ∙ b })

    first : (v : World) → v ≡ c2.world → ((c1.stop ≡ going) × (h ≡ 1) × (c2.world ≡ c1.world)) ⊎ ((c1.stop ≡ stopped r h) × (c2.world ≡ c1.world)) → KeepsFinished w h v
    first v i (inl (a, b, d)) = at 1 c1 refl v (i ∙ d) a b
    first v i (inr (a, d)) = absurd (going_on r h a)

    second : (v : World) → v ≡ c3.world → ((c2.stop ≡ going) × (h ≡ 2) × (c3.world ≡ c2.world)) ⊎ ((c2.stop ≡ stopped r h) × (c3.world ≡ c2.world)) → KeepsFinished w h v
    second v i (inl (a, b, d)) = at 2 c2 refl v (i ∙ d) a b
    second v i (inr (a, d)) = first v (i ∙ d) (halts (start_group w 1) 1 c1 r h c1.stop refl a)

    third : ((c3.stop ≡ going) × (h ≡ 3) × (c4.world ≡ c3.world)) ⊎ ((c3.stop ≡ stopped r h) × (c4.world ≡ c3.world)) → KeepsFinished w h c4.world
    third (inl (a, b, d)) = at 3 c3 refl c4.world d a b
    third (inr (a, d)) = second c4.world d (halts (start_group w 2) 2 c2 r h c2.stop refl a)

-- LAW: of every world: "(0 and 0 with 1)", and then the world is as it was
pub limits-unchanged : (w : World) → refused1 w ≡ true → maintain_call w ≡ record { answer = maintain_given (Err (stopped_with Limits 0 0)); world = w }
unfolding maintain_call decide
limits-unchanged w e = rw e refl

-- LAW: of every world: a refused maintenance keeps only the generations that it finished
pub stopped-keeps : (w : World) (r : Refusal) (g n : ℕ) → (maintain_call w).answer ≡ maintain_given (Err (stopped_with r g n)) → KeepsFinished w g (maintain_call w).world
unfolding maintain_call decide groups_from keep
stopped-keeps w r g n a = by (refused1 w) refl
  where
    by : (b : Bool) → refused1 w ≡ b → KeepsFinished w g (maintain_call w).world
    by true e =
        let i = limits-unchanged w e in
        let k = maintain-one (Err (stopped_with r g n)) (Err (stopped_with Limits 0 0)) (sym a ∙ ap (λ (x : After). x.answer) i) in
        let z : g ≡ 0 = cc in
        subst (λ (m : ℕ). KeepsFinished w m (maintain_call w).world) (sym z) (record { world = ap (λ (x : After). x.world) i; going = refl })
    by false e = go (course_of w).stop refl
      where
        called : maintain_call w ≡ ended (course_of w).stop (course_of w)
        called = rw e refl

        go : (o : Stop) → (course_of w).stop ≡ o → KeepsFinished w g (maintain_call w).world
        go going q =
            let i = called ∙ ap (λ (o : Stop). ended o (course_of w)) q in
            let k = maintain-one (Err (stopped_with r g n)) (Ok (course_of w).moved) (sym a ∙ ap (λ (x : After). x.answer) i) in
            absurd (let z : ◌≡◌ {A = ℕ} 0 1 = cc in omega arith)
        go (stopped p h) q =
            let i = called ∙ ap (λ (o : Stop). ended o (course_of w)) q in
            let k = maintain-one (Err (stopped_with r g n)) (Err (stopped_with p h (course_of w).moved)) (sym a ∙ ap (λ (x : After). x.answer) i) in
            let z : h ≡ g = cc in
            subst (λ (m : ℕ). KeepsFinished w m (maintain_call w).world) z
            (subst (KeepsFinished w h) (sym (ap (λ (x : After). x.world) i)) (course-halts w p h q))
