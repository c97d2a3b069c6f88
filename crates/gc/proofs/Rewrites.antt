-- The call that rewrites one generation: its answer, and what it comes to.
use Rattle.std.specs.Prelude.{◌≡◌, ◌⊎◌, ◌≤◌, ◌<◌, ◌&&◌, Err, Ok}
use Rattle.std.proofs.Math.Path.{refl, sym}
use Rattle.std.proofs.Common.{ap, ◌∙◌, subst, inl, inr, arith}
use Rattle.std.proofs.lemmas.Bool.{lt-leb}
use Rattle.rules.specs.Base.{Bool, true, false, [], ℕ, not, within, leb}
use Rattle.rules.specs.Types.{RewriteAnswer}
use Rattle.rules.specs.declared.Refusal.TheVariants.{Limits, Generation}
use Rattle.rules.proofs.RefusalLaws.{decide-first, decide-next, after-refused}
use Rattle.rules.specs.Maintenance.{Course}
use Rattle.rules.specs.TwoCalls.{refused_noting, rewrite_tests, generation_rewritten, rewrite_of, rewrite_call}
use Rattle.rules.specs.World.{World, rewrite_given, leaving}
use Rattle.gc_course.specs.Own.{OwnStop, own-generation}
use Rattle.rules.proofs.TwoCallsLaws.{rewrite-opens}
use Rattle.gc_rewrite.specs.Courses.{course_given}
use Rattle.gc.specs.Rewrites.{given}

module _ (w : World) (room generation mark count : ℕ) where
  -- 1
  pub rewrite-limits : refused_noting w room ≡ true → leaving (rewrite_given (Err Limits)) w ≡ rewrite_call w room generation mark count
  unfolding rewrite_of rewrite_tests
  rewrite-limits e = sym (ap given (after-refused _ Limits _ _ (decide-first (refused_noting w room) Limits _ e)))

  -- 22
  pub rewrite-outside : refused_noting w room ≡ false → (generation ≡ 0) ⊎ (3 < generation)
      → leaving (rewrite_given (Err Generation)) w ≡ rewrite_call w room generation mark count
  unfolding rewrite_of rewrite_tests
  rewrite-outside e h =
      sym
      (ap given
      (after-refused _ Generation _ _
      (decide-next (refused_noting w room) Limits _ e ∙ decide-first (not (within 1 3 generation)) Generation [] (outside h))))
    where
      outside : (generation ≡ 0) ⊎ (3 < generation) → not (within 1 3 generation) ≡ true
      outside (inl z) = rw (lt-leb 1 generation (omega arith)) refl
      outside (inr z) = go (leb 1 generation) (lt-leb generation 3 z)
        where
          go : (b : Bool) → leb generation 3 ≡ false → not (b && leb generation 3) ≡ true
          go true q = rw q refl
          go false q = refl

  -- neither: "It answers ids moved, or the number alone."
  pub rewrite-given : refused_noting w room ≡ false → 0 < generation → generation ≤ 3 → (a : RewriteAnswer) (v : World)
      → course_given generation a v ≡ generation_rewritten w generation mark count
      → leaving (rewrite_given a) v ≡ rewrite_call w room generation mark count
  rewrite-given e low high a v q =
      go a ∙ ap given (q ∙ sym (rewrite-opens w room generation mark count e low high))
    where
      go : (b : RewriteAnswer) → leaving (rewrite_given b) v ≡ given (course_given generation b v)
      go (Ok moved) = refl
      go (Err r) = refl

-- an answer after a rewrite of a group is none of 1
pub answered-own : (generation : ℕ) (a : RewriteAnswer) (v w : World) (mark count : ℕ)
    → course_given generation a v ≡ generation_rewritten w generation mark count → (rewrite_given a).number ≡ 1 → ⊥
answered-own generation a v w mark count q =
    go a (subst OwnStop (sym (ap (λ (c : Course). c.stop) q)) (own-generation w generation mark count))
  where
    go : (b : RewriteAnswer) → OwnStop (course_given generation b v).stop → (rewrite_given b).number ≡ 1 → ⊥
    go (Ok moved) o e = omega arith
    go (Err r) o e = omega arith
