-- A slot shows no file exactly if it begins with byte 0.
use Rattle.std.specs.Prelude.{◌≡◌, Err, None, Ok, Some}
use Rattle.std.proofs.Math.Path.{refl, sym}
use Rattle.std.proofs.Common.{◌∙◌, arith, get_or-take}
use borrow.Author.Tests.{eqb-true}
use Rattle.rules.specs.Base.{Bool, true, false, List, ℕ, get_or, take, drop, eqb, pick, zeros}
use Rattle.theory.specs.Types.{Label, Refusal, Answer, LabelAnswer, Vacant, Five, Wrong}
use Rattle.numbers.specs.Answers.{Number}
use Rattle.numbers.specs.Groups.{number_in, saying}
use Rattle.rules.specs.Refusal.{decide, after}
use Rattle.rules.specs.Label.{five_in, label_in}
use Rattle.rules.specs.SlotFile.{View, empty, damaged, slot_tests, view_by, view_in}

module _ (slot : List ℕ) where
  damaged-not : {r : Refusal} → damaged r ≡ empty → ⊥
  damaged-not e = let z : ◌≡◌ {A = ℕ} 0 1 = cc in omega arith

  after-not : (a : Answer) (v : View) → (v ≡ empty → ⊥) → after a damaged v ≡ empty → ⊥
  after-not (Ok _) v n e = n e
  after-not (Err r) v n e = damaged-not e

  saying-not : (n : Number) (f : ℕ → ℕ → LabelAnswer) → ((v p : ℕ) → view_by (f v p) slot ≡ empty → ⊥) → view_by (saying Wrong n f) slot ≡ empty → ⊥
  saying-not (Some (v, p)) f h e = h v p e
  saying-not None f h e = damaged-not e

  five-not : (b : Bool) (r : Label) → view_by (pick b (Five r) Wrong) slot ≡ empty → ⊥
  five-not true r e = after-not (decide (slot_tests r slot)) _ (λ q. let z : ◌≡◌ {A = ℕ} 0 1 = cc in omega arith) e
  five-not false r e = damaged-not e

  label-not : (s : List ℕ) → view_by (five_in s) slot ≡ empty → ⊥
  unfolding five_in
  label-not s =
      saying-not (number_in 10 s 0) _ λ lsn a.
      saying-not (number_in 10 s a) _ λ offset b.
      saying-not (number_in 10 s b) _ λ size c.
      saying-not (number_in 10 s c) _ λ present d.
      saying-not (number_in 10 s d) _ λ generation e.
      five-not (zeros (drop e s)) _

  -- "First byte 0 means the slot is empty", and no other slot is
  pub empty-first : view_in slot ≡ empty → get_or slot 0 0 ≡ 0
  unfolding view_in label_in
  empty-first e = go (eqb (get_or (take 64 slot) 0 0) 0) refl e
    where
      go : (b : Bool) → eqb (get_or (take 64 slot) 0 0) 0 ≡ b → view_by (pick b Vacant (five_in (take 64 slot))) slot ≡ empty → get_or slot 0 0 ≡ 0
      go true q p = sym (get_or-take 64 slot 0 0 (omega arith)) ∙ eqb-true (get_or (take 64 slot) 0 0) 0 q
      go false q p = absurd (label-not (take 64 slot) p)
