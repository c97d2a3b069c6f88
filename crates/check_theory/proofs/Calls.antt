-- Request P5: what the call answers.
use Rattle.std.specs.Prelude.{◌≡◌, ◌∷◌, ◌/◌}
use Rattle.std.proofs.Math.Path.{refl}
use Rattle.std.proofs.Common.{sym, ap, ◌∙◌, arith}
use Rattle.std.proofs.Math.Seq.{take-nil}
use Rattle.rules.specs.Base.{Bool, true, false, List, [], ℕ, length, get_or, each}
use Rattle.numbers.specs.Parts.{front}
use Rattle.rules.specs.Refusal.{number_of, ◌gives◌, decide, after}
use Rattle.rules.specs.Answers.{refusal_at}
use Rattle.rules.proofs.Answers.{known}
use Rattle.rules.specs.Layout.{Table}
use Rattle.rules.specs.Condition1.{out_of_range}
use Rattle.rules.specs.World.{World, Given, accepted, refused}
use Rattle.theory.specs.Types.{Settings, Refusal, Limits}
use Rattle.theory.proofs.Reopened.{refused-not}
use Rattle.faults.specs.Faults.{line_words, faults_of, listing, Checked, check_call}
use Rattle.check_theory.specs.Types.{Fault}
use Rattle.check_theory.specs.Accepting.{list_of}

-- no line is written
no-listing : (buffer : List ℕ) → listing [] buffer ≡ buffer
unfolding listing front each
no-listing buffer = ap (λ (xs : List Fault). front (each line_words xs) buffer) (take-nil (length buffer / 4))

-- no line is there
none-counted : (xs : List Fault) → length xs ≡ 0 → xs ≡ []
none-counted [] e = refl
none-counted (x ∷ xs) e = absurd (omega arith)

-- LAW: in range, where nothing is listed, the call answers 0 and leaves the listing as it was
pub empty-checked : (w : World) → out_of_range w.settings (length w.heap) w.table ≡ false → list_of w ≡ []
    → (buffer : List ℕ) → check_call w.settings w.heap w.table buffer ≡ record { answer = accepted (0 ∷ []); listing = buffer }
unfolding check_call decide
empty-checked w range e buffer =
    rw range (ap (λ (xs : List Fault). record { answer = accepted (length xs ∷ []); listing = listing xs buffer }) e
    ∙ ap (λ (b : List ℕ). record { answer = accepted (0 ∷ []); listing = b }) (no-listing buffer))

-- LAW: and it answers 0 only then
pub checked-empty : (w : World) (buffer : List ℕ) → (check_call w.settings w.heap w.table buffer).answer ≡ accepted (0 ∷ []) → list_of w ≡ []
unfolding check_call decide
checked-empty w buffer h = go (out_of_range w.settings (length w.heap) w.table) h
  where
    go : (b : Bool)
        → (after {A = Checked} (decide (b gives Limits ∷ [])) (λ (r : Refusal). record { answer = refused r; listing = buffer })
        (record { answer = accepted (length (list_of w) ∷ []); listing = listing (list_of w) buffer })).answer ≡ accepted (0 ∷ [])
        → list_of w ≡ []
    go true e = absurd (let z : ◌≡◌ {A = ℕ} 1 0 = ap (λ (g : Given). g.number) e in omega arith)
    go false e = none-counted (list_of w) (ap (λ (g : Given). get_or g.values 0 1) e)

module _ (s : Settings) (heap : List ℕ) (table : Table) (buffer : List ℕ) where
  -- request P5: "also for 1": refused with 1 where a reopening is, and the listing stays
  pub check-limits : out_of_range s (length heap) table ≡ true → check_call s heap table buffer ≡ record { answer = refused Limits; listing = buffer }
  unfolding check_call decide
  check-limits h = rw h refl

  -- request P5: "the full number of faults"
  pub check-counts : out_of_range s (length heap) table ≡ false → (check_call s heap table buffer).answer ≡ accepted (length (faults_of s heap table) ∷ [])
  unfolding check_call decide
  check-counts h = rw h refl

  -- request P5: "Refusals: 1 only."
  pub check-refuses : (r : Refusal) → (check_call s heap table buffer).answer ≡ refused r → r ≡ Limits
  check-refuses r e = go (out_of_range s (length heap) table) refl
    where
      go : (b : Bool) → out_of_range s (length heap) table ≡ b → r ≡ Limits
      go true h =
          let n : number_of r ≡ 1 = sym (ap (λ (g : Given). g.number) e) ∙ ap (λ (c : Checked). c.answer.number) (check-limits h) in
          sym (known r).back ∙ ap refusal_at n
      go false h = absurd (refused-not r (sym (ap (λ (g : Given). g.number) e) ∙ ap (λ (g : Given). g.number) (check-counts h)))
