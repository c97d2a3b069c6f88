-- The call's answer, by the paper's number and values; any two results that its contract admits are equal.
use Rattle.std.specs.Prelude.{◌≡◌, ◌∷◌, Err, Ok, Result}
use Rattle.std.proofs.Math.Path.{refl}
use Rattle.std.proofs.Common.{sym, ap, ◌∙◌}
use Rattle.rules.specs.Base.{true, false, List, [], ℕ, length, each}
use Rattle.numbers.specs.Parts.{front}
use Rattle.rules.specs.Answers.{by_number, value_at}
use Rattle.rules.proofs.Answers.{inverse-one, known}
use Rattle.rules.proofs.RefusalLaws.{decide-none, decide-first, decide-next}
use Rattle.rules.specs.Layout.{Table}
use Rattle.rules.specs.Condition1.{out_of_range}
use Rattle.rules.specs.Stores.{made}
use Rattle.rules.specs.World.{Given, accepted, refused}
use Rattle.rules.specs.declared.Refusal.{Refusal}
use Rattle.salvage.specs.Types.{Settings, Limits}
use Rattle.losses.specs.Salvage.{report_of, emptying_of, loss_words, Salvaged, salvage_call}

-- the number of lines; "Refusals: 1 only"
abbrev pub SalvageAnswer : Type 0
SalvageAnswer = Result ℕ Refusal

abbrev pub salvage_given : SalvageAnswer → Given
salvage_given (Ok n) = accepted (n ∷ [])
salvage_given (Err r) = refused r

-- what the call left, as its result, the lent report and the heap give it
abbrev pub salvaged : SalvageAnswer → List ℕ → List ℕ → Salvaged
salvaged answer words heap = record { answer = salvage_given answer; report = words; heap = heap }

module _ (s : Settings) (heap : List ℕ) (table : Table) (words : List ℕ) where
  -- 1
  pub salvage-refused : out_of_range s (length heap) table ≡ true → salvaged (Err Limits) words heap ≡ salvage_call s heap table words
  unfolding salvage_call
  salvage-refused e = rw (decide-first (out_of_range s (length heap) table) Limits [] e)

  -- the report, its number and the heap
  pub salvage-done : out_of_range s (length heap) table ≡ false → (n : ℕ) (told left : List ℕ) → n ≡ length (report_of s heap)
      → told ≡ front (each loss_words (report_of s heap)) words → left ≡ made (emptying_of s (report_of s heap)) heap
      → salvaged (Ok n) told left ≡ salvage_call s heap table words
  unfolding salvage_call
  salvage-done e n told left a b c =
      let clear = decide-next (out_of_range s (length heap) table) Limits [] e ∙ decide-none in
      rw (clear, a, b, c) refl

-- ---- "Show that any two results it admits are equal"
-- one number and number of lines, one answer
salvage-answer-one : (a b : SalvageAnswer) → salvage_given a ≡ salvage_given b → a ≡ b
salvage-answer-one = inverse-one salvage_given (λ (g : Given). by_number g Err (Ok (value_at g 0))) go
  where
    go : (a : SalvageAnswer) → by_number (salvage_given a) Err (Ok (value_at (salvage_given a) 0)) ≡ a
    go (Ok n) = refl
    go (Err r) = rw ((known r).some, (known r).back)

-- what its contract says of a result, for the call's definition
abbrev pub Salvages : Salvaged → SalvageAnswer → List ℕ → List ℕ → Type 0
Salvages c r report heap = salvaged r report heap ≡ c

-- answer, every word of the lent report, every byte of the heap
pub salvage-one : (c : Salvaged) (a b : SalvageAnswer) (xs ys h g : List ℕ) → Salvages c a xs h → Salvages c b ys g → (a ≡ b) × (xs ≡ ys) × (h ≡ g)
salvage-one c a b xs ys h g p q =
    let e = p ∙ sym q in
    (salvage-answer-one a b (ap (λ (x : Salvaged). x.answer) e), ap (λ (x : Salvaged). x.report) e, ap (λ (x : Salvaged). x.heap) e)
