-- Request P9: a salvage cut behind any of its stores, and a second one.
use Rattle.std.specs.Prelude.{◌≡◌, refl, ◌≤◌, ◌∷◌, ◌*◌}
use Rattle.std.proofs.Common.{sym, ◌∙◌, subst, arith, length-set, drop_of_length-le, take_all}
use Rattle.std.proofs.Math.Path.{ap}
use Rattle.std.proofs.lemmas.List.{length-map}
use Rattle.numbers.specs.Parts.{front}
use Rattle.rules.specs.Base.{Bool, true, false, List, [], ℕ, zero, suc, length, set, take, drop, each}
use Rattle.rules.specs.BaseLaws.{All}
use Rattle.rules.specs.Refusal.{number_of, decide}
use Rattle.rules.specs.Settings.{slots_in}
use Rattle.rules.specs.SettingsLaws.{InRanges, HeapInRange}
use Rattle.rules.specs.Condition1.{out_of_range}
use Rattle.rules.proofs.Condition1Laws.{in-limits}
use Rattle.rules.specs.SlotFile.{views_in}
use Rattle.rules.proofs.SlotLaws.{views-length}
use Rattle.rules.specs.Stores.{Store, made}
use Rattle.rules.proofs.StoreLaws.{made-length}
use Rattle.rules.specs.Layout.{Table}
use Rattle.rules.specs.World.{Given, accepted, refused}
use Rattle.theory.specs.Types.{Settings, Refusal, Limits}
use Rattle.theory.proofs.Reopened.{refused-not}
use Rattle.rules.specs.Answers.{refusal_at}
use Rattle.rules.proofs.Answers.{known}
use Rattle.faults.specs.Faults.{judged, judged_in}
use Rattle.losses.specs.Salvage.{losses_in, report_of, emptying_of, loss_words, Salvaged, salvage_call}
use Rattle.losses.specs.Few.{stores-many}
use Rattle.salvage_theory.specs.Types.{Loss}
use Rattle.salvage_theory.proofs.Next.{next-loss}
use Rattle.salvage_theory.specs.Lost.{Lost}
use Rattle.salvage_theory.proofs.Lost.{all-lost, lost-lt}
use Rattle.salvage_theory.proofs.Emptied.{judged-emptied}
use Rattle.salvage_theory.specs.Cut.{gave_up}
use Rattle.salvage_theory.proofs.Rest.{judged-length, rest-reported}

-- and its stores end in the same heap
rest-made : (s : Settings) (report : List Loss) (heap : List ℕ) (k : ℕ)
    → made (emptying_of s (drop k report)) (made (take k (emptying_of s report)) heap) ≡ made (emptying_of s report) heap
unfolding emptying_of made
rest-made s [] heap zero = refl
rest-made s [] heap (suc k) = refl
rest-made s (x ∷ report) heap zero = refl
rest-made s (x ∷ report) heap (suc k) = rest-made s report (set heap (x.slot * s.slot_bytes) 0) k

-- no line is written
pub no_words : (words : List ℕ) → front (each loss_words []) words ≡ words
unfolding front each
no_words words = refl

-- request P9: "Refusals: 1 only": refused with 1 where a reopening is, and nothing changes
pub salvage-limits : (s : Settings) (heap : List ℕ) (table : Table) (words : List ℕ) → out_of_range s (length heap) table ≡ true
    → salvage_call s heap table words ≡ record { answer = refused Limits; report = words; heap = heap }
unfolding salvage_call decide
salvage-limits s heap table words h = rw h refl

-- request P9: the number of lines; "slot and refusal number .. in the order emptied"; the heap after the stores
pub salvage-reports : (s : Settings) (heap : List ℕ) (table : Table) (words : List ℕ) → out_of_range s (length heap) table ≡ false
    → salvage_call s heap table words ≡ gave_up (report_of s heap) words (made (emptying_of s (report_of s heap)) heap)
unfolding salvage_call decide
salvage-reports s heap table words range = rw range refl

-- request P9: "Refusals: 1 only"
pub salvage-refuses : (s : Settings) (heap : List ℕ) (table : Table) (words : List ℕ) (r : Refusal) → (salvage_call s heap table words).answer ≡ refused r → r ≡ Limits
salvage-refuses s heap table words r e = go (out_of_range s (length heap) table) refl
  where
    go : (b : Bool) → out_of_range s (length heap) table ≡ b → r ≡ Limits
    go true h =
        let n : number_of r ≡ 1 = sym (ap (λ (g : Given). g.number) e) ∙ ap (λ (c : Salvaged). c.answer.number) (salvage-limits s heap table words h) in
        sym (known r).back ∙ ap refusal_at n
    go false h = absurd (refused-not r (sym (ap (λ (g : Given). g.number) e) ∙ ap (λ (c : Salvaged). c.answer.number) (salvage-reports s heap table words h)))

module _ (s : Settings) (heap : List ℕ) (table : Table) (range : out_of_range s (length heap) table ≡ false) where
  -- LAW: the first k stores keep the heap's length
  pub cut-length : (k : ℕ) → length (made (take k (emptying_of s (report_of s heap))) heap) ≡ length heap
  cut-length k = made-length (take k (emptying_of s (report_of s heap))) heap

  -- so 1 stays what it was
  pub cut_range : (k : ℕ) → out_of_range s (length (made (take k (emptying_of s (report_of s heap))) heap)) table ≡ false
  cut_range k = ap (λ (n : ℕ). out_of_range s n table) (cut-length k) ∙ range

  -- LAW: after the first k stores the report is the rest of it
  pub cut-report : (k : ℕ) → report_of s (made (take k (emptying_of s (report_of s heap))) heap) ≡ drop k (report_of s heap)
  cut-report = let l = in-limits s (length heap) table range in rest-reported s l.settings (report_of s heap) heap l.heap refl

  -- request P9: power cut behind the first k stores: a second salvage reports the rest, in the same order, and ends in the same heap
  pub cut-salvage : (k : ℕ) (words : List ℕ) → salvage_call s (made (take k (emptying_of s (report_of s heap))) heap) table words
      ≡ gave_up (drop k (report_of s heap)) words (salvage_call s heap table words).heap
  cut-salvage k words =
      let cut = made (take k (emptying_of s (report_of s heap))) heap in
      salvage-reports s cut table words (cut_range k)
      ∙ ap (λ (xs : List Loss). gave_up xs words (made (emptying_of s xs) cut)) (cut-report k)
      ∙ ap (gave_up (drop k (report_of s heap)) words) (rest-made s (report_of s heap) heap k ∙ sym (ap (λ (c : Salvaged). c.heap) (salvage-reports s heap table words range)))

  -- all stores made: the heap that the salvage leaves
  whole-cut : (words : List ℕ) → made (take (length (report_of s heap)) (emptying_of s (report_of s heap))) heap ≡ (salvage_call s heap table words).heap
  whole-cut words =
      ap (λ (ss : List Store). made ss heap) (take_all (length (report_of s heap)) (emptying_of s (report_of s heap)) (omega (arith, stores-many s (report_of s heap))))
      ∙ sym (ap (λ (c : Salvaged). c.heap) (salvage-reports s heap table words range))

  no-rest : drop (length (report_of s heap)) (report_of s heap) ≡ []
  no-rest = let h : length (report_of s heap) ≤ length (report_of s heap) = omega arith in drop_of_length-le (report_of s heap) h

  -- LAW: nothing is reported of the heap that a salvage left
  pub nothing_left : (words : List ℕ) → report_of s (salvage_call s heap table words).heap ≡ []
  nothing_left words = ap (report_of s) (sym (whole-cut words)) ∙ cut-report (length (report_of s heap)) ∙ no-rest

  -- LAW: nor does its length change, so 1 stays what it was
  pub salvage-length : (words : List ℕ) → length (salvage_call s heap table words).heap ≡ length heap
  salvage-length words = ap length (sym (whole-cut words)) ∙ cut-length (length (report_of s heap))

  -- request P9: a second salvage reports nothing and changes nothing
  pub second-salvage : (words again : List ℕ)
      → salvage_call s (salvage_call s heap table words).heap table again ≡ record { answer = accepted (0 ∷ []); report = again; heap = (salvage_call s heap table words).heap }
  unfolding emptying_of made
  second-salvage words again =
      salvage-reports s (salvage_call s heap table words).heap table again (ap (λ (n : ℕ). out_of_range s n table) (salvage-length words) ∙ range)
      ∙ ap (λ (xs : List Loss). gave_up xs again (made (emptying_of s xs) (salvage_call s heap table words).heap)) (nothing_left words)
      ∙ ap (λ (r : List ℕ). record { answer = accepted (0 ∷ []); report = r; heap = (salvage_call s heap table words).heap }) (no_words again)
