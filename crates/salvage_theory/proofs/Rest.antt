-- Request P9: the report after the first stores of a salvage.
use Rattle.std.specs.Prelude.{◌≡◌, refl, ◌≤◌, ◌∷◌, ◌*◌}
use Rattle.std.proofs.Common.{sym, ◌∙◌, subst, arith, length-set, drop_of_length-le, take_all}
use Rattle.std.proofs.Math.Path.{ap}
use Rattle.std.proofs.lemmas.List.{length-map}
use Rattle.numbers.specs.Parts.{front}
use Rattle.rules.specs.Base.{Bool, true, false, List, [], ℕ, zero, suc, length, set, take, drop, each}
use Rattle.rules.specs.BaseLaws.{All}
use Rattle.rules.specs.Refusal.{number_of, decide}
use Rattle.rules.specs.Settings.{slots_in}
use Rattle.rules.specs.SettingsLaws.{InRanges, HeapInRange}
use Rattle.rules.specs.Condition1.{out_of_range}
use Rattle.rules.proofs.Condition1Laws.{in-limits}
use Rattle.rules.specs.SlotFile.{views_in}
use Rattle.rules.proofs.SlotLaws.{views-length}
use Rattle.rules.specs.Stores.{Store, made}
use Rattle.rules.proofs.StoreLaws.{made-length}
use Rattle.rules.specs.Layout.{Table}
use Rattle.rules.specs.World.{Given, accepted, refused}
use Rattle.theory.specs.Types.{Settings, Refusal, Limits}
use Rattle.theory.proofs.Reopened.{refused-not}
use Rattle.rules.specs.Answers.{refusal_at}
use Rattle.rules.proofs.Answers.{known}
use Rattle.faults.specs.Faults.{judged, judged_in}
use Rattle.losses.specs.Salvage.{losses_in, report_of, emptying_of, loss_words, Salvaged, salvage_call}
use Rattle.losses.specs.Few.{stores-many}
use Rattle.salvage_theory.specs.Types.{Loss}
use Rattle.salvage_theory.proofs.Next.{next-loss}
use Rattle.salvage_theory.specs.Lost.{Lost}
use Rattle.salvage_theory.proofs.Lost.{all-lost, lost-lt}
use Rattle.salvage_theory.proofs.Emptied.{judged-emptied}
use Rattle.salvage_theory.specs.Cut.{gave_up}

-- N slots are judged
pub judged-length : (s : Settings) (heap : List ℕ) → length (judged_in s heap) ≡ slots_in s (length heap)
judged-length s heap = length-map (views_in (slots_in s (length heap)) s.slot_bytes heap) judged ∙ views-length (slots_in s (length heap)) s.slot_bytes heap

-- ---- the stores, in report order
module _ (s : Settings) (ranges : InRanges s) where
  -- the first k stores made, the report is the rest of it
  pub rest-reported : (report : List Loss) (heap : List ℕ) → HeapInRange s (length heap) → report_of s heap ≡ report
      → (k : ℕ) → report_of s (made (take k (emptying_of s report)) heap) ≡ drop k report
  unfolding emptying_of made
  rest-reported [] heap h e zero = e
  rest-reported [] heap h e (suc k) = e
  rest-reported (x ∷ report) heap h e zero = e
  rest-reported (x ∷ report) heap h e (suc k) =
      let low = lost-lt (judged_in s heap) x (subst (All (Lost (judged_in s heap))) e (all-lost (judged_in s heap))).0 in
      rest-reported report (set heap (x.slot * s.slot_bytes) 0) (subst (HeapInRange s) (sym (length-set heap (x.slot * s.slot_bytes) 0)) h)
      (ap losses_in (judged-emptied s heap x.slot ranges h (omega (arith, judged-length s heap))) ∙ next-loss (judged_in s heap) x report e) k
