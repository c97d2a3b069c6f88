-- Request P9, "Rescue a damaged heap": the slots that a salvage gives up, in the order emptied, and the heap that it leaves.
use Rattle.std.specs.Prelude.{◌∷◌, ◌++◌, ◌+◌}
use Rattle.rules.specs.Base.{List, [], map, ℕ, suc, length, leb, ltb, pick, each}
use Rattle.losses.specs.Types.{Settings, Label, Refusal, Limits, Overlap, Loss}
use Rattle.numbers.specs.Parts.{front}
use Rattle.disk_location.specs.Locations.{masked_of}
use Rattle.rules.specs.Refusal.{number_of, ◌gives◌, decide, after}
use Rattle.rules.specs.Stores.{Store, made}
use Rattle.rules.specs.PruneLaws.{emptying}
use Rattle.rules.specs.SlotFile.{View, empty, damaged, holds}
use Rattle.rules.specs.Layout.{Table}
use Rattle.rules.specs.Condition1.{out_of_range}
use Rattle.rules.specs.World.{Given, accepted, refused}
use Rattle.faults.specs.Faults.{judged_in}

-- a line of the report: "slot and refusal number"
abbrev pub loss : ℕ → Refusal → Loss
loss slot r = record { slot = slot; refusal = r }

-- ---- the first kind, on the slots judged by themselves
-- "every slot that fails 8, 9, 10, 11, 12, 13 or 15 by itself", with "the first in that order"
abbrev pub own_loss : ℕ → View → List Loss
own_loss slot empty = []
own_loss slot (damaged r) = loss slot r ∷ []
own_loss slot (holds f) = []

-- "the first kind goes ascending by slot"
unfoldable pub first_kind : ℕ → List View → List Loss
first_kind slot [] = []
first_kind slot (v ∷ vs) = own_loss slot v ++ first_kind (suc slot) vs

-- ---- the second kind
-- a slot that holds a sound file, and the file's label
pub record Sound : Type 0 where
  pub slot : ℕ
  pub label : Label

abbrev pub sound_of : ℕ → View → List Sound
sound_of slot empty = []
sound_of slot (damaged r) = []
sound_of slot (holds f) = record { slot = slot; label = f.label } ∷ []

-- "the rest", ascending by slot
unfoldable pub the_rest : ℕ → List View → List Sound
the_rest slot [] = []
the_rest slot (v ∷ vs) = sound_of slot v ++ the_rest (suc slot) vs

-- its masked lsn
abbrev pub start_of : Sound → ℕ
start_of x = masked_of x.label.lsn

-- "the end (masked lsn + T)"
abbrev pub end_of : Sound → ℕ
end_of x = start_of x + x.label.trailer_offset

-- one of a lower slot, put before the first whose masked lsn is not below its own
unfoldable pub placed : Sound → List Sound → List Sound
placed x [] = x ∷ []
placed x (y ∷ ys) = pick (leb (start_of x) (start_of y)) (x ∷ y ∷ ys) (y ∷ placed x ys)

-- "taken by ascending masked lsn, equal ones by ascending slot"
unfoldable pub in_order : List Sound → List Sound
in_order [] = []
in_order (x ∷ xs) = placed x (in_order xs)

-- "one whose masked lsn isn't above the end .. of the last kept file is emptied", where that end is given
unfoldable pub given_up_behind : ℕ → List Sound → List Loss
given_up_behind end [] = []
given_up_behind end (x ∷ xs) = pick (ltb end (start_of x)) (given_up_behind (end_of x) xs) (loss x.slot Overlap ∷ given_up_behind end xs)

-- the same from the first on, which is kept
unfoldable pub second_kind : List Sound → List Loss
second_kind [] = []
second_kind (x ∷ xs) = given_up_behind (end_of x) xs

-- ---- the report and the heap
-- "in the order emptied": "First every slot that fails .. by itself", "Then the rest"
unfoldable pub losses_in : List View → List Loss
losses_in views = first_kind 0 views ++ second_kind (in_order (the_rest 0 views))

-- of a heap
abbrev pub report_of : Settings → List ℕ → List Loss
report_of s heap = losses_in (judged_in s heap)

-- "Only the first label byte of reported slots changes": the stores, in report order
unfoldable pub emptying_of : Settings → List Loss → List Store
emptying_of s report = emptying s.slot_bytes (map (λ (x : Loss). x.slot) report)

-- two words to a line: slot, number
abbrev pub loss_words : Loss → List ℕ
loss_words x = x.slot ∷ number_of x.refusal ∷ []

-- ---- the call
-- an answer, the lent report and the heap after it
pub record Salvaged : Type 0 where
  pub answer : Given
  pub report : List ℕ
  pub heap : List ℕ

-- "Refusals: 1 only": reopening's; the number of lines; what of the report's words no line needs stays
unfoldable pub salvage_call : Settings → List ℕ → Table → List ℕ → Salvaged
salvage_call s heap table words =
    after (decide (out_of_range s (length heap) table gives Limits ∷ [])) (λ (r : Refusal). record { answer = refused r; report = words; heap = heap })
    (record {
      answer = accepted (length (report_of s heap) ∷ []);
      report = front (each loss_words (report_of s heap)) words;
      heap = made (emptying_of s (report_of s heap)) heap;
    })
