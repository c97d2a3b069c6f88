-- The labels of the slots, and 14 on them.
use Rattle.std.specs.Prelude.{◌&&◌, ◌||◌, ◌∷◌, ◌++◌, ◌-◌, Result, Ok, Err, None, Some}
use Rattle.rules.specs.Base.{Bool, false, not, List, [], map, ℕ, length, get_or, replicate, eqb, any, each}
use Rattle.reopen_tests.specs.Types.{Label, Refusal, Answer}
use Rattle.rules.specs.Refusal.{decide}
use Rattle.rules.specs.FileMap.{empty_label}
use Rattle.rules.specs.SlotFile.{View, empty, damaged, holds}
use Rattle.rules.specs.Reopen.{view_tests, meets}
use Rattle.slot_file.specs.Answers.{SlotAnswer}
use Rattle.reopen_tests.specs.declared.Labels.{Labels}

-- a slot without a file: no file has lsn 0
abbrev pub no_file : Label → Bool
no_file l = eqb l.lsn 0

-- the label of a slot
abbrev pub label_at : List Label → ℕ → Label
label_at ls k = get_or ls k empty_label

-- no slot has a file
unfoldable pub no_labels : List Label
no_labels = replicate 256 empty_label

-- a slot's refusal, if it is damaged
abbrev pub refusal_shown : SlotAnswer → Answer
refusal_shown (Ok None) = Ok tt
refusal_shown (Err r) = Err r
refusal_shown (Ok (Some l)) = Ok tt

-- a slot's label, if it holds a file
abbrev pub label_shown : SlotAnswer → Label
label_shown (Ok None) = empty_label
label_shown (Err r) = empty_label
label_shown (Ok (Some l)) = l

-- a view's label, if it holds a file
abbrev pub label_of : View → Label
label_of empty = empty_label
label_of (damaged r) = empty_label
label_of (holds f) = f.label

-- the labels of the 256 slots: those from N on are empty
unfoldable pub labels_of : List View → List Label
labels_of views = map label_of views ++ replicate (256 - length views) empty_label

-- an answer, with the labels where it is no refusal
abbrev pub survey_by : Answer → List View → Result Labels Refusal
survey_by (Ok tt) views = Ok (record { labels = labels_of views })
survey_by (Err r) views = Err r

-- "Per non-empty slot, ascending: 8, 9, 10, 11, 12, 13."
unfoldable pub surveyed : List View → Result Labels Refusal
surveyed views = survey_by (decide (each view_tests views)) views

-- two files whose ranges share a position
abbrev pub clash : Label → Label → Bool
clash l m = not (no_file l) && not (no_file m) && meets l m

-- "Files' masked ranges .. must be disjoint": some two of the labels are files whose ranges meet
unfoldable pub overlaps : List Label → Bool
overlaps [] = false
overlaps (l ∷ ls) = any (clash l) ls || overlaps ls
