use mathlib.Core.Path.{◌≡◌, sym, ap, ◌∙◌}
use mathlib.Core.List.{List, ◌++◌}
use mathlib.Core.Bool.{Bool}
use Prim.Native.Nat.{ℕ, ◌+◌}
use lib.ListN.{length, length-append}
use Rattle.rules.specs.SlotFile.{view_in}
use Rattle.reopen_tests.specs.Shown.{file_seen}
use Rattle.faults.specs.Faults.{judged, line, line_if, file_faults}
use Rattle.faults.specs.Judging.{SoundFile, judges-file}
use Rattle.file_faults.proofs.Telling.{tells_as, tells-then}
use Rattle.checker.specs.Types.{Label, Overlap, Nowhere, Fault}
use Rattle.checker.specs.SlotLines.{slot_lines}
use Rattle.checker.proofs.SlotLines.{judges-none, own-lines, file-slot-lines}
use native.Mathlib.Omega.{arith}
use Rattle.checker.proofs.slots.slot_lines.Goals as goal

pub returns-then-no_file : goal.returns-then-no_file
returns-then-no_file c =
    let a = c.args in
    tells_as (sym (own-lines a.number a.met (judged (view_in a.slot.now)) (judges-none a.slot.now a.l c.requires.judges (sym c.no_file.ensures ∙ c.if-no_file.true))))
    c.own_line.ensures

-- a slot with a label has a sound file, and its lines are the file's, then 14
all : (slot : List ℕ) (l : Label) (number : ℕ) (met : Bool) → SoundFile slot l →
    slot_lines number met (judged (view_in slot)) ≡ file_faults number (file_seen l slot) ++ line_if met (line number Overlap Nowhere)
all slot l number met file =
    file-slot-lines number met (judged (view_in slot)) (file_seen l slot) file.sound

in_all : (slot : List ℕ) (l : Label) (number : ℕ) (met : Bool) → SoundFile slot l →
    length (slot_lines number met (judged (view_in slot))) ≡ length (file_faults number (file_seen l slot)) + length (line_if met (line number Overlap Nowhere))
in_all slot l number met file =
    ap length (all slot l number met file) ∙ length-append (file_faults number (file_seen l slot)) (line_if met (line number Overlap Nowhere))

pub file_lines-told-requires : goal.file_lines-told-requires
file_lines-told-requires c =
    let a = c.args in
    let file = judges-file a.slot.now a.l c.requires.judges (sym c.no_file.ensures ∙ c.if-no_file.false) in
    record {
      file_at = file.file;
      slot_bound = omega (arith, c.requires.slot_bound, in_all a.slot.now a.l a.number a.met file);
    }

pub note_if-requires : goal.note_if-requires
note_if-requires c =
    let a = c.args in
    let file = judges-file a.slot.now a.l c.requires.judges (sym c.no_file.ensures ∙ c.if-no_file.false) in
    omega (arith, c.requires.slot_bound, in_all a.slot.now a.l a.number a.met file, c.file_lines-told.ensures.count)

pub returns : goal.returns
returns c =
    let a = c.args in
    let file = judges-file a.slot.now a.l c.requires.judges (sym c.no_file.ensures ∙ c.if-no_file.false) in
    tells_as (sym (all a.slot.now a.l a.number a.met file)) (tells-then c.file_lines-told.ensures (tells_as (ap (λ (x : Fault). line_if a.met x) c.nowhere.ensures) c.note_if.ensures.tells))
