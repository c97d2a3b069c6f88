use mathlib.Core.Path.{ap₂, ◌∙◌}
use mathlib.Core.List.{List, []}
use Prim.Native.Nat.{ℕ, ◌+◌, ◌^◌, ◌<◌, ◌≤◌}
use lib.ListN.{length, length-append}
use Rattle.faults.specs.Faults.{line_if, faults_from, closing}
use Rattle.file_faults.proofs.Telling.{tells_as, tells-then}
use Rattle.checker.specs.SlotLines.{slots_judged}
use Rattle.checker.proofs.SlotLines.{closing-line}
use Rattle.checker.proofs.Few.{list-fits}
use native.Mathlib.Omega.{arith}
use Rattle.checker.proofs.slots.listed.Goals as goal

-- the number of lines fits
few : (n size room : ℕ) (heap : List ℕ) → n ≤ 256 → size ≤ 1048576 → room ≤ 65536
    → let vs = slots_judged n size heap in length (faults_from 0 [] vs) + length (closing room vs) + 2 < 2 ^ 64
few n size room heap most high w =
    let vs = slots_judged n size heap in
    omega (arith, list-fits n size room heap most high, w, length-append (faults_from 0 [] vs) (closing room vs))

pub all_lines-count-requires : goal.all_lines-count-requires
all_lines-count-requires c =
    let a = c.args in
    record {
      judged = record { within = c.requires.0; most = c.requires.1; labels = c.sound-slots.ensures };
      heap_len_bound = omega (arith, few a.n a.size a.room a.heap.now c.requires.1 c.requires.2 c.requires.3);
    }

pub more_than-more-requires : goal.more_than-more-requires
more_than-more-requires c =
    record {
      judged = record { within = c.requires.0; most = c.requires.1; labels = c.sound-slots.ensures };
      room_bound = c.requires.3;
    }

pub note_if-requires : goal.note_if-requires
note_if-requires c =
    let a = c.args in
    omega (arith, few a.n a.size a.room a.heap.now c.requires.1 c.requires.2 c.requires.3, c.all_lines-count.ensures.count)

pub returns : goal.returns
returns c =
    let a = c.args in
    tells-then c.all_lines-count.ensures (tells_as (ap₂ line_if c.more_than-more.ensures c.nowhere.ensures ∙ closing-line a.room a.n a.size a.heap.now) c.note_if.ensures.tells)
