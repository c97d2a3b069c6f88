use mathlib.Core.Path.{refl, ap, ◌∙◌}
use native.Mathlib.Omega.{arith}
use borrow.Author.Tests.{le-leb, lt-leb, lt-ltb, le-ltb}
use mathlib.Core.List.{List}
use lib.ListN.{set}
use Rattle.desk.specs.Types.{Record}
use Rattle.desk.specs.Desk.{done}
use Rattle.desk.specs.Commands.{nth, with_state}
use Rattle.desk.proofs.by_hand.record.Goals as goal

pub returns-then-slot : goal.returns-then-slot
returns-then-slot c =
    let a = c.args in
    rw (c.bad_line.ensures, le-leb 256 (nth a.n 0) (omega arith)) refl

pub returns-then-n-gt1 : goal.returns-then-n-gt1
returns-then-n-gt1 c =
    let a = c.args in
    rw (c.bad_line-then-n-gt1.ensures, lt-leb 256 (nth a.n 0) (omega arith), lt-ltb 1 (nth a.n 7) (omega arith)) refl

pub returns : goal.returns
returns c =
    let a = c.args in
    let s = a.b.state in
    rw (c.done.ensures, lt-leb 256 (nth a.n 0) (omega arith), le-ltb 1 (nth a.n 7) (omega arith))
    (ap (λ (rs : List Record). done (with_state a.b (record { settings = s.settings; heap_len = s.heap_len; table_len = s.table_len; files = record { records = rs }; next_position = s.next_position })))
    (c.with_record-changed.ensures ∙ ap (λ (r : Record). set s.files.records (nth a.n 0) r) c.record_of.ensures))
