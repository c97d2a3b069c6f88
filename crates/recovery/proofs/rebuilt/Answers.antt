use mathlib.Core.Path.{sym, ap, subst, ◌∙◌}
use mathlib.Core.List.{List, map}
use Prim.Native.Nat.{ℕ, ◌^◌, ◌<◌}
use Rattle.rules.specs.SlotFile.{views_in}
use Rattle.rules.specs.Reopen.{files_in, table_of}
use Rattle.reopen_tests.specs.Shown.{sound-views}
use Rattle.rebuild.specs.Counting.{surveyed-apart}
use Rattle.rebuild.specs.Records.{counted, next_from, records-counted, next-labels, next_low}
use Rattle.recovery.specs.Types.{Entry, TableRoom}
use Rattle.recovery.proofs.Steps.{blank-formed, gives_up, past-full, past_room}
use Rattle.recovery.proofs.Handing.{no_room, has_room, room-formed, room-used}
use Rattle.recovery.proofs.rebuilt.Goals as goal

pub fill-requires : goal.fill-requires
fill-requires c =
    record {
      formed = blank-formed c.args.table.now c.requires.2;
      surveyed = c.requires.0;
    }

pub returns-then-not-fill : goal.returns-then-not-fill
returns-then-not-fill c =
    let a = c.args in
    let heap = a.heap.now in
    let views = views_in a.n a.size heap in
    let out = no_room a.table.now c.requires.2 views _ _ c.fill.ensures (c.if-not-fill.true) in
    gives_up a.settings heap a.table.now _ _ _ TableRoom c.given_up.ensures c.capacity-table_len.ensures out.1
    ∙ sym (past-full a.settings heap a.table.now a.table.now views out.0)

pub with_live_counts-files-requires : goal.with_live_counts-files-requires
with_live_counts-files-requires c =
    let a = c.args in
    let views = views_in a.n a.size a.heap.now in
    let sound = sound-views a.n a.size a.heap.now _ c.requires.0 in
    (room-formed a.table.now c.requires.2 views _ _ c.fill.ensures a.size sound (c.if-not-fill.false), surveyed-apart a.n a.size a.heap.now _ c.requires.0 c.requires.3)

pub next_position-requires : goal.next_position-requires
next_position-requires c =
    let a = c.args in
    let views = views_in a.n a.size a.heap.now in
    let sound = sound-views a.n a.size a.heap.now _ c.requires.0 in
    let same = ap next_from c.requires.0.labels in
    subst (λ (n : ℕ). n < 2 ^ 63) (sym same) (next_low a.size views c.requires.1 sound)

pub returns : goal.returns
returns c =
    let a = c.args in
    let heap = a.heap.now in
    let views = views_in a.n a.size heap in
    let mapped = table_of (files_in views) in
    let sound = sound-views a.n a.size heap _ c.requires.0 in
    let room = c.if-not-fill.false in
    let b = a.table.now in
    let in_table = has_room b c.requires.2 views _ _ c.fill.ensures room in
    let records =
    c.with_live_counts-files.ensures
    ∙ ap (λ (es : List Entry). map (counted es) a.slots.labels) (room-used b c.requires.2 views _ _ c.fill.ensures a.size sound room)
    ∙ ap (map (counted mapped)) c.requires.0.labels ∙ records-counted a.size mapped views sound in
    let next =
    c.next_position.ensures ∙ ap next_from c.requires.0.labels ∙ sym (next-labels views) in
    past_room a.settings heap a.table.now _ views in_table.0 _ _ _ _ _ c.state_of.ensures c.capacity-table_len.ensures c.no_claims.ensures records next in_table.1
