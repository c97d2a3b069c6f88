use mathlib.Core.Path.{refl, sym, ap, ap₂, ◌∙◌}
use Prim.Native.Nat.{ℕ, ◌<◌}
use native.Mathlib.Omega.{arith}
use borrow.Author.Tests.{eq-eqb, ne_eqb}
use lib.ListN.{get_or, set}
use lib.Seq.{set-get_or}
use Rattle.gc_split.specs.Tally.{Tally, tally, taking, piece_no}
use Rattle.rules.proofs.OpsLaws.{shard-most}
use Rattle.gc_split.proofs.BoundLaws.{take_within}
use Rattle.gc_files.specs.Places.{op_at, entry_taken, entry_piece}
use Rattle.gc_files.specs.PlaceLaws.{moving-told, measured}
use Rattle.gc_files.proofs.split.split_entry.Goals as goal

pub returns-then-e-eq0 : goal.returns-then-e-eq0
unfolding entry_taken entry_piece
returns-then-e-eq0 c =
    rw (eq-eqb c.args.e.place 0 c.if-e-eq0.true) (record { tallies = refl; pieces = sym (set-get_or c.args.pieces.now c.args.e.at 0) })

pub size_of-size-requires : goal.size_of-size-requires
size_of-size-requires c =
    let some : 0 < c.args.e.place = omega (arith, c.if-e-eq0.false) in
    let told = moving-told c.args.heap.now c.args.e.id c.args.e.place some c.requires.whole in
    rw c.moving_at-o.ensures (omega (arith, told.short))

pub join-t-requires : goal.join-t-requires
join-t-requires c =
    let a = c.args in
    let found = measured a.heap.now a.e.id a.e.place c.if-e-eq0.false c.requires.whole c.moving_at-o.ensures c.shard_of-shard.ensures c.size_of-size.ensures in
    (rw found.shard (shard-most (op_at a.heap.now a.e.id a.e.place).content), omega (arith, found.most), c.requires.entries_bound, c.requires.within)

pub piece_in-requires : goal.piece_in-requires
piece_in-requires c =
    let a = c.args in
    let found = measured a.heap.now a.e.id a.e.place c.if-e-eq0.false c.requires.whole c.moving_at-o.ensures c.shard_of-shard.ensures c.size_of-size.ensures in
    let t = tally a.shards.now a.cuts.now a.totals in
    let after = take_within a.settings.target_file_size a.settings.slot_bytes c.shard_of-shard.result c.size_of-size.result t c.requires.within c.requires.entries_bound found.most in
    let kept = rw (← c.join-t.ensures) at after in (
      rw found.shard (shard-most (op_at a.heap.now a.e.id a.e.place).content),
      kept.round_shards,
      omega (arith, kept.rounds c.shard_of-shard.result, kept.entries),
    )

pub offset_bounds-pieces-at : goal.offset_bounds-pieces-at
offset_bounds-pieces-at c =
    let room = c.requires.at_in_bounds in
    omega arith

pub bounds-pieces-at : goal.bounds-pieces-at
bounds-pieces-at c =
    let room = c.requires.at_in_bounds in
    omega arith

pub returns : goal.returns
unfolding entry_taken entry_piece
returns c =
    let a = c.args in
    let found = measured a.heap.now a.e.id a.e.place c.if-e-eq0.false c.requires.whole c.moving_at-o.ensures c.shard_of-shard.ensures c.size_of-size.ensures in
    let t = tally a.shards.now a.cuts.now a.totals in
    let joined = c.join-t.ensures ∙ ap₂ (λ (n k : ℕ). taking a.settings.target_file_size a.settings.slot_bytes n k t) found.shard found.size in
    let number = c.piece_in.ensures.answers ∙ ap₂ (λ (n : ℕ) (u : Tally). piece_no n (get_or u.rounds n 0)) found.shard joined in
    rw (ne_eqb a.e.place 0 c.if-e-eq0.false) (record { tallies = joined; pieces = ap (set a.pieces.now a.e.at) number })
