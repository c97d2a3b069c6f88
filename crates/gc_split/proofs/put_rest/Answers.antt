use mathlib.Core.Path.{refl, sym, ◌∙◌}
use mathlib.Core.List.{[]}
use borrow.Author.Tests.{eq-eqb, ne_eqb}
use Rattle.numbers.specs.Parts.{put_step, put-none}
use Rattle.gc_split.specs.Tally.{rest_of}
use Prim.Native.Nat.{◌+◌, ◌<◌}
use native.Mathlib.Omega.{arith}
use lib.ListN.{length, set}
use Rattle.gc_split.proofs.put_rest.Goals as goal

pub returns-then-entries-eq0 : goal.returns-then-entries-eq0
unfolding rest_of
returns-then-entries-eq0 c =
    rw (eq-eqb c.args.entries 0 c.if-entries-eq0.true) (record { counts = omega arith; writes = sym (put-none c.args.rests.now c.args.left) })

pub returns : goal.returns
unfolding rest_of
returns c =
    let rests = c.args.rests.now in
    let left = c.args.left in
    let room : left < length rests = omega arith in
    rw (ne_eqb c.args.entries 0 c.if-entries-eq0.false)
    (record { counts = refl; writes = sym (sym (put_step rests left c.args.piece [] room) ∙ put-none (set rests left c.args.piece) (left + 1)) })
