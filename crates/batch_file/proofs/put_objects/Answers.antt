use mathlib.Core.Path.{ap, ◌∙◌}
use Prim.Native.Nat.{ℕ, ◌+◌}
use native.Mathlib.Omega.{arith}
use Rattle.batch.specs.WalkLaws.{stepped, stepped-end, walk_start, walk-next, walk_end}
use Rattle.batch_file.specs.Putting.{objects_from, putting-start, object-fits, object-put, objects-put}
use Rattle.batch_file.specs.Summing.{summing_start, summing-next, summing-end}
use Rattle.batch_file.proofs.put_objects.Goals as goal

pub loop-o-init : goal.loop-o-init
loop-o-init c =
    let e = c.requires.1.all in
    (walk_start c.requires.1, c.requires.0, summing_start e c.requires.2 c.requires.4 c.sum_count-register.ensures, putting-start objects_from _ 0 _ _ _ e)

pub returns : goal.returns
returns c =
    let none = stepped-end c.args.batch.now _ c.next.ensures.steps c.in_default.is in
    record {
      made = objects-put c.loop-o.invariant.3 none;
      summed = c.sum_end.ensures ∙ summing-end c.loop-o.invariant.2 none;
      again = walk_end c.loop-o.invariant.0 c.next.ensures.keeps c.in_default.is;
    }

pub put_content-rest-requires : goal.put_content-rest-requires
put_content-rest-requires c =
    let e = stepped _ c.next.ensures.steps c.next.ensures.within c.in-Some.is in
    record {
      o_in_bounds = omega (arith, object-fits c.loop-o.invariant.3 e, c.requires.3, c.loop-o.invariant.3.way.size);
      len_in_bounds = e.inside;
    }

pub loop-o-preserved : goal.loop-o-preserved
loop-o-preserved c =
    let inv = c.loop-o.invariant in
    let e = stepped _ c.next.ensures.steps c.next.ensures.within c.in-Some.is in
    let on = ap (λ (n : ℕ). c.loop-o.at + n) c.size_of-at.ensures in (
      walk-next inv.0 c.next.ensures.keeps c.in-Some.is,
      omega arith,
      summing-next inv.2 e c.entry_of.ensures c.sum_entry-register.ensures on,
      object-put inv.3 e on (omega (arith, on)) c.put_content-rest.ensures,
    )
