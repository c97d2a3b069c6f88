use Prim.Native.Nat.{◌+◌, ◌*◌, ◌^◌, ◌<◌, ◌-◌}
use mathlib.Core.Path.{◌≡◌, refl, ap}
use native.Mathlib.Omega.{arith}
use borrow.Author.Rules.{rules}
use lib.ListN.{length, get_or}
use Rattle.rules.proofs.LayoutLaws.{ids-count}
use Rattle.rules.specs.Settings.{slots_in}
use Rattle.rules.specs.FileMap.{lowest_empty}
use Rattle.gc_rewrite.specs.Putting.{put-start, put-asks, put-slot, put-turn, put-end}
use Rattle.gc_rewrite.proofs.put_files.Goals as goal

pub loop-file-init : goal.loop-file-init
loop-file-init c =
    put-start _ _ _ _ _ _ _ _ c.requires.puttable

pub bounds-frees-file : goal.bounds-frees-file
bounds-frees-file c = let room = (put-slot _ _ _ _ _ _ _ _ _ _ _ _ c.loop-file.invariant (omega arith) _ refl c.args.frees.now c.requires.listed).0 in search (room, rules)

pub add_piece-after-requires : goal.add_piece-after-requires
add_piece-after-requires c =
    let asks = put-asks _ _ _ _ _ _ _ _ _ _ _ _ c.loop-file.invariant (omega arith) _ refl in
    let leads = rw (← c.loop-file.invariant.same_ids) at (c.requires.puttable.firsts c.loop-file.file (omega arith)) in
    record {
      placing_2 = c.loop-file.invariant.placing;
      leads = leads;
      generation_bound = c.requires.generation_bound;
      links_bound = asks.0;
      nonzero = (asks.1, (put-slot _ _ _ _ _ _ _ _ _ _ _ _ c.loop-file.invariant (omega arith) _ refl c.args.frees.now c.requires.listed).1);
      links_bound_2 = asks.2;
    }

pub loop-file-preserved : goal.loop-file-preserved
loop-file-preserved c =
    let left = c.add_piece-after.ensures in
    put-turn _ _ _ _ _ _ _ _ _ _ _ _ c.loop-file.invariant (omega arith) _ refl _ _ _ (record {
      worlds = left.leaves;
      placing = left.placing;
      filed = left.others;
      slot = _;
      frees = left.slots;
      next = left.position;
      same_heap = search rules;
      same_ids = left.ids;
    })

pub returns : goal.returns
returns c =
    put-end _ _ _ _ _ _ _ _ _ _ _ _ c.loop-file.invariant (omega arith)
