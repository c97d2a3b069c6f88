use native.Mathlib.Omega.{arith}
use native.Mathlib.Nat.{mul-le-mul_right}
use Rattle.gc_candidates.proofs.Worth.{worth-share, worth-few, worth-many}
use Rattle.gc_candidates.proofs.worth_it.Goals as goal

pub returns-then-share-s : goal.returns-then-share-s
returns-then-share-s c =
    let a = c.args in
    worth-share a.s a.files a.r c.at_least_one.result c.at_least_one.ensures.answers c.if-share-s.true

pub returns-then-files-s : goal.returns-then-files-s
returns-then-files-s c =
    let a = c.args in
    worth-few a.s a.files a.r c.at_least_one.result c.at_least_one.ensures.answers c.if-share-s.false c.if-files-s.true

pub overflow_mul-result : goal.overflow_mul-result
overflow_mul-result c =
    let m = c.args.s.min_compaction_files in
    omega (arith, mul-le-mul_right m c.requires.small.size, c.requires.in_ranges.files-high)

pub returns : goal.returns
returns c =
    let a = c.args in
    worth-many a.s a.files a.r c.at_least_one.result c.at_least_one.ensures.answers c.if-share-s.false c.if-files-s.false
