use Rattle.file_map.proofs.RecordTurns.{mapped-length}
use mathlib.Core.Path.{◌≡◌, refl, ap, ◌∙◌}
use mathlib.Core.List.{List}
use Prim.Native.Nat.{ℕ}
use native.Mathlib.Omega.{arith}
use borrow.Author.Rules.{rules}
use lib.ListN.{length, replicate, set, length-replicate}
use Rattle.rebuild.specs.Records.{masked_lsn}
use Rattle.rebuild.proofs.CountTurns.{map_to, map_next, map-end}
use Rattle.rebuild.proofs.counts.masked_lsns.Goals as goal

zeros : length (replicate {A = ℕ} 256 0) ≡ 256
zeros = length-replicate {A = ℕ} 256 0

pub loop-k-init : goal.loop-k-init
loop-k-init c = refl

pub loop-k-preserved : goal.loop-k-preserved
loop-k-preserved c =
    let ls = c.args.slots.labels in
    let len : length ls ≡ 256 = search (mapped-length, rules) in
    let l = c.loop-k in
    ap (λ (ns : List ℕ). set ns l.k c.masked.result) l.invariant ∙ ap (set (map_to masked_lsn l.k ls (replicate 256 0)) l.k) c.masked.ensures ∙ map_next masked_lsn ls (replicate 256 0) l.k (omega arith) (omega (arith, zeros))

pub returns : goal.returns
returns c =
    let ls = c.args.slots.labels in
    let len : length ls ≡ 256 = search (mapped-length, rules) in
    let l = c.loop-k in
    l.invariant ∙ map-end masked_lsn ls (replicate 256 0) l.k (omega arith) (omega (arith, zeros))
