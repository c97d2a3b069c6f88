use Prim.Native.Nat.{ℕ}
use mathlib.Core.Path.{◌≡◌}
use native.Mathlib.Omega.{arith}
use borrow.Author.Rules.{rules}
use lib.ListN.{length, replicate, length-replicate}
use Rattle.rules.specs.declared.Record.{Record}
use Rattle.file_map.proofs.RecordTurns.{mapped-length, copying-start, copying-next, copying-end}
use Rattle.file_map.proofs.lsns.Goals as goal

zeros : length (replicate {A = ℕ} 256 0) ≡ 256
zeros = length-replicate {A = ℕ} 256 0

pub loop-i-init : goal.loop-i-init
loop-i-init c =
    let l : length c.args.m.records ≡ 256 = search (mapped-length, rules) in
    copying-start (λ (r : Record). r.label.lsn) c.args.m.records (replicate 256 0) l zeros

pub loop-i-preserved : goal.loop-i-preserved
loop-i-preserved c =
    let rs = c.args.m.records in
    let l : length rs ≡ 256 = search (mapped-length, rules) in
    copying-next (λ (r : Record). r.label.lsn) rs (replicate 256 0) l zeros c.loop-i.i c.loop-i.lsns c.loop-i.invariant (omega arith)

pub returns : goal.returns
returns c =
    let rs = c.args.m.records in
    let l : length rs ≡ 256 = search (mapped-length, rules) in
    copying-end (λ (r : Record). r.label.lsn) rs (replicate 256 0) l zeros c.loop-i.i c.loop-i.lsns c.loop-i.invariant (omega arith)
