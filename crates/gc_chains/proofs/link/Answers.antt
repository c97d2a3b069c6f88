use mathlib.Core.Path.{◌≡◌, refl, sym, subst}
use Prim.Native.Nat.{ℕ, suc, ◌-◌}
use native.Mathlib.Omega.{arith}
use Rattle.rules.specs.Layout.{table_ids}
use Rattle.gc_chains.specs.Linking.{Linking, linking-start, linking-end}
use Rattle.gc_chains.proofs.link.Goals as goal

pub loop-i-init : goal.loop-i-init
loop-i-init c =
    let a = c.args in
    let at = sym c.used-i.ensures in
    let begins = linking-start (table_ids a.table.now) a.places.now a.links.now a.words.now _ c.requires.linkable in
    (omega (arith, at), subst (λ (n : ℕ). Linking (table_ids a.table.now) a.places.now a.links.now a.words.now n a.links.now a.words.now) at begins)

pub loop-i-preserved : goal.loop-i-preserved
loop-i-preserved c =
    let a = c.args in
    let w = c.requires.linkable in
    let inv = c.loop-i.invariant in
    let more = c.loop-i-test.true in
    let on : c.loop-i.i ≡ suc (c.loop-i.i - 1) = omega (arith, more) in
    let before = subst (λ (n : ℕ). Linking (table_ids a.table.now) a.places.now a.links.now a.words.now n c.loop-i.links c.loop-i.words) on inv.1 in
    (omega (arith, inv.0), c.link_entry.ensures (table_ids a.table.now) a.places.now a.links.now a.words.now _ w (omega (arith, inv.0, more, w.low)) refl before)

pub returns : goal.returns
returns c =
    let a = c.args in
    let last : c.loop-i.i ≡ 0 = omega (arith, c.loop-i-test.false) in
    linking-end (table_ids a.table.now) a.places.now a.links.now a.words.now _ c.requires.linkable c.loop-i.links c.loop-i.words
    (subst (λ (n : ℕ). Linking (table_ids a.table.now) a.places.now a.links.now a.words.now n c.loop-i.links c.loop-i.words) last c.loop-i.invariant.1)
