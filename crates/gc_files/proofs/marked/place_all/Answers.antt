use mathlib.Core.Path.{refl, sym, ap, ◌∙◌, ◌≡◌}
use lib.ListN.{drop, length, get_or, length-set, length-drop}
use Rattle.numbers.specs.Parts.{put_at, put_front, put_step}
use Rattle.rules.specs.Layout.{table_locations}
use Rattle.rules.proofs.LayoutLaws.{locations-count, used-length}
use Rattle.gc_files.specs.Places.{places_for}
use Rattle.gc_files.specs.PlaceLaws.{none-behind, places-next, places-none}
use Prim.Native.Nat.{ℕ, ◌+◌, ◌≤◌, ◌<◌}
use native.Mathlib.Omega.{arith}
use lib.Seq.{get_or-drop, get_or-set_other}
use Rattle.gc_files.proofs.marked.place_all.Goals as goal

pub loop-i-init : goal.loop-i-init
loop-i-init c =
    let t = c.args.table.now in
    let blank : (k : ℕ) → c.used-i-end.result ≤ k → get_or c.args.places.now k 0 ≡ 0 =
    λ k h. none-behind t c.args.places.now c.requires.formed.2 k (omega (arith, c.used-i-end.ensures)) in
    (omega (arith, c.used-i-end.ensures, used-length t, locations-count t), put_front c.args.places.now (places_for c.args.slot_bytes c.args.lsns.now (table_locations t) c.args.marks.now), refl, blank)

pub loaded_at-loaded-requires : goal.loaded_at-loaded-requires
loaded_at-loaded-requires c =
    omega (arith, c.used-i-end.ensures, used-length c.args.table.now)

pub place_of-requires : goal.place_of-requires
place_of-requires c =
    record {
      slot_bytes_bound = c.requires.slot_bytes_bound;
      placeable = rw c.loaded_at-loaded.ensures (c.requires.placeables.each c.loop-i.i (omega arith));
    }

pub loop-i-preserved : goal.loop-i-preserved
loop-i-preserved c =
    let a = c.args in
    let asked = c.requires.placeables in
    let i = c.loop-i.i in
    let inv = c.loop-i.invariant in
    let low : i < length (table_locations a.table.now) = omega arith in
    let room : i < length c.loop-i.places = omega (arith, asked.room) in
    let next = places-next a.slot_bytes a.lsns.now (table_locations a.table.now) a.marks.now i low (omega (arith, asked.marks)) in (
      inv.0,
      rw (c.place_of.ensures, c.loaded_at-loaded.ensures) (put_step c.loop-i.places i _ _ room ∙ ap (put_at c.loop-i.places i) (sym next) ∙ inv.1),
      length-set c.loop-i.places i _ ∙ inv.2,
      λ k h. get_or-set_other c.loop-i.places i k _ 0 (λ q. omega arith) ∙ inv.3 k h,
    )

pub returns : goal.returns
returns c =
    let a = c.args in
    let ls = table_locations a.table.now in
    let i = c.loop-i.i in
    let unmarked : (k : ℕ) → get_or (drop i a.marks.now) k 0 ≡ 0 =
    λ k. get_or-drop i a.marks.now k 0 ∙ none-behind a.table.now a.marks.now c.requires.formed.1 (i + k) (omega (arith, c.used-i-end.ensures)) in
    sym (places-none a.slot_bytes a.lsns.now (drop i ls) (drop i a.marks.now) c.loop-i.places i unmarked
    (λ k h. c.loop-i.invariant.3 k (omega arith)) (omega (arith, length-drop i ls, c.requires.placeables.room)))
    ∙ c.loop-i.invariant.1
