use mathlib.Core.Path.{◌≡◌, sym, ap, ◌∙◌}
use mathlib.Core.Bool.{true, false}
use borrow.Author.Rules.{rules}
use Rattle.rules.specs.Types.{Held}
use Rattle.rules.specs.Layout.{Table, cleared}
use Rattle.location_table.specs.StoreLaws.{room-tells, no-room-tells}
use Rattle.rebuild.specs.Filled.{replaces, filled-kept, filled-stored, filled-full}
use Rattle.rebuild.proofs.table.meet.Goals as goal

pub returns-then-not-replaces : goal.returns-then-not-replaces
returns-then-not-replaces c =
    let a = c.args in
    let no : c.replaces.result ≡ false = search rules in
    let older = ap (λ (h : Held). replaces h a.location) (sym c.load_in.ensures) ∙ sym c.replaces.ensures ∙ no in
    filled-kept a.table.now c.requires.formed (record { id = a.id; location = a.location }) older

pub returns-then-not-store_in : goal.returns-then-not-store_in
returns-then-not-store_in c =
    let a = c.args in
    let yes : c.replaces.result ≡ true = search rules in
    let newer = ap (λ (h : Held). replaces h a.location) (sym c.load_in.ensures) ∙ sym c.replaces.ensures ∙ yes in
    let b = a.table.now in
    let none = no-room-tells b a.id a.location _ _ c.store_in.ensures (search rules) in
    filled-full b c.requires.formed (record { id = a.id; location = a.location }) newer none.0 _ (c.clear.ensures ∙ ap (λ (t : Table). cleared t) none.1)

pub returns : goal.returns
returns c =
    let a = c.args in
    let yes : c.replaces.result ≡ true = search rules in
    let newer = ap (λ (h : Held). replaces h a.location) (sym c.load_in.ensures) ∙ sym c.replaces.ensures ∙ yes in
    let b = a.table.now in
    let some = room-tells b a.id a.location _ _ c.store_in.ensures (search rules) in
    filled-stored b c.requires.formed (record { id = a.id; location = a.location }) newer some.0 _ some.1
