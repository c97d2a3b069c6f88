use Rattle.std.specs.Prelude.{◌∷◌}
use Rattle.rules.specs.Base.{[]}
use Rattle.script.specs.declared.Keyword.TheVariants as key
use Rattle.desk.specs.Commands.{lent_by}
use Rattle.desk.proofs.Orders.{last}
use Rattle.desk.proofs.on_table.Goals as goal

pub returns-in-Entry : goal.returns-in-Entry
unfolding lent_by
returns-in-Entry c = λ bytes heap. rw c.in-Entry.is (c.entry.ensures heap)

pub returns-in-Store : goal.returns-in-Store
unfolding lent_by
returns-in-Store c = λ bytes heap. rw c.in-Store.is (c.store.ensures heap)

pub returns-in-Cas : goal.returns-in-Cas
unfolding lent_by
returns-in-Cas c = λ bytes heap. rw c.in-Cas.is (c.cas.ensures heap)

pub returns-in_default : goal.returns-in_default
unfolding lent_by
returns-in_default c =
    let max = last (key.Entry ∷ key.Store ∷ key.Cas ∷ []) key.Max c.args.keyword c.requires (c.in_default.not-Entry, (c.in_default.not-Store, (c.in_default.not-Cas, tt))) in
    λ bytes heap. rw max (c.max.ensures heap)
