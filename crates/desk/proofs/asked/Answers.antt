use Rattle.std.specs.Prelude.{◌∷◌}
use Rattle.rules.specs.Base.{[]}
use Rattle.script.specs.declared.Keyword.TheVariants as key
use Rattle.desk.specs.Commands.{lent_by}
use Rattle.desk.proofs.Orders.{last}
use Rattle.desk.proofs.asked.Goals as goal

pub returns-in-Claim : goal.returns-in-Claim
unfolding lent_by
returns-in-Claim c = λ bytes. rw c.in-Claim.is c.claim.ensures

pub returns-in-Release : goal.returns-in-Release
unfolding lent_by
returns-in-Release c = λ bytes. rw c.in-Release.is c.release.ensures

pub returns-in-Read : goal.returns-in-Read
unfolding lent_by
returns-in-Read c = λ bytes. rw c.in-Read.is c.read.ensures

pub returns-in-Counts : goal.returns-in-Counts
unfolding lent_by
returns-in-Counts c = λ bytes. rw c.in-Counts.is c.counts.ensures

pub returns-in-Load : goal.returns-in-Load
unfolding lent_by
returns-in-Load c = λ bytes. rw c.in-Load.is (c.load.ensures _)

pub returns-in_default : goal.returns-in_default
unfolding lent_by
returns-in_default c =
    let shown = last (key.Claim ∷ key.Release ∷ key.Read ∷ key.Counts ∷ key.Load ∷ []) key.Bytes c.args.keyword c.requires (c.in_default.not-Claim, (c.in_default.not-Release, (c.in_default.not-Read, (c.in_default.not-Counts, (c.in_default.not-Load, tt))))) in
    λ bytes. rw shown (c.bytes.ensures _)
