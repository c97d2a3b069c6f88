use mathlib.Core.Path.{refl}
use Rattle.std.specs.Prelude.{◌∷◌}
use Rattle.rules.specs.Base.{[]}
use Rattle.script.specs.declared.Keyword.TheVariants as key
use Rattle.desk.specs.Commands.{done_by}
use Rattle.desk.proofs.Orders.{last}
use Rattle.desk.proofs.at_bench.Goals as goal

pub returns-in-Blank : goal.returns-in-Blank
unfolding done_by
returns-in-Blank c = λ bytes heap table. rw (c.shown.ensures, c.in-Blank.is) refl

pub returns-in-Bad : goal.returns-in-Bad
unfolding done_by
returns-in-Bad c = λ bytes heap table. rw (c.bad_line.ensures, c.in-Bad.is) refl

pub returns-in-Settings : goal.returns-in-Settings
unfolding done_by
returns-in-Settings c = λ bytes heap table. rw (c.settings.ensures, c.in-Settings.is) refl

pub returns-in-State : goal.returns-in-State
unfolding done_by
returns-in-State c = λ bytes heap table. rw (c.state.ensures, c.in-State.is) refl

pub returns-in-Record : goal.returns-in-Record
unfolding done_by
returns-in-Record c = λ bytes heap table. rw (c.«record».ensures, c.in-Record.is) refl

pub returns-in-Claims : goal.returns-in-Claims
unfolding done_by
returns-in-Claims c = λ bytes heap table. rw (c.claims.ensures, c.in-Claims.is) refl

pub returns-in-Unsynced : goal.returns-in-Unsynced
unfolding done_by
returns-in-Unsynced c = λ bytes heap table. rw c.in-Unsynced.is (c.unsynced.ensures heap table)

pub returns-in-Sync : goal.returns-in-Sync
unfolding done_by
returns-in-Sync c = λ bytes heap table. rw c.in-Sync.is (c.sync.ensures heap table)

pub returns-in-Check : goal.returns-in-Check
unfolding done_by
returns-in-Check c = λ bytes heap table. rw (c.check.ensures, c.in-Check.is) refl

pub returns-in-List : goal.returns-in-List
unfolding done_by
returns-in-List c = λ bytes heap table. rw (c.shown-in-List.ensures, c.in-List.is) refl

pub returns-in-Dump : goal.returns-in-Dump
unfolding done_by
returns-in-Dump c = λ bytes heap table. rw (c.shown-in-Dump.ensures, c.in-Dump.is) refl

pub returns-in_default : goal.returns-in_default
unfolding done_by
returns-in_default c =
    let told = key.Blank ∷ key.Bad ∷ key.Settings ∷ key.State ∷ key.Record ∷ key.Claims ∷ key.Unsynced ∷ key.Sync ∷ key.Check ∷ key.List ∷ key.Dump ∷ [] in
    let help = last told key.Help c.args.keyword c.requires (c.in_default.not-Blank, (c.in_default.not-Bad, (c.in_default.not-Settings, (c.in_default.not-State, (c.in_default.not-Record, (c.in_default.not-Claims, (c.in_default.not-Unsynced, (c.in_default.not-Sync, (c.in_default.not-Check, (c.in_default.not-List, (c.in_default.not-Dump, tt))))))))))) in
    λ bytes heap table. rw (c.shown-in_default.ensures, help) refl
