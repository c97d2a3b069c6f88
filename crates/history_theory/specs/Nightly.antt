-- Request P7: "the nightly job becomes plan, rewrite 1, 2, 3, then prune, stopping at the first call refused"; so demand 3 holds of the job as of its calls.
use Rattle.std.specs.Prelude.{◌∷◌, ◌+◌}
use Rattle.rules.specs.Base.{List, [], ℕ, get_or, eqb, pick}
use Rattle.rules.specs.Refusal.{◌gives◌, after}
use Rattle.rules.specs.TwoCalls.{mark_of, count_of}
use Rattle.rules.specs.World.{World, Given, accepted, refused, After, leaving}
use Rattle.history_theory.specs.Quiet.{plan}
use Rattle.history_theory.specs.History.{Call, write, rewrite, prune, reopen, quiet, called}

-- ---- calls one after another, "stopping at the first call refused"
-- those that are made: the refused one, and none behind it
unfoldable pub until_refused : World → List Call → List Call
until_refused w [] = []
until_refused w (c ∷ cs) = c ∷ pick (eqb (called w c).answer.number 0) (until_refused (called w c).world cs) []

-- the ids moved so far, with those that a call's answer gives: a rewrite's first value
abbrev pub moved_with : Call → Given → ℕ → ℕ
moved_with (rewrite room g mark count) a moved = moved + get_or a.values 0 0
moved_with (write bytes) a moved = moved
moved_with prune a moved = moved
moved_with reopen a moved = moved
moved_with (quiet q) a moved = moved

-- the generation that a call names, else 0
abbrev pub generation_named : Call → ℕ
generation_named (rewrite room g mark count) = g
generation_named (write bytes) = 0
generation_named prune = 0
generation_named reopen = 0
generation_named (quiet q) = 0

-- what they answer together: the ids moved, or the refused call's number, its generation and the ids moved so far
unfoldable pub together : ℕ → World → List Call → After
together moved w [] = leaving (accepted (moved ∷ [])) w
together moved w (c ∷ cs) =
    let a = called w c in
    pick (eqb a.answer.number 0) (together (moved_with c a.answer moved) a.world cs)
    (leaving (record { number = a.answer.number; values = generation_named c ∷ moved ∷ [] }) a.world)

-- ---- the job
-- "plan, rewrite 1, 2, 3, then prune", with the plan's mark and file count
abbrev pub nightly : World → ℕ → List Call
nightly w room =
    quiet (plan room)
    ∷ rewrite room 1 (mark_of w) (count_of w)
    ∷ rewrite room 2 (mark_of w) (count_of w)
    ∷ rewrite room 3 (mark_of w) (count_of w)
    ∷ prune
    ∷ []

-- those of them that are made
abbrev pub job_calls : World → ℕ → List Call
job_calls w room = until_refused w (nightly w room)
