-- Calls that store nothing and bring no put and no delete: each is one clause of `quietly` and one of `undisturbed`.
use Rattle.std.specs.Prelude.{refl, ◌||◌, ◌∷◌, Err, Ok}
use Rattle.std.proofs.Common.{ap}
use Rattle.rules.specs.Base.{not, []}
use Rattle.theory.specs.Types.{Claims, Limits, Claim, Answer}
use Rattle.rules.specs.Refusal.{◌gives◌, decide, after}
use Rattle.rules.specs.Condition1.{refused1}
use Rattle.rules.specs.Claims.{is_claimed, not_a_file, claim_set, claim_cleared, with_claims, claim_call, release_call}
use Rattle.rules.specs.Sync.{Synced, sync_state}
use Rattle.rules.specs.World.{World, records_of, state_with, accepted, unchanged}
use Rattle.history_theory.proofs.Syncing.{sync-refused, sound-synced}
use Rattle.history_theory.specs.Quiet.{QuietCall, claim, release, sync, plan, quietly, Undisturbed}

-- a call that changes the claims alone
by-claims : (w : World) (c : Claims) (a : Answer) → Undisturbed w (after a (unchanged w) (record { answer = accepted []; world = with_claims w c }))
by-claims w c (Err r) = record { heap = refl; settings = refl; sound = λ told s. s; refused = λ n. refl }
by-claims w c (Ok _) = record {
  heap = refl;
  settings = refl;
  sound = λ told s.
      let t = s.tidy in
      record { tidy = record { limits = t.limits; settings = t.settings; heap_len = t.heap_len; table-len = t.table-len; form = t.form }; sound = s.sound };
  refused = λ n. absurd (n refl);
}

-- LAW: of any world, any quiet call, refused or not
pub undisturbed : (w : World) (q : QuietCall) → Undisturbed w (quietly w q)
unfolding claim_call release_call sync_state
undisturbed w (claim slot) = by-claims w (claim_set w.claims slot) (decide (refused1 w gives Limits ∷ (not_a_file w slot || is_claimed w.claims slot) gives Claim ∷ []))
undisturbed w (release slot) = by-claims w (claim_cleared w.claims slot) (decide (refused1 w gives Limits ∷ (not_a_file w slot || not (is_claimed w.claims slot)) gives Claim ∷ []))
undisturbed w sync = record {
  heap = refl;
  settings = refl;
  sound = λ told s. sound-synced w told s;
  refused = λ n.
      ap (λ (c : Synced). record {
        settings = w.settings;
        state = state_with w.state c.records w.state.next_position;
        claims = w.claims;
        heap = w.heap;
        table = w.table;
      }) (sync-refused (records_of w) n).1;
}
undisturbed w (plan room) = record { heap = refl; settings = refl; sound = λ told s. s; refused = λ n. refl }
