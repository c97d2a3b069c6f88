-- Of a state's 256 records neither call on marks is refused.
use mathlib.Core.Path.{◌≡◌, refl}
use native.Mathlib.Omega.{arith}
use borrow.Author.Tests.{le-ltb}
use Rattle.std.specs.Prelude.{◌∷◌}
use Rattle.rules.specs.Base.{false, List, [], length, any, pick}
use Rattle.rules.specs.declared.Record.{Record}
use Rattle.rules.specs.Refusal.{decide}
use Rattle.rules.specs.Sync.{is_unsynced, unsynced_in, marked_all, too_long, unsynced_call, sync_call}
use Rattle.rules.specs.World.{accepted}

short : (rs : List Record) → length rs ≡ 256 → too_long rs ≡ false
unfolding too_long
short rs e = le-ltb 256 (length rs) (omega (arith, e))

pub unsynced-whole : (rs : List Record) → length rs ≡ 256 → unsynced_call rs ≡ accepted (unsynced_in rs ∷ [])
unfolding unsynced_call decide
unsynced-whole rs e = rw (short rs e) refl

pub sync-whole : (rs : List Record) → length rs ≡ 256 → sync_call rs ≡ record { answer = accepted (pick (any is_unsynced rs) 1 0 ∷ []); records = marked_all rs }
unfolding sync_call decide
sync-whole rs e = rw (short rs e) refl
