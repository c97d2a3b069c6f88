use Prim.Native.Nat.{ℕ, ◌/◌, ◌%◌, ◌^◌}
use mathlib.Core.Path.{ap}
use lib.Dec.{eqb}
use Rattle.rules.specs.Claims.{is_claimed}
use Rattle.claims.proofs.is_claimed.Goals as goal

pub returns : goal.returns
unfolding is_claimed
returns c = ap (λ (w : ℕ). eqb (w / 2 ^ (c.args.slot % 64) % 2) 1) c.word_of.ensures
