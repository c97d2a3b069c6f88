use mathlib.Core.Path.{◌≡◌, refl}
use Prim.Native.Nat.{◌+◌, ◌-◌}
use native.Mathlib.Omega.{arith}
use Rattle.std.proofs.Common.{drop-drop}
use Rattle.numbers.specs.Parts.{put_at}
use Rattle.as_numbers.specs.StateWords.{record_words}
use Rattle.as_numbers.proofs.state_words.put_record.Goals as goal

pub returns : goal.returns
unfolding put_at record_words
returns c =
    let e : c.args.at + 7 - c.args.at ≡ 7 = omega arith in
    rw (c.copy_from_slice.ensures.after, e, drop-drop 7 c.args.at c.args.words.now) refl
