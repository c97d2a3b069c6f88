use mathlib.Core.Path.{sym, ap, refl, ◌∙◌, ◌≡◌}
use mathlib.Core.List.{List}
use borrow.Author.Tests.{lt-ltb, le-ltb, eq-eqb, ne_eqb}
use lib.ListN.{take, drop, length-drop, length}
use lib.Seq.{take_all}
use Rattle.checksum.specs.Checksum.{crc32}
use Rattle.rules.specs.Refusal.{decide}
use Prim.Native.Nat.{◌*◌, ℕ, ◌+◌, ◌-◌}
use Rattle.rules.specs.Trailer.{trailer_tests, count_in}
use native.Mathlib.Omega.{arith}
use Rattle.trailer.proofs.check.Goals as goal

pub returns-then-trailer-lt-TRAILER_LEAST : goal.returns-then-trailer-lt-TRAILER_LEAST
unfolding decide trailer_tests
returns-then-trailer-lt-TRAILER_LEAST c =
    let s = c.args.trailer.now in
    rw (lt-ltb (length s) 20 c.if-trailer-lt-TRAILER_LEAST.true) refl

-- the right checksum
right : (s : List ℕ) (sum : ℕ) → sum ≡ crc32 (take (length s - 4) (drop 4 s)) → sum ≡ crc32 (drop 4 s)
right s sum e = e ∙ ap crc32 (take_all (length s - 4) (drop 4 s) (omega (arith, length-drop 4 s)))

pub returns-then-stored-sum : goal.returns-then-stored-sum
unfolding decide trailer_tests
returns-then-stored-sum c =
    let r = right c.args.trailer.now c.sum-sum.result c.sum-sum.ensures in
    rw (le-ltb _ 20 c.if-trailer-lt-TRAILER_LEAST.false, ne_eqb _ _ (λ e. c.if-stored-sum.true (c.get-stored.ensures ∙ e ∙ sym r))) refl

pub returns-then-room-n : goal.returns-then-room-n
unfolding decide trailer_tests
returns-then-room-n c =
    let r = right c.args.trailer.now c.sum-sum.result c.sum-sum.ensures in
    let s = c.args.trailer.now in
    let n = c.count-n.ensures in
    rw (le-ltb _ 20 c.if-trailer-lt-TRAILER_LEAST.false, eq-eqb _ _ (sym c.get-stored.ensures ∙ c.if-stored-sum.false ∙ r), lt-ltb (length s) (12 + 16 * count_in s) (omega arith)) refl

pub returns : goal.returns
unfolding decide trailer_tests
returns c =
    let r = right c.args.trailer.now c.sum-sum.result c.sum-sum.ensures in
    let s = c.args.trailer.now in
    let n = c.count-n.ensures in
    rw (le-ltb _ 20 c.if-trailer-lt-TRAILER_LEAST.false, eq-eqb _ _ (sym c.get-stored.ensures ∙ c.if-stored-sum.false ∙ r), le-ltb (length s) (12 + 16 * count_in s) (omega arith)) refl
