use mathlib.Core.Path.{◌≡◌, sym, ap, ◌∙◌}
use mathlib.Core.List.{◌++◌}
use Prim.Native.Nat.{ℕ, ◌-◌, ◌^◌}
use lib.ListN.{length}
use Rattle.numbers.specs.LittleEndian.{le_bytes}
use Rattle.checksum.specs.Checksum.{object_sum, crc32, crc_from, crc-three}
use Rattle.checksum.proofs.object_sum.Goals as goal

pub returns : goal.returns
unfolding object_sum crc32
returns c =
    let a = c.args in
    let body = a.body.now in
    let numbers = c.feed_number-b.ensures ∙ ap (λ (x : ℕ). crc_from x (le_bytes 8 a.id)) c.feed_number-a.ensures in
    let three : c.feed.result ≡ crc_from (2 ^ 32 - 1) ((le_bytes 8 (length body) ++ le_bytes 8 a.id) ++ body) =
    c.feed.ensures ∙ ap (λ (x : ℕ). crc_from x body) numbers ∙ sym (crc-three (2 ^ 32 - 1) (le_bytes 8 (length body)) (le_bytes 8 a.id) body) in
    ap (λ (n : ℕ). 2 ^ 32 - 1 - n) three
