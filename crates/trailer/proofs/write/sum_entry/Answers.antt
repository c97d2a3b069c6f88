use mathlib.Core.Path.{sym, ap, ◌∙◌}
use Rattle.numbers.specs.LittleEndian.{le_bytes}
use Rattle.checksum.specs.Checksum.{crc_from, crc-append}
use Prim.Native.Nat.{ℕ}
use Rattle.trailer.proofs.write.sum_entry.Goals as goal

pub returns : goal.returns
returns c =
    let a = c.args in
    c.feed_number.ensures
    ∙ ap (λ (r : ℕ). crc_from r (le_bytes 8 a.e.location)) c.feed_number-behind_id.ensures
    ∙ sym (crc-append a.register (le_bytes 8 a.e.id) (le_bytes 8 a.e.location))
