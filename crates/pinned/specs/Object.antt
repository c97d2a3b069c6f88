-- "Object: checksum 4, id 8, length 8, body; little-endian, so the header is 20. The checksum is the CRC-32 of IEEE 802.3 over length, id, body in that
-- order": an object is read exactly if the bytes are its own.
use Rattle.std.specs.Prelude.{◌≡◌}
use Rattle.std.proofs.Common.{ap, ◌∙◌, arith, length-append}
use Rattle.rules.specs.Base.{List, ℕ, length}
use Rattle.numbers.specs.LittleEndian.{Bytes}
use Rattle.rules.specs.Object.{object_bytes, Stored, stored_at, bad_checksum}
use Rattle.rules.specs.ObjectLaws.{stored_object}
use Rattle.rules.proofs.ObjectLaws.{object-length, stored_back, stored-good}
use Rattle.stored_object.specs.Begins.{Reads, Begins, reads-begins}

begins-reads : (position : ℕ) (bytes : List ℕ) (id : ℕ) (body : List ℕ) → Begins bytes id body → Reads position bytes id body
begins-reads position bytes id body b =
    let back : stored_at position bytes ≡ stored_object position id body (length b.rest) = ap (stored_at position) b.is ∙ stored_back position id body b.rest b.id-fits b.size_fits in
    record {
      room = omega (arith, ap (λ (o : Stored). o.size) back, ap length b.is, length-append (object_bytes id body) b.rest, object-length id body);
      checksum = ap bad_checksum back ∙ stored-good position id body (length b.rest);
      its-id = ap (λ (o : Stored). o.id) back;
      its-body = ap (λ (o : Stored). o.body) back;
    }

-- LAW: header and body within, checksum and id right: exactly if the bytes begin with the object's
pub object-exactly : (position : ℕ) (bytes : List ℕ) (id : ℕ) (body : List ℕ) → Bytes bytes
    → (Reads position bytes id body → Begins bytes id body) × (Begins bytes id body → Reads position bytes id body)
object-exactly position bytes id body h = (reads-begins position bytes id body h, begins-reads position bytes id body)
