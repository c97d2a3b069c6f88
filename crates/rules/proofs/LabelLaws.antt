-- The label: its bounds as facts, its length, and that what was written is read back.
use Rattle.std.specs.Prelude.{◌≡◌, refl, ◌≤◌, ◌<◌, ◌++◌, ◌+◌, ◌-◌, ◌^◌}
use Rattle.std.proofs.Common.{ap, ◌∙◌, append_assoc, arith, ltb-false, leb-false, le-ltb, ne_eqb, length-append, drop_at}
use Rattle.std.proofs.lemmas.Bool.{eqb-false, lt-leb}
use Rattle.rules.specs.Base.{true, false, List, [], ℕ, length, get_or, drop, replicate, zeros, padded}
use Rattle.rules.specs.Types.{Label, Five}
use Rattle.numbers.specs.LittleEndian.{Bytes}
use Rattle.numbers.specs.Groups.{groups_of}
use Rattle.numbers.specs.GroupLaws.{groups-length, groups-bytes, groups-first, number-back}
use Rattle.disk_location.specs.Locations.{masked_of}
use Rattle.disk_location.proofs.LocationLaws.{masked-pos}
use Rattle.rules.proofs.BaseLaws.{or-false, zeros-replicate, padded-length}
use Rattle.rules.proofs.PartLaws.{bytes-append, bytes-zeros}
use Rattle.rules.specs.Label.{label_bytes, five_in, label_in, out_of_bounds}
use Rattle.rules.specs.LabelLaws.{InBounds, LabelFits}

-- not out of bounds
pub in_bounds : (bytes_of_slot : ℕ) (l : Label) → out_of_bounds bytes_of_slot l ≡ false → InBounds bytes_of_slot l
unfolding out_of_bounds
in_bounds bytes_of_slot l e =
    let w6 = or-false _ _ e in
    let w5 = or-false _ _ w6.0 in
    let w4 = or-false _ _ w5.0 in
    let w3 = or-false _ _ w4.0 in
    let w2 = or-false _ _ w3.0 in
    let some = eqb-false (masked_of l.lsn) 0 w3.1 in
    record {
      size = ltb-false _ _ w2.0;
      offset = ltb-false _ _ w2.1;
      masked = omega (arith, some);
      lsn = leb-false _ _ w4.1;
      end = leb-false _ _ w5.1;
      generation = ltb-false _ _ w6.1;
    }

-- and back
pub bounds-in : (bytes_of_slot : ℕ) (l : Label) → InBounds bytes_of_slot l → out_of_bounds bytes_of_slot l ≡ false
unfolding out_of_bounds
bounds-in bytes_of_slot l w =
    let some = w.masked in
    rw (
      le-ltb (bytes_of_slot - 64) l.file_size w.size,
      le-ltb l.file_size l.trailer_offset w.offset,
      ne_eqb (masked_of l.lsn) 0 (λ z. omega arith),
      lt-leb (2 ^ 63) l.lsn w.lsn,
      lt-leb (2 ^ 62) (masked_of l.lsn + l.trailer_offset) w.end,
      le-ltb 255 l.generation w.generation,
    )

-- the lsn of a file is not 0
pub lsn-some : (bytes_of_slot : ℕ) (l : Label) → InBounds bytes_of_slot l → 0 < l.lsn
lsn-some bytes_of_slot l w = masked-pos l.lsn w.masked

-- its five numbers
five_bytes : Label → List ℕ
five_bytes l = groups_of 10 l.lsn ++ (groups_of 10 l.trailer_offset ++ (groups_of 10 l.file_size ++ (groups_of 10 l.present_objects ++ groups_of 10 l.generation)))

five-length : (l : Label) → length (five_bytes l) ≤ 50
unfolding five_bytes
five-length l =
    simp length-append
    (omega (
      arith,
      groups-length 10 l.lsn,
      groups-length 10 l.trailer_offset,
      groups-length 10 l.file_size,
      groups-length 10 l.present_objects,
      groups-length 10 l.generation,
    ))

-- "a 64-byte label"
pub label-length : (l : Label) → length (label_bytes l) ≡ 64
unfolding label_bytes five_bytes
label-length l = padded-length 64 (five_bytes l) (omega (arith, five-length l))

-- of bytes
pub label-bytes : (l : Label) → Bytes (label_bytes l)
unfolding label_bytes padded
label-bytes l =
    let g1 = groups_of 10 l.lsn in
    let g2 = groups_of 10 l.trailer_offset in
    let g3 = groups_of 10 l.file_size in
    let g4 = groups_of 10 l.present_objects in
    let g5 = groups_of 10 l.generation in
    let b45 = bytes-append g4 g5 (groups-bytes 10 l.present_objects) (groups-bytes 10 l.generation) in
    let b345 = bytes-append g3 (g4 ++ g5) (groups-bytes 10 l.file_size) b45 in
    let b2345 = bytes-append g2 (g3 ++ (g4 ++ g5)) (groups-bytes 10 l.trailer_offset) b345 in
    let five = g1 ++ (g2 ++ (g3 ++ (g4 ++ g5))) in
    bytes-append five (replicate (64 - length five) 0) (bytes-append g1 (g2 ++ (g3 ++ (g4 ++ g5))) (groups-bytes 10 l.lsn) b2345) (bytes-zeros (64 - length five))

-- its first byte says that the slot is not empty
pub label-first : (l : Label) → 0 < l.lsn → 0 < get_or (label_bytes l) 0 0
unfolding label_bytes padded
label-first l some = rw append_assoc (groups-first 9 l.lsn _ some)

five-back : (l : Label) → LabelFits l → five_in (label_bytes l) ≡ Five l
unfolding five_in label_bytes padded
five-back l w =
    let g1 = groups_of 10 l.lsn in
    let g2 = groups_of 10 l.trailer_offset in
    let g3 = groups_of 10 l.file_size in
    let g4 = groups_of 10 l.present_objects in
    let g5 = groups_of 10 l.generation in
    let z : List ℕ = replicate (64 - length (g1 ++ (g2 ++ (g3 ++ (g4 ++ g5))))) 0 in
    let s = (g1 ++ (g2 ++ (g3 ++ (g4 ++ g5)))) ++ z in
    let a = 0 + length g1 in
    let b = a + length g2 in
    let c = b + length g3 in
    let d = c + length g4 in
    let e = d + length g5 in
    let l2 : length g1 ≡ a = omega arith in
    let l3 : length (g1 ++ g2) ≡ b = omega (arith, length-append g1 g2) in
    let l4 : length ((g1 ++ g2) ++ g3) ≡ c = omega (arith, length-append (g1 ++ g2) g3) in
    let l5 : length (((g1 ++ g2) ++ g3) ++ g4) ≡ d = omega (arith, length-append ((g1 ++ g2) ++ g3) g4) in
    let l6 : length ((((g1 ++ g2) ++ g3) ++ g4) ++ g5) ≡ e = omega (arith, length-append (((g1 ++ g2) ++ g3) ++ g4) g5) in
    let n1 = number-back s [] (g2 ++ (g3 ++ (g4 ++ (g5 ++ z)))) 0 l.lsn (simp append_assoc) refl w.lsn in
    let n2 = number-back s g1 (g3 ++ (g4 ++ (g5 ++ z))) a l.trailer_offset (simp append_assoc) l2 w.offset in
    let n3 = number-back s (g1 ++ g2) (g4 ++ (g5 ++ z)) b l.file_size (simp append_assoc) l3 w.size in
    let n4 = number-back s ((g1 ++ g2) ++ g3) (g5 ++ z) c l.present_objects (simp append_assoc) l4 w.present in
    let n5 = number-back s (((g1 ++ g2) ++ g3) ++ g4) z d l.generation (simp append_assoc) l5 w.generation in
    let whole : s ≡ ((((g1 ++ g2) ++ g3) ++ g4) ++ g5) ++ z = simp append_assoc in
    let last : zeros (drop e s) ≡ true = ap (λ (t : List ℕ). zeros (drop e t)) whole ∙ ap zeros (drop_at ((((g1 ++ g2) ++ g3) ++ g4) ++ g5) z e l6) ∙ zeros-replicate (64 - length (g1 ++ (g2 ++ (g3 ++ (g4 ++ g5))))) in
    rw (n1, n2, n3, n4, n5, last)

-- what was written is read back, where the lsn is not 0
pub label-back : (l : Label) → 0 < l.lsn → LabelFits l → label_in (label_bytes l) ≡ Five l
unfolding label_in
label-back l some w = rw (ne_eqb (get_or (label_bytes l) 0 0) 0 (first l some)) (five-back l w)
  where
    first : (l : Label) → 0 < l.lsn → get_or (label_bytes l) 0 0 ≡ 0 → ⊥
    first l some z = let h = label-first l some in omega arith
