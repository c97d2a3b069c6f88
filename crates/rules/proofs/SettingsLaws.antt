-- "Settings": the ranges as facts.
use Rattle.std.specs.Prelude.{◌≡◌, refl, ◌≤◌, ◌<◌, ◌+◌, ◌*◌, ◌%◌}
use Rattle.std.proofs.Common.{div-add-mod', suc-mul, mul-le-mul_right, arith, eqb-true, eq-eqb}
use Rattle.rules.specs.Base.{true, ℕ, eqb}
use Rattle.rules.specs.Types.{Settings}
use Rattle.rules.proofs.BaseLaws.{and-true, within-true, within-holds}
use Rattle.rules.specs.Settings.{in_ranges, slots_in, heap_in_range, same_settings}
use Rattle.rules.specs.SettingsLaws.{InRanges, HeapInRange}

-- in the ranges
pub in-ranges : (s : Settings) → in_ranges s ≡ true → InRanges s
unfolding in_ranges
in-ranges s e =
    let w6 = and-true _ _ e in
    let w5 = and-true _ _ w6.0 in
    let w4 = and-true _ _ w5.0 in
    let w3 = and-true _ _ w4.0 in
    let w2 = and-true _ _ w3.0 in
    let a = within-true _ _ _ w2.0 in
    let b = within-true _ _ _ w2.1 in
    let c = within-true _ _ _ w3.1 in
    let d = within-true _ _ _ w4.1 in
    let f = within-true _ _ _ w5.1 in
    let g = within-true _ _ _ w6.1 in
    record {
      slot-low = a.0;
      slot-high = a.1;
      percent = b.1;
      files-low = c.0;
      files-high = c.1;
      target-low = d.0;
      target-high = d.1;
      threshold = f.1;
      object-low = g.0;
      object-high = g.1;
    }

-- and back
pub ranges_in : (s : Settings) → InRanges s → in_ranges s ≡ true
unfolding in_ranges
ranges_in s w =
    rw (
      within-holds 128 1048576 s.slot_bytes w.slot-low w.slot-high,
      within-holds 0 100 s.file_compaction_percent (omega arith) w.percent,
      within-holds 1 256 s.min_compaction_files w.files-low w.files-high,
      within-holds 1 1048576 s.target_file_size w.target-low w.target-high,
      within-holds 0 256 s.small_file_cleanup_threshold (omega arith) w.threshold,
      within-holds 1 1048576 s.max_object_size w.object-low w.object-high,
    )

-- a heap in range
pub heap-in-range : (s : Settings) (heap_len : ℕ) → heap_in_range s heap_len ≡ true → HeapInRange s heap_len
unfolding heap_in_range
heap-in-range s heap_len e =
    let w = and-true (eqb (heap_len % s.slot_bytes) 0) _ e in
    let n = within-true _ _ _ w.1 in
    record { exact = eqb-true _ _ w.0; some = n.0; most = n.1 }

-- and back
pub range-heap-in : (s : Settings) (heap_len : ℕ) → HeapInRange s heap_len → heap_in_range s heap_len ≡ true
unfolding heap_in_range
range-heap-in s heap_len w = rw (eq-eqb (heap_len % s.slot_bytes) 0 w.exact, within-holds 1 256 (slots_in s heap_len) w.some w.most)

-- "exact": N slots of S bytes are the whole heap
pub heap-whole : (s : Settings) (heap_len : ℕ) → HeapInRange s heap_len → slots_in s heap_len * s.slot_bytes ≡ heap_len
heap-whole s heap_len w = omega (arith, div-add-mod' heap_len s.slot_bytes, w.exact)

-- slot k stands in the heap
pub slot-within : (s : Settings) (heap_len k : ℕ) → HeapInRange s heap_len → k < slots_in s heap_len → k * s.slot_bytes + s.slot_bytes ≤ heap_len
slot-within s heap_len k w h = omega (arith, heap-whole s heap_len w, suc-mul k s.slot_bytes, mul-le-mul_right s.slot_bytes h)

-- "settings .. those of the state"
pub same-settings : (s t : Settings) → same_settings s t ≡ true → s ≡ t
unfolding same_settings
same-settings s t e =
    let w6 = and-true _ _ e in
    let w5 = and-true _ _ w6.0 in
    let w4 = and-true _ _ w5.0 in
    let w3 = and-true _ _ w4.0 in
    let w2 = and-true _ _ w3.0 in
    let a = eqb-true _ _ w2.0 in
    let b = eqb-true _ _ w2.1 in
    let c = eqb-true _ _ w3.1 in
    let d = eqb-true _ _ w4.1 in
    let f = eqb-true _ _ w5.1 in
    let g = eqb-true _ _ w6.1 in
    λ i. record {
      slot_bytes = a i;
      file_compaction_percent = b i;
      min_compaction_files = c i;
      target_file_size = d i;
      small_file_cleanup_threshold = f i;
      max_object_size = g i;
    }

-- and back
pub settings-same : (s : Settings) → same_settings s s ≡ true
unfolding same_settings
settings-same s =
    simp (
      eq-eqb s.slot_bytes _ refl,
      eq-eqb s.file_compaction_percent _ refl,
      eq-eqb s.min_compaction_files _ refl,
      eq-eqb s.target_file_size _ refl,
      eq-eqb s.small_file_cleanup_threshold _ refl,
      eq-eqb s.max_object_size _ refl,
    )
