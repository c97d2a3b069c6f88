use mathlib.Core.Path.{ap}
use native.Mathlib.Omega.{arith}
use Rattle.std.specs.Prelude.{◌+◌, ◌-◌, None}
use Rattle.rules.specs.Base.{ℕ}
use Rattle.gc_plan.proofs.joined.Goals as goal

pub overflow_add-result : goal.overflow_add-result
overflow_add-result c =
    let b = c.requires.within in
    omega (arith, b.slots, c.requires.fits.slots)

pub file_bytes-requires : goal.file_bytes-requires
file_bytes-requires c =
    let b = c.requires.within in
    omega (arith, b.slots, c.requires.fits.slots, c.requires.fits.bytes)

pub overflow_add-result-2 : goal.overflow_add-result-2
overflow_add-result-2 c =
    let b = c.requires.within in
    omega (arith, c.file_bytes.ensures, b.slots, b.bytes, c.requires.fits.slots, c.requires.fits.bytes)

pub overflow_sub-result : goal.overflow_sub-result
overflow_sub-result c = omega (arith, c.requires.fits.slots)

pub overflow_add-result-3 : goal.overflow_add-result-3
overflow_add-result-3 c = omega (arith, c.requires.fits.positions)

pub returns : goal.returns
returns c =
    let a = c.args in
    ap
    (λ (n : ℕ). record {
      halt = None;
      files = a.f.files + a.total.files;
      bytes = a.f.bytes + n;
      room = record { empty = a.f.room.empty - a.total.files; base = a.f.room.base + a.total.positions };
    })
    c.file_bytes.ensures
