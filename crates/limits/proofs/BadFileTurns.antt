-- One turn of the loop over the records, and its end.
use mathlib.Core.Path.{◌≡◌, refl, ap}
use mathlib.Core.Bool.{true, false}
use mathlib.Core.List.{List}
use Prim.Native.Nat.{ℕ, ◌+◌, ◌<◌, ◌≤◌}
use native.Mathlib.Numerals.{add-one}
use lib.ListN.{length, drop, drop_of_length-le}
use lib.Seq.{drop-cons}
use Rattle.rules.specs.declared.Settings.{Settings}
use Rattle.rules.specs.declared.Record.{Record}
use Rattle.rules.specs.Layout.{Table}
use Rattle.rules.specs.FileMap.{empty_record, record_at}
use Rattle.rules.specs.Condition1.{bad_record, bad_from}

module _ (s : Settings) (heap : ℕ) (b : Table) (rs : List Record) (i : ℕ) where
  pub bad-here : i < length rs → bad_record s heap b i (record_at rs i) ≡ true → bad_from s heap b i (drop i rs) ≡ true
  unfolding bad_from
  bad-here h e = rw (drop-cons rs i empty_record h, e) refl

  pub bad-next : i < length rs → bad_record s heap b i (record_at rs i) ≡ false → bad_from s heap b i (drop i rs) ≡ bad_from s heap b (i + 1) (drop (i + 1) rs)
  unfolding bad_from
  bad-next h e = rw (drop-cons rs i empty_record h, e, add-one i) refl

  pub bad-end : length rs ≤ i → bad_from s heap b i (drop i rs) ≡ false
  unfolding bad_from
  bad-end h = ap (bad_from s heap b i) (drop_of_length-le rs {i = i} h)
