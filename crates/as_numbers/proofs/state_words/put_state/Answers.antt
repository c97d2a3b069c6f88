use mathlib.Core.Path.{◌≡◌, ◌∙◌}
use Prim.Native.Nat.{ℕ}
use native.Mathlib.Omega.{arith}
use borrow.Author.Rules.{rules}
use lib.ListN.{length, length-set}
use Rattle.file_map.proofs.RecordTurns.{mapped-length}
use Rattle.as_numbers.specs.StateLaws.{put_all}
use Rattle.as_numbers.proofs.state_words.put_state.Goals as goal

pub put_records-requires : goal.put_records-requires
put_records-requires c = simp length-set (c.put_settings.auto.words ∙ c.requires)

pub bounds-words-1800 : goal.bounds-words-1800
bounds-words-1800 c =
    omega (arith, length-set {A = ℕ}, c.put_records.auto.words, c.put_settings.auto.words, c.requires)

pub shape_of-words : goal.shape_of-words
shape_of-words c =
    omega (arith, length-set {A = ℕ}, c.put_records.auto.words, c.put_settings.auto.words, c.requires)

pub returns : goal.returns
returns c =
    let records : length c.args.s.files.records ≡ 256 = search (mapped-length, rules) in
    rw (c.put_records.ensures, c.put_settings.ensures) (put_all c.args.words.now c.args.s c.requires records)
