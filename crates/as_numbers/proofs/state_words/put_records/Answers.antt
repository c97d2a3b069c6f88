use mathlib.Core.Path.{refl, sym, ap, ◌∙◌, ◌≡◌}
use mathlib.Core.List.{List}
use Prim.Native.Nat.{◌*◌, ℕ, ◌+◌}
use lib.ListN.{drop, length, get_or}
use Rattle.numbers.specs.Parts.{put_at, put-length}
use Rattle.rules.specs.FileMap.{empty_record}
use Rattle.file_map.proofs.RecordTurns.{mapped-length}
use Rattle.as_numbers.specs.StateWords.{record_words, records_words}
use Rattle.as_numbers.specs.StateLaws.{record-length}
use Rattle.as_numbers.proofs.StateWordTurns.{write-next, write-end}
use native.Mathlib.Omega.{arith}
use borrow.Author.Rules.{rules}
use Rattle.as_numbers.proofs.state_words.put_records.Goals as goal

pub loop-k-init : goal.loop-k-init
loop-k-init c = (c.requires, refl)

pub loop-k-preserved : goal.loop-k-preserved
loop-k-preserved c =
    let rs = c.args.files.records in
    let len : length rs ≡ 256 = search (mapped-length, rules) in
    let l = c.loop-k in
    let put = c.put_record.ensures in (
      ap length put ∙ put-length l.words (8 + 7 * l.k) (record_words (get_or rs l.k empty_record)) (omega (arith, record-length (get_or rs l.k empty_record))) ∙ l.invariant.0,
      ap (λ (ws : List ℕ). put_at ws (8 + 7 * (l.k + 1)) (records_words (drop (l.k + 1) rs))) put ∙ write-next rs l.words l.k (omega arith) (omega arith) ∙ l.invariant.1,
    )

pub returns : goal.returns
returns c =
    let l = c.loop-k in
    let rs = c.args.files.records in
    let len : length rs ≡ 256 = search (mapped-length, rules) in
    sym (write-end rs l.words l.k (omega arith)) ∙ l.invariant.1
