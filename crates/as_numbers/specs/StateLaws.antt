-- Words and state, each from the other; and what writing a state piece by piece leaves.
use Rattle.std.specs.Prelude.{◌≡◌, refl, ◌≤◌, ◌<◌, ◌*◌, ◌∷◌, ◌++◌, ◌+◌}
use Rattle.std.proofs.Common.{sym, ap, ap₂, ◌∙◌, append_assoc, append-nil, zero-le, arith, zero-add, length-append, length-set, drop_of_length-le, take-append-drop, get_or-append-add, drop-cons, drop-drop}
use Rattle.std.proofs.lemmas.List.{get_or_at}
use Rattle.std.proofs.Math.Seq.{get_or-append_seam}
use Rattle.numbers.specs.Parts.{front, put_at, put_front, put_step, put-put, put-length}
use Rattle.rules.specs.Base.{List, [], ℕ, zero, suc, length, get_or, set, take, drop}
use Rattle.rules.proofs.PartLaws.{put_one}
use Rattle.rules.specs.declared.Settings.{Settings}
use Rattle.rules.specs.declared.Record.{Record}
use Rattle.rules.specs.declared.State.{State}
use Rattle.as_numbers.specs.StateWords.{record_at, records_from, settings_in, state_in, record_words, records_words, settings_words, words_of}

-- ---- state, words, the same state
-- a record's words are its own wherever they stand
pub record-back : (xs ys : List ℕ) (r : Record) → record_at (xs ++ (record_words r ++ ys)) (length xs) ≡ r
unfolding record_at record_words
record-back xs ys r =
    rw (
      get_or-append_seam xs r.label.lsn ((r.label.trailer_offset ∷ r.label.file_size ∷ r.label.present_objects ∷ r.label.generation ∷ r.live ∷ r.synced ∷ []) ++ ys) 0,
      get_or-append-add xs (record_words r ++ ys) 1 0,
      get_or-append-add xs (record_words r ++ ys) 2 0,
      get_or-append-add xs (record_words r ++ ys) 3 0,
      get_or-append-add xs (record_words r ++ ys) 4 0,
      get_or-append-add xs (record_words r ++ ys) 5 0,
      get_or-append-add xs (record_words r ++ ys) 6 0,
    ) refl

-- seven words to a record
pub record-length : (r : Record) → length (record_words r) ≡ 7
unfolding record_words
record-length r = refl

-- of all records
pub records-length : (rs : List Record) → length (records_words rs) ≡ 7 * length rs
unfolding records_words
records-length [] = refl
records-length (r ∷ rs) = rw (length-append) (omega (arith, record-length r, records-length rs))

-- so are those of a run of records
pub records-back : (xs ys : List ℕ) (rs : List Record) → records_from (length rs) (xs ++ (records_words rs ++ ys)) (length xs) ≡ rs
unfolding records_from records_words
records-back xs ys [] = refl
records-back xs ys (r ∷ rs) =
    let once : (record_words r ++ records_words rs) ++ ys ≡ record_words r ++ (records_words rs ++ ys) = append_assoc (record_words r) (records_words rs) ys in
    let apart : xs ++ (record_words r ++ (records_words rs ++ ys)) ≡ (xs ++ record_words r) ++ (records_words rs ++ ys) = sym (append_assoc xs (record_words r) (records_words rs ++ ys)) in
    let far : length xs + 7 ≡ length (xs ++ record_words r) = sym (length-append xs (record_words r) ∙ ap (λ (n : ℕ). length xs + n) (record-length r)) in
    rw once
    (ap₂ (λ (q : Record) (qs : List Record). q ∷ qs) (record-back xs (records_words rs ++ ys) r)
    (ap₂ (records_from (length rs)) apart far ∙ records-back (xs ++ record_words r) ys rs))

-- a state is what its words hold
pub state-back : (s : State) → length s.files.records ≡ 256 → state_in (words_of s) ≡ s
unfolding state_in words_of settings_in settings_words
state-back s e =
    let head = settings_words s.settings ++ (s.heap_len ∷ s.table_len ∷ []) in
    let rs = s.files.records in
    let ws = head ++ (records_words rs ++ (s.next_position ∷ [])) in
    let files : records_from 256 ws 8 ≡ rs = ap (λ (n : ℕ). records_from n ws 8) (sym e) ∙ records-back head (s.next_position ∷ []) rs in
    let far : length (head ++ records_words rs) ≡ 1800 = length-append head (records_words rs) ∙ omega (arith, records-length rs) in
    let last : get_or ws 1800 0 ≡ s.next_position =
    ap (λ (vs : List ℕ). get_or vs 1800 0) (sym (append_assoc head (records_words rs) (s.next_position ∷ []))) ∙ get_or_at (head ++ records_words rs) s.next_position [] 0 1800 far in
    rw (files, last) refl

-- ---- words, state, the same words
-- the words of a run of records are those that it was read from
pub from-words : (n : ℕ) (ws : List ℕ) (at : ℕ) → at + 7 * n ≤ length ws → records_words (records_from n ws at) ≡ take (7 * n) (drop at ws)
unfolding records_from records_words record_words record_at
from-words zero ws at h = refl
from-words (suc n) ws at h =
    let d : (i j : ℕ) → j ≡ suc (at + i) → at + i < length ws → drop (at + i) ws ≡ get_or ws (at + i) 0 ∷ drop j ws =
    λ i j e q. drop-cons ws (at + i) 0 q ∙ ap (λ (k : ℕ). get_or ws (at + i) 0 ∷ drop k ws) (sym e) in
    let whole : 7 * suc n ≡ suc (suc (suc (suc (suc (suc (suc (7 * n))))))) = omega arith in
    let one : suc at ≡ at + 1 = omega arith in
    let first : drop at ws ≡ get_or ws at 0 ∷ drop (at + 1) ws = drop-cons ws at 0 (omega arith) ∙ ap (λ (k : ℕ). get_or ws at 0 ∷ drop k ws) one in
    rw (
      whole,
      first,
      d 1 (at + 2) (omega arith) (omega arith),
      d 2 (at + 3) (omega arith) (omega arith),
      d 3 (at + 4) (omega arith) (omega arith),
      d 4 (at + 5) (omega arith) (omega arith),
      d 5 (at + 6) (omega arith) (omega arith),
      d 6 (at + 7) (omega arith) (omega arith),
    )
    (ap (λ (vs : List ℕ). get_or ws at 0 ∷ get_or ws (at + 1) 0 ∷ get_or ws (at + 2) 0 ∷ get_or ws (at + 3) 0 ∷ get_or ws (at + 4) 0 ∷ get_or ws (at + 5) 0 ∷ get_or ws (at + 6) 0 ∷ vs)
    (from-words n ws (at + 7) (omega arith)))

-- 1,801 words are those of the state that they hold
pub words_back : (ws : List ℕ) → length ws ≡ 1801 → words_of (state_in ws) ≡ ws
unfolding state_in words_of settings_in settings_words
words_back ws e =
    let g : ℕ → ℕ = λ i. get_or ws i 0 in
    let d : (i : ℕ) → i < 1801 → drop i ws ≡ g i ∷ drop (suc i) ws = λ i q. drop-cons ws i 0 (omega (arith, e, q)) in
    let last : drop 1800 ws ≡ g 1800 ∷ [] = d 1800 (omega arith) ∙ ap (λ (vs : List ℕ). g 1800 ∷ vs) (drop_of_length-le ws {i = 1801} (omega (arith, e))) in
    let rest : records_words (records_from 256 ws 8) ++ (g 1800 ∷ []) ≡ drop 8 ws =
    ap₂ (λ (xs ys : List ℕ). xs ++ ys) (from-words 256 ws 8 (omega (arith, e))) (sym last ∙ sym (drop-drop 1792 8 ws)) ∙ take-append-drop 1792 (drop 8 ws) in
    rw rest
    (sym (d 0 (omega arith) ∙ ap (λ (vs : List ℕ). g 0 ∷ vs) (d 1 (omega arith) ∙ ap (λ (vs : List ℕ). g 1 ∷ vs) (d 2 (omega arith) ∙ ap (λ (vs : List ℕ). g 2 ∷ vs) (d 3 (omega arith)
    ∙ ap (λ (vs : List ℕ). g 3 ∷ vs) (d 4 (omega arith) ∙ ap (λ (vs : List ℕ). g 4 ∷ vs) (d 5 (omega arith) ∙ ap (λ (vs : List ℕ). g 5 ∷ vs) (d 6 (omega arith)
    ∙ ap (λ (vs : List ℕ). g 6 ∷ vs) (d 7 (omega arith))))))))))

-- so a contract that settles the state settles every word
pub state-one : (ws vs : List ℕ) → length ws ≡ 1801 → length vs ≡ 1801 → state_in ws ≡ state_in vs → ws ≡ vs
state-one ws vs p q e = sym (words_back ws p) ∙ ap words_of e ∙ words_back vs q

-- ---- written piece by piece
-- six words stored one after the other
pub put_six : (ws : List ℕ) (at a b c d e f : ℕ) → at + 6 ≤ length ws
    → set (set (set (set (set (set ws at a) (at + 1) b) (at + 2) c) (at + 3) d) (at + 4) e) (at + 5) f ≡ put_at ws at (a ∷ b ∷ c ∷ d ∷ e ∷ f ∷ [])
put_six ws at a b c d e f h =
    let s1 = set ws at a in
    let s2 = set s1 (at + 1) b in
    let s3 = set s2 (at + 2) c in
    let s4 = set s3 (at + 3) d in
    let s5 = set s4 (at + 4) e in
    let l1 : length s1 ≡ length ws = length-set ws at a in
    let l2 : length s2 ≡ length ws = length-set s1 (at + 1) b ∙ l1 in
    let l3 : length s3 ≡ length ws = length-set s2 (at + 2) c ∙ l2 in
    let l4 : length s4 ≡ length ws = length-set s3 (at + 3) d ∙ l3 in
    let l5 : length s5 ≡ length ws = length-set s4 (at + 4) e ∙ l4 in
    put_one s5 (at + 5) f (omega arith)
    ∙ behind s4 (at + 4) (at + 5) e (f ∷ []) (omega arith) (omega arith)
    ∙ behind s3 (at + 3) (at + 4) d (e ∷ f ∷ []) (omega arith) (omega arith)
    ∙ behind s2 (at + 2) (at + 3) c (d ∷ e ∷ f ∷ []) (omega arith) (omega arith)
    ∙ behind s1 (at + 1) (at + 2) b (c ∷ d ∷ e ∷ f ∷ []) (omega arith) (omega arith)
    ∙ put_step ws at a (b ∷ c ∷ d ∷ e ∷ f ∷ []) (omega arith)
  where
    behind : (s : List ℕ) (i j x : ℕ) (xs : List ℕ) → j ≡ i + 1 → i < length s → put_at (set s i x) j xs ≡ put_at s i (x ∷ xs)
    behind s i j x xs p q = rw p (put_step s i x xs q)

-- and a seventh behind them
pub put-seven : (ws : List ℕ) (at a b c d e f g : ℕ) → at + 7 ≤ length ws
    → set (set (set (set (set (set (set ws at a) (at + 1) b) (at + 2) c) (at + 3) d) (at + 4) e) (at + 5) f) (at + 6) g ≡ put_at ws at (a ∷ b ∷ c ∷ d ∷ e ∷ f ∷ g ∷ [])
put-seven ws at a b c d e f g h =
    let six = a ∷ b ∷ c ∷ d ∷ e ∷ f ∷ [] in
    let long : length (put_at ws at six) ≡ length ws = put-length ws at six (omega arith) in
    ap (λ (vs : List ℕ). set vs (at + 6) g) (put_six ws at a b c d e f (omega arith))
    ∙ put_one (put_at ws at six) (at + 6) g (omega (arith, long))
    ∙ put-put ws at six (g ∷ []) (omega arith)

-- a run behind a run that stands at the front
pub put_next : (s xs ys : List ℕ) (j : ℕ) → length xs ≡ j → put_at (put_at s 0 xs) j ys ≡ put_at s 0 (xs ++ ys)
put_next s xs ys j e = ap (λ (k : ℕ). put_at (put_at s 0 xs) k ys) (sym (zero-add (length xs) ∙ e)) ∙ put-put s 0 xs ys zero-le

-- a run as long as the whole leaves nothing of it
pub put_whole : (s xs : List ℕ) → length xs ≡ length s → put_at s 0 xs ≡ xs
unfolding front
put_whole s xs e = put_front s xs ∙ ap (λ (ys : List ℕ). xs ++ ys) (drop_of_length-le s {i = length xs} (omega (arith, e))) ∙ append-nil xs

-- six words to the settings
settings-length : (s : Settings) → length (settings_words s) ≡ 6
unfolding settings_words
settings-length s = refl

-- the pieces, joined
joined : (s : State) → (((settings_words s.settings ++ (s.heap_len ∷ [])) ++ (s.table_len ∷ [])) ++ records_words s.files.records) ++ (s.next_position ∷ []) ≡ words_of s
unfolding words_of settings_words
joined s = refl

-- settings, lengths, records, next position: all words are new
pub put_all : (ws : List ℕ) (s : State) → length ws ≡ 1801 → length s.files.records ≡ 256
    → state_in (set (put_at (set (set (put_at ws 0 (settings_words s.settings)) 6 s.heap_len) 7 s.table_len) 8 (records_words s.files.records)) 1800 s.next_position) ≡ s
put_all ws s e n =
    let six = settings_words s.settings in
    let rs = records_words s.files.records in
    let h = s.heap_len ∷ [] in
    let t = s.table_len ∷ [] in
    let p = s.next_position ∷ [] in
    let l0 : length six ≡ 6 = settings-length s.settings in
    let l1 : length (six ++ h) ≡ 7 = length-append six h ∙ ap (λ (k : ℕ). k + 1) l0 in
    let l2 : length ((six ++ h) ++ t) ≡ 8 = length-append (six ++ h) t ∙ ap (λ (k : ℕ). k + 1) l1 in
    let l3 : length (((six ++ h) ++ t) ++ rs) ≡ 1800 = length-append ((six ++ h) ++ t) rs ∙ omega (arith, l2, records-length s.files.records) in
    let l4 : length ((((six ++ h) ++ t) ++ rs) ++ p) ≡ 1801 = length-append (((six ++ h) ++ t) ++ rs) p ∙ ap (λ (k : ℕ). k + 1) l3 in
    let w0 = put_at ws 0 six in
    let n0 : length w0 ≡ 1801 = put-length ws 0 six (omega arith) ∙ e in
    let e1 : set w0 6 s.heap_len ≡ put_at ws 0 (six ++ h) = put_one w0 6 s.heap_len (omega arith) ∙ put_next ws six h 6 l0 in
    let n1 : length (put_at ws 0 (six ++ h)) ≡ 1801 = put-length ws 0 (six ++ h) (omega arith) ∙ e in
    let e2 : set (put_at ws 0 (six ++ h)) 7 s.table_len ≡ put_at ws 0 ((six ++ h) ++ t) = put_one (put_at ws 0 (six ++ h)) 7 s.table_len (omega arith) ∙ put_next ws (six ++ h) t 7 l1 in
    let e3 : put_at (put_at ws 0 ((six ++ h) ++ t)) 8 rs ≡ put_at ws 0 (((six ++ h) ++ t) ++ rs) = put_next ws ((six ++ h) ++ t) rs 8 l2 in
    let n3 : length (put_at ws 0 (((six ++ h) ++ t) ++ rs)) ≡ 1801 = put-length ws 0 (((six ++ h) ++ t) ++ rs) (omega arith) ∙ e in
    let e4 : set (put_at ws 0 (((six ++ h) ++ t) ++ rs)) 1800 s.next_position ≡ put_at ws 0 ((((six ++ h) ++ t) ++ rs) ++ p) =
    put_one (put_at ws 0 (((six ++ h) ++ t) ++ rs)) 1800 s.next_position (omega arith) ∙ put_next ws (((six ++ h) ++ t) ++ rs) p 1800 l3 in
    let all : put_at ws 0 ((((six ++ h) ++ t) ++ rs) ++ p) ≡ words_of s = put_whole ws ((((six ++ h) ++ t) ++ rs) ++ p) (l4 ∙ sym e) ∙ joined s in
    rw (e1, e2, e3, e4, all) (state-back s n)
