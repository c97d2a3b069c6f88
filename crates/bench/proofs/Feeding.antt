-- The line buffer beside the input that has come.
use mathlib.Core.Path.{◌≡◌, refl, sym, ap, ◌∙◌, subst}
use mathlib.Core.Bool.{true≢false}
use mathlib.Core.List.{append-nil, append_assoc}
use native.Mathlib.Omega.{arith}
use borrow.Author.Tests.{lt-ltb, le-ltb, ltb-true, eq-eqb, eqb-true, ne_eqb}
use lib.ListN.{length-append, length-take, length-drop, get_or}
use lib.Seq.{take-length, take_at, take-add, get_or-drop}
use Rattle.std.specs.Prelude.{◌∷◌, ◌++◌, ◌==◌, ◌+◌, ◌-◌, ◌≤◌, ◌<◌, Some, None}
use Rattle.std.specs.declared.option.Option.{Option}
use Rattle.rules.specs.Base.{Bool, true, false, List, [], ℕ, suc, length, take, drop, eqb, pick}
use Rattle.byte_parts.specs.Bytes.{index_of, index_after, slice}
use Rattle.desk.specs.Desk.{Desk}
use Rattle.bench.specs.Buffer.{too_long, held_of, with_byte, with_bytes, is_blank}
use Rattle.bench.specs.Input.{line_done, since_end, fed, last_done, FedTo, since-append, fed-append}

-- nothing of a line
pub blank : (cap : ℕ) → Some [] ≡ held_of cap []
blank cap = rw (le-ltb cap 0 (omega arith)) refl

pub blank-empty : (text : List ℕ) → (length text == 0) ≡ is_blank (Some text)
blank-empty [] = refl
blank-empty (b ∷ text) = ne_eqb (suc (length text)) 0 (λ e. omega (arith, e))

-- one byte more of it
pub held-more : (cap : ℕ) (text : List ℕ) (b : ℕ) → with_byte cap (held_of cap text) b ≡ held_of cap (text ++ (b ∷ []))
held-more cap text b = go (too_long cap text) refl
  where
    go : (t : Bool) → too_long cap text ≡ t → with_byte cap (pick t None (Some text)) b ≡ held_of cap (text ++ (b ∷ []))
    go false e = refl
    go true e =
        let over = ltb-true cap (length text) e in
        rw (lt-ltb cap (length (text ++ (b ∷ []))) (omega (arith, over, length-append text (b ∷ [])))) refl

-- a part more of it
held-part : (cap : ℕ) (text part : List ℕ) → with_bytes cap (held_of cap text) part ≡ held_of cap (text ++ part)
unfolding with_bytes
held-part cap text [] = ap (held_of cap) (sym (append-nil text))
held-part cap text (b ∷ part) =
    ap (λ (l : Option (List ℕ)). with_bytes cap l part) (held-more cap text b) ∙ held-part cap (text ++ (b ∷ [])) part ∙ ap (held_of cap) (append_assoc text (b ∷ []) part)

-- a line that fits is held
held-fits : (cap : ℕ) (text : List ℕ) → length text ≤ cap → Some text ≡ held_of cap text
held-fits cap text h = rw (le-ltb cap (length text) h) refl

-- one that is too long stays so
pub lost-part : (cap : ℕ) (line : Option (List ℕ)) (part : List ℕ) → line ≡ None → line ≡ with_bytes cap line part
unfolding with_bytes
lost-part cap line part e = e ∙ go part ∙ ap (λ (l : Option (List ℕ)). with_bytes cap l part) (sym e)
  where
    go : (part : List ℕ) → None ≡ with_bytes cap None part
    go [] = refl
    go (b ∷ part) = go part

module _ (cap n : ℕ) (bytes part : List ℕ) (line : Option (List ℕ)) (h : n ≤ length bytes) (c : cap ≡ length bytes) (e : line ≡ Some (take n bytes)) where
  behind : with_bytes cap line part ≡ held_of cap (take n bytes ++ part)
  behind =
      ap (λ (l : Option (List ℕ)). with_bytes cap l part) (e ∙ held-fits cap (take n bytes) (omega (arith, length-take n bytes)))
      ∙ held-part cap (take n bytes) part

  size : length (take n bytes ++ part) ≡ n + length part
  size = omega (arith, length-append (take n bytes) part, length-take n bytes)

  -- a part that does not fit behind the line
  pub part-over : length bytes - n < length part → None ≡ with_bytes cap line part
  part-over over =
      let none : None ≡ held_of cap (take n bytes ++ part) = rw (lt-ltb cap (length (take n bytes ++ part)) (omega (arith, size))) refl in
      none ∙ sym behind

  -- one that does: it is put there
  pub part-fits : (rest : List ℕ) → n + length part ≤ length bytes → Some (take (n + length part) (take n bytes ++ (part ++ rest))) ≡ with_bytes cap line part
  part-fits rest fit =
      ap Some (ap (take (n + length part)) (sym (append_assoc (take n bytes) part rest)) ∙ take_at (take n bytes ++ part) rest (n + length part) size)
      ∙ held-fits cap (take n bytes ++ part) (omega (arith, size))
      ∙ sym behind

-- ---- the input up to its first end of a line, or all of it
-- it is behind the text
since-part : (rest text : List ℕ) → since_end (take (index_of 10 rest) rest) text ≡ text ++ take (index_of 10 rest) rest
unfolding since_end index_of index_after
since-part [] text = sym (append-nil text)
since-part (b ∷ rest) text = go (eqb b 10) refl (since-part rest (text ++ (b ∷ [])))
  where
    go : (t : Bool) → eqb b 10 ≡ t → since_end (take (index_of 10 rest) rest) (text ++ (b ∷ [])) ≡ (text ++ (b ∷ [])) ++ take (index_of 10 rest) rest
        → since_end (take (index_after t (index_of 10 rest)) (b ∷ rest)) text ≡ text ++ take (index_after t (index_of 10 rest)) (b ∷ rest)
    go true e more = sym (append-nil text)
    go false e more = ap (λ (t : Bool). since_end (take (index_of 10 rest) rest) (pick t [] (text ++ (b ∷ [])))) e ∙ more ∙ append_assoc text (b ∷ []) (take (index_of 10 rest) rest)

-- and nothing is done
fed-part : (cap room : ℕ) (rest text : List ℕ) (d : Desk) → fed cap room (take (index_of 10 rest) rest) text d ≡ d
unfolding fed index_of index_after
fed-part cap room [] text d = refl
fed-part cap room (b ∷ rest) text d = go (eqb b 10) refl (fed-part cap room rest (text ++ (b ∷ [])) d)
  where
    go : (t : Bool) → eqb b 10 ≡ t → fed cap room (take (index_of 10 rest) rest) (text ++ (b ∷ [])) d ≡ d → fed cap room (take (index_after t (index_of 10 rest)) (b ∷ rest)) text d ≡ d
    go true e more = refl
    go false e more =
        ap (λ (t : Bool). pick t (fed cap room (take (index_of 10 rest) rest) [] (line_done cap room text d)) (fed cap room (take (index_of 10 rest) rest) (text ++ (b ∷ [])) d)) e ∙ more

-- where an end is met, it stands there
end-there : (rest : List ℕ) → index_of 10 rest < length rest → get_or rest (index_of 10 rest) 0 ≡ 10
unfolding index_of index_after
end-there [] h = absurd (omega arith)
end-there (b ∷ rest) h = go (eqb b 10) refl (end-there rest) h
  where
    go : (t : Bool) → eqb b 10 ≡ t → (index_of 10 rest < length rest → get_or rest (index_of 10 rest) 0 ≡ 10)
        → index_after t (index_of 10 rest) < suc (length rest) → get_or (b ∷ rest) (index_after t (index_of 10 rest)) 0 ≡ 10
    go true e more h = eqb-true b 10 e
    go false e more h = more (omega arith)

-- no input
pub fed-nothing : (cap room : ℕ) (text : List ℕ) (d : Desk) (line : Option (List ℕ)) → line ≡ held_of cap text → FedTo cap room [] text d line d
unfolding fed since_end
fed-nothing cap room text d line e = record { holds = e; done = refl }

module _ (cap room : ℕ) (a text : List ℕ) (before : Desk) (line : Option (List ℕ)) (mid : Desk) (x : ℕ) (h : FedTo cap room a text before line mid) where
  -- a line's end: it is done
  pub fed-end : (after : Desk) → x ≡ 10 → ((t : List ℕ) → line ≡ held_of cap t → after ≡ line_done cap room t mid) → FedTo cap room (a ++ (x ∷ [])) text before (Some []) after
  unfolding fed since_end
  fed-end after e does = record {
    holds = rw (since-append a (x ∷ []) text, eq-eqb x 10 e) (blank cap);
    done = rw (fed-append cap room a (x ∷ []) text before, eq-eqb x 10 e, ← h.done) (does (since_end a text) h.holds);
  }

-- the input from a place on, up to its first end of a line or all of it
module _ (input : List ℕ) (from end : ℕ) (found : end ≡ from + index_of 10 (slice from (length input) input)) where
  there : end ≡ from + index_of 10 (drop from input)
  unfolding slice
  there = found ∙ ap (λ (x : List ℕ). from + index_of 10 (drop from x)) (take-length input)

  -- the line goes on
  pub fed-on : (cap room : ℕ) (text : List ℕ) (before mid : Desk) (line line' : Option (List ℕ)) → line' ≡ with_bytes cap line (take (end - from) (drop from input))
      → FedTo cap room (take from input) text before line mid → FedTo cap room (take end input) text before line' mid
  fed-on cap room text before mid line line' e h =
      let rest = drop from input in
      let so = since_end (take from input) text in
      let part = take (index_of 10 rest) rest in
      let size : end - from ≡ index_of 10 rest = omega (arith, there) in
      let upto : take end input ≡ take from input ++ part = ap (λ (n : ℕ). take n input) there ∙ take-add from (index_of 10 rest) input in
      rw upto (record {
        holds = rw (since-append (take from input) part text, since-part rest so)
            (e ∙ ap (λ (n : ℕ). with_bytes cap line (take n rest)) size ∙ ap (λ (l : Option (List ℕ)). with_bytes cap l part) h.holds ∙ held-part cap so part);
        done = rw (fed-append cap room (take from input) part text before, fed-part cap room rest so (fed cap room (take from input) text before)) h.done;
      })

  -- an end of a line stands there, where it is not the input's end
  pub end-at : end < length input → get_or input end 0 ≡ 10
  end-at more =
      ap (λ (n : ℕ). get_or input n 0) there ∙ sym (get_or-drop from input (index_of 10 (drop from input)) 0) ∙ end-there (drop from input) (omega (arith, there, length-drop from input))

-- one part of the input behind another
pub joined : (cap room : ℕ) (a b text : List ℕ) (before : Desk) (line line' : Option (List ℕ)) (mid after : Desk)
    → FedTo cap room a text before line mid → FedTo cap room b (since_end a text) mid line' after → FedTo cap room (a ++ b) text before line' after
joined cap room a b text before line line' mid after x y = record {
  holds = rw (since-append a b text) y.holds;
  done = y.done ∙ ap (λ (d : Desk). fed cap room b (since_end a text) d) x.done ∙ sym (fed-append cap room a b text before);
}

-- the last line: nothing of it is read, and nothing is done; or it is done
pub last_none : (cap room : ℕ) (text : List ℕ) (line : Option (List ℕ)) (d : Desk) → is_blank line ≡ true → line ≡ held_of cap text → d ≡ last_done cap room text d
last_none cap room [] line d blank e = refl
last_none cap room (b ∷ text) line d blank e = absurd (true≢false (sym blank ∙ ap is_blank e ∙ go (too_long cap (b ∷ text))))
  where
    go : (t : Bool) → is_blank (pick t None (Some (b ∷ text))) ≡ false
    go true = refl
    go false = refl

pub last_some : (cap room : ℕ) (text : List ℕ) (line : Option (List ℕ)) (d after : Desk) → is_blank line ≡ false → line ≡ held_of cap text
    → after ≡ line_done cap room text d → after ≡ last_done cap room text d
last_some cap room [] line d after some e done = absurd (true≢false (sym (ap is_blank (e ∙ sym (blank cap))) ∙ some))
last_some cap room (b ∷ text) line d after some e done = done

-- one part more of standard input
pub told-more : (cap room : ℕ) (before mid after : Desk) (line line' : Option (List ℕ)) (decoded : ℕ) → decoded ≡ room → (c : ℕ) → c ≡ cap → (bytes : List ℕ) × FedTo cap room bytes [] before line mid
    → (input : List ℕ) → ((text : List ℕ) → line ≡ held_of c text → FedTo c decoded input text mid line' after) → (bytes : List ℕ) × FedTo cap room bytes [] before line' after
told-more cap room before mid after line line' decoded e c f x input more =
    let so = since_end x.0 [] in
    let here : FedTo cap decoded input so mid line' after = subst (λ (n : ℕ). line ≡ held_of n so → FedTo n decoded input so mid line' after) f (more so) x.1.holds in
    (x.0 ++ input, joined cap room x.0 input [] before line line' mid after x.1 (subst (λ (n : ℕ). FedTo cap n input so mid line' after) e here))
