-- The chaining, from the last entry back: an entry that is moved becomes the first of its file, and its link leads to the one that was.
use Rattle.std.specs.Prelude.{◌≡◌, ◌⊎◌, ◌≤◌, ◌<◌, ◌∷◌, ◌+◌, ◌-◌, ◌*◌, ◌^◌}
use Rattle.std.proofs.Math.Path.{refl}
use Rattle.std.proofs.Common.{sym, ap, ap₂, ◌∙◌, inl, inr, arith, eq-eqb, ne_eqb, length-set, drop-set-lt, get_or-set_same, get_or-set_other, get_or-drop}
use Rattle.std.proofs.Math.Seq.{drop-cons}
use Rattle.rules.specs.Base.{List, [], map, ℕ, suc, length, get_or, set, drop, eqb, pick}
use Rattle.rules.proofs.BaseLaws.{same?, zero-or-more}
use Rattle.rules.specs.Ops.{Op}
use Rattle.gc_files.specs.Places.{op_at, filed_ops}
use Rattle.gc_chains.specs.Chains.{chain_from, number_in, first_in, Leads, Linkable, Linked, FileOf}
use Rattle.gc_chains.specs.ChainLaws.{chain-none}

-- the entries from place i on are chained; the others have the numbers of their files still
pub record Linking (ids places numbers order : List ℕ) (i : ℕ) (links words : List ℕ) : Type 0 where
  pub long : length links ≡ length numbers
  pub many : length words ≡ length order
  pub kept : (k : ℕ) → k < i → get_or links k 0 ≡ get_or numbers k 0
  pub named : (j : ℕ) → j < length order → number_in (get_or words j 0) ≡ get_or order j 0
  pub firsts : (j : ℕ) → j < length order → Leads (length ids) places i (first_in (get_or words j 0))
  pub chained : (k : ℕ) → i ≤ k → k < length ids → 0 < get_or places k 0 → Leads (length ids) places (suc k) (get_or links k 0)
  pub same : (heap : List ℕ) (j : ℕ) → j < length order
      → chain_from (first_in (get_or words j 0)) (suc i) heap (drop i ids) (drop i places) (drop i links) ≡ filed_ops (get_or order j 0) heap (drop i ids) (drop i places) (drop i numbers)

-- ---- before the last entry that is moved
-- none is moved
filed-none : (q : ℕ) (heap xs ps gs : List ℕ) → ((k : ℕ) → 0 < get_or ps k 0 → ⊥) → filed_ops q heap xs ps gs ≡ []
unfolding filed_ops
filed-none q heap [] ps gs h = refl
filed-none q heap (x ∷ xs) [] gs h = refl
filed-none q heap (x ∷ xs) (p ∷ ps) [] h = refl
filed-none q heap (x ∷ xs) (p ∷ ps) (g ∷ gs) h = go (zero-or-more p) (filed-none q heap xs ps gs (λ k. h (suc k)))
  where
    rest : List Op
    rest = filed_ops q heap xs ps gs

    go : (p ≡ 0) ⊎ (0 < p) → rest ≡ [] → pick (eqb p 0) rest (pick (eqb g q) (op_at heap x p ∷ rest) rest) ≡ []
    go (inl none) ih = rw (eq-eqb p 0 none) ih
    go (inr some) ih = absurd (h 0 some)

module _ (ids places numbers order : List ℕ) (used : ℕ) (w : Linkable ids places numbers order used) where
  -- a number is its own word: no first entry yet
  plain : (j : ℕ) → (number_in (get_or order j 0) ≡ get_or order j 0) × (first_in (get_or order j 0) ≡ 0)
  plain j = (omega (arith, w.small j), omega (arith, w.small j))

  pub linking-start : Linking ids places numbers order used numbers order
  linking-start = record {
    long = refl;
    many = refl;
    kept = λ k h. refl;
    named = λ j h. (plain j).0;
    firsts = λ j h. record { on = λ some. none j some; low = λ some. absurd (none j some); moved = λ some. absurd (none j some) };
    chained = λ k h g some. absurd (omega (arith, w.last k some));
    same = λ heap j h.
        ap (λ (f : ℕ). chain_from f (suc used) heap (drop used ids) (drop used places) (drop used numbers)) (plain j).1
        ∙ chain-none used heap (drop used ids) (drop used places) (drop used numbers)
        ∙ sym (filed-none (get_or order j 0) heap (drop used ids) (drop used places) (drop used numbers)
        (λ k some. omega (arith, w.last (used + k) (rw (get_or-drop used places k 0) at some))));
  }
    where
      none : {A : Type 0} (j : ℕ) → 0 < first_in (get_or order j 0) → A
      none j some = absurd (omega (arith, (plain j).1))

  -- ---- one entry
  module _ (i : ℕ) (links words : List ℕ) (l : Linking ids places numbers order (suc i) links words) (low : i < length ids) where
    -- the operations of a file from the next entry on
    abbrev behind : ℕ → List ℕ → List Op
    behind q heap = filed_ops q heap (drop (suc i) ids) (drop (suc i) places) (drop (suc i) numbers)

    -- with this one
    filed-left : (q : ℕ) (heap : List ℕ) → filed_ops q heap (drop i ids) (drop i places) (drop i numbers)
        ≡ pick (eqb (get_or places i 0) 0) (behind q heap) (pick (eqb (get_or numbers i 0) q) (op_at heap (get_or ids i 0) (get_or places i 0) ∷ behind q heap) (behind q heap))
    unfolding filed_ops
    filed-left q heap = rw (drop-cons ids i 0 low, drop-cons places i 0 (omega (arith, w.wide)), drop-cons numbers i 0 (omega (arith, w.numbered))) refl

    -- a chain with this one
    chain_left : (after : List ℕ) → i < length after → (next : ℕ) (heap : List ℕ) → chain_from next (suc i) heap (drop i ids) (drop i places) (drop i after)
        ≡ pick (eqb next (suc i))
        (pick (eqb (get_or places i 0) 0) []
        (op_at heap (get_or ids i 0) (get_or places i 0) ∷ chain_from (get_or after i 0) (suc (suc i)) heap (drop (suc i) ids) (drop (suc i) places) (drop (suc i) after)))
        (chain_from next (suc (suc i)) heap (drop (suc i) ids) (drop (suc i) places) (drop (suc i) after))
    unfolding chain_from
    chain_left after h next heap = rw (drop-cons ids i 0 low, drop-cons places i 0 (omega (arith, w.wide)), drop-cons after i 0 h) refl

    -- a file whose chain begins behind it
    other-first : (j : ℕ) → j < length order → first_in (get_or words j 0) ≡ suc i → ⊥
    other-first j h e = omega (arith, e, (l.firsts j h).on (omega (arith, e)))

    wider : (j : ℕ) → j < length order → Leads (length ids) places i (first_in (get_or words j 0))
    wider j h = let f = l.firsts j h in record { on = λ some. omega (arith, f.on some); low = f.low; moved = f.moved }

    -- links that are the same behind this entry: such a chain has the operations of its file, if this entry is none of them
    others : (after : List ℕ) → i < length after → drop (suc i) after ≡ drop (suc i) links → (heap : List ℕ) (j : ℕ) → j < length order
        → behind (get_or order j 0) heap ≡ filed_ops (get_or order j 0) heap (drop i ids) (drop i places) (drop i numbers)
        → chain_from (first_in (get_or words j 0)) (suc i) heap (drop i ids) (drop i places) (drop i after) ≡ filed_ops (get_or order j 0) heap (drop i ids) (drop i places) (drop i numbers)
    others after room rest heap j h e =
        chain_left after room (first_in (get_or words j 0)) heap
        ∙ rw (ne_eqb (first_in (get_or words j 0)) (suc i) (other-first j h), rest) (l.same heap j h)
        ∙ e

    -- the entry is not moved
    pub linking-passed : get_or places i 0 ≡ 0 → Linking ids places numbers order i links words
    linking-passed none = record {
      long = l.long;
      many = l.many;
      kept = λ k h. l.kept k (omega arith);
      named = l.named;
      firsts = wider;
      chained = λ k h g some. l.chained k (above k h some) g some;
      same = λ heap j h. others links (omega (arith, l.long, w.numbered)) refl heap j h (sym (filed-left (get_or order j 0) heap ∙ rw (eq-eqb (get_or places i 0) 0 none) refl));
    }
      where
        above : (k : ℕ) → i ≤ k → 0 < get_or places k 0 → suc i ≤ k
        above k h some = go (same? k i)
          where
            go : (k ≡ i) ⊎ (k ≡ i → ⊥) → suc i ≤ k
            go (inl e) = absurd (omega (arith, ap (λ (m : ℕ). get_or places m 0) e))
            go (inr d) = omega (arith, d)

    -- it is: its number, and what is set there
    module _ (some : 0 < get_or places i 0) (v : ℕ) where
      room : i < length links
      room = omega (arith, l.long, w.numbered)

      set-kept : (k : ℕ) → k < i → get_or (set links i v) k 0 ≡ get_or numbers k 0
      set-kept k h = get_or-set_other links i k v 0 (λ e. omega arith) ∙ l.kept k (omega arith)

      set_rest : drop (suc i) (set links i v) ≡ drop (suc i) links
      set_rest = drop-set-lt (suc i) links i v (omega arith)

      set_here : get_or (set links i v) i 0 ≡ v
      set_here = get_or-set_same links i v 0 room

      set-chained : Leads (length ids) places (suc i) v → (k : ℕ) → i ≤ k → k < length ids → 0 < get_or places k 0 → Leads (length ids) places (suc k) (get_or (set links i v) k 0)
      set-chained lead k h g more = go (same? k i)
        where
          go : (k ≡ i) ⊎ (k ≡ i → ⊥) → Leads (length ids) places (suc k) (get_or (set links i v) k 0)
          go (inl e) = rw (e, set_here) lead
          go (inr d) = rw (get_or-set_other links i k v 0 d) (l.chained k (omega (arith, d)) g more)

      -- it is none of file q's
      not-filed : (q : ℕ) (heap : List ℕ) → (get_or links i 0 ≡ q → ⊥) → behind q heap ≡ filed_ops q heap (drop i ids) (drop i places) (drop i numbers)
      not-filed q heap d =
          sym (filed-left q heap ∙ rw (ne_eqb (get_or places i 0) 0 (λ e. omega arith), ne_eqb (get_or numbers i 0) q (λ e. d (l.kept i (omega arith) ∙ e))) refl)

    -- no file has its number
    pub linking-none : 0 < get_or places i 0 → (j : ℕ) → FileOf words (get_or links i 0) j → length words ≤ j → Linking ids places numbers order i (set links i 0) words
    linking-none some j f past = record {
      long = length-set links i 0 ∙ l.long;
      many = l.many;
      kept = set-kept some 0;
      named = l.named;
      firsts = wider;
      chained = set-chained some 0 (record { on = λ h. absurd (omega arith); low = λ h. absurd (omega arith); moved = λ h. absurd (omega arith) });
      same = λ heap k h.
          others (set links i 0) (omega (arith, length-set links i 0, l.long, w.numbered)) (set_rest some 0) heap k h
          (not-filed some 0 (get_or order k 0) heap (λ e. f.none past k (omega (arith, l.many)) (l.named k h ∙ sym e)));
    }

    -- file j has
    pub linking-joined : 0 < get_or places i 0 → (j : ℕ) → FileOf words (get_or links i 0) j → j < length words
        → Linking ids places numbers order i (set links i (first_in (get_or words j 0))) (set words j ((i + 1) * 2 ^ 32 + get_or links i 0))
    linking-joined some j f in_words_lem = record {
      long = length-set links i was ∙ l.long;
      many = length-set words j new ∙ l.many;
      kept = set-kept some was;
      named = λ k h. name k h (same? k j);
      firsts = λ k h. first k h (same? k j);
      chained = set-chained some was (l.firsts j in_order);
      same = λ heap k h. chain heap k h (same? k j);
    }
      where
        was : ℕ
        was = first_in (get_or words j 0)

        new : ℕ
        new = (i + 1) * 2 ^ 32 + get_or links i 0

        in_order : j < length order
        in_order = omega (arith, l.many, in_words_lem)

        -- the file's number
        number : get_or links i 0 ≡ get_or order j 0
        number = sym (f.here in_words_lem) ∙ l.named j in_order

        -- its new word
        word : get_or (set words j new) j 0 ≡ new
        word = get_or-set_same words j new 0 in_words_lem

        word_number : number_in new ≡ get_or order j 0
        word_number = omega (arith, number, w.small j)

        word_first : first_in new ≡ suc i
        word_first = omega (arith, number, w.small j)

        name : (k : ℕ) → k < length order → (k ≡ j) ⊎ (k ≡ j → ⊥) → number_in (get_or (set words j new) k 0) ≡ get_or order k 0
        name k h (inl e) = rw (e, word) word_number
        name k h (inr d) = rw (get_or-set_other words j k new 0 d) (l.named k h)

        first : (k : ℕ) → k < length order → (k ≡ j) ⊎ (k ≡ j → ⊥) → Leads (length ids) places i (first_in (get_or (set words j new) k 0))
        first k h (inl e) =
            let here : suc i - 1 ≡ i = omega arith in
            rw (e, word, word_first) (record { on = λ z. omega arith; low = λ z. omega arith; moved = λ z. rw here some })
        first k h (inr d) = rw (get_or-set_other words j k new 0 d) (wider k h)

        room_after : i < length (set links i was)
        room_after = omega (arith, length-set links i was, l.long, w.numbered)

        -- its operation comes first
        joined : (heap : List ℕ) → let op = op_at heap (get_or ids i 0) (get_or places i 0) in
            let rest = chain_from (get_or (set links i was) i 0) (suc (suc i)) heap (drop (suc i) ids) (drop (suc i) places) (drop (suc i) (set links i was)) in
            let passed = chain_from (suc i) (suc (suc i)) heap (drop (suc i) ids) (drop (suc i) places) (drop (suc i) (set links i was)) in
            let left = behind (get_or order j 0) heap in
            pick (eqb (suc i) (suc i)) (pick (eqb (get_or places i 0) 0) [] (op ∷ rest)) passed
            ≡ pick (eqb (get_or places i 0) 0) left (pick (eqb (get_or numbers i 0) (get_or order j 0)) (op ∷ left) left)
        joined heap =
            rw (
              eq-eqb (suc i) (suc i) refl,
              ne_eqb (get_or places i 0) 0 (λ z. omega arith),
              set_here some was,
              set_rest some was,
              eq-eqb (get_or numbers i 0) (get_or order j 0) (sym (l.kept i (omega arith)) ∙ number),
            )
            (ap (λ (os : List Op). op_at heap (get_or ids i 0) (get_or places i 0) ∷ os) (l.same heap j in_order))

        chain : (heap : List ℕ) (k : ℕ) → k < length order → (k ≡ j) ⊎ (k ≡ j → ⊥)
            → chain_from (first_in (get_or (set words j new) k 0)) (suc i) heap (drop i ids) (drop i places) (drop i (set links i was))
            ≡ filed_ops (get_or order k 0) heap (drop i ids) (drop i places) (drop i numbers)
        chain heap k h (inl e) =
            rw (e, word, word_first) (chain_left (set links i was) room_after (suc i) heap ∙ joined heap ∙ sym (filed-left (get_or order j 0) heap))
        chain heap k h (inr d) =
            rw (get_or-set_other words j k new 0 d)
            (others (set links i was) room_after (set_rest some was) heap k h
            (not-filed some was (get_or order k 0) heap (λ e. d (w.distinct k j h in_order (sym e ∙ number)))))

  -- ---- all of them
  same-files : (f g : ℕ → List Op) (xs ys : List ℕ) → length xs ≡ length ys → ((j : ℕ) → j < length ys → f (get_or xs j 0) ≡ g (get_or ys j 0)) → map f xs ≡ map g ys
  same-files f g [] [] n h = refl
  same-files f g [] (y ∷ ys) n h = absurd (omega arith)
  same-files f g (x ∷ xs) [] n h = absurd (omega arith)
  same-files f g (x ∷ xs) (y ∷ ys) n h = ap₂ (λ (o : List Op) (os : List (List Op)). o ∷ os) (h 0 (omega arith)) (same-files f g xs ys (omega arith) (λ j l. h (suc j) (omega arith)))

  pub linking-end : (links words : List ℕ) → Linking ids places numbers order 0 links words → Linked ids places numbers order links words
  linking-end links words l = record {
    wide = omega (arith, l.long, w.numbered);
    files = λ heap.
        same-files (λ (v : ℕ). chain_from (first_in v) 1 heap ids places links) (λ (q : ℕ). filed_ops q heap ids places numbers) words order l.many (l.same heap);
    firsts = λ j h. l.firsts j (omega (arith, l.many));
    chained = λ k h some. l.chained k (omega arith) h some;
  }
