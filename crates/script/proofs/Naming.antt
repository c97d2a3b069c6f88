-- The names of the code are those of specs/Names, in their order.
use Rattle.std.proofs.Common.{◌≡◌, refl, sym, ap, ◌∙◌, Bool, true, false, List, [], ◌∷◌, ◌++◌, ℕ, ◌+◌, ◌<◌, ◌≤◌, length, drop, get_or, map, Bor, add-one, drop-cons, drop_of_length-le}
use Rattle.numbers.specs.Choice.{pick}
use Rattle.script.specs.declared.Keyword.{Keyword}
use Rattle.script.specs.declared.Keyword.TheVariants.{Bad}
use Rattle.script.specs.Names.{Name, called, same_bytes, hand_names, call_names, table_names, named_in, keyword_of}

abbrev pub Entry : Type 0
Entry = Bor (List ℕ) × Keyword

abbrev name_of : Entry → Name
name_of e = called e.0.now e.1

-- what the word names among these, or else Bad
abbrev sought : List Entry → List ℕ → Keyword
sought es w = named_in (map name_of es) w Bad

named-append : (xs ys : List Name) (w : List ℕ) (other : Keyword) → named_in (xs ++ ys) w other ≡ named_in xs w (named_in ys w other)
unfolding named_in
named-append [] ys w other = refl
named-append (n ∷ xs) ys w other = ap (pick (same_bytes w n.name) n.keyword) (named-append xs ys w other)

-- the word is none of the first k names
pub record Seeking (es : List Entry) (k : ℕ) (w : List ℕ) : Type 0 where
  pub left : sought (drop k es) w ≡ keyword_of w

pub begin : (es : List Entry) (w : List ℕ) → map name_of es ≡ hand_names ++ (call_names ++ table_names) → Seeking es 0 w
unfolding keyword_of
begin es w e = record {
  left =
      ap (λ ns. named_in ns w Bad) e
      ∙ named-append hand_names (call_names ++ table_names) w Bad
      ∙ ap (named_in hand_names w) (named-append call_names table_names w Bad);
}

module _ {es : List Entry} {w : List ℕ} {k : ℕ} (s : Seeking es k w) where
  pub missed : length es ≤ k → Bad ≡ keyword_of w
  unfolding named_in
  missed h = rw (drop_of_length-le es {i = k} h) at s.left

  module _ (d : Entry) (h : k < length es) where
    turn : sought (drop k es) w ≡ pick (same_bytes w (get_or es k d).0.now) (get_or es k d).1 (sought (drop (k + 1) es) w)
    unfolding named_in
    turn = rw (add-one, drop-cons es k d h) refl

    tested : (t : Bool) → same_bytes w (get_or es k d).0.now ≡ t → pick t (get_or es k d).1 (sought (drop (k + 1) es) w) ≡ keyword_of w
    tested t e = ap (λ t. pick t (get_or es k d).1 (sought (drop (k + 1) es) w)) (sym e) ∙ sym turn ∙ s.left

    pub found : same_bytes w (get_or es k d).0.now ≡ true → (get_or es k d).1 ≡ keyword_of w
    found e = tested true e

    pub passed : same_bytes w (get_or es k d).0.now ≡ false → Seeking es (k + 1) w
    passed e = record { left = tested false e }
