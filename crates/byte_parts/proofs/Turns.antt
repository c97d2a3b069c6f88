-- Where a byte first stands in a part, by the library's words and by those of specs/Bytes.
use Rattle.std.proofs.Common.{◌≡◌, ℕ, suc, ◌+◌, ◌-◌, ◌≤◌, Bool, true, false, List, [], ◌∷◌, length, take, drop, refl, ap, ◌∙◌, arith, eqb, ltb, ltb-false, length-take, length-drop}
use Rattle.std.proofs.lemmas.List.{drop-take}
use Rattle.std.specs.Prelude.{Some, None, cond, not, position}
use Rattle.std.specs.List.{position_or_len}
use Rattle.byte_parts.specs.Bytes.{slice, index_of, index_after}

after-place : (t : Bool) (m n : ℕ) → m ≡ n → index_after t m ≡ cond (not t) (1 + n) 0
unfolding index_after
after-place true m n e = refl
after-place false m n e = omega arith

after-within : (t : Bool) (m n : ℕ) → m ≤ n → index_after t m ≤ suc n
unfolding index_after
after-within true m n h = omega arith
after-within false m n h = omega arith

index-place : (x : ℕ) (bs : List ℕ) → index_of x bs ≡ position_or_len (λ b. eqb b x) bs
unfolding index_of
index-place x [] = refl
index-place x (b ∷ bs) = after-place (eqb b x) _ _ (index-place x bs)

index-within : (x : ℕ) (bs : List ℕ) → index_of x bs ≤ length bs
unfolding index_of
index-within x [] = omega arith
index-within x (b ∷ bs) = after-within (eqb b x) _ _ (index-within x bs)

-- the part from a up to e, as the code takes it
part : (a e : ℕ) (s : List ℕ) → a ≤ e → slice a e s ≡ take (e - a) (drop a s)
unfolding slice
part a e s h = let whole : e ≡ a + (e - a) = omega arith in ap (λ n. drop a (take n s)) whole ∙ drop-take a (e - a) s

module _ (x a e : ℕ) (s : List ℕ) (h : a ≤ e) where
  pub found : (i : ℕ) → Some i ≡ position (λ b. eqb b x) (take (e - a) (drop a s)) → i ≡ index_of x (slice a e s)
  found i p = rw (part a e s h, index-place x (take (e - a) (drop a s))) (go (ltb (position_or_len (λ b. eqb b x) (take (e - a) (drop a s))) (length (take (e - a) (drop a s)))) p)
    where
      go : (t : Bool) → Some i ≡ cond t (Some (position_or_len (λ b. eqb b x) (take (e - a) (drop a s)))) None → i ≡ position_or_len (λ b. eqb b x) (take (e - a) (drop a s))
      go true q = cc
      go false q = cc

  pub missing : e ≤ length s → None ≡ position (λ b. eqb b x) (take (e - a) (drop a s)) → e ≡ a + index_of x (slice a e s)
  missing fit p = rw (part a e s h) (go (ltb (position_or_len (λ b. eqb b x) (take (e - a) (drop a s))) (length (take (e - a) (drop a s)))) refl p)
    where
      go : (t : Bool) → ltb (position_or_len (λ b. eqb b x) (take (e - a) (drop a s))) (length (take (e - a) (drop a s))) ≡ t
          → None ≡ cond t (Some (position_or_len (λ b. eqb b x) (take (e - a) (drop a s)))) None → e ≡ a + index_of x (take (e - a) (drop a s))
      go true t q = cc
      go false t q = omega (arith, ltb-false _ _ t, index-place x (take (e - a) (drop a s)), index-within x (take (e - a) (drop a s)), length-take (e - a) (drop a s), length-drop a s)
