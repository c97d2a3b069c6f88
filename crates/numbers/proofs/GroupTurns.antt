-- A turn of `encode`'s loop, and its end.
use mathlib.Core.Path.{◌≡◌, refl, sym, ap, ◌∙◌}
use mathlib.Core.List.{List, [], ◌∷◌}
use Prim.Native.Nat.{ℕ, zero, suc, ◌+◌, ◌-◌, ◌/◌, ◌%◌, ◌^◌, ◌<◌, ◌≤◌}
use native.Mathlib.Omega.{arith}
use native.Mathlib.Nat.{pow-suc}
use lib.ListN.{length, set}
use Rattle.numbers.specs.Parts.{put_at, put_step, put-none}
use Rattle.numbers.specs.Groups.{groups_of}
use Rattle.numbers.specs.GroupLaws.{groups-last, groups-more}

-- i groups are written, x is left, the whole is t in n bytes
pub record Writing (w : ℕ) (t : List ℕ) (n : ℕ) (s : List ℕ) (x i : ℕ) : Type 0 where
  pub room : i < w
  pub small : x < 128 ^ (w - i)
  pub list : put_at s i (groups_of (w - i) x) ≡ t
  pub count : i + length (groups_of (w - i) x) ≡ n

-- one group more
pub turn : (w : ℕ) (t : List ℕ) (n : ℕ) (s : List ℕ) (x i : ℕ) → w ≤ length s → 128 ≤ x → Writing w t n s x i
    → Writing w t n (set s i (x % 128 + 128)) (x / 128) (i + 1)
turn w t n s x i fit m v = go (w - (i + 1)) refl
  where
    more : w - i ≡ suc (w - (i + 1))
    more = let r = v.room in omega arith

    split : groups_of (w - i) x ≡ (x % 128 + 128) ∷ groups_of (w - (i + 1)) (x / 128)
    split = rw more (groups-more (w - (i + 1)) x m)

    go : (k : ℕ) → w - (i + 1) ≡ k → Writing w t n (set s i (x % 128 + 128)) (x / 128) (i + 1)
    go zero e = absurd (let h : x < 128 ^ 1 = rw (more, e) at v.small in omega arith)
    go (suc k) e = record {
      room = omega arith;
      small = let h : x < 128 ^ suc (w - (i + 1)) = rw more at v.small in omega (arith, pow-suc 128 (w - (i + 1)));
      list = put_step s i (x % 128 + 128) _ (let r = v.room in omega arith) ∙ ap (put_at s i) (sym split) ∙ v.list;
      count = omega (arith, v.count, ap length split);
    }

-- the last group
pub done : (w : ℕ) (t : List ℕ) (n : ℕ) (s : List ℕ) (x i : ℕ) → w ≤ length s → x < 128 → Writing w t n s x i
    → (i + 1 ≡ n) × (set s i x ≡ t)
done w t n s x i fit l v =
    let more : w - i ≡ suc (w - (i + 1)) = let r = v.room in omega arith in
    let one : groups_of (w - i) x ≡ x ∷ [] = rw more (groups-last (w - (i + 1)) x l) in (
      omega (arith, v.count, ap length one),
      sym (put-none (set s i x) (i + 1)) ∙ put_step s i x [] (let r = v.room in omega arith) ∙ ap (put_at s i) (sym one) ∙ v.list,
    )
