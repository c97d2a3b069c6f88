-- One turn of the loops of `put` and `get`.
use Rattle.std.proofs.Common.{◌≡◌, sym, ap, ◌∙◌, List, ◌∷◌, ◌++◌, ℕ, suc, ◌+◌, ◌-◌, ◌*◌, ◌/◌, ◌%◌, ◌^◌, ◌<◌, ◌≤◌, pow-suc, arith, lit<, length, take, set, length-take, length-append, get_or, get_or-take}
use Rattle.std.proofs.Math.Seq.{get_or-append_seam}
use native.Mathlib.Nat.{pow-le-pow_right}
use Rattle.numbers.specs.LittleEndian.{Bytes, le_bytes, le_value, le-cons, le-none}
use Rattle.numbers.specs.Parts.{put_at, put_step, put-none}

-- a byte is stored, and the rest is still to be written behind it
pub put-turn : (s : List ℕ) (n i x : ℕ) → i < n → n ≤ length s
    → put_at (set s i (x % 256)) (i + 1) (le_bytes (n - (i + 1)) (x / 256)) ≡ put_at s i (le_bytes (n - i) x)
put-turn s n i x h fit =
    put_step s i (x % 256) (le_bytes (n - (i + 1)) (x / 256)) (omega arith)
    ∙ ap (put_at s i) (sym (le-cons (n - i) (n - (i + 1)) x (omega arith)))

-- all is written
pub put-done : (s t : List ℕ) (n i x : ℕ) → n ≤ i → put_at s i (le_bytes (n - i) x) ≡ t → s ≡ t
put-done s t n i x h e = sym (put-none s i) ∙ ap (put_at s i) (sym (le-none (n - i) x (omega arith))) ∙ e

-- what was read leaves room for a byte
get-room : (v m : ℕ) → v < 256 ^ m → m ≤ 7 → v < 2 ^ 56
get-room v m h k = omega (arith, pow-le-pow_right {n = 256} (lit< tt) k)

-- what a turn of `get` makes of v, which the bytes behind b say
pub record Turned (b : ℕ) (seen : List ℕ) (v : ℕ) : Type 0 where
  pub value : v * 256 % 2 ^ 64 + b ≡ le_value (b ∷ seen)
  pub below : v * 256 % 2 ^ 64 + b < 256 ^ suc (length seen)
  pub fits : v * 256 % 2 ^ 64 + b < 2 ^ 64

pub get-turn : (b : ℕ) (seen : List ℕ) (v : ℕ) → length seen ≤ 7 → v ≡ le_value seen → v < 256 ^ length seen → b < 256 → Turned b seen v
unfolding le_value
get-turn b seen v k e h byte =
    let room : v < 2 ^ 56 = get-room v (length seen) h k in
    record { value = omega arith; below = omega (arith, pow-suc 256 (length seen)); fits = omega arith }

-- a byte of the first n, in front of those that were read
pub get-next : (s rest seen : List ℕ) (n b : ℕ) → take n s ≡ rest ++ (b ∷ seen) → Bytes s → (b < 256) × (length seen < n)
get-next s rest seen n b e bytes =
    let whole : length (take n s) ≡ length rest + suc (length seen) = ap length e ∙ length-append rest (b ∷ seen) in
    let inside : length rest < n = omega (arith, length-take n s) in
    let there : get_or s (length rest) 0 ≡ b = sym (get_or-take n s (length rest) 0 inside) ∙ ap (λ (xs : List ℕ). get_or xs (length rest) 0) e ∙ get_or-append_seam rest b seen 0 in
    (omega (arith, bytes (length rest), there), omega (arith, length-take n s))
