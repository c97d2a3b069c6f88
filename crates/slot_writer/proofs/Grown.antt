-- A list written number by number from its front.
use mathlib.Core.Path.{◌≡◌, ap, ap₂, ◌∙◌}
use mathlib.Core.List.{List, ◌++◌}
use Prim.Native.Nat.{ℕ, ◌+◌, ◌≤◌}
use native.Mathlib.Omega.{arith}
use lib.ListN.{length, length-append}
use Rattle.numbers.specs.Parts.{put_at, front, put-behind, put_front, front_length}

-- ns stands in front, it ends at `at`, and has at most k elements
pub record Grown (s₀ ns s : List ℕ) (at k : ℕ) : Type 0 where
  pub written : s ≡ front ns s₀
  pub ends : at ≡ length ns
  pub most : length ns ≤ k

pub grown-first : {s₀ ns s : List ℕ} {at k : ℕ} → length ns ≤ k → at ≡ 0 + length ns → s ≡ put_at s₀ 0 ns → Grown s₀ ns s at k
grown-first {s₀} {ns} m a e = record { written = e ∙ put_front s₀ ns; ends = omega arith; most = m }

pub grown-next : (ys : List ℕ) {s₀ xs s next : List ℕ} {at end k m : ℕ} → Grown s₀ xs s at k → length ys ≤ m → end ≡ at + length ys → next ≡ put_at s at ys
    → Grown s₀ (xs ++ ys) next end (k + m)
grown-next ys {s₀} {xs} {s} g y a e = record {
  written = e ∙ ap₂ (λ (l : List ℕ) (n : ℕ). put_at l n ys) g.written g.ends ∙ put-behind s₀ xs ys;
  ends = omega (arith, g.ends, length-append xs ys);
  most = omega (arith, g.most, length-append xs ys);
}

pub grown-length : {s₀ ns s : List ℕ} {at k : ℕ} → Grown s₀ ns s at k → k ≤ length s₀ → length s ≡ length s₀
grown-length {s₀} {ns} g h = ap length g.written ∙ front_length s₀ ns (omega (arith, g.most))
