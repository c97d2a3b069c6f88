-- Every entry of the table is what the shifts make.
use Rattle.std.proofs.Common.{◌≡◌, refl, ap, ◌∙◌, List, [], ◌∷◌, ℕ, zero, suc, ◌+◌, ◌*◌, ◌%◌, ◌<◌, get_or, zero-add, arith}
use Rattle.checksum.specs.declared.table.TheConstants.{SHIFTED}
use Rattle.checksum.specs.Checksum.{shifts, shift_bit}

-- k values of f, from i on
values : {A : Type 0} → (ℕ → A) → ℕ → ℕ → List A
values f i zero = []
values f i (suc k) = f i ∷ values f (i + 1) k

value-at : {A : Type 0} (f : ℕ → A) (i k j : ℕ) (d : A) → j < k → get_or (values f i k) j d ≡ f (i + j)
unfolding values
value-at f i zero j d h = absurd (omega arith)
value-at f i (suc k) zero d h = ap f (omega arith)
value-at f i (suc k) (suc j) d h = value-at f (i + 1) k j d (omega arith) ∙ ap f (omega arith)

row : ℕ → List ℕ
row k = values (shifts (4 + 4 * k)) 0 16

whole : SHIFTED ≡ values row 0 8
unfolding values row shifts shift_bit
whole = refl

pub entry : (k n : ℕ) (d : List ℕ) → k < 8 → get_or (get_or SHIFTED k d) (n % 16) 0 ≡ shifts (4 + 4 * k) (n % 16)
unfolding row
entry k n d h =
    ap (λ t. get_or (get_or t k d) (n % 16) 0) whole
    ∙ ap (λ l. get_or l (n % 16) 0) (value-at row 0 8 k d h)
    ∙ value-at (shifts (4 + 4 * (0 + k))) 0 16 (n % 16) 0 (omega arith)
    ∙ simp zero-add
