-- What is said of a location that the table holds, by its mark, which load tells.
use Rattle.std.specs.Prelude.{◌≡◌, refl, Some}
use Rattle.std.proofs.Common.{sym, ap, ◌∙◌}
use Rattle.rules.specs.Base.{Bool, true, false, ℕ, pick}
use Rattle.theory.specs.Types.{At, DeletedAt}
use Rattle.disk_location.specs.Locations.{delete_of}
use Rattle.rules.specs.FileMap.{file_for}
use Rattle.theory.specs.Picture.{Picture, gone, slot_says, loaded_says, held_says}

-- of a delete that it is gone, of an object what its file says
pub held-says : (p : Picture) (l x : ℕ) (d : Bool) → delete_of l ≡ d → held_says p (Some l) x ≡ pick d gone (slot_says p (file_for p.records l) l x)
held-says p l x d e = ap (λ (b : Bool). loaded_says p (pick b (DeletedAt l) (At l)) x) e ∙ go d
  where
    go : (d : Bool) → loaded_says p (pick d (DeletedAt l) (At l)) x ≡ pick d gone (slot_says p (file_for p.records l) l x)
    go true = refl
    go false = refl

-- so the same where the files say the same
pub held_same : (p q : Picture) (l x : ℕ) → slot_says p (file_for p.records l) l x ≡ slot_says q (file_for q.records l) l x
    → held_says p (Some l) x ≡ held_says q (Some l) x
held_same p q l x same = held-says p l x (delete_of l) refl ∙ ap (pick (delete_of l) gone) same ∙ sym (held-says q l x (delete_of l) refl)
