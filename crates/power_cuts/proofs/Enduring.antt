-- A store of the invariant stands on a heap; runs that may be cut anywhere.
use Rattle.std.specs.Prelude.{◌≡◌, refl, ◌⊎◌, ◌<◌, ◌≤◌, ◌++◌, ◌+◌, ◌-◌}
use Rattle.std.proofs.Common.{sym, ap, ◌∙◌, subst, inl, inr, arith}
use Rattle.std.proofs.lemmas.List.{take-append-le}
use Rattle.std.proofs.Math.Seq.{take-append-add}
use Rattle.rules.specs.Base.{List, [], ℕ, zero, suc, length, take}
use Rattle.numbers.specs.GroupLaws.{either_way}
use Rattle.rules.specs.Stores.{Store, made}
use Rattle.rules.proofs.StoreLaws.{made-append}
use Rattle.rules.specs.World.{World}
use Rattle.theory.specs.Picture.{Said}
use Rattle.theory.specs.SoundWorld.{SoundWorld}
use Rattle.power_cuts.specs.Cuts.{Alike, cut}
use Rattle.power_cuts.specs.Enduring.{StandsOn, Endured}

-- a world is like itself
pub alike_self : (w : World) → Alike w w
alike_self w = record { settings = refl; table = refl }

-- and what is like one like it
pub alike-on : (w v u : World) → Alike w v → Alike v u → Alike w u
alike-on w v u a b = record { settings = b.settings ∙ a.settings; table = b.table ∙ a.table }

-- a store stands on its own heap
pub stands_self : (w : World) (told : ℕ → Said) → SoundWorld w told → StandsOn w w.heap told
stands_self w told s = record { store = w; alike = alike_self w; bytes = refl; sound = s }

-- what is like v is like w
pub stands_alike : (w v : World) (heap : List ℕ) (told : ℕ → Said) → Alike w v → StandsOn v heap told → StandsOn w heap told
stands_alike w v heap told a t = record { store = t.store; alike = alike-on w v t.store a t.alike; bytes = t.bytes; sound = t.sound }

-- no store
pub endured-none : (w : World) (told : ℕ → Said) → SoundWorld w told → Endured w w [] told
unfolding made
endured-none w told s = record { alike = alike_self w; bytes = refl; sound = s; cut = cut }
  where
    cut : (k : ℕ) → StandsOn w (made (take k []) w.heap) told
    cut zero = stands_self w told s
    cut (suc k) = stands_self w told s

-- one run behind the other
pub endured-on : (w v u : World) (xs ys : List Store) (told : ℕ → Said) → Endured w v xs told → Endured v u ys told → Endured w u (xs ++ ys) told
endured-on w v u xs ys told a b = record {
  alike = alike-on w v u a.alike b.alike;
  bytes = b.bytes ∙ ap (made ys) a.bytes ∙ sym (made-append xs ys w.heap);
  sound = b.sound;
  cut = λ k. go k (either_way k (length xs));
}
  where
    go : (k : ℕ) → (k < length xs) ⊎ (length xs ≤ k) → StandsOn w (made (take k (xs ++ ys)) w.heap) told
    go k (inl h) = subst (λ (ss : List Store). StandsOn w (made ss w.heap) told) (sym (take-append-le k xs ys (omega arith))) (a.cut k)
    go k (inr h) =
        let n : length xs + (k - length xs) ≡ k = omega arith in
        let e : take k (xs ++ ys) ≡ xs ++ take (k - length xs) ys = ap (λ (m : ℕ). take m (xs ++ ys)) (sym n) ∙ take-append-add xs ys (k - length xs) in
        subst (λ (heap : List ℕ). StandsOn w heap told)
        (ap (made (take (k - length xs) ys)) a.bytes ∙ sym (ap (λ (ss : List Store). made ss w.heap) e ∙ made-append xs (take (k - length xs) ys) w.heap))
        (stands_alike w v (made (take (k - length xs) ys) v.heap) told a.alike (b.cut (k - length xs)))
