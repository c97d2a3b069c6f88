-- How long a table gets goes by the ids alone.
use Rattle.std.specs.Prelude.{◌≡◌, refl, ◌⊎◌, ◌<◌, ◌∷◌}
use Rattle.std.proofs.Common.{sym, ap, ◌∙◌, inl, inr, arith}
use Rattle.rules.specs.Base.{List, [], map, ℕ, suc, length}
use Rattle.theory.specs.Types.{Entry}
use Rattle.rules.proofs.BaseLaws.{order}
use Rattle.rules.specs.Trailer.{absolute}
use Rattle.rules.specs.Table.{insert, insert_all}
use Rattle.rules.proofs.TableLaws.{insert-next, insert-here, insert-before}
use Rattle.theory.specs.SameIds.{SameIds}

same_length : (t u : List Entry) → SameIds t u → length t ≡ length u
same_length [] [] s = refl
same_length [] (d ∷ u) s = absurd s
same_length (e ∷ t) [] s = absurd s
same_length (e ∷ t) (d ∷ u) s = ap suc (same_length t u s.1)

same_self : (t : List Entry) → SameIds t t
same_self [] = tt
same_self (e ∷ t) = (refl, same_self t)

same-insert : (t u : List Entry) (n m : Entry) → SameIds t u → n.id ≡ m.id → SameIds (insert t n) (insert u m)
unfolding insert
same-insert [] [] n m s e = (e, tt)
same-insert [] (d ∷ u) n m s e = absurd s
same-insert (c ∷ t) [] n m s e = absurd s
same-insert (c ∷ t) (d ∷ u) n m s e = go (same-insert t u n m s.1 e) (order c.id n.id) s.0
  where
    go : SameIds (insert t n) (insert u m) → (c.id < n.id) ⊎ ((c.id ≡ n.id) ⊎ (n.id < c.id)) → c.id ≡ d.id → SameIds (insert (c ∷ t) n) (insert (d ∷ u) m)
    go ih (inl h) q = rw (insert-next c t n h, insert-next d u m (omega arith)) (q, ih)
    go ih (inr (inl h)) q = rw (insert-here c t n h, insert-here d u m (sym q ∙ h ∙ e)) (e, s.1)
    go ih (inr (inr h)) q = rw (insert-before c t n h, insert-before d u m (omega arith)) (e, (q, s.1))

same-insert-all : (t u es ds : List Entry) → SameIds t u → SameIds es ds → SameIds (insert_all t es) (insert_all u ds)
unfolding insert_all
same-insert-all t u [] [] s r = s
same-insert-all t u [] (d ∷ ds) s r = absurd r
same-insert-all t u (e ∷ es) [] s r = absurd r
same-insert-all t u (e ∷ es) (d ∷ ds) s r = same-insert-all (insert t e) (insert u d) es ds (same-insert t u e d s r.0) r.1

same-absolute : (lsn : ℕ) (es : List Entry) → SameIds (map (absolute lsn) es) es
same-absolute lsn [] = tt
same-absolute lsn (e ∷ es) = (refl, same-absolute lsn es)

-- LAW: entries take as much room with absolute locations as with relative ones
pub room-absolute : (t es : List Entry) (lsn : ℕ) → length (insert_all t (map (absolute lsn) es)) ≡ length (insert_all t es)
room-absolute t es lsn = same_length (insert_all t (map (absolute lsn) es)) (insert_all t es) (same-insert-all t t (map (absolute lsn) es) es (same_self t) (same-absolute lsn es))
