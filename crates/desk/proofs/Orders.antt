-- What a match on a keyword tells: its last arm, and arms of several.
use mathlib.Core.Path.{◌≡◌, refl, sym, ap, ◌∙◌, subst}
use mathlib.Core.Logic.{◌⊎◌, inl, inr, ⊎_elim}
use types.Run.{OneOf}
use Rattle.std.specs.Prelude.{◌∷◌, ◌++◌}
use Rattle.rules.specs.Base.{List, [], ℕ, map, get_or}
use Rattle.script.specs.declared.Keyword.TheVariants as key
use Rattle.desk.specs.Types.{Keyword}
use Rattle.desk.specs.Kinds.{at_bench, number, Among}
use Rattle.desk.specs.Desk.{Desk, bad_line, on_lent}
use Rattle.desk.specs.Commands.{report_by, words_by, lent_by, done_by}

-- ---- keywords by number
abbrev keywords : List Keyword
keywords =
    key.Blank ∷ key.Bad ∷ key.Settings ∷ key.Heap ∷ key.Table ∷ key.Poke ∷ key.Entry ∷ key.State ∷ key.Record ∷ key.Claims ∷ key.Reopen ∷ key.Write ∷ key.Claim
    ∷ key.Release ∷ key.Prune ∷ key.Read ∷ key.Through ∷ key.Plan ∷ key.Rewrite ∷ key.Maintain ∷ key.Counts ∷ key.Unsynced ∷ key.Sync ∷ key.Check ∷ key.Salvage ∷ key.Load ∷ key.Store ∷ key.Cas
    ∷ key.Max ∷ key.List ∷ key.Dump ∷ key.Bytes ∷ key.Help ∷ []

numbered : (k : Keyword) → get_or keywords (number k) key.Bad ≡ k
numbered key.Blank = refl
numbered key.Bad = refl
numbered key.Settings = refl
numbered key.Heap = refl
numbered key.Table = refl
numbered key.Poke = refl
numbered key.Entry = refl
numbered key.State = refl
numbered key.Record = refl
numbered key.Claims = refl
numbered key.Reopen = refl
numbered key.Write = refl
numbered key.Claim = refl
numbered key.Release = refl
numbered key.Prune = refl
numbered key.Read = refl
numbered key.Through = refl
numbered key.Plan = refl
numbered key.Rewrite = refl
numbered key.Maintain = refl
numbered key.Counts = refl
numbered key.Unsynced = refl
numbered key.Sync = refl
numbered key.Check = refl
numbered key.Salvage = refl
numbered key.Load = refl
numbered key.Store = refl
numbered key.Cas = refl
numbered key.Max = refl
numbered key.List = refl
numbered key.Dump = refl
numbered key.Bytes = refl
numbered key.Help = refl

-- two of one number are one
one_number : (k l : Keyword) → number k ≡ number l → k ≡ l
one_number k l e = sym (numbered k) ∙ ap (λ (x : ℕ). get_or keywords x key.Bad) e ∙ numbered l

first-or : (n : ℕ) (ns : List ℕ) (x : ℕ) → OneOf (n ∷ ns) x → (x ≡ n) ⊎ OneOf ns x
first-or n [] x h = inl h
first-or n (m ∷ ns) x (inl h) = inl h
first-or n (m ∷ ns) x (inr h) = inr h

-- what holds of each of some
abbrev All : (Keyword → Type 0) → List Keyword → Type 0
All P [] = Unit {0}
All P (k ∷ ks) = P k × All P ks

each : (P : Keyword → Type 0) (ks : List Keyword) → All P ks → (k : Keyword) → Among ks k → P k
each P [] a k h = absurd h
each P (l ∷ ks) a k h =
    ⊎_elim (λ e. subst P (sym (one_number k l e)) a.0) (λ r. each P ks a.1 k r) (first-or (number l) (map number ks) (number k) h)

-- ---- the last arm
-- none of these
abbrev pub NoneOf : List Keyword → Keyword → Type 0
NoneOf [] k = Unit {0}
NoneOf (l ∷ ks) k = (k ≡ l → ⊥) × NoneOf ks k

-- of some keywords, all but the last told before
pub last : (told : List Keyword) (z k : Keyword) → Among (told ++ (z ∷ [])) k → NoneOf told k → k ≡ z
last [] z k p h = one_number k z p
last (l ∷ told) z k p h =
    ⊎_elim (λ e. absurd (h.0 (one_number k l e))) (λ r. last told z k r h.1) (first-or (number l) (map number (told ++ (z ∷ []))) (number k) p)

-- ---- an arm of several
abbrev pub Is : List Keyword → Keyword → Type 0
Is [] k = ⊥
Is (l ∷ []) k = k ≡ l
Is (l ∷ m ∷ ks) k = (k ≡ l) ⊎ Is (m ∷ ks) k

pub among : (ks : List Keyword) (k : Keyword) → Is ks k → Among ks k
among [] k h = absurd h
among (l ∷ []) k h = ap number h
among (l ∷ m ∷ ks) k (inl h) = inl (ap number h)
among (l ∷ m ∷ ks) k (inr h) = inr (among (m ∷ ks) k h)

-- ---- the commands on the lent parts
-- those that are not
abbrev pub whole : List Keyword
whole = key.Blank ∷ key.Bad ∷ key.Settings ∷ key.Heap ∷ key.Table ∷ key.State ∷ key.Record ∷ key.Claims ∷ key.Plan ∷ key.Unsynced ∷ key.Sync ∷ key.Check ∷ key.Salvage ∷ key.List ∷ key.Dump ∷ key.Help ∷ []

-- those that are
abbrev pub parts : List Keyword
parts =
    key.Poke ∷ key.Entry ∷ key.Reopen ∷ key.Write ∷ key.Claim ∷ key.Release ∷ key.Prune ∷ key.Read ∷ key.Through ∷ key.Rewrite ∷ key.Maintain ∷ key.Counts ∷ key.Load ∷ key.Store ∷ key.Cas
    ∷ key.Max ∷ key.Bytes ∷ []

-- what is none of one is one of the other
pub left-parts : (k : Keyword) → NoneOf whole k → Among parts k
left-parts key.Blank h = absurd (h.0 refl)
left-parts key.Bad h = absurd (h.1.0 refl)
left-parts key.Settings h = absurd (h.1.1.0 refl)
left-parts key.Heap h = absurd (h.1.1.1.0 refl)
left-parts key.Table h = absurd (h.1.1.1.1.0 refl)
left-parts key.Poke h = inl refl
left-parts key.Entry h = inr (inl refl)
left-parts key.State h = absurd (h.1.1.1.1.1.0 refl)
left-parts key.Record h = absurd (h.1.1.1.1.1.1.0 refl)
left-parts key.Claims h = absurd (h.1.1.1.1.1.1.1.0 refl)
left-parts key.Reopen h = inr (inr (inl refl))
left-parts key.Write h = inr (inr (inr (inl refl)))
left-parts key.Claim h = inr (inr (inr (inr (inl refl))))
left-parts key.Release h = inr (inr (inr (inr (inr (inl refl)))))
left-parts key.Prune h = inr (inr (inr (inr (inr (inr (inl refl))))))
left-parts key.Read h = inr (inr (inr (inr (inr (inr (inr (inl refl)))))))
left-parts key.Through h = inr (inr (inr (inr (inr (inr (inr (inr (inl refl))))))))
left-parts key.Plan h = absurd (h.1.1.1.1.1.1.1.1.0 refl)
left-parts key.Rewrite h = inr (inr (inr (inr (inr (inr (inr (inr (inr (inl refl)))))))))
left-parts key.Maintain h = inr (inr (inr (inr (inr (inr (inr (inr (inr (inr (inl refl))))))))))
left-parts key.Counts h = inr (inr (inr (inr (inr (inr (inr (inr (inr (inr (inr (inl refl)))))))))))
left-parts key.Unsynced h = absurd (h.1.1.1.1.1.1.1.1.1.0 refl)
left-parts key.Sync h = absurd (h.1.1.1.1.1.1.1.1.1.1.0 refl)
left-parts key.Check h = absurd (h.1.1.1.1.1.1.1.1.1.1.1.0 refl)
left-parts key.Salvage h = absurd (h.1.1.1.1.1.1.1.1.1.1.1.1.0 refl)
left-parts key.Load h = inr (inr (inr (inr (inr (inr (inr (inr (inr (inr (inr (inr (inl refl))))))))))))
left-parts key.Store h = inr (inr (inr (inr (inr (inr (inr (inr (inr (inr (inr (inr (inr (inl refl)))))))))))))
left-parts key.Cas h = inr (inr (inr (inr (inr (inr (inr (inr (inr (inr (inr (inr (inr (inr (inl refl))))))))))))))
left-parts key.Max h = inr (inr (inr (inr (inr (inr (inr (inr (inr (inr (inr (inr (inr (inr (inr (inl refl)))))))))))))))
left-parts key.List h = absurd (h.1.1.1.1.1.1.1.1.1.1.1.1.1.0 refl)
left-parts key.Dump h = absurd (h.1.1.1.1.1.1.1.1.1.1.1.1.1.1.0 refl)
left-parts key.Bytes h = inr (inr (inr (inr (inr (inr (inr (inr (inr (inr (inr (inr (inr (inr (inr (inr refl)))))))))))))))
left-parts key.Help h = absurd (h.1.1.1.1.1.1.1.1.1.1.1.1.1.1.1.0 refl)

pub left-whole : (k : Keyword) → NoneOf parts k → Among whole k
left-whole key.Blank h = inl refl
left-whole key.Bad h = inr (inl refl)
left-whole key.Settings h = inr (inr (inl refl))
left-whole key.Heap h = inr (inr (inr (inl refl)))
left-whole key.Table h = inr (inr (inr (inr (inl refl))))
left-whole key.Poke h = absurd (h.0 refl)
left-whole key.Entry h = absurd (h.1.0 refl)
left-whole key.State h = inr (inr (inr (inr (inr (inl refl)))))
left-whole key.Record h = inr (inr (inr (inr (inr (inr (inl refl))))))
left-whole key.Claims h = inr (inr (inr (inr (inr (inr (inr (inl refl)))))))
left-whole key.Reopen h = absurd (h.1.1.0 refl)
left-whole key.Write h = absurd (h.1.1.1.0 refl)
left-whole key.Claim h = absurd (h.1.1.1.1.0 refl)
left-whole key.Release h = absurd (h.1.1.1.1.1.0 refl)
left-whole key.Prune h = absurd (h.1.1.1.1.1.1.0 refl)
left-whole key.Read h = absurd (h.1.1.1.1.1.1.1.0 refl)
left-whole key.Through h = absurd (h.1.1.1.1.1.1.1.1.0 refl)
left-whole key.Plan h = inr (inr (inr (inr (inr (inr (inr (inr (inl refl))))))))
left-whole key.Rewrite h = absurd (h.1.1.1.1.1.1.1.1.1.0 refl)
left-whole key.Maintain h = absurd (h.1.1.1.1.1.1.1.1.1.1.0 refl)
left-whole key.Counts h = absurd (h.1.1.1.1.1.1.1.1.1.1.1.0 refl)
left-whole key.Unsynced h = inr (inr (inr (inr (inr (inr (inr (inr (inr (inl refl)))))))))
left-whole key.Sync h = inr (inr (inr (inr (inr (inr (inr (inr (inr (inr (inl refl))))))))))
left-whole key.Check h = inr (inr (inr (inr (inr (inr (inr (inr (inr (inr (inr (inl refl)))))))))))
left-whole key.Salvage h = inr (inr (inr (inr (inr (inr (inr (inr (inr (inr (inr (inr (inl refl))))))))))))
left-whole key.Load h = absurd (h.1.1.1.1.1.1.1.1.1.1.1.1.0 refl)
left-whole key.Store h = absurd (h.1.1.1.1.1.1.1.1.1.1.1.1.1.0 refl)
left-whole key.Cas h = absurd (h.1.1.1.1.1.1.1.1.1.1.1.1.1.1.0 refl)
left-whole key.Max h = absurd (h.1.1.1.1.1.1.1.1.1.1.1.1.1.1.1.0 refl)
left-whole key.List h = inr (inr (inr (inr (inr (inr (inr (inr (inr (inr (inr (inr (inr (inl refl)))))))))))))
left-whole key.Dump h = inr (inr (inr (inr (inr (inr (inr (inr (inr (inr (inr (inr (inr (inr (inl refl))))))))))))))
left-whole key.Bytes h = absurd (h.1.1.1.1.1.1.1.1.1.1.1.1.1.1.1.1.0 refl)
left-whole key.Help h = inr (inr (inr (inr (inr (inr (inr (inr (inr (inr (inr (inr (inr (inr (inr refl))))))))))))))

pub lent-rest : (n bytes : List ℕ) (d : Desk) (k : Keyword) → Among whole k → bad_line d ≡ lent_by k n bytes d
unfolding lent_by
lent-rest n bytes d = each (λ (k : Keyword). bad_line d ≡ lent_by k n bytes d) whole (refl, (refl, (refl, (refl, (refl, (refl, (refl, (refl, (refl, (refl, (refl, (refl, (refl, (refl, (refl, (refl, tt))))))))))))))))

pub done-rest : (n bytes : List ℕ) (d : Desk) (k : Keyword) → Among parts k → on_lent (lent_by k n bytes) d ≡ done_by k n bytes d
unfolding done_by
done-rest n bytes d = each (λ (k : Keyword). on_lent (lent_by k n bytes) d ≡ done_by k n bytes d) parts (refl, (refl, (refl, (refl, (refl, (refl, (refl, (refl, (refl, (refl, (refl, (refl, (refl, (refl, (refl, (refl, (refl, tt)))))))))))))))))

-- ---- the report
-- those that leave it
pub bench-report : (d : Desk) (report : List ℕ) (k : Keyword) → Among at_bench k → report ≡ report_by k d report
bench-report d report = each (λ (k : Keyword). report ≡ report_by k d report) at_bench (refl, (refl, (refl, (refl, (refl, (refl, (refl, (refl, (refl, (refl, (refl, (refl, tt))))))))))))

pub parts-report : (d : Desk) (report : List ℕ) (k : Keyword) → Among parts k → report ≡ report_by k d report
parts-report d report = each (λ (k : Keyword). report ≡ report_by k d report) parts (refl, (refl, (refl, (refl, (refl, (refl, (refl, (refl, (refl, (refl, (refl, (refl, (refl, (refl, (refl, (refl, (refl, tt)))))))))))))))))

-- ---- a plan's words
-- those that leave them
pub bench-words : (d : Desk) (words : List ℕ) (k : Keyword) → Among at_bench k → words ≡ words_by k d words
bench-words d words = each (λ (k : Keyword). words ≡ words_by k d words) at_bench (refl, (refl, (refl, (refl, (refl, (refl, (refl, (refl, (refl, (refl, (refl, (refl, tt))))))))))))

pub parts-words : (d : Desk) (words : List ℕ) (k : Keyword) → Among parts k → words ≡ words_by k d words
parts-words d words = each (λ (k : Keyword). words ≡ words_by k d words) parts (refl, (refl, (refl, (refl, (refl, (refl, (refl, (refl, (refl, (refl, (refl, (refl, (refl, (refl, (refl, (refl, (refl, tt)))))))))))))))))
