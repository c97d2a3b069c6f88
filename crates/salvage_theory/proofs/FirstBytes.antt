-- Request P9, "Only the first label byte of reported slots changes.": every byte of the heap that a salvage leaves.
use Rattle.std.specs.Prelude.{◌≡◌, refl, ◌<◌, ◌∷◌, ◌*◌}
use Rattle.std.proofs.Common.{sym, ◌∙◌, subst, inl, inr, arith}
use Rattle.std.proofs.Math.Path.{ap}
use Rattle.numbers.specs.LittleEndian.{Bytes}
use Rattle.rules.specs.Base.{Bool, true, false, List, [], map, ℕ, length, get_or}
use Rattle.rules.specs.FileMapLaws.{Among}
use Rattle.rules.proofs.SettingsLaws.{heap-whole, slot-within}
use Rattle.rules.specs.Settings.{slots_in}
use Rattle.rules.specs.SlotFile.{View, empty, views_in}
use Rattle.rules.proofs.PruneLaws.{emptying-these, emptying-others}
use Rattle.rules.specs.Condition1.{out_of_range}
use Rattle.rules.proofs.Condition1Laws.{in-limits}
use Rattle.rules.specs.Layout.{Table}
use Rattle.rules.specs.Stores.{made}
use Rattle.theory.specs.Types.{Settings}
use Rattle.theory.specs.Places.{view_at}
use Rattle.check_theory.specs.Lists.{In}
use Rattle.losses.specs.Salvage.{report_of, emptying_of, Salvaged, salvage_call}
use Rattle.salvage_theory.specs.Types.{Loss}
use Rattle.salvage_theory.proofs.Emptied.{other_byte, first_byte, bytes-stay}
use Rattle.salvage_theory.proofs.Cut.{salvage-limits, salvage-reports, salvage-length}
use Rattle.salvage_theory.proofs.Reported.{reported-low}

-- a line's slot is among the slots
line-slot : (report : List Loss) (x : Loss) → In report x → Among (map (λ (y : Loss). y.slot) report) x.slot
line-slot [] x i = absurd i
line-slot (y ∷ report) x (inl e) = inl (ap (λ (l : Loss). l.slot) e)
line-slot (y ∷ report) x (inr i) = inr (line-slot report x i)

-- and each of these is a line's
slot-line : (report : List Loss) (k : ℕ) → Among (map (λ (y : Loss). y.slot) report) k → (x : Loss) × In report x × (x.slot ≡ k)
slot-line [] k a = absurd a
slot-line (y ∷ report) k (inl e) = (y, inl refl, e)
slot-line (y ∷ report) k (inr a) = let w = slot-line report k a in (w.0, inr w.1, w.2)

module _ (s : Settings) (heap : List ℕ) (table : Table) (words : List ℕ) (range : out_of_range s (length heap) table ≡ false) where
  -- the heap after the stores
  left : (salvage_call s heap table words).heap ≡ made (emptying_of s (report_of s heap)) heap
  left = ap (λ (c : Salvaged). c.heap) (salvage-reports s heap table words range)

  -- request P9: "Only the first label byte of reported slots changes.": a byte that is no reported slot's first stays
  pub only-first-bytes : (i : ℕ) → ((x : Loss) → In (report_of s heap) x → i ≡ x.slot * s.slot_bytes → ⊥) → get_or (salvage_call s heap table words).heap i 0 ≡ get_or heap i 0
  unfolding emptying_of
  only-first-bytes i n =
      ap (λ (h : List ℕ). get_or h i 0) left
      ∙ other_byte s.slot_bytes (map (λ (x : Loss). x.slot) (report_of s heap)) heap i
      (λ k a e. let w = slot-line (report_of s heap) k a in n w.0 w.1 (e ∙ ap (λ (m : ℕ). m * s.slot_bytes) (sym w.2)))

  -- request P9: "emptied": that of a reported slot is 0
  pub first-bytes-zero : (x : Loss) → In (report_of s heap) x → get_or (salvage_call s heap table words).heap (x.slot * s.slot_bytes) 0 ≡ 0
  unfolding emptying_of
  first-bytes-zero x i =
      let l = in-limits s (length heap) table range in
      let low = slot-within s (length heap) x.slot l.heap (reported-low s heap x i) in
      let some = l.settings.slot-low in
      ap (λ (h : List ℕ). get_or h (x.slot * s.slot_bytes) 0) left
      ∙ first_byte s.slot_bytes (map (λ (y : Loss). y.slot) (report_of s heap)) heap x.slot (line-slot (report_of s heap) x i) (omega arith)

  -- the slots after it
  views-left : views_in (slots_in s (length (salvage_call s heap table words).heap)) s.slot_bytes (salvage_call s heap table words).heap
      ≡ views_in (slots_in s (length heap)) s.slot_bytes (made (emptying_of s (report_of s heap)) heap)
  views-left =
      ap (λ (n : ℕ). views_in (slots_in s n) s.slot_bytes (salvage_call s heap table words).heap) (salvage-length s heap table range words)
      ∙ ap (views_in (slots_in s (length heap)) s.slot_bytes) left

  low : (k : ℕ) → Among (map (λ (x : Loss). x.slot) (report_of s heap)) k → k < slots_in s (length heap)
  low k a = let w = slot-line (report_of s heap) k a in subst (λ (m : ℕ). m < slots_in s (length heap)) w.2 (reported-low s heap w.0 w.1)

  -- request P9: a reported slot is empty afterwards
  pub reported-empty : (x : Loss) → In (report_of s heap) x
      → view_at (views_in (slots_in s (length (salvage_call s heap table words).heap)) s.slot_bytes (salvage_call s heap table words).heap) x.slot ≡ empty
  unfolding emptying_of
  reported-empty x i =
      let l = in-limits s (length heap) table range in
      let some = l.settings.slot-low in
      let n = heap-whole s (length heap) l.heap in
      ap (λ (vs : List View). view_at vs x.slot) views-left
      ∙ emptying-these (slots_in s (length heap)) s.slot_bytes (omega arith) (map (λ (y : Loss). y.slot) (report_of s heap)) heap low (omega arith) x.slot
      (line-slot (report_of s heap) x i)

  -- request P9: every other slot shows what it showed
  pub others-stay : (k : ℕ) → ((x : Loss) → In (report_of s heap) x → x.slot ≡ k → ⊥)
      → view_at (views_in (slots_in s (length (salvage_call s heap table words).heap)) s.slot_bytes (salvage_call s heap table words).heap) k
      ≡ view_at (views_in (slots_in s (length heap)) s.slot_bytes heap) k
  unfolding emptying_of
  others-stay k none =
      let l = in-limits s (length heap) table range in
      let some = l.settings.slot-low in
      let n = heap-whole s (length heap) l.heap in
      ap (λ (vs : List View). view_at vs k) views-left
      ∙ emptying-others (slots_in s (length heap)) s.slot_bytes (omega arith) (map (λ (y : Loss). y.slot) (report_of s heap)) heap low (omega arith) k
      (λ a. let w = slot-line (report_of s heap) k a in none w.0 w.1 w.2)

-- LAW: a heap of bytes stays one, salvage refused or not
pub salvage-bytes : (s : Settings) (heap : List ℕ) (table : Table) (words : List ℕ) → Bytes heap → Bytes (salvage_call s heap table words).heap
unfolding emptying_of
salvage-bytes s heap table words b = go (out_of_range s (length heap) table) refl
  where
    go : (t : Bool) → out_of_range s (length heap) table ≡ t → Bytes (salvage_call s heap table words).heap
    go true e = subst Bytes (sym (ap (λ (c : Salvaged). c.heap) (salvage-limits s heap table words e))) b
    go false e =
        subst Bytes (sym (left s heap table words e)) (bytes-stay s.slot_bytes (map (λ (x : Loss). x.slot) (report_of s heap)) heap b)
