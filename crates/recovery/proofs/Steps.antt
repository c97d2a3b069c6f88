-- The steps of a reopening on the definitions.
use Rattle.std.specs.Prelude.{◌≡◌, ◌∷◌, ◌++◌, ◌*◌, ◌/◌, ◌%◌, Err, Ok}
use Rattle.std.proofs.Math.Path.{refl, sym, ap, ap₂}
use Rattle.std.proofs.Common.{◌∙◌, append_assoc, zero-le, arith, le-ltb, lt-ltb, leb-true, leb-false}
use Rattle.std.proofs.Math.Nat.{sub-zero}
use Rattle.std.proofs.lemmas.List.{length-replicate}
use Rattle.rules.specs.Base.{true, false, List, [], ℕ, zero, suc, length, replicate, leb, ltb, any, each, padded}
use Rattle.rules.specs.Refusal.{Test, ◌gives◌, NoneHolds, decide, after}
use Rattle.rules.proofs.RefusalLaws.{clear-when, none_rest, decide-early, decide-late, decide-first, decide-next, decide-none, after-refused, after-done}
use Rattle.rules.specs.Claims.{no_claims}
use Rattle.rules.specs.Condition1.{out_of_range}
use Rattle.rules.specs.Layout.{Table, alternating, capacity_of, used_entries, laid_out, cleared}
use Rattle.rules.specs.SlotFile.{View, views_in}
use Rattle.rules.specs.Reopen.{view_tests, files_in, overlapping, latest_from, table_of, reopen_tests, records_from, next_after, given_up, opened, reopen_call}
use Rattle.rules.specs.World.{World, world, After}
use Rattle.file_map.specs.Records.{state_by}
use Rattle.location_table.specs.Tables.{Formed}
use Rattle.rules.specs.TableLaws.{rise-end}
use Rattle.rules.proofs.LayoutLaws.{used-laid-out}
use Rattle.location_table.specs.LayoutLaws.{laid-out-formed}
use Rattle.reopen_tests.specs.Ascending.{file_falls}
use Rattle.reopen_tests.specs.Labels.{overlaps}
use Rattle.reopen_tests.specs.Overlaps.{overlapping-labels}
use Rattle.reopen_tests.specs.Shown.{Surveyed, sound-views}
use Rattle.reopen_tests.specs.Tests.{file_tests}
use Rattle.rebuild.specs.Filled.{rows_of}
use Rattle.recovery.specs.declared.Reopened.{Reopened}
use Rattle.recovery.specs.Types.{Settings, Label, Record, Entry, State, Claims, Refusal, Limits, TableRoom, Overlap, NotRising, Answer}
use Rattle.recovery.specs.Reopening.{handed_back, leaves, bare, Blank, past_slots, past_limits, past_tests}

-- ---- 1
module _ (settings : Settings) (state : State) (claims : Claims) (heap : List ℕ) (table : Table) where
  -- "1 hands everything back": nothing changes
  pub at-limits : out_of_range settings (length heap) table ≡ true
      → leaves settings (record { answer = Err Limits; state = state; claims = claims }) heap table ≡ reopen_call (world settings state claims heap table)
  unfolding reopen_call
  at-limits e =
      sym (after-refused (decide (out_of_range settings (length heap) table gives Limits ∷ [])) Limits _ _
      (decide-first (out_of_range settings (length heap) table) Limits [] e))

  -- past it the old state and claims count no more
  pub past-limits : out_of_range settings (length heap) table ≡ false
      → past_limits (bare settings heap table) ≡ reopen_call (world settings state claims heap table)
  unfolding reopen_call reopen_tests given_up opened
  past-limits e =
      sym (after-done (decide (out_of_range settings (length heap) table gives Limits ∷ [])) _ _
      (decide-next (out_of_range settings (length heap) table) Limits [] e ∙ decide-none))

-- ---- 8 to 15, then 6
module _ (w : World) (views : List View) where
  abbrev room : List Test
  room = ltb (capacity_of w.table) (length (table_of (files_in views))) gives TableRoom ∷ []

  tests-are : reopen_tests w views ≡ file_tests views ++ room
  unfolding reopen_tests file_tests
  tests-are = sym (append_assoc (each view_tests views) (overlapping (files_in views) gives Overlap ∷ any file_falls (files_in views) gives NotRising ∷ []) room)

  pub tests-refuse : (r : Refusal) → decide (file_tests views) ≡ Err r → past_slots w views ≡ given_up w r
  tests-refuse r e = after-refused (decide (reopen_tests w views)) r _ _ (ap decide tests-are ∙ decide-early (file_tests views) room r e)

  pub tests-clear : decide (file_tests views) ≡ Ok tt → past_slots w views ≡ past_tests w views
  tests-clear e = ap (λ (a : Answer). after a (given_up w) (opened w views)) (ap decide tests-are ∙ decide-late (file_tests views) room e)

-- 14 is clear
pub tests-apart : (n size : ℕ) (heap : List ℕ) (ls : List Label) → Surveyed n size heap ls → decide (file_tests (views_in n size heap)) ≡ Ok tt → overlaps ls ≡ false
unfolding file_tests NoneHolds
tests-apart n size heap ls w e =
    let views = views_in n size heap in
    ap overlaps w.labels
    ∙ sym (overlapping-labels size views (sound-views n size heap ls w))
    ∙ (none_rest (each view_tests views) _ (clear-when (file_tests views) e)).0

-- ---- a cleared table
zeros-in-turn : (n : ℕ) → alternating (replicate n 0) (replicate n 0) ≡ replicate (2 * n) 0
unfolding alternating
zeros-in-turn zero = refl
zeros-in-turn (suc n) =
    let q : 2 * suc n ≡ suc (suc (2 * n)) = omega arith in
    ap (λ (ws : List ℕ). 0 ∷ 0 ∷ ws) (zeros-in-turn n) ∙ sym (ap (λ (m : ℕ). replicate m 0) q)

-- no entries laid out are zeros
none-laid-out : (n : ℕ) → laid_out n [] ≡ replicate (2 * n) 0
unfolding laid_out padded
none-laid-out n = rw (sub-zero n) (zeros-in-turn n)

module _ (b : Table) where
  pub cleared-blank : length b % 2 ≡ 0 → (c : Table) → c ≡ cleared b → Blank c
  cleared-blank e c q = record {
    even = ap (λ (n : ℕ). n % 2) (ap length q ∙ length-replicate (length b) 0) ∙ e;
    zero = q ∙ sym (ap cleared q ∙ ap (λ (n : ℕ). replicate n 0) (length-replicate (length b) 0));
  }

  blank-laid-out : Blank b → b ≡ laid_out (capacity_of b) []
  blank-laid-out w =
      let q : length b ≡ 2 * capacity_of b = omega (arith, w.even) in
      w.zero ∙ ap (λ (n : ℕ). replicate n 0) q ∙ sym (none-laid-out (capacity_of b))

  pub blank-formed : Blank b → Formed b
  blank-formed w = rw (blank-laid-out w) (laid-out-formed (capacity_of b) [] (λ x l h. absurd h) rise-end zero-le)

  pub blank-used : Blank b → used_entries b ≡ []
  blank-used w = ap used_entries (blank-laid-out w) ∙ used-laid-out (capacity_of b) [] (λ x l h. absurd h)

-- only the length of the buffer counted
module _ (settings : Settings) (heap : List ℕ) (table : Table) (views : List View) where
  abbrev blanked : World
  blanked = bare settings heap (cleared table)

  given-same : (r : Refusal) → given_up blanked r ≡ given_up (bare settings heap table) r
  unfolding given_up
  given-same r = rw (length-replicate {A = ℕ} (length table) 0) refl

  opened-same : opened blanked views ≡ opened (bare settings heap table) views
  unfolding opened
  opened-same = rw (length-replicate {A = ℕ} (length table) 0) refl

  pub blank-same : (c : Table) → c ≡ cleared table → past_slots (bare settings heap c) views ≡ past_slots (bare settings heap table) views
  blank-same c q =
      let w = bare settings heap table in
      let last : ℕ → Answer = λ (n : ℕ). decide (file_tests views ++ (ltb (n / 2) (length (table_of (files_in views))) gives TableRoom ∷ [])) in
      ap (λ (t : Table). past_slots (bare settings heap t) views) q
      ∙ ap (λ (a : Answer). after a (given_up blanked) (opened blanked views)) (ap decide (tests-are blanked views))
      ∙ ap (λ (n : ℕ). after (last n) (given_up blanked) (opened blanked views)) (length-replicate {A = ℕ} (length table) 0)
      ∙ ap₂ (λ (f : Refusal → After) (o : After). after (last (length table)) f o) (λ i r. given-same r i) opened-same
      ∙ sym (ap (λ (a : Answer). after a (given_up w) (opened w views)) (ap decide (tests-are w views)))

-- ---- what is handed back
module _ (settings : Settings) (heap : List ℕ) (table left : Table) where
  -- refused: the buffer is zeros
  pub gives_up : (x : Reopened) (m : ℕ) (r : Refusal) → x ≡ handed_back settings (length heap) m r → m ≡ capacity_of table → left ≡ cleared table
      → leaves settings x heap left ≡ given_up (bare settings heap table) r
  unfolding given_up
  gives_up x m r e k t =
      ap (λ (y : Reopened). leaves settings y heap left) (e ∙ ap (λ (l : ℕ). handed_back settings (length heap) l r) k)
      ∙ ap (λ (u : Table). leaves settings (handed_back settings (length heap) (capacity_of table) r) heap u) t

  module _ (views : List View) where
    -- 6 refuses
    pub past-full : leb (length (table_of (files_in views))) (capacity_of table) ≡ false → past_tests (bare settings heap table) views ≡ given_up (bare settings heap table) TableRoom
    past-full e =
        after-refused (decide (ltb (capacity_of table) (length (table_of (files_in views))) gives TableRoom ∷ [])) TableRoom _ _
        (decide-first (ltb (capacity_of table) (length (table_of (files_in views)))) TableRoom [] (lt-ltb (capacity_of table) (length (table_of (files_in views))) (leb-false _ _ e)))

    -- accepted: records, next position and table are the definition's
    pub past_room : leb (length (table_of (files_in views))) (capacity_of table) ≡ true → (m : ℕ) (state : State) (claims : Claims) (records : List Record) (next : ℕ)
        → state ≡ state_by settings (length heap) m records next → m ≡ capacity_of table → claims ≡ no_claims
        → records ≡ records_from (table_of (files_in views)) views → next ≡ next_after (files_in views) → left ≡ laid_out (capacity_of table) (table_of (files_in views))
        → leaves settings (record { answer = Ok tt; state = state; claims = claims }) heap left ≡ past_tests (bare settings heap table) views
    unfolding opened
    past_room e m state claims records next s k d p q t =
        let leave : State → Claims → Table → After = λ (y : State) (z : Claims) (u : Table). leaves settings (record { answer = Ok tt; state = y; claims = z }) heap u in
        let whole = s ∙ ap (λ (l : ℕ). state_by settings (length heap) l records next) k ∙ ap₂ (state_by settings (length heap) (capacity_of table)) p q in
        ap₂ (λ (y : State) (z : Claims). leave y z left) whole d
        ∙ ap (leave (state_by settings (length heap) (capacity_of table) (records_from (table_of (files_in views)) views) (next_after (files_in views))) no_claims) t
        ∙ sym (after-done (decide (ltb (capacity_of table) (length (table_of (files_in views))) gives TableRoom ∷ [])) _ _
        (decide-next (ltb (capacity_of table) (length (table_of (files_in views)))) TableRoom [] (le-ltb (capacity_of table) (length (table_of (files_in views))) (leb-true _ _ e)) ∙ decide-none))

-- the table of a fill that began with none
pub filled-table : (b : Table) (views : List View) → used_entries b ≡ [] → latest_from (used_entries b) (each rows_of (files_in views)) ≡ table_of (files_in views)
unfolding table_of
filled-table b views e = ap (λ (es : List Entry). latest_from es (each rows_of (files_in views))) e
