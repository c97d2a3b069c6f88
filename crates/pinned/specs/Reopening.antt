-- "Reopen": the next position, what is left where it is refused, and that 1 changes nothing.
use Rattle.std.specs.Prelude.{◌≡◌, refl, ◌⊎◌, ◌≤◌, ◌∷◌, ◌++◌, ◌+◌, Err, Ok}
use Rattle.std.proofs.Common.{ap, inl, inr, arith, leb-true, leb-false}
use Rattle.disk_location.specs.Locations.{masked_of}
use Rattle.rules.specs.Base.{Bool, true, false, List, [], ℕ, length, replicate, leb, pick, greatest}
use Rattle.rules.specs.BaseLaws.{All}
use Rattle.rules.proofs.BaseLaws.{all_map}
use Rattle.theory.specs.Types.{Refusal, Answer, Limits}
use Rattle.rules.specs.Refusal.{decide, after}
use Rattle.rules.proofs.RefusalLaws.{decide-none, decide-first, decide-next}
use Rattle.rules.specs.SlotFile.{File, View, views_in}
use Rattle.rules.specs.FileMap.{empty_record, no_files}
use Rattle.rules.specs.Claims.{no_claims}
use Rattle.rules.specs.Condition1.{out_of_range}
use Rattle.rules.specs.Reopen.{files_in, reopen_tests, next_after, given_up, opened, reopen_call}
use Rattle.rules.specs.World.{World, slots_of, refused, accepted, unchanged}
-- "Each id maps to its entry of greatest masked position"
pub use Rattle.theory.proofs.Newest.{newest-latest}

-- the greatest that some file has
pub record Greatest (f : File → ℕ) (files : List File) (n : ℕ) : Type 0 where
  pub most : All (λ (g : File). f g ≤ n) files
  pub before : List File
  pub file : File
  pub behind : List File
  pub among : files ≡ before ++ (file ∷ behind)
  pub is : f file ≡ n

greatest-is : (f : File → ℕ) (g : File) (gs : List File) → Greatest f (g ∷ gs) (greatest f (g ∷ gs))
unfolding greatest
greatest-is f g [] = go (leb (f g) 0) refl
  where
    go : (b : Bool) → leb (f g) 0 ≡ b → Greatest f (g ∷ []) (pick b 0 (f g))
    go true e = let z = leb-true (f g) 0 e in record { most = (omega arith, tt); before = []; file = g; behind = []; among = refl; is = omega arith }
    go false e = record { most = (omega arith, tt); before = []; file = g; behind = []; among = refl; is = refl }
greatest-is f g (h ∷ hs) = go (leb (f g) (greatest f (h ∷ hs))) refl (greatest-is f h hs)
  where
    go : (b : Bool) → leb (f g) (greatest f (h ∷ hs)) ≡ b → Greatest f (h ∷ hs) (greatest f (h ∷ hs)) → Greatest f (g ∷ h ∷ hs) (pick b (greatest f (h ∷ hs)) (f g))
    go true e w = record {
      most = (leb-true (f g) (greatest f (h ∷ hs)) e, w.most);
      before = g ∷ w.before;
      file = w.file;
      behind = w.behind;
      among = ap (λ (xs : List File). g ∷ xs) w.among;
      is = w.is;
    }
    go false e w =
        let l = leb-false (f g) (greatest f (h ∷ hs)) e in
        record {
          most = (omega arith, all_map (λ (x : File). f x ≤ greatest f (h ∷ hs)) (λ (x : File). f x ≤ f g) (h ∷ hs) (λ x p. omega arith) w.most);
          before = [];
          file = g;
          behind = h ∷ hs;
          among = refl;
          is = refl;
        }

-- "greatest masked lsn + greatest file_size + 1", each of its own file
pub record NextPosition (files : List File) (next : ℕ) : Type 0 where
  pub lsn : ℕ
  pub size : ℕ
  pub greatest-lsn : Greatest (λ (f : File). masked_of f.label.lsn) files lsn
  pub greatest-size : Greatest (λ (f : File). f.label.file_size) files size
  pub is : next ≡ lsn + size + 1

-- LAW: of one file or more
pub next-position : (f : File) (fs : List File) → NextPosition (f ∷ fs) (next_after (f ∷ fs))
unfolding next_after
next-position f fs = record {
  lsn = greatest (λ (g : File). masked_of g.label.lsn) (f ∷ fs);
  size = greatest (λ (g : File). g.label.file_size) (f ∷ fs);
  greatest-lsn = greatest-is (λ (g : File). masked_of g.label.lsn) f fs;
  greatest-size = greatest-is (λ (g : File). g.label.file_size) f fs;
  is = omega arith;
}

-- LAW: "or 1 for no files"
pub next-none : next_after [] ≡ 1
unfolding next_after greatest
next-none = refl

-- the views of the slots
abbrev pub viewed : World → List View
viewed w = views_in (slots_of w) w.settings.slot_bytes w.heap

-- an accepted reopening: the next position of the files seen; the heap is only read
pub record Opens (w : World) : Type 0 where
  pub next : (reopen_call w).world.state.next_position ≡ next_after (files_in (viewed w))
  pub heap : (reopen_call w).world.heap ≡ w.heap
  pub settings : (reopen_call w).world.state.settings ≡ w.settings

-- "a reopening refused with any number but 1 zeroes the one buffer and hands back an empty file map, no claims and next position 1"
pub record GivenUp (w : World) (r : Refusal) : Type 0 where
  pub answer : (reopen_call w).answer ≡ refused r
  pub next : (reopen_call w).world.state.next_position ≡ 1
  pub files : (reopen_call w).world.state.files.records ≡ replicate 256 empty_record
  pub table : (reopen_call w).world.table ≡ replicate (length w.table) 0
  pub claims : (reopen_call w).world.claims ≡ no_claims
  pub heap : (reopen_call w).world.heap ≡ w.heap
  pub settings : (reopen_call w).world.state.settings ≡ w.settings

-- LAW: 1 changes nothing
pub reopen-limits : (w : World) → out_of_range w.settings (length w.heap) w.table ≡ true → reopen_call w ≡ unchanged w Limits
unfolding reopen_call
reopen-limits w f = rw (decide-first (out_of_range w.settings (length w.heap) w.table) Limits [] f)

reopen-in-range : (w : World) → out_of_range w.settings (length w.heap) w.table ≡ false → reopen_call w ≡ after (decide (reopen_tests w (viewed w))) (given_up w) (opened w (viewed w))
unfolding reopen_call
reopen-in-range w f = rw (decide-next (out_of_range w.settings (length w.heap) w.table) Limits [] f, decide-none)

opens : (w : World) → out_of_range w.settings (length w.heap) w.table ≡ false → decide (reopen_tests w (viewed w)) ≡ Ok tt → ((reopen_call w).answer ≡ accepted []) × Opens w
unfolding opened
opens w f e = rw (reopen-in-range w f, e) (refl, record { next = rw (reopen-in-range w f, e); heap = rw (reopen-in-range w f, e); settings = rw (reopen-in-range w f, e) })

gives_up : (w : World) (r : Refusal) → out_of_range w.settings (length w.heap) w.table ≡ false → decide (reopen_tests w (viewed w)) ≡ Err r → GivenUp w r
unfolding given_up no_files
gives_up w r f e = record {
  answer = rw (reopen-in-range w f, e);
  next = rw (reopen-in-range w f, e);
  files = rw (reopen-in-range w f, e);
  table = rw (reopen-in-range w f, e);
  claims = rw (reopen-in-range w f, e);
  heap = rw (reopen-in-range w f, e);
  settings = rw (reopen-in-range w f, e);
}

-- LAW: with settings and lengths in the ranges it opens, or is given up with what its tests decide
pub reopen-either : (w : World) → out_of_range w.settings (length w.heap) w.table ≡ false
    → (((reopen_call w).answer ≡ accepted []) × Opens w) ⊎ ((r : Refusal) × (decide (reopen_tests w (viewed w)) ≡ Err r) × GivenUp w r)
reopen-either w f = go (decide (reopen_tests w (viewed w))) refl
  where
    go : (a : Answer) → decide (reopen_tests w (viewed w)) ≡ a
        → (((reopen_call w).answer ≡ accepted []) × Opens w) ⊎ ((r : Refusal) × (decide (reopen_tests w (viewed w)) ≡ Err r) × GivenUp w r)
    go (Ok _) e = inl (opens w f e)
    go (Err r) e = inr (r, e, gives_up w r f e)
