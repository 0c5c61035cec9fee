-- The template of a JOIN, wherever it stands: the requests while it waits, and where it leads between them.
use Rattle.std.proofs.Common.{◌≡◌, ◌≢◌, ℕ, zero, suc, ◌+◌, ◌<◌, ◌≤◌, List, [], ◌∷◌, Option, Some, slice_get, refl, ap}
use Rattle.std.proofs.Common.{◌∙◌, subst, arith, le-leb}
use Rattle.std.specs.Prelude.{◌&&◌, nat_le}
use Rattle.std.proofs.lemmas.Bool.{ne_eqb}
use Rattle.words.specs.declared.process.ProcessWord.{ProcessWord}
use Rattle.words.specs.declared.process.ProcessWord.TheVariants.{Id, Claim, Result, Outcome}
use Rattle.words.specs.declared.outcome.Fault.TheVariants.{HandleNotJoinable}
use Rattle.words.specs.Process.{process_word, number_of}
use Rattle.words.specs.Versions.{most_of}
use Rattle.words.specs.declared.outcome.Cause.TheVariants.{Faulted}
use Rattle.isa.specs.declared.instr.Instr.{Instr}
use Rattle.isa.specs.declared.instr.Instr.TheVariants.{ProcessAddress}
use Rattle.proof_thread.specs.Deferrals.{MarkedImage, IsAt, deferred_by_mark}
use Rattle.lowering.specs.declared.mark.Marked.{Marked}
use Rattle.lowering.specs.Marks.{plain, rebase_all}
use Rattle.lowering.specs.Processes.{join_code}
use Rattle.locals.specs.declared.frame.Locals.{Locals}
use Rattle.locals.specs.declared.frame.Frame.{Frame as MachineFrame}
use Rattle.locals.specs.Threads.{Thread, Runs, Dies}
use Rattle.locals.specs.Looks.{Goes, at_place, effect, if_so, truth}
use Rattle.proof_thread.specs.Walks.{View, StandAt, WalksWithin, stays}
use Rattle.proof_thread.proofs.Walking.{within_on, wider, one_step, look_here}

-- what stands in a list stands in the code
pub stand_index : (p : MarkedImage) (place : ℕ) (xs : List Marked) (n k : ℕ) (i : Marked) → StandAt p place xs
    → slice_get xs n ≡ Some i
    → k ≡ place + n → IsAt p k i
stand_index p place [] n k i h e same = absurd cc
stand_index p place (x ∷ xs) zero k i h e same =
    let here : x ≡ i = cc in
    let at : place ≡ k = omega (arith, same) in
    subst (λ j. IsAt p j i) at (subst (λ (y : Marked). IsAt p place y) here h.0)
stand_index p place (x ∷ xs) (suc n) k i h e same = stand_index p (place + 1) xs n k i h.1 e (omega (arith, same))

-- the address of a word of a process that there can be
address_step : (most t place h : ℕ) (word : ProcessWord) (rest : List ℕ) (l : Locals) (fs : List MachineFrame) → 0 < h
    → h ≤ most
    → at_place place l fs (effect most t (ProcessAddress word) (h ∷ rest) l)
    ≡ Goes (Runs (place + 1) (process_word h (number_of word) ∷ rest) l fs)
address_step most t place h word rest l fs some few =
    ap (λ k. if_so (k && nat_le h most) (Goes (Runs (place + 1) (process_word h (number_of word) ∷ rest) l fs)))
    (le-leb 1 h (omega (arith, some)))
    ∙ ap (λ k. if_so k (Goes (Runs (place + 1) (process_word h (number_of word) ∷ rest) l fs))) (le-leb h most few)

module _ (p : MarkedImage) (t : ℕ) (view : View) (base : ℕ) (into : Option ℕ)
    (code : StandAt p base (rebase_all base (join_code into))) (l : Locals) (fs : List MachineFrame) where
  abbrev pub at : ℕ → List ℕ → Thread
  at n operands = Runs (base + n) operands l fs

  -- one step of the template
  pub step : (n m place : ℕ) (i : Instr) (operands operands' : List ℕ)
      → slice_get (rebase_all base (join_code into)) n ≡ Some (plain i)
      → at_place (base + n) l fs (effect (most_of p.image.version) t i operands l) ≡ Goes (Runs place operands' l fs)
      → place ≡ base + m → WalksWithin p t view 1 (Runs (base + n) operands l fs) (Runs (base + m) operands' l
      fs)
  step n m place i operands operands' e h same =
      let here = stand_index p base (rebase_all base (join_code into)) n (base + n) (plain i) code e refl in
      one_step p t view _ _ (look_here p t view (base + n) i operands l fs here
      ∙ h ∙ ap (λ k. Goes (Runs k operands' l fs)) same) (ap deferred_by_mark here.1)

  pub next : (n : ℕ) (x y z : Thread) → WalksWithin p t view 1 x y → WalksWithin p t view n y z
      → WalksWithin p t view (suc n) x z
  next n x y z v w = wider p t view (1 + n) (suc n) x z (omega arith) (within_on p t view 1 n x y z v w)

  pub stay : (x : Thread) → WalksWithin p t view 0 x x
  stay x = record { count = 0; few = omega arith; walk = stays }

  module _ (some : 0 < l.scratch) (few : l.scratch ≤ most_of p.image.version) where
    abbrev pub reads : Thread
    reads = at 11 (process_word l.scratch 2 ∷ [])

    abbrev pub sleeps : Thread
    sleeps = at 16 (l.scratch ∷ process_word l.scratch 2 ∷ [])

    abbrev pub learns : Thread
    learns = at 21 (process_word l.scratch 5 ∷ [])

    abbrev pub takes : Thread
    takes = at 27 (process_word l.scratch 4 ∷ [])

    abbrev pub claims : Thread
    claims = at 6 (1 ∷ process_word l.scratch 3 ∷ [])

    address : (n m : ℕ) (i : Instr) (word : ProcessWord) (rest : List ℕ)
        → slice_get (rebase_all base (join_code into)) n ≡ Some (plain i) → i ≡ ProcessAddress word
        → base + n + 1 ≡ base + m
        → WalksWithin p t view 1 (at n (l.scratch ∷ rest)) (at m (process_word l.scratch (number_of word) ∷
        rest))
    address n m i word rest e is same = step n m (base + n + 1) i (l.scratch ∷ rest) _ e
        (ap (λ (k : Instr). at_place (base + n) l fs (effect (most_of p.image.version) t k (l.scratch ∷ rest) l)) is
        ∙ address_step (most_of p.image.version) t (base + n) l.scratch word rest l fs some few) same

    to_read : WalksWithin p t view 2 (at 9 []) reads
    to_read = next 1 _ _ _ (step 9 10 _ _ [] (l.scratch ∷ []) refl refl (omega arith))
        (address 10 11 _ Id [] refl refl (omega arith))

    pub to_claim : WalksWithin p t view 3 (at 3 []) claims
    to_claim = next 2 _ _ _ (step 3 4 _ _ [] (l.scratch ∷ []) refl refl (omega arith))
        (next 1 _ _ _ (address 4 5 _ Claim [] refl refl (omega arith))
        (step 5 6 _ _ (process_word l.scratch 3 ∷ []) _ refl refl (omega arith)))

    pub claimed : WalksWithin p t view 3 (at 7 (0 ∷ [])) reads
    claimed = next 2 _ _ _ (step 7 9 _ _ (0 ∷ []) [] refl refl refl) to_read

    pub refused : (n : ℕ) → WalksWithin p t view 2 (at 7 (suc n ∷ [])) (Dies (Faulted HandleNotJoinable))
    refused n = next 1 _ _ _ (step 7 8 _ _ (suc n ∷ []) [] refl refl (omega arith))
        (let here = stand_index p base (rebase_all base (join_code into)) 8 (base + 8) _ code refl refl in
        one_step p t view _ _ (look_here p t view (base + 8) _ [] l fs here) (ap deferred_by_mark here.1))

    pub gone : WalksWithin p t view 3 (at 12 (0 ∷ [])) learns
    gone = next 2 _ _ _ (step 12 19 _ _ (0 ∷ []) [] refl refl refl)
        (next 1 _ _ _ (step 19 20 _ _ [] (l.scratch ∷ []) refl refl (omega arith))
        (address 20 21 _ Outcome [] refl refl (omega arith)))

    pub there : (n : ℕ) → WalksWithin p t view 4 (at 12 (suc n ∷ [])) sleeps
    there n = next 3 _ _ _ (step 12 13 _ _ (suc n ∷ []) [] refl refl (omega arith))
        (next 2 _ _ _ (step 13 14 _ _ [] (l.scratch ∷ []) refl refl (omega arith))
        (next 1 _ _ _ (address 14 15 _ Id [] refl refl (omega arith))
        (step 15 16 _ _ (process_word l.scratch 2 ∷ []) _ refl refl (omega arith))))

    pub again : (n : ℕ) → WalksWithin p t view 4 (at 17 (n ∷ [])) reads
    again n = next 3 _ _ _ (step 17 18 _ _ (n ∷ []) [] refl refl (omega arith))
        (next 2 _ _ _ (step 18 9 _ _ [] [] refl refl refl) to_read)

    pub ended : WalksWithin p t view 5 (at 22 (16 ∷ [])) takes
    ended = next 4 _ _ _ (step 22 23 _ _ (16 ∷ []) (16 ∷ 16 ∷ []) refl refl (omega arith))
        (next 3 _ _ _ (step 23 24 _ _ (16 ∷ 16 ∷ []) (1 ∷ []) refl refl (omega arith))
        (next 2 _ _ _ (step 24 25 _ _ (1 ∷ []) [] refl refl (omega arith))
        (next 1 _ _ _ (step 25 26 _ _ [] (l.scratch ∷ []) refl refl (omega arith))
        (address 26 27 _ Result [] refl refl (omega arith)))))

    pub aborted : (n : ℕ) → n ≢ 16 → WalksWithin p t view 3 (at 22 (n ∷ [])) (at 30 [])
    aborted n ne = next 2 _ _ _ (step 22 23 _ _ (n ∷ []) (16 ∷ n ∷ []) refl refl (omega arith))
        (next 1 _ _ _ (step 23 24 (base + 23 + 1) _ (16 ∷ n ∷ []) (0 ∷ []) refl
        (ap (λ k. Goes (Runs (base + 23 + 1) (truth k ∷ []) l fs)) (ne_eqb n 16 ne)) (omega arith))
        (step 24 30 _ _ (0 ∷ []) [] refl refl refl))
