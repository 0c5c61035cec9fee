-- A thread that is taken to the end of its exit at once.
use Rattle.std.proofs.Common.{◌≡◌, ◌<◌, ℕ, suc, List, [], ◌∷◌, Some, None, true, false}
use Rattle.std.proofs.Common.{inr, sym, subst, arith, length}
use Rattle.std.specs.Prelude.{slice_index, slice_set}
use Rattle.std.proofs.lemmas.List.{length-set}
use Rattle.words.specs.Process.{process_word}
use Rattle.words.proofs.Updates.{put_again, put_same}
use Rattle.isa.specs.Programs.{Program}
use Rattle.robustexit.specs.declared.phase.ExitPhase.TheVariants.{Ended, Pending}
use Rattle.locals.specs.Threads.{Exits}
use Rattle.machine.specs.States.{State, with_thread}
use Rattle.proof_image_search.specs.Searching.{IsCovered, LeavesAlone, after_exit}
use Rattle.image_states.specs.declared.next.Next.{Next as NextOf}
use Rattle.image_states.specs.declared.packed.Packed.{Packed as PackedOf}
use Rattle.image_states.specs.declared.parts.Parts.{Parts as PartsOf}
use Rattle.image_states.specs.Choosing.{AreSleepers}
use Rattle.image_states.specs.Nexts.{shaped, Reaches, ReachesAt}
use Rattle.image_states.specs.Packed.{asleep_at, unpacked}
use Rattle.image_states.proofs.Served.{set_put}

-- what covers the state behind the rest of a thread's exit covers that before it
pub left_reaches : (p : Program) (parts : PartsOf) (x : PackedOf) (nexts : List NextOf) (t : ℕ) (words : List ℕ) → 0 < t
    → parts.alone ≡ true → asleep_at x.places.items t ≡ None → slice_index words (process_word t 1) ≡ 0
    → ((u : ℕ) → asleep_at x.places.items u ≡ Some (process_word t 2) → ⊥) → process_word t 2 < length words
    → ReachesAt p parts x nexts t (slice_set words (process_word t 2) 0) (asleep_at x.places.items) (Exits Ended)
    → ReachesAt p parts x nexts t words (asleep_at x.places.items) (Exits Pending)
left_reaches p parts x nexts t words some alone awake none nobody less h output = record {
  next = r.next;
  found = r.found;
  within = r.within;
  covers = λ kept has.
      let c = r.covers kept has in (
        suc c.0,
        inr (inr (t, alone, leaves, subst (λ z. IsCovered p parts.alone kept c.0 z x.killed) (sym same) c.1)),
      );
}
  where
    before : State
    before = shaped (unpacked p parts x) words (asleep_at x.places.items) output

    after : State
    after = with_thread (shaped (unpacked p parts x) (slice_set words (process_word t 2) 0) (asleep_at x.places.items)
        output) t (Exits Ended)

    r : Reaches p parts nexts after x.killed
    r = h output

    leaves : LeavesAlone (with_thread before t (Exits Pending)) t
    leaves = record {
      some = some;
      stands = put_same before.thread t (Some (Exits Pending));
      awake = awake;
      none = none;
      nobody = nobody;
    }

    same : after_exit (with_thread before t (Exits Pending)) t ≡ after
    same = λ i. record after {
      thread = λ u. put_again before.thread t (Some (Exits Pending)) (Some (Exits Ended)) u i;
      word = λ a. sym (set_put words (process_word t 2) 0 a less) i;
      size = sym (length-set words (process_word t 2) 0) i;
    }

-- a list without sleepers
pub nobody_on : (places sleepers : List ℕ) (a : ℕ) → AreSleepers places (suc a) sleepers → length sleepers ≡ 0 → (u : ℕ)
    → asleep_at places u ≡ Some a → ⊥
nobody_on places [] a are none u slept = let no' : false ≡ true = are.all u slept in cc
nobody_on places (t ∷ sleepers) a are none u slept = absurd (omega (arith, none))
