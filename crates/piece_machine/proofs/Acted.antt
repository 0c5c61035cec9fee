-- What the act of a call leaves, by the fronts of the lists, is one of the choices that its definition allows, and keeps
-- what always holds.
use Rattle.std.proofs.Common.{◌≡◌, ℕ, ◌≤◌, cond, eqb, List, [], ◌++◌, take, drop, Some}
use Rattle.std.proofs.Common.{None, inl, inr, refl, sym, ap, ◌∙◌}
use Rattle.std.proofs.lemmas.Bool.{cases_eq, eq-eqb, ne_eqb, cond-true, cond-false}
use Rattle.words.specs.Updates.{put}
use Rattle.isa.specs.Programs.{Program}
use Rattle.buckets.specs.Places.{with_place}
use Rattle.futexcalls.specs.declared.pieces.FutexCall.{FutexCall}
use Rattle.futexcalls.specs.declared.pieces.FutexCall.TheVariants.{Wait, Wake, Requeue}
use Rattle.futexcalls.specs.Pieces.{Acts}
use Rattle.futexcalls.specs.PieceResults.{woken_by, moved_by, moved_on, queue_by}
use Rattle.futexcalls.specs.FutexCalls.{Moves}
use Rattle.futexcalls.proofs.Choices.{choice-front}
use Rattle.machine.specs.States.{Common, ConcreteState}
use Rattle.machine.specs.ConcreteServing.{wake_front, move_front}
use Rattle.machine.specs.Views.{IsWellFormed}
use Rattle.machine.proofs.Placing.{put-here}
use Rattle.machine.proofs.Sleeping.{agree-woken}
use Rattle.machine.proofs.Keeping.{Holds, holds-woke, holds-slept, holds-moved}
use Rattle.piece_machine.specs.PieceConcrete.{acted, places_by}

-- the front of what is left of a list
rest_front : (q : ℕ → List ℕ) (a n m : ℕ) → take m (put q a (drop n (q a)) a) ≡ take m (drop n (q a))
rest_front q a n m = ap (take m) (put-here q a (drop n (q a)) a refl)

-- a requeue's act by the whole call's two halves
pub requeued : (t : ℕ) (c : Common) (call : FutexCall) (a b n m : ℕ)
    → woken_by call c.queue ≡ take n (c.queue a) → moved_by call c.queue ≡ (cond (eqb a b) [] (take m (drop n (c.queue a))))
    → queue_by t call c.queue ≡ moved_on (put c.queue a (drop n (c.queue a))) a b m
    → places_by t call c.queue c.asleep
    ≡ with_place (with_place c.asleep (take n (c.queue a)) None) (cond (eqb a b) [] (take m (drop n (c.queue a)))) (Some b)
    → acted t call c ≡ move_front (wake_front c a n) a b m
requeued t c call a b n m woken moved queue places = elim (cases_eq a b) [
  | inl e ↦
      let same = eq-eqb a b e in
      (λ i. record c { queue = queue i; asleep = places i })
      ∙ (λ i. record c {
        queue = cond-true _ (put c.queue a (drop n (c.queue a)))
            (put (put (put c.queue a (drop n (c.queue a))) a (drop m (put c.queue a (drop n (c.queue a)) a))) b
            (put c.queue a (drop n (c.queue a)) b ++ take m (put c.queue a (drop n (c.queue a)) a))) same i;
        asleep = ap (λ xs. with_place (with_place c.asleep (take n (c.queue a)) None) xs (Some b))
            (cond-true (eqb a b) [] (take m (drop n (c.queue a))) same) i;
      })
      ∙ sym (cond-true _ _ _ same)
  | inr ne ↦
      let differs = ne_eqb a b ne in
      (λ i. record c { queue = queue i; asleep = places i })
      ∙ (λ i. record c {
        queue = cond-false _ (put c.queue a (drop n (c.queue a)))
            (put (put (put c.queue a (drop n (c.queue a))) a (drop m (put c.queue a (drop n (c.queue a)) a))) b
            (put c.queue a (drop n (c.queue a)) b ++ take m (put c.queue a (drop n (c.queue a)) a))) differs i;
        asleep = ap (λ xs. with_place (with_place c.asleep (take n (c.queue a)) None) xs (Some b))
            (cond-false (eqb a b) [] (take m (drop n (c.queue a))) differs ∙ sym (rest_front c.queue a n m)) i;
      })
      ∙ sym (cond-false _ _ _ differs)
]

-- what always holds of what is shared is kept by each act
pub acted_holds : (p : Program) (n t : ℕ) (call : FutexCall) (c : Common) → 1 ≤ t → t ≤ n → c.asleep t ≡ None
    → Holds p n c → Holds p n (acted t call c)
acted_holds p n t (Wait a expected) c some few awake h = holds-slept p n c t a.0 some few awake h
acted_holds p n t (Wake a wakes) c some few awake h = holds-woke p n c a.0 wakes h
acted_holds p n t (Requeue a b wakes moves expected) c some few awake h =
    rw (requeued t c (Requeue a b wakes moves expected) a.0 b.0 wakes moves refl refl refl refl)
    (holds-moved p n (wake_front c a.0 wakes) a.0 b.0 moves (holds-woke p n c a.0 wakes h))

-- whom a requeue moves is one of the choices
moves_on : (p : Program) (k : ConcreteState) (a b n m : ℕ) → IsWellFormed p k
    → Moves (with_place k.common.asleep (take n (k.common.queue a)) None) a b m
    (cond (eqb a b) [] (take m (drop n (k.common.queue a))))
    (with_place (with_place k.common.asleep (take n (k.common.queue a)) None)
    (cond (eqb a b) [] (take m (drop n (k.common.queue a)))) (Some b))
moves_on p k a b n m well =
    let q = k.common.queue in record {
      choice = λ ne. rw (cond-false _ [] (take m (drop n (q a))) (ne_eqb a b ne), sym (rest_front q a n m))
          (choice-front (wake_front k.common a n).queue (wake_front k.common a n).asleep a m
          (agree-woken q k.common.asleep a n well.agree));
      none = λ e. cond-true _ [] (take m (drop n (q a))) (eq-eqb a b e);
      goes = refl;
    }

-- the act is a choice that the definition of the calls allows
pub acted_so : (p : Program) (k : ConcreteState) (t : ℕ) (call : FutexCall) → IsWellFormed p k
    → Acts t call k.common.asleep (woken_by call k.common.queue) (moved_by call k.common.queue)
    (places_by t call k.common.queue k.common.asleep)
acted_so p k t (Wait a expected) well = (refl, refl, refl)
acted_so p k t (Wake a wakes) well = (
  refl,
  record {
    choice = choice-front k.common.queue k.common.asleep a.0 wakes well.agree;
    awake = refl;
  },
)
acted_so p k t (Requeue a b wakes moves expected) well = record {
  wakes =
      record { choice = choice-front k.common.queue k.common.asleep a.0 wakes well.agree; awake = refl };
  moves = moves_on p k a.0 b.0 wakes moves well;
}
