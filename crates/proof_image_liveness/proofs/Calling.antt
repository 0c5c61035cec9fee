-- A thread takes its next step with whole calls in pieces, where no other is within a call.
use Rattle.std.proofs.Common.{◌≡◌, ◌≢◌, ◌∙◌, ◌+◌, ◌%◌, ◌==◌, ℕ, Bool, true, false, List, [], ◌∷◌}
use Rattle.std.proofs.Common.{Option, Some, None, inl, inr, refl, sym, ap, arith, length, subst}
use Rattle.std.specs.Prelude.{if◌then◌else◌, nat_le}
use Rattle.std.proofs.lemmas.Bool.{cases_eq, eq-eqb, ne_eqb}
use Rattle.words.specs.Updates.{put}
use Rattle.words.proofs.Updates.{put_other, put_same}
use Rattle.isa.specs.Programs.{Program}
use Rattle.buckets.specs.Places.{with_place}
use Rattle.futexcalls.specs.FutexCalls.{IsChoice}
use Rattle.futexcalls.specs.declared.pieces.FutexCall.{FutexCall}
use Rattle.futexcalls.specs.declared.pieces.FutexCall.TheVariants.{Wait, Wake, Requeue}
use Rattle.futexcalls.specs.declared.pieces.FutexPhase.{FutexPhase}
use Rattle.futexcalls.specs.declared.pieces.FutexPhase.TheVariants.{First, Second, Compare, Act}
use Rattle.futexcalls.specs.Pieces.{Acts, RequeuesCompared, after_lock, buckets_of, greater, lesser, takes_at, LiesIn}
use Rattle.robustexit.specs.ExitRules.{exit_of}
use Rattle.robustexit.specs.declared.phase.ExitPhase.{ExitPhase}
use Rattle.locals.specs.Threads.{Thread, Exits}
use Rattle.locals.specs.Looks.{Request, AskLoad, AskStore, AskSwap, AskCompareSwap, AskOr, AskAdd, AskFork, AskPrint}
use Rattle.locals.specs.Looks.{AskWait, AskWake, AskRequeue, AskReturn, AskReturnValue, AskFault, Look, look}
use Rattle.locals.specs.Looks.{Goes, Asks, Leaves, Breaks, Rests}
use Rattle.machine.specs.States.{State, with_sleepers, with_thread}
use Rattle.machine.specs.AbstractServing.{IsUnserved, Lies, shared_of, with_shared}
use Rattle.machine.specs.Runs.{IsBroken, has_ended}
use Rattle.machine.specs.PieceStates.{PieceState, IsHeldRight, call_of, request_of}
use Rattle.machine.specs.PieceSteps.{IsAct, IsAgain, IsEqual, IsExit, IsLocal, IsLock, IsPlain, goes_outside}
use Rattle.proof_pieces.specs.WholeCalls.{MovesWhole}
use Rattle.proof_image_liveness.specs.Sleeping.{IsFew}
use Rattle.proof_image_liveness.proofs.Existing.{Served, both_lie, leaves_on, left, lies_in, rests_ended, served}
use Rattle.proof_image_liveness.proofs.Going.{IsAlone, IsOutside, OwnRun, nobody_holds, outside_on, taken, then_run}
use Rattle.proof_image_liveness.proofs.Picking.{choose, few_left, pick}

-- thread u's call is taken to its end, and the others are where they were in theirs
pub record Past (p : Program) (u : ℕ) (s : PieceState) : Type 0 where
  pub after : PieceState
  pub run : OwnRun p s after
  pub right : IsHeldRight p after
  pub first : after.phase u ≡ First
  pub others : (v : ℕ) → v ≢ u → after.phase v ≡ s.phase v
  pub made : after.base.made ≡ s.base.made

-- the same from before its step with whole calls on
pub record Over (p : Program) (u : ℕ) (y : Thread) (s : PieceState) : Type 0 where
  pub after : PieceState
  pub run : OwnRun p s after
  pub right : IsHeldRight p after
  pub first : after.phase u ≡ First
  pub others : (v : ℕ) → v ≢ u → after.phase v ≡ s.phase v
  pub made : after.base.made ≡ s.base.made
  pub woken : List ℕ
  pub moves : MovesWhole (exit_of p.version) s.base u woken (look p u y) after.base

abbrev pub past_of : (p : Program) → (u : ℕ) → (y : Thread) → (s : PieceState) → Over p u y s → Past p u s
past_of p u y s o = record {
  after = o.after;
  run = o.run;
  right = o.right;
  first = o.first;
  others = o.others;
  made = o.made;
}

-- with these woken
abbrev pub Ends : Program → ℕ → Thread → PieceState → List ℕ → Type 0
Ends p u y s woken = (o : Over p u y s) × (o.woken ≡ woken)

-- the next step of thread u, which stands at y, is taken, and no thread is within a call behind it
pub record Finished (p : Program) (u : ℕ) (y : Thread) (s : PieceState) : Type 0 where
  pub after : PieceState
  pub run : OwnRun p s after
  pub right : IsHeldRight p after
  pub outside : IsOutside after
  pub woken : List ℕ
  pub moves : MovesWhole (exit_of p.version) s.base u woken (look p u y) after.base

-- with these woken
abbrev pub Finishes : Program → ℕ → Thread → PieceState → List ℕ → Type 0
Finishes p u y s woken = (f : Finished p u y s) × (f.woken ≡ woken)

-- thread u has come to a phase of its call
record Comes (p : Program) (u : ℕ) (f : FutexPhase) (s s' : PieceState) : Type 0 where
  run : OwnRun p s s'
  right : IsHeldRight p s'
  alone : IsAlone s' u f
  base : s'.base ≡ s.base

differ : (i j : ℕ) → i ≢ j → greater i j ≢ lesser i j
differ i j ne = by_test (nat_le i j)
  where
    by_test : (b : Bool) → (if b then j else i) ≢ (if b then i else j)
    by_test true e = ne (sym e)
    by_test false e = ne e

module _ (p : Program) (u : ℕ) (y : Thread) (s : PieceState) (right : IsHeldRight p s) (outside : IsOutside s)
    (stands : s.base.thread u ≡ Some y) (awake : s.base.asleep u ≡ None) where
  others : (v : ℕ) → v ≢ u → s.phase v ≡ First
  others v ne = outside v

  goes : (z : Thread) → look p u y ≡ Goes z → Finished p u y s
  goes z looks =
      let t = taken p s (goes_outside s u s.base [] z) u y [] right stands awake
      (IsLocal z looks (outside u) refl refl) in
      record {
        after = goes_outside s u s.base [] z;
        run = t.0;
        right = t.1;
        outside = outside_on s u others;
        woken = [];
        moves = subst (λ l. MovesWhole (exit_of p.version) s.base u [] l (with_thread s.base u z)) (sym looks)
            (refl, refl);
      }

  asks_plain : (request : Request) (go : ℕ → Thread) → look p u y ≡ Asks request go → call_of request ≡ None
      → Served u request s.base → Finished p u y s
  asks_plain request go looks isnt h =
      let t = taken p s (goes_outside s u h.mid [] (go h.answer)) u y [] right stands awake
      (IsPlain request go h.answer h.mid looks isnt (outside u) h.serves refl) in
      record {
        after = goes_outside s u h.mid [] (go h.answer);
        run = t.0;
        right = t.1;
        outside = outside_on s u others;
        woken = [];
        moves = subst (λ l. MovesWhole (exit_of p.version) s.base u [] l (with_thread h.mid u (go h.answer)))
            (sym looks) (h.answer, h.mid, h.whole, refl);
      }

  leaves : (phase : ExitPhase) → look p u y ≡ Leaves phase → IsFew s.base → Finished p u y s
  leaves phase looks few =
      let h = left (exit_of p.version) s.base.size u (shared_of s.base) few.most few.asleep phase
      (leaves_on p u y phase looks) in
      let t = taken p s (goes_outside s u (with_shared s.base h.after) [] (Exits h.next)) u y h.woken right stands awake
      (IsExit phase h.after h.next looks (outside u) h.step (λ a w. nobody_holds p s right outside _) refl) in
      record {
        after = goes_outside s u (with_shared s.base h.after) [] (Exits h.next);
        run = t.0;
        right = t.1;
        outside = outside_on s u others;
        woken = h.woken;
        moves = subst (λ l. MovesWhole (exit_of p.version) s.base u h.woken l
            (with_thread (with_shared s.base h.after) u (Exits h.next)))
            (sym looks) (h.after, h.next, h.step, refl);
      }

  -- the first bucket of a call is taken
  locks : (call : FutexCall) (go : ℕ → Thread) (b : ℕ) → look p u y ≡ Asks (request_of call) go
      → LiesIn s.base.size call → takes_at s.buckets First call ≡ Some b
      → Comes p u (after_lock s.buckets First call) s (record s {
        phase = put s.phase u (after_lock s.buckets (s.phase u) call);
        holder = put s.holder b (Some u);
      })
  locks call go b looks lies takes =
      let t = taken p s _ u y [] right stands awake (IsLock call go b looks lies
      (ap (λ f. takes_at s.buckets f call) (outside u) ∙ takes) (nobody_holds p s right outside b) refl refl) in
      record {
        run = t.0;
        right = t.1;
        alone = (
          put_same s.phase u (after_lock s.buckets (s.phase u) call)
              ∙ ap (λ f. after_lock s.buckets f call) (outside u),
          λ v ne. put_other s.phase u (after_lock s.buckets (s.phase u) call) v ne ∙ outside v,
        );
        base = refl;
      }

-- where thread u is in a phase of a call, the call is taken to its end
module _ (p : Program) (u : ℕ) (y : Thread) (s : PieceState) (right : IsHeldRight p s)
    (stands : s.base.thread u ≡ Some y) (awake : s.base.asleep u ≡ None) where
  act : (call : FutexCall) (go : ℕ → Thread) (woken moved : List ℕ) (after : ℕ → Option ℕ)
      → look p u y ≡ Asks (request_of call) go → s.phase u ≡ Act → Acts u call s.base.asleep woken moved after
      → Past p u s
  act call go woken moved after looks at acts =
      let last = goes_outside s u (with_sleepers s.base after) (buckets_of s.buckets call)
      (go (length woken + length moved)) in
      let t = taken p s last u y woken right stands awake (IsAct call go moved after looks at acts refl) in
      record {
        after = last;
        run = t.0;
        right = t.1;
        first = put_same s.phase u First;
        others = λ v ne. put_other s.phase u First v ne;
        made = refl;
      }

  pub waits : (a expected : ℕ) (go : ℕ → Thread) → look p u y ≡ Asks (AskWait a expected) go → Lies s.base a
      → s.phase u ≡ Compare → Over p u y s
  waits a expected go looks lies at = elim (cases_eq (s.base.word a) expected) [
    | inl equal ↦ sleeps equal
    | inr differs ↦ again differs
  ]
    where
      call : FutexCall
      call = Wait (record { 0 = a }) expected

      mid : PieceState
      mid = record s { phase = put s.phase u Act }

      after : ℕ → Option ℕ
      after = with_place s.base.asleep (u ∷ []) (Some a)

      last : PieceState
      last = goes_outside mid u (with_sleepers s.base after) (buckets_of s.buckets call) (go 0)

      sleeps : s.base.word a ≡ expected → Over p u y s
      sleeps equal =
          let t = taken p s mid u y [] right stands awake
          (IsEqual call go a expected looks (refl, refl) at equal refl refl) in
          let r = taken p mid last u y [] t.1 stands awake
          (IsAct call go [] after looks (put_same s.phase u Act) (refl, refl, refl) refl) in
          record {
            after = last;
            run = then_run p s mid last t.0 r.0;
            right = r.1;
            first = put_same mid.phase u First;
            others = λ v ne. put_other mid.phase u First v ne ∙ put_other s.phase u Act v ne;
            made = refl;
            woken = [];
            moves = subst (λ l. MovesWhole (exit_of p.version) s.base u [] l
                (with_thread (with_sleepers s.base after) u (go 0))) (sym looks) (
                  0,
                  with_sleepers s.base after,
                  (lies, (refl, inl (after, record { equal = equal; joins = refl }, refl, refl))),
                  refl,
                );
          }

      again : s.base.word a ≢ expected → Over p u y s
      again differs =
          let t = taken p s (goes_outside s u s.base (buckets_of s.buckets call) (go 1)) u y [] right stands awake
          (IsAgain call go a expected looks (refl, refl) at differs refl refl) in
          record {
            after = goes_outside s u s.base (buckets_of s.buckets call) (go 1);
            run = t.0;
            right = t.1;
            first = put_same s.phase u First;
            others = λ v ne. put_other s.phase u First v ne;
            made = refl;
            woken = [];
            moves = subst (λ l. MovesWhole (exit_of p.version) s.base u [] l (with_thread s.base u (go 1))) (sym looks)
                (1, s.base, (lies, (refl, inr (differs, refl, refl))), refl);
          }

  pub wakes : (a n : ℕ) (go : ℕ → Thread) → look p u y ≡ Asks (AskWake a n) go → Lies s.base a → s.phase u ≡ Act
      → (woken : List ℕ) → IsChoice s.base.asleep a n woken → Ends p u y s woken
  wakes a n go looks lies at woken choice =
      let t = taken p s last u y woken right stands awake
      (IsAct call go [] after looks at (refl, record { choice = choice; awake = refl }) refl) in (
        record {
          after = last;
          run = t.0;
          right = t.1;
          first = put_same s.phase u First;
          others = λ v ne. put_other s.phase u First v ne;
          made = refl;
          woken = woken;
          moves = subst (λ l. MovesWhole (exit_of p.version) s.base u woken l last.base) (sym looks) (
            length woken + 0,
            with_sleepers s.base after,
            (lies, after, record { choice = choice; awake = refl }, omega arith, refl),
            refl,
          );
        },
        refl,
      )
    where
      call : FutexCall
      call = Wake (record { 0 = a }) n

      after : ℕ → Option ℕ
      after = with_place s.base.asleep woken None

      last : PieceState
      last = goes_outside s u (with_sleepers s.base after) (buckets_of s.buckets call) (go (length woken + 0))

  pub requeues : (a b n m expected : ℕ) (go : ℕ → Thread) → look p u y ≡ Asks (AskRequeue a b n m expected) go
      → Lies s.base a → Lies s.base b → IsFew s.base → s.phase u ≡ Compare → Over p u y s
  requeues a b n m expected go looks lies there few at = elim (cases_eq (s.base.word a) expected) [
    | inl equal ↦ moves_on equal
    | inr differs ↦ again differs
  ]
    where
      call : FutexCall
      call = Requeue (record { 0 = a }) (record { 0 = b }) n m expected

      mid : PieceState
      mid = record s { phase = put s.phase u Act }

      woken : List ℕ
      woken = pick s.base.asleep a few.most n

      between : ℕ → Option ℕ
      between = with_place s.base.asleep woken None

      acts : (moved : List ℕ) → (a ≢ b → IsChoice between a m moved) → (a ≡ b → moved ≡ []) → s.base.word a ≡ expected
          → Over p u y s
      acts moved choice none equal =
          let compared : RequeuesCompared s.base.asleep a b n m woken moved (with_place between moved (Some b)) = record {
            wakes = record { choice = choose s.base.asleep a few.most n few.asleep; awake = refl };
            moves = record { choice = choice; none = none; goes = refl };
          } in
          let t = taken p s mid u y [] right stands awake
          (IsEqual call go a expected looks (refl, refl) at equal refl refl) in
          let r = taken p mid last u y woken t.1 stands awake
          (IsAct call go moved (with_place between moved (Some b)) looks (put_same s.phase u Act) compared refl) in
          record {
            after = last;
            run = then_run p s mid last t.0 r.0;
            right = r.1;
            first = put_same mid.phase u First;
            others = λ v ne. put_other mid.phase u First v ne ∙ put_other s.phase u Act v ne;
            made = refl;
            woken = woken;
            moves = subst (λ l. MovesWhole (exit_of p.version) s.base u woken l last.base) (sym looks) (
              length woken + length moved,
              with_sleepers s.base (with_place between moved (Some b)),
              (lies, there, inl (moved, with_place between moved (Some b), compared, refl, refl)),
              refl,
            );
          }
        where
          last : PieceState
          last = goes_outside mid u (with_sleepers s.base (with_place between moved (Some b)))
              (buckets_of s.buckets call) (go (length woken + length moved))

      moves_on : s.base.word a ≡ expected → Over p u y s
      moves_on equal = elim (cases_eq a b) [
        | inl same ↦ acts [] (λ ne. absurd (ne same)) (λ e. refl) equal
        | inr other ↦ acts (pick between a few.most m)
            (λ ne. choose between a few.most m (few_left s.base.asleep few.most woken few.asleep))
            (λ e. absurd (other e)) equal
      ]

      again : s.base.word a ≢ expected → Over p u y s
      again differs =
          let t = taken p s (goes_outside s u s.base (buckets_of s.buckets call) (go 4294967295)) u y [] right stands
          awake (IsAgain call go a expected looks (refl, refl) at differs refl refl) in
          record {
            after = goes_outside s u s.base (buckets_of s.buckets call) (go 4294967295);
            run = t.0;
            right = t.1;
            first = put_same s.phase u First;
            others = λ v ne. put_other s.phase u First v ne;
            made = refl;
            woken = [];
            moves = subst (λ l. MovesWhole (exit_of p.version) s.base u [] l (with_thread s.base u (go 4294967295)))
                (sym looks)
                (4294967295, s.base, (lies, there, inr (differs, refl, refl, refl)), refl);
          }

  -- where it has compared, whatever it does
  pub acts_on : (call : FutexCall) (go : ℕ → Thread) → look p u y ≡ Asks (request_of call) go → s.phase u ≡ Act
      → IsFew s.base → Past p u s
  acts_on (Wait a expected) go looks at few =
      act (Wait a expected) go [] [] (with_place s.base.asleep (u ∷ []) (Some a.0)) looks at (refl, refl, refl)
  acts_on (Wake a n) go looks at few =
      let woken = pick s.base.asleep a.0 few.most n in
      act (Wake a n) go woken [] (with_place s.base.asleep woken None) looks at
      (refl, record { choice = choose s.base.asleep a.0 few.most n few.asleep; awake = refl })
  acts_on (Requeue a b n m expected) go looks at few = elim (cases_eq a.0 b.0) [
    | inl same ↦ moves_on [] (λ ne. absurd (ne same)) (λ e. refl)
    | inr other ↦ moves_on (pick between a.0 few.most m)
        (λ ne. choose between a.0 few.most m (few_left s.base.asleep few.most woken few.asleep))
        (λ e. absurd (other e))
  ]
    where
      woken : List ℕ
      woken = pick s.base.asleep a.0 few.most n

      between : ℕ → Option ℕ
      between = with_place s.base.asleep woken None

      moves_on : (moved : List ℕ) → (a.0 ≢ b.0 → IsChoice between a.0 m moved) → (a.0 ≡ b.0 → moved ≡ []) → Past p u s
      moves_on moved choice none =
          act (Requeue a b n m expected) go woken moved (with_place between moved (Some b.0)) looks at (record {
            wakes = record { choice = choose s.base.asleep a.0 few.most n few.asleep; awake = refl };
            moves = record { choice = choice; none = none; goes = refl };
          })

-- what comes of pieces behind those that change no more than a phase
behind_comes : (p : Program) (u : ℕ) (y : Thread) (f : FutexPhase) (s mid : PieceState) → OwnRun p s mid
    → mid.base ≡ s.base → IsAlone mid u f → Over p u y mid → Finished p u y s
behind_comes p u y f s mid run base alone o = record {
  after = o.after;
  run = then_run p s mid o.after run o.run;
  right = o.right;
  outside = λ v. elim (cases_eq v u) [
    | inl e ↦ ap o.after.phase e ∙ o.first
    | inr ne ↦ o.others v ne ∙ alone.1 v ne
  ];
  woken = o.woken;
  moves = subst (λ (b : State). MovesWhole (exit_of p.version) b u o.woken (look p u y) o.after.base) base o.moves;
}

module _ (p : Program) (u : ℕ) (y : Thread) (s : PieceState) (right : IsHeldRight p s) (outside : IsOutside s)
    (stands : s.base.thread u ≡ Some y) (awake : s.base.asleep u ≡ None) (few : IsFew s.base) where
  wait_so : (a expected : ℕ) (go : ℕ → Thread) → look p u y ≡ Asks (AskWait a expected) go → Lies s.base a
      → Finished p u y s
  wait_so a expected go looks lies =
      let call : FutexCall = Wait (record { 0 = a }) expected in
      let c = locks p u y s right outside stands awake call go (a % s.buckets) looks lies refl in
      behind_comes p u y Compare s _ c.run refl c.alone
      (waits p u y _ c.right stands awake a expected go looks lies c.alone.0)

  pub wake_so : (a n : ℕ) (go : ℕ → Thread) → look p u y ≡ Asks (AskWake a n) go → Lies s.base a → (woken : List ℕ)
      → IsChoice s.base.asleep a n woken → Finishes p u y s woken
  unfolding behind_comes wakes
  wake_so a n go looks lies woken choice =
      let call : FutexCall = Wake (record { 0 = a }) n in
      let c = locks p u y s right outside stands awake call go (a % s.buckets) looks lies refl in
      let f = wakes p u y _ c.right stands awake a n go looks lies c.alone.0 woken choice in
      (behind_comes p u y Act s _ c.run refl c.alone f.0, f.1)

  requeue_so : (a b n m expected : ℕ) (go : ℕ → Thread) → look p u y ≡ Asks (AskRequeue a b n m expected) go
      → Lies s.base a → Lies s.base b → Finished p u y s
  requeue_so a b n m expected go looks lies there = elim (cases_eq (a % s.buckets) (b % s.buckets)) [
    | inl same ↦ first (c.alone.0 ∙ ap (λ (q : Bool). if q then Compare else Second) (is_same same))
    | inr other ↦ second (c.alone.0 ∙ ap (λ (q : Bool). if q then Compare else Second) (is_other other)) other
  ]
    where
      call : FutexCall
      call = Requeue (record { 0 = a }) (record { 0 = b }) n m expected

      one : PieceState
      one = record s {
        phase = put s.phase u (after_lock s.buckets (s.phase u) call);
        holder = put s.holder (lesser (a % s.buckets) (b % s.buckets)) (Some u);
      }

      c : Comes p u (after_lock s.buckets First call) s one
      c = locks p u y s right outside stands awake call go (lesser (a % s.buckets) (b % s.buckets)) looks (lies, there) refl

      is_same : a % s.buckets ≡ b % s.buckets → (a % s.buckets == b % s.buckets) ≡ true
      is_same e = eq-eqb _ _ e

      is_other : a % s.buckets ≢ b % s.buckets → (a % s.buckets == b % s.buckets) ≡ false
      is_other ne = ne_eqb _ _ ne

      first : one.phase u ≡ Compare → Finished p u y s
      first at = behind_comes p u y Compare s one c.run refl (at, c.alone.1)
          (requeues p u y one c.right stands awake a b n m expected go looks lies there few at)

      second : one.phase u ≡ Second → a % s.buckets ≢ b % s.buckets → Finished p u y s
      second at other =
          let free : one.holder (greater (a % s.buckets) (b % s.buckets)) ≡ None =
          put_other s.holder (lesser (a % s.buckets) (b % s.buckets)) (Some u) (greater (a % s.buckets) (b % s.buckets))
          (differ (a % s.buckets) (b % s.buckets) other) ∙ nobody_holds p s right outside _ in
          let t = taken p one two u y [] c.right stands awake (IsLock call go (greater (a % s.buckets) (b % s.buckets))
          looks (lies, there) (ap (λ f. takes_at s.buckets f call) at) free refl refl) in
          let there_at : two.phase u ≡ Compare =
          put_same one.phase u (after_lock s.buckets (one.phase u) call) ∙ ap (λ f. after_lock s.buckets f call) at in
          behind_comes p u y Compare s two (then_run p s one two c.run t.0) refl (
            there_at,
            λ v ne. put_other one.phase u (after_lock s.buckets (one.phase u) call) v ne ∙ c.alone.1 v ne,
          ) (requeues p u y two t.1 stands awake a b n m expected go looks lies there few there_at)
        where
          two : PieceState
          two = record one {
            phase = put one.phase u (after_lock s.buckets (one.phase u) call);
            holder = put one.holder (greater (a % s.buckets) (b % s.buckets)) (Some u);
          }

  asks : (request : Request) (go : ℕ → Thread) → look p u y ≡ Asks request go → (IsUnserved request s.base → ⊥)
      → Finished p u y s
  asks (AskWait a expected) go looks served_so = wait_so a expected go looks (lies_in s.base a served_so)
  asks (AskWake a n) go looks served_so =
      (wake_so a n go looks (lies_in s.base a served_so) (pick s.base.asleep a few.most n)
      (choose s.base.asleep a few.most n few.asleep)).0
  asks (AskRequeue a b n m expected) go looks served_so =
      let both = both_lie s.base a b served_so in requeue_so a b n m expected go looks both.0 both.1
  asks (AskLoad a) go looks served_so = asks_plain p u y s right outside stands awake (AskLoad a) go looks refl
      (served u (AskLoad a) s.base refl served_so few.made)
  asks (AskStore a v) go looks served_so = asks_plain p u y s right outside stands awake (AskStore a v) go looks refl
      (served u (AskStore a v) s.base refl served_so few.made)
  asks (AskSwap a v) go looks served_so = asks_plain p u y s right outside stands awake (AskSwap a v) go looks refl
      (served u (AskSwap a v) s.base refl served_so few.made)
  asks (AskCompareSwap a expected new) go looks served_so =
      asks_plain p u y s right outside stands awake (AskCompareSwap a expected new) go looks refl
      (served u (AskCompareSwap a expected new) s.base refl served_so few.made)
  asks (AskOr a v) go looks served_so = asks_plain p u y s right outside stands awake (AskOr a v) go looks refl
      (served u (AskOr a v) s.base refl served_so few.made)
  asks (AskAdd a v) go looks served_so = asks_plain p u y s right outside stands awake (AskAdd a v) go looks refl
      (served u (AskAdd a v) s.base refl served_so few.made)
  asks (AskFork entry arguments has_room) go looks served_so =
      asks_plain p u y s right outside stands awake (AskFork entry arguments has_room) go looks refl
      (served u (AskFork entry arguments has_room) s.base refl served_so few.made)
  asks (AskPrint number) go looks served_so = asks_plain p u y s right outside stands awake (AskPrint number) go looks refl
      (served u (AskPrint number) s.base refl served_so few.made)
  asks AskReturn go looks served_so = asks_plain p u y s right outside stands awake AskReturn go looks refl
      (served u AskReturn s.base refl served_so few.made)
  asks (AskReturnValue v) go looks served_so =
      asks_plain p u y s right outside stands awake (AskReturnValue v) go looks refl
      (served u (AskReturnValue v) s.base refl served_so few.made)
  asks (AskFault cause) go looks served_so = asks_plain p u y s right outside stands awake (AskFault cause) go looks refl
      (served u (AskFault cause) s.base refl served_so few.made)

  -- a step that may be is taken
  pub finish : (IsBroken s.base (look p u y) → ⊥) → has_ended (Some y) ≡ false → Finished p u y s
  finish whole on = by_look (look p u y) refl
    where
      by_look : (l : Look) → look p u y ≡ l → Finished p u y s
      by_look (Goes z) looks = goes p u y s right outside stands awake z looks
      by_look (Asks request go) looks =
          asks request go looks (λ h. whole (subst (IsBroken s.base) (sym looks) h))
      by_look (Leaves phase) looks = leaves p u y s right outside stands awake phase looks few
      by_look Breaks looks = absurd (whole (subst (IsBroken s.base) (sym looks) tt))
      by_look Rests looks = absurd (let no' : false ≡ true = sym on ∙ rests_ended p u y looks in cc)
