-- Threads that are further on by their exits take these, in pieces: then those that are further on are so by local steps.
use Rattle.std.proofs.Common.{◌≡◌, ◌≢◌, ◌∙◌, ◌+◌, ◌<◌, ◌⊎◌, ℕ, zero, suc, Bool, Option, Some, List}
use Rattle.std.proofs.Common.{inl, inr, refl, sym, ap, subst, arith}
use Rattle.std.specs.Prelude.{ℤ}
use Rattle.std.proofs.lemmas.Bool.{cases_eq}
use Rattle.std.proofs.lemmas.Option.{same_Some}
use Rattle.isa.specs.Programs.{Program}
use Rattle.robustexit.specs.ExitRules.{exit_of}
use Rattle.robustexit.specs.declared.phase.ExitPhase.TheVariants.{Entry, Pending, ClearId, LastWake, Ended}
use Rattle.locals.specs.Threads.{Thread, Runs, Dies, Exits}
use Rattle.machine.specs.States.{State}
use Rattle.machine.specs.PieceStates.{PieceState, IsHeldRight}
use Rattle.proof_image_search.proofs.Ahead.{AheadAt, AllAhead, ahead}
use Rattle.proof_image_search.proofs.Further.{IsFurtherOn, IsGone, IsLeaving, further, not_both}
use Rattle.proof_image_search.proofs.Simulating.{gone_so, next_leaving}
use Rattle.proof_image_search.proofs.Closing.{leaving_goes_on, leaving_whole}
use Rattle.proof_image_liveness.specs.Sleeping.{IsFew}
use Rattle.proof_image_liveness.proofs.Calling.{Finished, finish}
use Rattle.proof_image_liveness.proofs.Going.{IsOutside, OwnRun, no_run, then_run}

-- how many steps are left of a thread's exit behind its robust list
abbrev left_of : Thread → ℕ
left_of (Exits Pending) = 3
left_of (Exits ClearId) = 2
left_of (Exits LastWake) = 1
left_of (Exits (Entry e seen)) = 0
left_of (Exits Ended) = 0
left_of (Runs place operands locals callers) = 0
left_of (Dies cause) = 0

fewer_left : (word : ℕ → ℕ) (t : ℕ) (x : Thread) → IsLeaving word t x → left_of (next_leaving x) < left_of x
fewer_left word t (Exits Pending) h = omega arith
fewer_left word t (Exits ClearId) h = omega arith
fewer_left word t (Exits LastWake) h = omega arith
fewer_left word t (Exits (Entry e seen)) h = absurd h
fewer_left word t (Exits Ended) h = absurd h
fewer_left word t (Runs place operands locals callers) h = absurd h
fewer_left word t (Dies cause) h = absurd h

module _ (p : Program) (alone : Bool) (here : ℕ → Option Thread) (words : ℕ → ℕ) (output : List ℤ) where
  -- steps of thread t's own lead to where the state that is further on is the same, and this holds
  record Leads (t : ℕ) (s : PieceState) (Holds : PieceState → Type 0) : Type 0 where
    after : PieceState
    run : OwnRun p s after
    right : IsHeldRight p after
    outside : IsOutside after
    all : IsFurtherOn p alone after.base here words
    same : further after.base here words output ≡ further s.base here words output
    others : (v : ℕ) → v ≢ t → after.base.thread v ≡ s.base.thread v
    holds : Holds after

  -- thread t is no further on than by local steps
  abbrev IsSettled : ℕ → PieceState → Type 0
  IsSettled t s = AheadAt p t (s.base.thread t) (here t)

  few_there : (s' s : PieceState) → further s'.base here words output ≡ further s.base here words output → IsFew s.base
      → IsFew s'.base
  few_there s' s same few =
      let now : IsFew (further s.base here words output) =
      record { most = few.most; asleep = few.asleep; made = few.made } in
      let there : IsFew (further s'.base here words output) = subst (λ (q : State). IsFew q) (sym same) now in
      record { most = there.most; asleep = there.asleep; made = there.made }

  module _ (t : ℕ) where
    no_step : (s : PieceState) → IsHeldRight p s → IsOutside s → IsFurtherOn p alone s.base here words → IsSettled t s
        → Leads t s (IsSettled t)
    no_step s right outside all settled = record {
      after = s;
      run = no_run p s;
      right = right;
      outside = outside;
      all = all;
      same = refl;
      others = λ v ne. refl;
      holds = settled;
    }

    -- one step of its exit
    one_step : (s : PieceState) → IsHeldRight p s → IsOutside s → IsFurtherOn p alone s.base here words → IsFew s.base
        → (g : IsGone alone s.base.thread s.base.word s.base.asleep here words t)
        → Leads t s (λ s'. s'.base.thread t ≡ Some (next_leaving g.local))
    one_step s right outside all few g = by_finish (finish p t g.local s right outside g.stands g.awake few
        (leaving_whole p s.base t g.local g.leaves) (leaving_goes_on s.base.word t g.local g.leaves))
      where
        by_finish : Finished p t g.local s → Leads t s (λ s'. s'.base.thread t ≡ Some (next_leaving g.local))
        by_finish f =
            let k = gone_so p alone s.base here words output all t g f.woken f.after.base (exit_of p.version) g.local
            g.leaves f.moves in
            record {
              after = f.after;
              run = f.run;
              right = f.right;
              outside = f.outside;
              all = k.all;
              same = k.same;
              others = k.others;
              holds = k.stands;
            }

    behind : (s : PieceState) (x : Thread) (l : Leads t s (λ s'. s'.base.thread t ≡ Some x))
        → Leads t l.after (IsSettled t) → Leads t s (IsSettled t)
    behind s x l m = record {
      after = m.after;
      run = then_run p s l.after m.after l.run m.run;
      right = m.right;
      outside = m.outside;
      all = m.all;
      same = m.same ∙ l.same;
      others = λ v ne. m.others v ne ∙ l.others v ne;
      holds = m.holds;
    }

    -- so many steps of it, at most
    settles : (fuel : ℕ) (s : PieceState) → IsHeldRight p s → IsOutside s → IsFurtherOn p alone s.base here words
        → IsFew s.base → (x : Thread) → s.base.thread t ≡ Some x → left_of x < fuel → Leads t s (IsSettled t)
    settles zero s right outside all few x stands enough = absurd (omega (arith, enough))
    settles (suc fuel) s right outside all few x stands enough =
        by_side (λ z r o a f y e l. settles fuel z r o a f y e l) (all.stands t)
      where
        by_side : ((z : PieceState) → IsHeldRight p z → IsOutside z → IsFurtherOn p alone z.base here words
            → IsFew z.base → (y : Thread) → z.base.thread t ≡ Some y → left_of y < fuel → Leads t z (IsSettled t))
            → AheadAt p t (s.base.thread t) (here t)
            ⊎ IsGone alone s.base.thread s.base.word s.base.asleep here words t → Leads t s (IsSettled t)
        by_side again (inl one) = no_step s right outside all one
        by_side again (inr g) =
            let l = one_step s right outside all few g in
            let less : left_of (next_leaving g.local) < left_of g.local = fewer_left s.base.word t g.local g.leaves in
            let same : left_of g.local ≡ left_of x = ap left_of (same_Some g.local x (sym g.stands ∙ stands)) in
            behind s (next_leaving g.local) l
            (again l.after l.right l.outside l.all (few_there l.after s l.same few) (next_leaving g.local) l.holds
            (omega (arith, less, same, enough)))

    settle : (s : PieceState) → IsHeldRight p s → IsOutside s → IsFurtherOn p alone s.base here words → IsFew s.base
        → Leads t s (IsSettled t)
    settle s right outside all few = elim (all.stands t) [
      | inl one ↦ no_step s right outside all one
      | inr g ↦ settles (suc (left_of g.local)) s right outside all few g.local g.stands (omega arith)
    ]

  -- the same of all threads before a number
  record SettledTo (k : ℕ) (s : PieceState) : Type 0 where
    after : PieceState
    run : OwnRun p s after
    right : IsHeldRight p after
    outside : IsOutside after
    all : IsFurtherOn p alone after.base here words
    same : further after.base here words output ≡ further s.base here words output
    settled : (v : ℕ) → v < k → IsSettled v after

  settle_to : (k : ℕ) (s : PieceState) → IsHeldRight p s → IsOutside s → IsFurtherOn p alone s.base here words
      → IsFew s.base → SettledTo k s
  settle_to zero s right outside all few = record {
    after = s;
    run = no_run p s;
    right = right;
    outside = outside;
    all = all;
    same = refl;
    settled = λ v less. absurd (omega (arith, less));
  }
  settle_to (suc k) s right outside all few =
      let b = settle_to k s right outside all few in
      let l = settle k b.after b.right b.outside b.all (few_there b.after s b.same few) in
      record {
        after = l.after;
        run = then_run p s b.after l.after b.run l.run;
        right = l.right;
        outside = l.outside;
        all = l.all;
        same = l.same ∙ b.same;
        settled = λ v less. elim (cases_eq v k) [
          | inl e ↦ subst (λ j. IsSettled j l.after) (sym e) l.holds
          | inr ne ↦ subst (λ o. AheadAt p v o (here v)) (sym (l.others v ne)) (b.settled v (omega (arith, less, ne)))
        ];
      }

  -- a state in which those that are further on are so by local steps, of which the same is further on
  pub record Ready (s : PieceState) : Type 0 where
    pub after : PieceState
    pub run : OwnRun p s after
    pub right : IsHeldRight p after
    pub outside : IsOutside after
    pub all : AllAhead p after.base.thread here
    pub same : ahead after.base here output ≡ further s.base here words output

  pub ready : (s : PieceState) → IsHeldRight p s → IsOutside s → IsFurtherOn p alone s.base here words → IsFew s.base
      → Ready s
  ready s right outside all few = by_settled (settle_to (s.base.made + 1) s right outside all few)
    where
      by_settled : SettledTo (s.base.made + 1) s → Ready s
      by_settled b = record {
        after = b.after;
        run = b.run;
        right = b.right;
        outside = b.outside;
        all = each;
        same = (λ i. record (further b.after.base here words output) { word = λ a. same_word a i }) ∙ b.same;
      }
        where
          made : b.after.base.made ≡ s.base.made
          made = ap (λ (q : State). q.made) b.same

          each : AllAhead p b.after.base.thread here
          each v = elim (b.all.stands v) [
            | inl one ↦ one
            | inr g ↦
                let less : v < b.after.base.made + 1 = b.right.few v g.local g.stands in
                let same_made : b.after.base.made ≡ s.base.made = made in
                b.settled v (omega (arith, less, same_made))
          ]

          same_word : (a : ℕ) → b.after.base.word a ≡ words a
          same_word a = elim (b.all.same a) [
            | inl e ↦ sym e
            | inr g ↦ absurd (not_both p alone b.after.base.thread b.after.base.word b.after.base.asleep here words g.0
                (each g.0) g.1)
          ]
