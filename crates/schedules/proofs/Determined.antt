-- A program follows a schedule to one end.
use Rattle.std.proofs.Common.{◌≡◌, ◌∙◌, ◌+◌, ◌<◌, ◌^◌, ℕ, zero, suc, true≢false, List, [], ◌∷◌, Option, Some}
use Rattle.std.proofs.Common.{Ok, Err, ap, arith, inl, inr, length, map, refl, slice_get, subst, sym, take}
use Rattle.isa.specs.Programs.{Program}
use Rattle.locals.specs.Threads.{Thread}
use Rattle.machine.specs.ConcreteOutside.{kill_at, stray_at}
use Rattle.machine.specs.FrontRuns.{EventStep}
use Rattle.machine.specs.Runs.{Doing}
use Rattle.machine.specs.States.{ConcreteState}
use Rattle.machine.specs.Views.{concrete}
use Rattle.machine.specs.declared.event.Entry.{Entry}
use Rattle.machine.specs.declared.event.Event.{Event}
use Rattle.machine.specs.declared.event.StepFault.{StepFault}
use Rattle.machine.specs.declared.event.StepFault.TheVariants as step
use Rattle.piece_machine.specs.PieceConcrete.{Outcome, PieceConcrete, kill_piece, killed_at, piece_of, stray_piece, whole_at}
use Rattle.piece_machine.specs.PieceDetermined.{IsFit}
use Rattle.piece_machine.specs.PieceFronts.{FrontPiece, FrontPieces}
use Rattle.piece_machine.specs.PieceViews.{parts}
use Rattle.piece_machine.proofs.Refused.{piece_refuses_so}
use Rattle.piece_machine.proofs.Wanted.{takes_so}
use Rattle.runner.specs.LogRuns.{steps_of}
use Rattle.runner.specs.Logs.{opening}
use Rattle.runner.specs.Schedules.{BreaksTurn, FailsAt, Follows, IsFollowed, IsMemory, RefusesSchedule, RefusesTurn, turn_by}
use Rattle.runner.specs.Reports.{IsVerdict}
use Rattle.runner.specs.declared.report.Report.{Report}
use Rattle.runner.specs.declared.report.Verdict.{Verdict}
use Rattle.runner.specs.declared.report.Verdict.TheVariants as verdict
use Rattle.runner.specs.declared.schedule.ScheduleFault.{ScheduleFault}
use Rattle.runner.specs.declared.schedule.ScheduleFault.TheVariants.{BadEntry, Broken, Memory}
use Rattle.runner.specs.declared.schedule.Turn.{Turn}
use Rattle.runner.specs.declared.schedule.Turn.TheVariants.{Step, Stray, Kill}
use Rattle.runner.proofs.Owning.{inside, piece_own}
use Rattle.runner.proofs.Scheduling.{killed_turn, woken_turn}
use Rattle.runner.proofs.Unrolling.{runs_so, steps_so}
use Rattle.schedules.specs.Failing.{FailsBy, HasFaulted}
use Rattle.schedules.specs.declared.failing.RunFailure.{RunFailure}
use Rattle.schedules.specs.declared.failing.RunFailure.TheVariants.{Stuck, Aborted}
use Rattle.schedules.proofs.Singles.{singles_turns, step_turn, steps_turns}

-- what comes of a turn
abbrev turn_piece : Program → PieceConcrete → Turn → Outcome
turn_piece p k (Step t) = piece_of p k t
turn_piece p k (Stray t) = stray_piece k t
turn_piece p k (Kill t) = kill_piece p k t

gives : (p : Program) (k m : PieceConcrete) (s : EventStep) → FrontPiece p k s m
    → turn_piece p k (step_turn s) ≡ Ok (m, s.event)
gives p k m s (inl own) =
    ap (turn_piece p k) (ap (λ (d : Doing). turn_by d s.thread) (piece_own p k m s.thread s.event own)) ∙ own
gives p k m s (inr (inl wakes)) = ap (turn_piece p k) (woken_turn k m s.thread s.event wakes) ∙ wakes
gives p k m s (inr (inr kills)) = ap (turn_piece p k) (killed_turn p k m s.thread s.event kills) ∙ kills

once : (p : Program) (k m m' : PieceConcrete) (s s' : EventStep) → FrontPiece p k s m → FrontPiece p k s' m'
    → step_turn s ≡ step_turn s' → m ≡ m'
once p k m m' s s' one other same =
    let both = inside (m, s.event) (m', s'.event)
    (sym (gives p k m s one) ∙ ap (turn_piece p k) same ∙ gives p k m' s' other) in
    λ i. (both i).0

all_once : (p : Program) (k a b : PieceConcrete) (xs ys : List EventStep) → FrontPieces p k xs a → FrontPieces p k ys b
    → map step_turn xs ≡ map step_turn ys → a ≡ b
all_once p k a b [] [] one other same = sym one ∙ other
all_once p k a b [] (y ∷ ys) one other same = absurd cc
all_once p k a b (x ∷ xs) [] one other same = absurd cc
all_once p k a b (x ∷ xs) (y ∷ ys) one other same =
    let first : step_turn x ≡ step_turn y = cc in
    let rest : map step_turn xs ≡ map step_turn ys = cc in
    let mid = once p k one.0 other.0 x y one.1 other.1 first in
    all_once p other.0 a b xs ys (subst (λ (m : PieceConcrete). FrontPieces p m xs a) mid one.2) other.2 rest

-- the steps of a schedule that is followed
record HasSteps (p : Program) (schedule : List Turn) (k : PieceConcrete) : Type 0 where
  pub steps : List EventStep
  pub front : FrontPieces p (opening p) steps k
  pub turns : map step_turn steps ≡ schedule

has_steps : (p : Program) (schedule : List Turn) (log : List Entry) (k : PieceConcrete) → Follows p schedule log k
    → HasSteps p schedule k
has_steps p schedule log k f = record {
  steps = steps_of log;
  front = steps_so p (opening p) k log f.legal;
  turns = steps_turns log ∙ singles_turns log f.single ∙ f.turns;
}

pub one_end : (p : Program) (schedule : List Turn) (log log' : List Entry) (k k' : PieceConcrete)
    → Follows p schedule log k → Follows p schedule log' k' → k ≡ k'
one_end p schedule log log' k k' one other =
    let a = has_steps p schedule log k one in
    let b = has_steps p schedule log' k' other in
    all_once p (opening p) k k' a.steps b.steps a.front b.front (a.turns ∙ sym b.turns)

-- the step that comes next of a schedule
record TakesTurn (p : Program) (k : PieceConcrete) (turn : Turn) : Type 0 where
  pub step : EventStep
  pub after : PieceConcrete
  pub front : FrontPiece p k step after
  pub is : step_turn step ≡ turn

next_at : (p : Program) (before : ℕ) (k mid k' : PieceConcrete) (xs ys : List EventStep) (turn : Turn)
    → FrontPieces p k xs mid → map step_turn xs ≡ take before (map step_turn ys) → FrontPieces p k ys k'
    → slice_get (map step_turn ys) before ≡ Some turn → TakesTurn p mid turn
next_at p zero k mid k' xs [] turn one same all names = absurd cc
next_at p zero k mid k' [] (y ∷ ys) turn one same all names = record {
  step = y;
  after = all.0;
  front = subst (λ (x : PieceConcrete). FrontPiece p x y all.0) one all.1;
  is = cc;
}
next_at p zero k mid k' (x ∷ xs) (y ∷ ys) turn one same all names = absurd cc
next_at p (suc n) k mid k' xs [] turn one same all names = absurd cc
next_at p (suc n) k mid k' [] (y ∷ ys) turn one same all names = absurd cc
next_at p (suc n) k mid k' (x ∷ xs) (y ∷ ys) turn one same all names =
    let first : step_turn x ≡ step_turn y = cc in
    let rest : map step_turn xs ≡ take n (map step_turn ys) = cc in
    let at = once p k one.0 all.0 x y one.1 all.1 first in
    next_at p n all.0 mid k' xs ys turn (subst (λ (m : PieceConcrete). FrontPieces p m xs mid) at one.2) rest all.2 names

-- a turn that is taken is not refused
ok_or_err : (o : Outcome) (q : PieceConcrete × Event) (f : StepFault) → o ≡ Ok q → o ≡ Err f → ⊥
ok_or_err o q f done fails = absurd cc

taken_not_refused : (p : Program) (k : PieceConcrete) (turn : Turn) → IsFit p k → TakesTurn p k turn
    → RefusesTurn p k turn → ⊥
taken_not_refused p k (Step t) fit takes refused =
    let done = sym (ap (turn_piece p k) takes.is) ∙ gives p k takes.after takes.step takes.front in
    let fails = (piece_refuses_so p k t fit).1 (λ can. true≢false (sym ((takes_so p k t).1 can) ∙ refused)) in
    ok_or_err (piece_of p k t) (takes.after, takes.step.event) step.CannotMove done fails
taken_not_refused p k (Stray t) fit takes refused =
    let done = sym (ap (turn_piece p k) takes.is) ∙ gives p k takes.after takes.step takes.front in
    ok_or_err (stray_piece k t) (takes.after, takes.step.event) step.CannotMove done
    (ap (λ (o : Option ℕ). whole_at k (stray_at k.concrete t o)) refused)
taken_not_refused p k (Kill t) fit takes refused =
    let done = sym (ap (turn_piece p k) takes.is) ∙ gives p k takes.after takes.step takes.front in
    ok_or_err (kill_piece p k t) (takes.after, takes.step.event) step.CannotMove done
    (ap (λ (o : Option Thread). killed_at p k t (kill_at k.concrete t o)) refused)

taken_not_broken : (p : Program) (k : PieceConcrete) (turn : Turn) → TakesTurn p k turn → BreaksTurn p k turn → ⊥
taken_not_broken p k (Step t) takes broken =
    let done = sym (ap (turn_piece p k) takes.is) ∙ gives p k takes.after takes.step takes.front in
    ok_or_err (piece_of p k t) (takes.after, takes.step.event) step.Broken done broken.1
taken_not_broken p k (Stray t) takes broken = broken
taken_not_broken p k (Kill t) takes broken = broken

refused_by : (p : Program) (k : PieceConcrete) (number : ℕ) (turn : Turn) (fault : ScheduleFault) → IsFit p k
    → number < 2 ^ 32 → TakesTurn p k turn → RefusesSchedule p k number turn fault → (IsMemory fault → ⊥) → ⊥
refused_by p k number turn (BadEntry n) fit few takes (is, inl refused) never =
    taken_not_refused p k turn fit takes refused
refused_by p k number turn (BadEntry n) fit few takes (is, inr many) never = omega (arith, few, many)
refused_by p k number turn (Broken n) fit few takes (is, small, broken) never = taken_not_broken p k turn takes broken
refused_by p k number turn Memory fit few takes refused never = never tt

-- a schedule that is refused is not followed to its end
pub not_followed : (p : Program) (schedule : List Turn) (fault : ScheduleFault) (r : Report) → FailsAt p schedule fault
    → (IsMemory fault → ⊥) → IsFollowed p schedule r → ⊥
not_followed p schedule fault r (inl memory) never followed = never memory
not_followed p schedule fault r (inr (before, k, turn, comes, refuses)) never followed =
    let all = has_steps p schedule r.log.items (parts r.last) followed.follows in
    let some = has_steps p (take before schedule) comes.log k comes.follows in
    let (steps, run, count, same, fit) = runs_so p comes.log k comes.follows.legal in
    let takes = next_at p before (opening p) k (parts r.last) some.steps all.steps turn some.front
    (some.turns ∙ ap (take before) (sym all.turns)) all.front
    (ap (λ (ts : List Turn). slice_get ts before) all.turns ∙ comes.names) in
    let here = inside_by schedule before turn comes.names in
    refused_by p k (before + 1) turn fault fit (omega (arith, here, followed.few)) takes refuses never
  where
    inside_by : (ts : List Turn) (i : ℕ) (x : Turn) → slice_get ts i ≡ Some x → i < length ts
    inside_by [] i x names = absurd cc
    inside_by (t ∷ ts) zero x names = omega arith
    inside_by (t ∷ ts) (suc i) x names = let less = inside_by ts i x names in omega (arith, less)

-- of a schedule the reports of two runs tell the same end
stuck_only : (k : ConcreteState) (v : Verdict) → IsVerdict k verdict.Stuck → IsVerdict k v → v ≡ verdict.Stuck
stuck_only k verdict.Done stuck done = absurd (true≢false (sym (done stuck.1 stuck.2 stuck.3) ∙ stuck.4))
stuck_only k verdict.Stuck stuck other = refl
stuck_only k verdict.Limit stuck other = absurd (true≢false (sym other.1 ∙ stuck.0 other.0))

fails_at : (r r' : Report) (f : RunFailure) → concrete r'.last.view ≡ concrete r.last.view
    → IsVerdict (concrete r.last.view) r.verdict → IsVerdict (concrete r'.last.view) r'.verdict → FailsBy r' f → FailsBy r f
fails_at r r' Stuck same one other fails =
    stuck_only (concrete r.last.view) r.verdict
    (subst (λ (k : ConcreteState). IsVerdict k verdict.Stuck) same
    (subst (IsVerdict (concrete r'.last.view)) fails other)) one
fails_at r r' (Aborted t fault) same one other fails = subst (λ (k : ConcreteState). HasFaulted k t fault) same fails

pub fails_once : (p : Program) (schedule : List Turn) (r r' : Report) (f : RunFailure) → IsFollowed p schedule r
    → IsFollowed p schedule r' → FailsBy r' f → FailsBy r f
fails_once p schedule r r' f one other fails =
    let same = one_end p schedule r'.log.items r.log.items (parts r'.last) (parts r.last) other.follows one.follows in
    fails_at r r' f (ap (λ (k : PieceConcrete). k.concrete) same) one.verdict other.verdict fails
