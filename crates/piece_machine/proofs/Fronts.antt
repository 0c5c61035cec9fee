-- Runs of the machine with pieces itself are runs of the relation.
use Rattle.std.proofs.Common.{◌≡◌, ◌<◌, ◌==◌, ◌+◌, ℕ, zero, suc, List, [], ◌∷◌, ◌++◌, Some, map, replicate}
use Rattle.std.proofs.Common.{refl, ap, sym, ◌∙◌, subst, inl, inr, arith}
use Rattle.std.proofs.lemmas.List.{replicate_more}
use Rattle.isa.specs.Programs.{Program}
use Rattle.locals.specs.Threads.{Thread}
use Rattle.locals.specs.Steps.{local_after}
use Rattle.machine.specs.declared.event.EventName.TheVariants as name
use Rattle.machine.specs.ConcreteServing.{plain}
use Rattle.machine.specs.FrontRuns.{EventStep, label_of, event_label}
use Rattle.machine.specs.PieceStates.{PieceState, IsHeldRight, opening_pieces}
use Rattle.machine.specs.PieceSteps.{GoesByPieces, IsPieceStep}
use Rattle.machine.specs.Runs.{Step}
use Rattle.machine.proofs.Placing.{thread_at-put}
use Rattle.machine.proofs.Stepping.{opens_so}
use Rattle.proof_pieces.proofs.Runs.{runs_so}
use Rattle.piece_machine.specs.PieceConcrete.{PieceConcrete, pieces_at, opening_at, with_local}
use Rattle.piece_machine.specs.PieceDetermined.{IsFit}
use Rattle.piece_machine.specs.PieceFronts.{FrontPiece, FrontPieces, PiecesRunSo}
use Rattle.piece_machine.specs.PieceViews.{own_step, stray_step, kill_step}
use Rattle.piece_machine.proofs.Beyond.{pieces_open_so, piece_strays_so, piece_kills_so}
use Rattle.piece_machine.proofs.Cases.{Stands}
use Rattle.piece_machine.proofs.Determined.{piece_steps_so}
use Rattle.piece_machine.proofs.Locally.{before_last, local_is, set_same, twice}

-- a step of the relation that is one of the machine itself
pub record IsStepOf (p : Program) (k : PieceConcrete) (s : EventStep) (k' : PieceConcrete) : Type 0 where
  pub step : Step
  pub goes : IsPieceStep p (pieces_at k) step (pieces_at k')
  pub same : label_of step ≡ event_label s
  pub fit : IsFit p k'

pub step_of_front : (p : Program) (k k' : PieceConcrete) (s : EventStep) → IsFit p k → FrontPiece p k s k'
    → IsStepOf p k s k'
step_of_front p k k' s fit goes = elim goes [
  | inl own ↦
      let r = piece_steps_so p k k' s.thread s.event fit own in record {
        step = own_step (pieces_at k') s.thread r.0.woken;
        goes = r.0.step;
        same = λ i. record { thread = s.thread; woken = sym r.0.wakes i; doing = sym r.0.doing i };
        fit = r.1;
      }
  | inr outside ↦ elim outside [
    | inl stray ↦
        let r = piece_strays_so p k k' s.thread s.event fit stray in record {
          step = stray_step s.thread s.event.value;
          goes = r.0.step;
          same = λ i. record {
            thread = s.thread;
            woken = sym r.0.told i;
            doing = sym r.0.doing i;
          };
          fit = r.1;
        }
    | inr kill ↦
        let r = piece_kills_so p k k' s.thread s.event fit kill in record {
          step = kill_step s.thread (s.event.value == 1);
          goes = r.0.step;
          same = λ i. record {
            thread = s.thread;
            woken = sym r.0.told i;
            doing = sym r.0.doing i;
          };
          fit = r.1;
        }
  ]
]

-- steps of the relation that are those of the machine itself
pub record IsRunOf (p : Program) (k : PieceConcrete) (steps : List EventStep) (k' : PieceConcrete) : Type 0 where
  pub run : List Step
  pub goes : GoesByPieces p (pieces_at k) run (pieces_at k')
  pub same : map label_of run ≡ map event_label steps
  pub fit : IsFit p k'

pub run_of : (p : Program) (k k' : PieceConcrete) (steps : List EventStep) → IsFit p k → FrontPieces p k steps k'
    → IsRunOf p k steps k'
run_of p k k' [] fit same =
    record { run = []; goes = ap pieces_at same; same = refl; fit = subst (IsFit p) same fit }
run_of p k k' (s ∷ steps) fit runs =
    let one = step_of_front p k runs.0 s fit runs.1 in
    let rest = run_of p runs.0 k' steps one.fit runs.2 in record {
      run = one.step ∷ rest.run;
      goes = (pieces_at runs.0, one.goes, rest.goes);
      same = λ i. one.same i ∷ rest.same i;
      fit = rest.fit;
    }

-- what always holds holds at the start
pub opening_fit : (p : Program) (n : ℕ) → 0 < n → IsFit p (opening_at p n)
opening_fit p n some = record {
  well = (opens_so p).1;
  right = subst (IsHeldRight p) (sym (pieces_open_so p n)) (runs_so p n [] (opening_pieces p n) some refl).0;
}

pub pieces_run_so : PiecesRunSo
pieces_run_so p n k steps some runs =
    let r = run_of p (opening_at p n) k steps (opening_fit p n some) runs in
    (r.run, subst (λ (s : PieceState). GoesByPieces p s r.run (pieces_at k)) (pieces_open_so p n) r.goes, r.same, r.fit)

-- steps after steps
pub fronts_on : (p : Program) (a b c : PieceConcrete) (xs ys : List EventStep) → FrontPieces p a xs b
    → FrontPieces p b ys c → FrontPieces p a (xs ++ ys) c
fronts_on p a b c [] ys same more = subst (λ (q : PieceConcrete). FrontPieces p q ys c) (sym same) more
fronts_on p a b c (x ∷ xs) ys runs more = (runs.0, runs.1, fronts_on p runs.0 b c xs ys runs.2 more)

-- local steps of a thread that is awake, one by one
abbrev local_step_of : ℕ → EventStep
local_step_of t = record { thread = t; event = plain name.Local 0 }

pub locals_front : (p : Program) (k : PieceConcrete) (t : ℕ) (x here : Thread) (n : ℕ) → Stands p k t x
    → local_after p t n x ≡ Some here → FrontPieces p k (replicate n (local_step_of t)) (with_local k t here)
locals_front p k t x here zero stands goes =
    let same : x ≡ here = cc in λ i. record k {
      concrete = record {
        common = k.concrete.common;
        threads = sym (set_same k.concrete.threads t here (stands.0 ∙ ap (λ y. Some y) same)) i;
      };
    }
locals_front p k t x here (suc n) stands goes =
    let b = before_last p t (local_after p t n x) here goes in
    let mid = with_local k t b.0 in
    let one = local_is p mid t b.0 here (thread_at-put k.concrete.threads t x b.0 stands.0, stands.1) b.2 in
    let run = fronts_on p k mid (with_local mid t here) (replicate n (local_step_of t)) (local_step_of t ∷ [])
    (locals_front p k t x b.0 n stands b.1) (with_local mid t here, inl one, refl) in
    let count : n + 1 ≡ suc n = omega arith in
    let many : replicate n (local_step_of t) ++ local_step_of t ∷ [] ≡ replicate (suc n) (local_step_of t) =
    replicate_more n (local_step_of t) ∙ ap (λ (j : ℕ). replicate j (local_step_of t)) count in
    subst (λ (q : PieceConcrete). FrontPieces p k (replicate (suc n) (local_step_of t)) q) (twice k t b.0 here)
    (subst (λ (xs : List EventStep). FrontPieces p k xs (with_local mid t here)) many run)
