-- Nobody holds a bucket, and no thread is within a call.
use Rattle.std.proofs.Common.{◌≡◌, ℕ, zero, suc, ◌+◌, ◌<◌, [], length, replicate, refl, sym, ap, ◌∙◌, arith}
use Rattle.std.specs.Prelude.{slice_index_or}
use Rattle.std.proofs.Math.Path.{fun_ext}
use Rattle.std.proofs.lemmas.List.{length-replicate}
use Rattle.words.specs.Limits.{most_threads}
use Rattle.buckets.proofs.Outcomes.{some_bucket}
use Rattle.futexcalls.specs.declared.pieces.FutexPhase.TheVariants.{First}
use Rattle.machine.specs.States.{state_of}
use Rattle.machine.specs.PieceStates.{opening_pieces}
use Rattle.machine.specs.ConcretePieces.{pieces_of}
use Rattle.machine.proofs.Stepping.{opens_so}
use Rattle.proof_pieces.proofs.Runs.{runs_so}
use Rattle.piece_machine.specs.PieceViews.{phase_in}
use Rattle.piece_machine.proofs.piece_machine.PieceMachine.new.Goals as goal

all_first : (n t : ℕ) → slice_index_or (replicate n First) t First ≡ First
all_first zero t = refl
all_first (suc n) zero = refl
all_first (suc n) (suc t) = all_first n t

pub returns-clause-parts : goal.returns-clause-parts
returns-clause-parts c =
    let e = c.in_ok-machine.ensures in
    let items = c.in_ok-phases.ensures in
    λ i. record {
      concrete = e.opening i;
      phase = (ap phase_in items ∙ fun_ext (all_first (most_threads + 1))) i;
      holder = fun_ext e.free i;
      buckets = e.buckets i;
    }

pub returns-clause-opening : goal.returns-clause-opening
returns-clause-opening c =
    let v = c.in_ok-machine.machine in
    let e = c.in_ok-machine.ensures in
    let items = c.in_ok-phases.ensures in
    λ i. record {
      base = (ap state_of e.opening ∙ (opens_so c.args.image.now).0) i;
      phase = (ap phase_in items ∙ fun_ext (all_first (most_threads + 1))) i;
      holder = fun_ext e.free i;
      buckets = e.buckets i;
    }

pub invariant_of-result : goal.invariant_of-result
invariant_of-result c =
    let v = c.in_ok-machine.machine in
    let e = c.in_ok-machine.ensures in
    let items = c.in_ok-phases.ensures in
    let some : 0 < c.args.buckets = omega (arith, some_bucket c.args.buckets c.requires) in
    let opening : pieces_of v (phase_in c.in_ok-phases.phases) ≡ opening_pieces c.args.image.now c.args.buckets =
    returns-clause-opening c in
    record {
      well = rw e.program e.holds;
      come = rw e.program (record { buckets = c.args.buckets; some = some; steps = []; run = sym opening });
      right = rw (e.program, opening) (runs_so c.args.image.now c.args.buckets [] _ some refl).0;
      long = omega (arith, ap length items, length-replicate (most_threads + 1) First);
    }
