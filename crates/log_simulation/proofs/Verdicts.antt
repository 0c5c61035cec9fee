-- What a verdict on a machine says of the run of the program that explains its run.
use Rattle.std.proofs.Common.{◌≡◌, ◌∙◌, ℕ, zero, suc, ◌<◌, ◌≤◌, true, not, List, length, Some, None, inl, inr}
use Rattle.std.proofs.Common.{sym, ap, arith}
use Rattle.std.proofs.lemmas.Bool.{false≢true}
use Rattle.std.proofs.lemmas.Option.{slice_get_within, slice_get_cases}
use Rattle.isa.specs.Programs.{Program as Image}
use Rattle.locals.specs.Threads.{Thread}
use Rattle.machine.specs.ConcreteSteps.{can_move, thread_can_move}
use Rattle.machine.specs.PieceSteps.{CanTakePiece}
use Rattle.machine.specs.Runs.{Step, has_ended}
use Rattle.machine.specs.States.{thread_at}
use Rattle.piece_machine.specs.PieceConcrete.{PieceConcrete, pieces_at}
use Rattle.runner.specs.Reports.{IsVerdict}
use Rattle.runner.specs.declared.report.Verdict.{Verdict}
use Rattle.runner.specs.declared.report.Verdict.TheVariants.{Done, Stuck, Limit}
use Rattle.program.specs.Trees.{Program}
use Rattle.lowering.specs.Pieces.{code_of}
use Rattle.refinement.specs.Pieces.{ExplainedInPieces}
use Rattle.refinement.proofs.Waiting.{done_in_pieces, stuck_in_pieces}
use Rattle.log_simulation.specs.Verdicts.{SaysOf}

-- the numbers of the threads that were made
number_so : (threads : List Thread) (t : ℕ) (x : Thread) → thread_at threads t ≡ Some x
    → (0 < t) × (t ≤ length threads)
number_so threads zero x e = absurd cc
number_so threads (suc n) x e =
    let below = slice_get_within threads n x e in (omega arith, omega (arith, below))

there_so : (threads : List Thread) (t : ℕ) → 0 < t → t ≤ length threads → (x : Thread) × (thread_at threads t ≡ Some x)
there_so threads zero some few = absurd (omega (arith, some))
there_so threads (suc n) some few = elim (slice_get_cases threads n).1 [
  | inl h ↦ (h.0, h.2)
  | inr h ↦ absurd (let past = h.0 in omega (arith, past, few))
]

-- a thread that can take a piece can move
moves_so : (image : Image) (k : PieceConcrete) (t : ℕ) → CanTakePiece image (pieces_at k) t
    → can_move k.concrete t ≡ true
moves_so image k t can =
    ap (λ o. thread_can_move o (thread_at k.concrete.threads t)) can.awake
    ∙ ap (λ o. thread_can_move None o) can.stands ∙ ap not can.goes_on

pub verdict_so : (p : Program) (steps : List Step) (k : PieceConcrete)
    (e : ExplainedInPieces p (code_of p) steps (pieces_at k)) (verdict : Verdict) → IsVerdict k.concrete verdict
    → SaysOf verdict p e.source
verdict_so p steps k e Done is = done_in_pieces p (code_of p) steps (pieces_at k) e (λ t x stands.
    let n = number_so k.concrete.threads t x stands in is t n.0 n.1)
verdict_so p steps k e Stuck is =
    let there = there_so k.concrete.threads is.1 is.2 is.3 in
    stuck_in_pieces p (code_of p) steps (pieces_at k) e
    (λ t can. false≢true (sym (is.0 t) ∙ moves_so (code_of p) k t can)) is.1 there.0 there.1
    (λ ended. false≢true (sym is.4 ∙ ended))
verdict_so p steps k e Limit is = tt
