-- What comes from outside, as functions, is of the relation.
use Rattle.std.proofs.Common.{◌≡◌, ℕ, Result, Ok, Err, refl, ap}
use Rattle.std.proofs.Common.{subst}
use Rattle.isa.specs.Programs.{Program}
use Rattle.machine.specs.declared.event.Event.{Event}
use Rattle.machine.specs.declared.event.StepFault.{StepFault}
use Rattle.machine.specs.declared.event.StepFault.TheVariants.{CannotMove}
use Rattle.machine.specs.States.{ConcreteState}
use Rattle.machine.specs.ConcreteOutside.{stray_of, kill_of}
use Rattle.machine.specs.PieceStates.{opening_pieces}
use Rattle.machine.proofs.Killing.{kill_refused_so}
use Rattle.machine.proofs.Outside.{strays_so, stray_refused_so, stray_told}
use Rattle.machine.proofs.Stepping.{opens_so}
use Rattle.proof_pieces.proofs.Runs.{held_kept}
use Rattle.piece_machine.specs.PieceViews.{Strays, Kills, stray_step}
use Rattle.piece_machine.specs.PieceConcrete.{PieceConcrete, Outcome, pieces_at, whole_at, killed_at}
use Rattle.piece_machine.specs.PieceDetermined.{IsFit, PieceStraysSo, PieceStrayRefusedSo, PieceKillsSo}
use Rattle.piece_machine.specs.PieceDetermined.{PieceKillRefusedSo, PiecesOpenSo}
use Rattle.piece_machine.proofs.Killed.{kill_done}
use Rattle.piece_machine.proofs.Refused.{whole_err}

inside : (x y : PieceConcrete × Event) → (let a : Outcome = Ok x in a) ≡ (let b : Outcome = Ok y in b) → x ≡ y
inside x y h = cc

killed_err : (p : Program) (k : PieceConcrete) (t : ℕ) (r : Result (ConcreteState × Event) StepFault) (f : StepFault)
    → killed_at p k t r ≡ Err f → r ≡ Err f
killed_err p k t (Ok q) f h = absurd cc
killed_err p k t (Err g) f h = let e : g ≡ f = cc in ap (λ x. Err x) e

-- a wake from outside
pub stray_done : (p : Program) (k : PieceConcrete) (c : ConcreteState) (t : ℕ) (e : Event) → IsFit p k
    → stray_of k.concrete t ≡ Ok (c, e)
    → Strays p (pieces_at k) t e (pieces_at (record k { concrete = c })) × IsFit p (record k { concrete = c })
stray_done p k c t e fit done =
    let r = strays_so p k.concrete c t e fit.well done in
    let s : Strays p (pieces_at k) t e (pieces_at (record k { concrete = c })) =
    record { step = record { strays = r.1; others = refl }; doing = stray_told k.concrete c t e done; told = r.0 } in (
      s,
      record {
        well = r.2;
        right = held_kept p (pieces_at k) (pieces_at (record k { concrete = c })) (stray_step t e.value) fit.right s.step;
      },
    )

strays_by : (p : Program) (k k' : PieceConcrete) (t : ℕ) (e : Event) (r : Result (ConcreteState × Event) StepFault)
    → IsFit p k → stray_of k.concrete t ≡ r → whole_at k r ≡ Ok (k', e)
    → Strays p (pieces_at k) t e (pieces_at k') × IsFit p k'
strays_by p k k' t e (Ok q) fit done h =
    subst (λ (z : PieceConcrete × Event). Strays p (pieces_at k) t z.1 (pieces_at z.0) × IsFit p z.0)
    (inside _ (k', e) h) (stray_done p k q.0 t q.1 fit done)
strays_by p k k' t e (Err f) fit done h = absurd cc

pub piece_strays_so : PieceStraysSo
piece_strays_so p k k' t e fit h = strays_by p k k' t e (stray_of k.concrete t) fit refl h

pub piece_stray_refused_so : PieceStrayRefusedSo
piece_stray_refused_so k t = (
  λ h. (stray_refused_so k.concrete t).0 (whole_err k (stray_of k.concrete t) CannotMove h),
  λ h. ap (whole_at k) ((stray_refused_so k.concrete t).1 h),
)

-- a kill
kills_by : (p : Program) (k k' : PieceConcrete) (t : ℕ) (e : Event) (r : Result (ConcreteState × Event) StepFault)
    → IsFit p k → kill_of k.concrete t ≡ r → killed_at p k t r ≡ Ok (k', e)
    → Kills p (pieces_at k) t e (pieces_at k') × IsFit p k'
kills_by p k k' t e (Ok q) fit done h =
    subst (λ (z : PieceConcrete × Event). Kills p (pieces_at k) t z.1 (pieces_at z.0) × IsFit p z.0)
    (inside _ (k', e) h) (kill_done p k q.0 t q.1 fit done)
kills_by p k k' t e (Err f) fit done h = absurd cc

pub piece_kills_so : PieceKillsSo
piece_kills_so p k k' t e fit h = kills_by p k k' t e (kill_of k.concrete t) fit refl h

pub piece_kill_refused_so : PieceKillRefusedSo
piece_kill_refused_so p k t = (
  λ h. (kill_refused_so k.concrete t).0 (killed_err p k t (kill_of k.concrete t) CannotMove h),
  λ h. ap (killed_at p k t) ((kill_refused_so k.concrete t).1 h),
)

pub pieces_open_so : PiecesOpenSo
pieces_open_so p n = λ i. record (opening_pieces p n) { base = (opens_so p).0 i }
