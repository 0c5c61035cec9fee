-- A kill from outside is a step of the machine with pieces: the thread has left its call, and its buckets are free.
use Rattle.std.proofs.Common.{◌≡◌, ℕ, ◌==◌, Bool, true, false, not, Option, Some, None, List, [], Ok}
use Rattle.std.proofs.Common.{slice_set, inl, inr, refl, sym, ap, ◌∙◌}
use Rattle.std.proofs.Math.Path.{fun_ext}
use Rattle.std.proofs.lemmas.Bool.{both_ways, cases_eq}
use Rattle.words.specs.Updates.{put}
use Rattle.isa.specs.Programs.{Program}
use Rattle.buckets.specs.Places.{with_place}
use Rattle.buckets.specs.Sleepers.{bucket_count, holder_of}
use Rattle.futexcalls.specs.declared.pieces.FutexCall.{FutexCall}
use Rattle.futexcalls.specs.declared.pieces.FutexPhase.{FutexPhase}
use Rattle.futexcalls.specs.declared.pieces.FutexPhase.TheVariants.{First}
use Rattle.futexcalls.specs.Pieces.{held_at}
use Rattle.futexcalls.proofs.SameHolders.{same_count, same_holders}
use Rattle.locals.specs.Threads.{Thread, is_dying}
use Rattle.machine.specs.declared.event.Event.{Event}
use Rattle.machine.specs.States.{ConcreteState, state_of, thread_of}
use Rattle.machine.specs.Runs.{killed_to}
use Rattle.machine.specs.ConcreteOutside.{kill_of}
use Rattle.machine.specs.ConcretePieces.{pieces_of}
use Rattle.machine.specs.PieceStates.{PieceState, held, called, IsHeldRight}
use Rattle.machine.specs.PieceSteps.{killed_piece}
use Rattle.machine.specs.Views.{View, concrete}
use Rattle.machine.proofs.Killing.{kills_so, kill_told}
use Rattle.machine.proofs.Placing.{put-here, put-there}
use Rattle.proof_pieces.proofs.Calls.{asks_alive}
use Rattle.proof_pieces.proofs.Runs.{held_kept}
use Rattle.piece_machine.specs.PieceConcrete.{PieceConcrete, pieces_at, killed}
use Rattle.piece_machine.specs.PieceDetermined.{IsFit}
use Rattle.piece_machine.specs.PieceViews.{phase_in, parts, kill_step, IsKept, Kills}
use Rattle.piece_machine.proofs.OwnCalls.{one_thread, made_of}
use Rattle.piece_machine.proofs.Owns.{phase_put, has_phase}

-- a dying thread stands outside calls
dying_first : (p : Program) (s : PieceState) (t : ℕ) (x : Thread) → IsHeldRight p s → s.base.thread t ≡ Some x
    → is_dying x ≡ true → s.phase t ≡ First
dying_first p s t x right stands dying = elim (right.apart t) [
  | inl f ↦ f
  | inr w ↦ absurd (both_ways (is_dying x) (ap is_dying (one_thread x w.thread (sym stands ∙ w.stands))
      ∙ asks_alive p t w.thread w.call w.go w.asks) dying)
]

-- what is put where it stood changes nothing
unput : (f : ℕ → FutexPhase) (t : ℕ) (c : FutexPhase) → f t ≡ c → put f t c ≡ f
unput f t c e = fun_ext (λ u. elim (cases_eq u t) [
  | inl q ↦ put-here f t c u q ∙ sym e ∙ ap f (sym q)
  | inr ne ↦ put-there f t c u ne
])

not_true : (b : Bool) → false ≡ not b → b ≡ true
not_true true h = refl
not_true false h = absurd cc

-- the state behind a kill
killed_is : (p : Program) (k : PieceConcrete) (c : ConcreteState) (t : ℕ) (x : Thread) (begins : Bool)
    → IsHeldRight p (pieces_at k) → thread_of k.concrete t ≡ Some x → begins ≡ not (is_dying x)
    → state_of c ≡ killed_to begins (state_of k.concrete) t
    → pieces_at (killed p k t c) ≡ killed_piece p begins (pieces_at k) t
killed_is p k c t x true right stands is state = λ i. record {
  base = state i;
  phase = put k.phase t First;
  holder = with_place k.holder (held p (pieces_at k) t) None;
  buckets = k.buckets;
}
killed_is p k c t x false right stands is state =
    let first : k.phase t ≡ First = dying_first p (pieces_at k) t x right stands (not_true (is_dying x) is) in
    let none : held p (pieces_at k) t ≡ [] =
    ap (λ f. held_at k.buckets f (called p t (thread_of k.concrete t))) first in λ i. record {
      base = state i;
      phase = unput k.phase t First first i;
      holder = ap (λ bs. with_place k.holder bs None) none i;
      buckets = k.buckets;
    }

-- a kill is a step of the machine with pieces, and keeps what always holds
pub kill_done : (p : Program) (k : PieceConcrete) (c : ConcreteState) (t : ℕ) (e : Event) → IsFit p k
    → kill_of k.concrete t ≡ Ok (c, e)
    → Kills p (pieces_at k) t e (pieces_at (killed p k t c)) × IsFit p (killed p k t c)
kill_done p k c t e fit done =
    let r = kills_so p k.concrete c t e fit.well done in
    let s : Kills p (pieces_at k) t e (pieces_at (killed p k t c)) = record {
      step = record {
        kills = r.1;
        after = killed_is p k c t r.1.thread (e.value == 1) fit.right r.1.stands r.1.begins_so r.1.after;
      };
      doing = kill_told k.concrete c t e done;
      told = r.0;
    } in (
      s,
      record {
        well = r.2;
        right = held_kept p (pieces_at k) (pieces_at (killed p k t c)) (kill_step t (e.value == 1)) fit.right s.step;
      },
    )

-- what is kept behind it, where the thread gave up what its phase says
pub killed_parts : (v v1 v' : View) (phases : List FutexPhase) (t : ℕ) (call : Option FutexCall) (phase : FutexPhase)
    → IsKept v phases → (thread_of (concrete v) t ≡ None → ⊥) → call ≡ called v.program t (thread_of (concrete v) t)
    → phase ≡ phase_in phases t
    → holder_of v1.sleepers ≡ with_place (holder_of v.sleepers) (held_at (bucket_count v.sleepers) phase call) None
    → bucket_count v1.sleepers ≡ bucket_count v.sleepers → v'.sleepers.holders ≡ v1.sleepers.holders
    → parts (record { view = v'; phases = slice_set phases t First })
    ≡ killed v.program (parts (record { view = v; phases = phases })) t (concrete v')
killed_parts v v1 v' phases t call phase kept made calls at holders count held_as =
    let m = made_of (thread_of (concrete v) t) made in
    let put_first = phase_put phases t First (has_phase v phases t m.0 kept m.1) in
    let gave : holder_of v'.sleepers
    ≡ with_place (holder_of v.sleepers) (held v.program (pieces_of v (phase_in phases)) t) None =
    same_holders v1.sleepers v'.sleepers held_as ∙ holders ∙ (λ i. with_place (holder_of v.sleepers)
    (held_at (bucket_count v.sleepers) (at i) (calls i)) None) in λ i. record {
      concrete = concrete v';
      phase = put_first i;
      holder = gave i;
      buckets = (same_count v1.sleepers v'.sleepers held_as ∙ count) i;
    }
