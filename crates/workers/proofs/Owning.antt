-- Whose entries come in.
use Rattle.std.proofs.Common.{◌∙◌, ℕ, ◌++◌, List, [], ◌∷◌, refl, ap, sym, inl, append_assoc, append-nil}
use Rattle.isa.specs.Programs.{Program}
use Rattle.machine.specs.declared.event.Entry.{Entry}
use Rattle.runner.specs.declared.next.After.{After}
use Rattle.runner.specs.Views.{LogState, PieceView, ShareView}
use Rattle.workers.specs.Handed.{ComeIn, StopsAt}
use Rattle.workers.specs.Owning.{GrowsBy, MakesOwn, MayGoAlone}
use Rattle.workers.specs.SharedRuns.{SharedRunView}

-- of pieces of a thread that came in
come_own : (p : Program) (limit : ℕ) (old : SharedRunView) (t : ℕ) (pieces : List PieceView) (new : SharedRunView)
    (share share' : ShareView) → ComeIn p limit old t pieces new share share' → GrowsBy t old.shared.log new.shared.log
come_own p limit old t [] new share share' come = record {
  entries = [];
  grows = ap (λ (d : SharedRunView). d.shared.log) come.0 ∙ sym (append-nil old.shared.log);
  own = tt;
}
come_own p limit old t (piece ∷ pieces) new share share' come =
    let takes = come.2.takes in
    let rest = come_own p limit come.0 t pieces new come.1 share' come.3 in
    let e : Entry = record { thread = t; local = piece.count; event = takes.event } in
    record {
      entries = e ∷ rest.entries;
      grows = rest.grows ∙ ap (λ (log : List Entry). log ++ rest.entries) takes.log
          ∙ append_assoc old.shared.log (e ∷ []) rest.entries;
      own = (refl, rest.own);
    }

-- where one was refused behind them
pub stopped_own : (p : Program) (limit : ℕ) (old : SharedRunView) (t : ℕ) (pieces : List PieceView) (new : SharedRunView)
    (share share' : ShareView) (after : After) → StopsAt p limit old t pieces new share share' after
    → MakesOwn p limit t old new
stopped_own p limit old t pieces new share share' after stops =
    let before = come_own p limit old t _ stops.mid share share' stops.come in
    record {
      mid = stops.mid;
      own = before;
      alone = inl (ap (λ (h : LogState). h.log) stops.away.run);
    }

-- and where all came in
pub gone_own : (p : Program) (limit : ℕ) (old : SharedRunView) (t : ℕ) (pieces : List PieceView) (mid : SharedRunView)
    (share share' : ShareView) (new : SharedRunView) → ComeIn p limit old t pieces mid share share'
    → MayGoAlone p limit t mid new → MakesOwn p limit t old new
gone_own p limit old t pieces mid share share' new come alone = record {
  mid = mid;
  own = come_own p limit old t pieces mid share share' come;
  alone = alone;
}
