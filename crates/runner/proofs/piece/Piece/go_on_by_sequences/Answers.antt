use Rattle.std.proofs.Common.{◌≡◌, ◌+◌, ap, sym, ◌∙◌, arith}
use Rattle.isa.specs.Programs.{Program}
use Rattle.locals.specs.Steps.{local_after}
use Rattle.runner.proofs.Going.{after_sum}
use Rattle.runner.proofs.piece.Piece.go_on_by_sequences.Goals as goal

pub returns-clause-reached : goal.returns-clause-reached
returns-clause-reached g c =
    let s = c.self.inside in
    let p = g.J.RunName.program in
    let more = c.run_by_sequences.result in
    let e : s.count + more ≡ more + s.count = omega arith in
    ap (λ k. local_after p s.thread k s.origin) e
    ∙ after_sum p s.thread s.count more s.origin s.here c.self.invariant.0
    ∙ ap (λ (q : Program). local_after q s.thread more s.here) (sym c.requires.image)
    ∙ c.run_by_sequences.ensures.reached

pub invariant_of-self : goal.invariant_of-self
invariant_of-self g c = let h = returns-clause-reached g c in (h, omega arith)
