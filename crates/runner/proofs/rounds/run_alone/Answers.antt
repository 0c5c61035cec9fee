use Rattle.std.proofs.Common.{◌≡◌, ◌∙◌, OnOk, Result, ap, arith, inl, length, refl, subst, sym}
use Rattle.machine.specs.ConcreteSteps.{can_move}
use Rattle.machine.specs.States.{ConcreteState}
use Rattle.runner.specs.Orders.{HasMade}
use Rattle.runner.specs.Views.{log_state}
use Rattle.runner.specs.declared.attempt.Attempt.{Attempt}
use Rattle.runner.specs.declared.fault.RunFault.{RunFault}
use Rattle.runner.proofs.Ordering.{alone_more}
use Rattle.runner.proofs.rounds.run_alone.Goals as goal

pub loop-moves-init : goal.loop-moves-init
loop-moves-init g c = record {
  order = inl refl;
  given = refl;
  moves = λ is. ap (λ (k : ConcreteState). can_move k c.args.t) (sym c.machine.ensures.concrete)
      ∙ sym c.can_move-moves.ensures ∙ is;
}

-- an entry that ended otherwise than with an access
pub loop-moves-preserved-then-not-go_on : goal.loop-moves-preserved-then-not-go_on
loop-moves-preserved-then-not-go_on g c =
    let p = g.J.RunName.program in
    let t = c.args.t in
    let v = c.loop-moves.invariant in
    let m = c.machine-in-loop-moves.ensures in
    let old = log_state c.loop-moves.shared in
    let new = log_state c.go_on.new.self in
    let one : c.threads.result ≡ length old.concrete.concrete.threads =
    c.threads.ensures.value ∙ ap (λ (k : ConcreteState). length k.threads) m.concrete in
    let made = subst (λ (o : Result Attempt RunFault). OnOk o (HasMade p t old new)) c.in_ok-told.was
    c.if-not-go_on.ensures.entry in
    record {
      order = alone_more p g.J.RunName.limit t (log_state c.args.shared.now) old new m.legal
          (omega (arith, c.if-threads-eq1.true, one)) (v.moves c.loop-moves-test.true) v.order made;
      given = c.if-not-go_on.ensures.given ∙ v.given;
      moves = λ is. ap (λ (k : ConcreteState). can_move k t) (sym c.machine-then-not-go_on.ensures.concrete)
          ∙ sym c.can_move-moves-then-not-go_on.ensures ∙ is;
    }

pub loop-moves-preserved : goal.loop-moves-preserved
loop-moves-preserved g c =
    let p = g.J.RunName.program in
    let t = c.args.t in
    let v = c.loop-moves.invariant in
    let m = c.machine-in-loop-moves.ensures in
    let e = c.if-not-go_on.ensures in
    let old = log_state c.loop-moves.shared in
    let new = log_state c.go_on.new.self in
    let one : c.threads.result ≡ length old.concrete.concrete.threads =
    c.threads.ensures.value ∙ ap (λ (k : ConcreteState). length k.threads) m.concrete in
    record {
      order = alone_more p g.J.RunName.limit t (log_state c.args.shared.now) old new m.legal
          (omega (arith, c.if-threads-eq1.true, one)) (v.moves c.loop-moves-test.true) v.order e.entry;
      given = e.given ∙ v.given;
      moves = λ is. e.tried.1;
    }
