use Rattle.std.proofs.Common.{Some, subst, sym}
use Rattle.piece_machine.specs.PieceDetermined.{IsFit}
use Rattle.piece_machine.specs.PieceViews.{parts}
use Rattle.runner.specs.Logs.{Runs, opening}
use Rattle.runner.specs.Views.{LogState, log_state}
use Rattle.runner.proofs.Noting.{around_at, free_at}
use Rattle.runner.proofs.Ordering as ordering
use Rattle.runner.proofs.RoundSteps.{first_turn, made_turn, still_turn, tried_on, turn_made}
use Rattle.runner.proofs.Unrolling.{holds}
use Rattle.runner.proofs.rounds.take_turns.Goals as goal

pub loop-made-init : goal.loop-made-init
loop-made-init g c =
    let p = g.J.RunName.program in
    let h = log_state c.args.shared.now in
    let m = c.piece_machine in
    let t = c.in-Some.t in
    record {
      past = c.requires.past;
      waits = c.requires.waits;
      legal = m.ensures.legal;
      fit = holds p c.args.shared.now.log h.concrete m.ensures.legal;
      turn = first_turn p g.J.RunName.limit c.steps-before.result h (Some t) c.steps-before.ensures.value
          c.in-Some.ensures.number
          (free_at p m.result.now.view.program h.concrete (parts m.result.now) 1 (Some t) m.ensures.program m.ensures.parts
          c.in-Some.ensures.free);
      within = c.steps-before.ensures.within;
      order = λ start begun. ordering.turn_first p g.J.RunName.limit start h t begun c.in-Some.ensures.number.0
          (free_at p m.result.now.view.program h.concrete (parts m.result.now) 1 (Some t) m.ensures.program m.ensures.parts
          c.in-Some.ensures.free);
    }

pub loop-made-preserved-then-made : goal.loop-made-preserved-then-made
loop-made-preserved-then-made g c =
    let p = g.J.RunName.program in
    let limit = g.J.RunName.limit in
    let v = c.loop-made.invariant in
    let e = c.in_ok-made.ensures in
    let old = log_state c.loop-made.shared in
    let new = log_state c.take_turn.new.shared in
    let m = c.piece_machine-then-made in
    let u = c.in-Some-next_around.u in
    let n = c.in-Some-next_around.ensures in
    record {
      past = e.past;
      waits = e.waits;
      legal = m.ensures.legal;
      fit = holds p new.log new.concrete m.ensures.legal;
      turn = turn_made p limit c.loop-made.before old new c.loop-made.t (Some u) n.number v.turn.3.0
          (made_turn c.in_ok-made.made p limit old new c.loop-made.t c.if-made.true e.turned)
          (around_at p m.result.now.view.program new.concrete (parts m.result.now) c.loop-made.t (Some u) m.ensures.program
          m.ensures.parts n.free);
      within = v.within;
      order = λ start begun. ordering.turn_made p limit start old new c.loop-made.t u v.legal (v.order start begun)
          (e.entry c.if-made.true)
          (around_at p m.result.now.view.program new.concrete (parts m.result.now) c.loop-made.t (Some u) m.ensures.program
          m.ensures.parts n.free);
    }

pub loop-made-preserved : goal.loop-made-preserved
loop-made-preserved g c =
    let p = g.J.RunName.program in
    let limit = g.J.RunName.limit in
    let v = c.loop-made.invariant in
    let e = c.in_ok-made.ensures in
    let old = log_state c.loop-made.shared in
    let new = log_state c.take_turn.new.shared in
    let t = c.loop-made.t in
    let u = c.in-Some-next_untried.u in
    let n = c.in-Some-next_untried.ensures in
    let still = still_turn c.in_ok-made.made p limit old new t c.if-made.false e.turned in
    record {
      past = e.past;
      waits = e.waits;
      legal = subst (λ (h : LogState). Runs p (opening p) h.log h.concrete) (sym still.0) v.legal;
      fit = subst (λ (h : LogState). IsFit p h.concrete) (sym still.0) v.fit;
      turn = n.next;
      within = n.within;
      order = λ start begun. ordering.turn_still p limit start old new t u (v.order start begun) still n.around;
    }

-- nobody's turn is next
pub returns-in_default-clause-order : goal.returns-in_default-clause-order
returns-in_default-clause-order g c = λ start begun. (begun.0, begun.1)

pub returns-in_default-next_around-clause-order : goal.returns-in_default-next_around-clause-order
returns-in_default-next_around-clause-order g c = λ start begun.
    let v = c.loop-made.invariant in
    ordering.turn_last g.J.RunName.program g.J.RunName.limit start (log_state c.loop-made.shared)
    (log_state c.take_turn.new.shared) c.loop-made.t v.legal (v.order start begun)
    (c.in_ok-made.ensures.entry c.if-made.true)

pub returns-in_default-next_untried-clause-order : goal.returns-in_default-next_untried-clause-order
returns-in_default-next_untried-clause-order g c = λ start begun.
    let p = g.J.RunName.program in
    let limit = g.J.RunName.limit in
    let v = c.loop-made.invariant in
    let old = log_state c.loop-made.shared in
    let new = log_state c.take_turn.new.shared in
    let t = c.loop-made.t in
    ordering.turn_none p limit start old new t (v.order start begun)
    (still_turn c.in_ok-made.made p limit old new t c.if-made.false c.in_ok-made.ensures.turned)

pub next_untried-requires-clause-tried : goal.next_untried-requires-clause-tried
next_untried-requires-clause-tried g c =
    let p = g.J.RunName.program in
    let limit = g.J.RunName.limit in
    let old = log_state c.loop-made.shared in
    let new = log_state c.take_turn.new.shared in
    let t = c.loop-made.t in
    tried_on p limit c.loop-made.before old new t c.loop-made.invariant.turn.3
    (still_turn c.in_ok-made.made p limit old new t c.if-made.false c.in_ok-made.ensures.turned)
