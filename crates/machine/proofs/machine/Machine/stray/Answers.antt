-- What always holds is kept.
use Rattle.std.proofs.Common.{List, ap, sym, ◌∙◌, subst}
use Rattle.locals.specs.Threads.{Thread}
use Rattle.machine.specs.ConcreteSteps.{can_move}
use Rattle.machine.specs.States.{Common, ConcreteState}
use Rattle.machine.specs.Views.{IsWellFormed, ShowsAble, common, parts_of}
use Rattle.machine.proofs.Ables.{shows_one, drop_spares}
use Rattle.machine.proofs.Outside.{keeps_dropped}
use Rattle.machine.proofs.machine.Machine.stray.Goals as goal

pub invariant_of-self : goal.invariant_of-self
invariant_of-self c =
    let k : ConcreteState = parts_of c.self.inside.common c.self.inside.threads.items in (
      subst (λ (x : Common). IsWellFormed c.self.inside.image (record { common = x; threads = k.threads }))
          (sym c.drop_sleeper.ensures.dropped)
          (keeps_dropped c.self.inside.image k c.args.t c.self.invariant.0),
      c.self.invariant.1,
      subst (λ (ts : List Thread). ShowsAble c.refresh.new.self.words (parts_of c.drop_sleeper.new.self ts))
          c.deref.ensures.value
          (shows_one k (parts_of c.drop_sleeper.new.self c.deref.result.now) c.args.t c.self.inside.able.words
          c.refresh.new.self.words c.self.invariant.2
          (λ u ne. ap (λ (ts : List Thread). can_move (parts_of c.drop_sleeper.new.self ts) u) c.deref.ensures.value
          ∙ drop_spares k.common (common c.drop_sleeper.new.self) k.threads c.args.t u
          c.drop_sleeper.ensures.dropped ne)
          c.refresh.ensures.kept c.refresh.ensures.right),
    )

pub returns-clause-holds : goal.returns-clause-holds
returns-clause-holds c = (invariant_of-self c).0
