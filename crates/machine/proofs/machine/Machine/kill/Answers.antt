-- Who is killed stands in no list, and is dying; what always holds is kept.
use Rattle.std.proofs.Common.{rules, List, ◌≡◌, ◌-◌, false, Some, Ok, slice_set, ap, sym, ◌∙◌, subst}
use Rattle.locals.specs.Threads.{Thread, is_dying}
use Rattle.machine.specs.States.{ConcreteState, thread_of}
use Rattle.machine.specs.ConcreteSteps.{can_move}
use Rattle.machine.specs.ConcreteOutside.{killed_in, kill_by, kill_at, kill_of}
use Rattle.machine.specs.Views.{IsWellFormed, ShowsAble, concrete, common, parts_of}
use Rattle.machine.proofs.Ables.{shows_one, drop_spares, put_spares}
use Rattle.machine.proofs.Killing.{keeps_killed}
use Rattle.machine.proofs.machine.Machine.kill.Goals as goal

pub invariant_of-self : goal.invariant_of-self
invariant_of-self c =
    let k : ConcreteState = parts_of c.self.inside.common c.self.inside.threads.items in
    let killed : killed_in k c.args.t
    ≡ parts_of c.drop_sleeper.new.self (slice_set k.threads (c.args.t - 1) c.kill.new.self) =
    λ i. record {
      common = sym c.drop_sleeper.ensures.dropped i;
      threads = slice_set k.threads (c.args.t - 1) (sym c.kill.ensures i);
    } in (
      subst (λ (x : ConcreteState). IsWellFormed c.self.inside.image x) killed
          (keeps_killed c.self.inside.image k c.args.t c.self.invariant.0),
      c.self.invariant.1,
      subst (λ (ts : List Thread). ShowsAble c.refresh.new.self.words (parts_of c.drop_sleeper.new.self ts))
          c.deref.ensures.value
          (shows_one k (parts_of c.drop_sleeper.new.self c.deref.result.now) c.args.t c.self.inside.able.words
          c.refresh.new.self.words c.self.invariant.2
          (λ u ne. ap (λ (ts : List Thread). can_move (parts_of c.drop_sleeper.new.self ts) u) c.deref.ensures.value
          ∙ drop_spares k.common (common c.drop_sleeper.new.self)
          (slice_set k.threads (c.args.t - 1) c.kill.new.self) c.args.t u c.drop_sleeper.ensures.dropped ne
          ∙ put_spares k.common k.threads c.args.t c.kill.new.self u (search rules) ne)
          c.refresh.ensures.kept c.refresh.ensures.right),
    )

pub returns-clause-holds : goal.returns-clause-holds
returns-clause-holds c = (invariant_of-self c).0

pub returns-clause-done : goal.returns-clause-done
returns-clause-done c =
    let k : ConcreteState = parts_of c.self.inside.common c.self.inside.threads.items in
    let same : concrete c.args.self.now ≡ k = ap concrete (sym c.self.view_is) in
    let stands : thread_of k c.args.t ≡ Some c.local.result.now =
    sym (ap (λ (q : ConcreteState). thread_of q c.args.t) same) ∙ c.local.ensures in
    let dying : is_dying c.local.result.now ≡ false = cc in
    ap (λ (q : ConcreteState). kill_of q c.args.t) same
    ∙ (ap (kill_at k c.args.t) stands
    ∙ (ap (kill_by k c.args.t) dying
    ∙ (λ i. Ok (
      record {
        common = sym c.drop_sleeper.ensures.dropped i;
        threads = slice_set k.threads (c.args.t - 1) (sym c.kill.ensures i);
      },
      sym c.put-2.ensures i,
    ))))
