-- The parts are those of the opening.
use Rattle.std.proofs.Common.{◌≡◌, ap, sym, ◌∙◌, subst}
use Rattle.machine.specs.States.{ConcreteState, opening_concrete}
use Rattle.machine.specs.Views.{IsWellFormed, ShowsAble, concrete_of, parts_of}
use Rattle.machine.proofs.Ables.{shows_opening}
use Rattle.machine.proofs.Stepping.{opens_so}
use Rattle.machine.proofs.Whole.{opened}
use Rattle.machine.proofs.machine.Machine.new.Goals as goal

pub returns-clause-opening : goal.returns-clause-opening
returns-clause-opening c =
    let v = c.in_ok-new.field-0 in
    let e = c.in_ok-new.ensures in
    let threads = c.in_ok-opening_threads.field-0.items in
    ap (concrete_of v.words v.sleepers threads) e.output
    ∙ opened c.args.image.now v.words v.sleepers threads e.words e.empty e.awake
    c.in_ok-opening_threads.ensures.threads e.threads

pub invariant_of-result : goal.invariant_of-result
invariant_of-result c =
    let is : parts_of c.in_ok-new.field-0 c.in_ok-opening_threads.field-0.items
    ≡ opening_concrete c.args.image.now = returns-clause-opening c in (
      rw (c.in_ok-copy.ensures, is) (opens_so c.args.image.now).1,
      (rw c.in_ok-copy.ensures c.in_ok-opening_threads.ensures.space, rw c.in_ok-copy.ensures c.in_ok-new-2.ensures),
      subst (λ (k : ConcreteState). ShowsAble c.put.new.self.words k) (sym is)
          (shows_opening c.args.image.now c.new-able.result.words c.put.new.self.words c.new-able.ensures
          c.put.ensures.here c.put.ensures.others),
    )

pub returns-clause-holds : goal.returns-clause-holds
returns-clause-holds c =
    subst (λ (k : ConcreteState). IsWellFormed c.args.image.now k) (sym (returns-clause-opening c)) (opens_so c.args.image.now).1
