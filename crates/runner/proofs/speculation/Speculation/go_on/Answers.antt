-- It goes on by the program: by local steps, and by the access behind them wherever its word is there.
use Rattle.std.proofs.Common.{◌+◌, ◌-◌, List, arith, refl, sym, subst}
use Rattle.isa.specs.Programs.{Program}
use Rattle.locals.specs.Looks.{look}
use Rattle.locals.specs.Walks.{Walks}
use Rattle.machine.specs.declared.speculation.SpeculativeAccess.{SpeculativeAccess}
use Rattle.runner.specs.Speculations.{HasCome, IsAccess, IsPriced, MakesOne, SpeculationView}
use Rattle.runner.proofs.Accesses.{made_alike}
use Rattle.runner.proofs.Speculating.{accessed, alive, priced, ran, stayed, walked}
use Rattle.runner.proofs.speculation.Speculation.go_on.Goals as goal

pub invariant_of-self : goal.invariant_of-self
invariant_of-self g c =
    let s = c.self.inside in
    let p = g.J.RunName.program in
    let n = c.walk-count.result.0 in
    let new = c.walk-count.new.self in
    let walks = subst (λ (q : Program). Walks q s.thread (256 - s.count) c.args.words.now c.walk-count.new.words s.here new n
    c.walk-count.result.1) c.requires.image c.walk-count.ensures.walks in
    let i = c.self.invariant in (
      ran p s.thread s.count n s.origin s.here new s.made.items i.0
          (stayed p s.thread (256 - s.count) n c.args.words.now c.walk-count.new.words s.here new c.walk-count.result.1 walks
          c.in_default.is),
      record {
        cost_is = i.1.cost_is;
        turn = omega (arith, walks.within, i.1.turn);
        few = i.1.few;
        bound = i.1.bound;
      },
      i.2,
    )

pub invariant_of-self-2 : goal.invariant_of-self-2
invariant_of-self-2 g c =
    let s = c.self.inside in
    let p = g.J.RunName.program in
    let n = c.walk-count.result.0 in
    let new = c.walk-count.new.self in
    let told = c.in-Some.access in
    let walks = subst (λ (q : Program). Walks q s.thread (256 - s.count) c.args.words.now c.walk-count.new.words s.here new n
    c.walk-count.result.1) c.requires.image c.walk-count.ensures.walks in
    let i = c.self.invariant in
    let w = walked p s.thread (256 - s.count) n c.args.words.now c.walk-count.new.words s.here new c.walk-count.result.1 told
    walks c.in-Some.is in
    let mid = ran p s.thread s.count n s.origin s.here w.0 s.made.items i.0 w.1 in
    let m = made_alike (look p s.thread w.0) c.args.words.now
    (record { told = told; words = c.walk-count.new.words; thread = new }) w.2 in
    let a : SpeculativeAccess = record { local = s.count + n; access = told; after = c.load-after.result } in
    let is : IsAccess (look p s.thread w.0) a new =
    λ words finds. m.alike words c.load-after.result c.load-after.ensures finds.0 finds.1 in
    let lives = alive c.walk-count.result.1 told c.in-Some.is c.walk-count.ensures.lives in
    let all = accessed p s.thread (s.count + n) s.origin w.0 new s.made.items a mid refl is lives in
    let turn : IsPriced s.made.items (s.count + n) s.cost = record {
      cost_is = i.1.cost_is;
      turn = omega (arith, walks.within, i.1.turn);
      few = i.1.few;
      bound = i.1.bound;
    } in
    let cost = priced s.made.items a (s.count + n) s.cost turn refl
    (omega (arith, c.if-len-ge-MOST_ACCESSES.false, c.len.ensures)) in
    let same = sym c.push_reserved.ensures.items in (
      subst (λ (l : List SpeculativeAccess). HasCome p s.thread s.origin l 0 new) same all,
      subst (λ (l : List SpeculativeAccess). IsPriced l 0 (s.cost + (s.count + n + 1))) same cost,
      omega (arith, i.2, c.push_reserved.ensures.capacity),
    )

pub returns-clause-made : goal.returns-clause-made
returns-clause-made g c = λ yes.
    let s = c.self.inside in
    let p = g.J.RunName.program in
    let n = c.walk-count.result.0 in
    let here = c.walk-count.new.self in
    let words = c.walk-count.new.words in
    let told = c.in-Some.access in
    let walks = subst (λ (q : Program). Walks q s.thread (256 - s.count) c.args.words.now words s.here here n
    c.walk-count.result.1) c.requires.image c.walk-count.ensures.walks in
    let w = walked p s.thread (256 - s.count) n c.args.words.now words s.here here c.walk-count.result.1 told walks
    c.in-Some.is in
    let new : SpeculationView = record {
      thread = s.thread;
      origin = s.origin;
      made = c.push_reserved.new.self.items;
      count = 0;
      here = here;
    } in
    let one : MakesOne p (record {
      thread = s.thread;
      origin = s.origin;
      made = s.made.items;
      count = s.count;
      here = s.here;
    }) c.args.words.now new words = record {
      more = n;
      before = w.0;
      access = told;
      after = c.load-after.result;
      goes = w.1;
      makes = w.2;
      leaves = c.load-after.ensures;
      made = c.push_reserved.ensures.items;
    } in
    (refl, subst (λ (old : SpeculationView). MakesOne p old c.args.words.now new words) c.self.view_is one)
