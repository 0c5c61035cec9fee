-- The accesses are entries of the log, one after the other.
use Rattle.std.proofs.Common.{◌≡◌, ◌+◌, ◌-◌, ◌++◌, ◌∙◌, List, length, length-append, Some, true, ap, sym, subst, arith}
use Rattle.locals.specs.Threads.{Thread}
use Rattle.machine.specs.declared.event.Entry.{Entry}
use Rattle.machine.specs.declared.speculation.SpeculativeAccess.{SpeculativeAccess}
use Rattle.piece_machine.specs.PieceViews.{parts}
use Rattle.piece_machine.specs.Speculated.{CommitsFrom}
use Rattle.runner.specs.Legal.{IsLegal}
use Rattle.runner.specs.Speculations.{IsAtHand, SpeculationView, TakesAll, access_entries, speculation_at}
use Rattle.runner.specs.Views.{LogState, ShareView, SharedView, log_state}
use Rattle.runner.proofs.Committing.{CameIn, came_in, entries_count}
use Rattle.runner.proofs.shared.Shared.commit.Given as given
use Rattle.runner.proofs.shared.Shared.commit.Goals as goal

came : (g : given.Over) (c : goal.After-settle g)
    → CameIn g.J.RunName.program g.J.RunName.outside g.J.RunName.limit c.args.t c.self.inside.machine c.commit.new.self
    c.speculation.inside.here c.speculation.inside.made.items c.self.inside.log.items c.self.inside.left
    c.self.inside.limit c.self.inside.kills
came g c =
    let s = c.self.inside in
    let q = c.speculation.inside in
    let t = c.args.t in
    let old : SharedView = record { log = s.log.items; room = s.log.room; machine = s.machine; given = s.given } in
    let seen : SpeculationView = record {
      thread = q.thread;
      origin = q.origin;
      made = q.made.items;
      count = q.count;
      here = q.here;
    } in
    let hand : IsAtHand g.J.RunName.limit old t seen =
    subst (λ (x : SpeculationView). IsAtHand g.J.RunName.limit old t x) (sym c.speculation.view_is)
    (subst (λ (y : SharedView). IsAtHand g.J.RunName.limit y t c.args.speculation.now) (sym c.self.view_is)
    (c.if-not-is_ready.ensures.ready (λ i. true))) in
    let did = c.if-not-commit.ensures.made (λ i. true) in
    let commits = subst (λ (m : List SpeculativeAccess). CommitsFrom s.machine t did.origin m c.commit.new.self q.here)
    c.as_slice-made.ensures.value did.commits in
    came_in g.J.RunName.program g.J.RunName.outside g.J.RunName.limit t s.machine c.commit.new.self did.origin q.here
    q.made.items s.log.items s.left s.limit s.kills did.stands hand.moves commits c.self.invariant.0 hand.within

-- the log behind them
grown : (g : given.Over) (c : goal.After-settle g) → c.push_accesses.new.log.items
    ≡ c.self.inside.log.items ++ access_entries c.args.t c.speculation.inside.made.items
grown g c =
    c.push_accesses.ensures
    ∙ ((λ i. c.in_ok-make_room_for.ensures.same i ++ access_entries c.args.t (c.as_slice-made.ensures.value i)))

pub invariant_of-self-2 : goal.invariant_of-self-2
invariant_of-self-2 g c =
    let s = c.self.inside in
    let q = c.speculation.inside in
    let log : List Entry = s.log.items ++ access_entries c.args.t q.made.items in
    let same : log ≡ c.push_accesses.new.log.items = sym (grown g c) in
    let counted = c.self.invariant.1 in (
      subst (λ (es : List Entry). IsLegal g.J.RunName.program g.J.RunName.outside g.J.RunName.limit
          c.commit.new.self.view.program (parts c.commit.new.self) es (s.left - q.cost) s.limit s.kills) same
          (subst (λ n. IsLegal g.J.RunName.program g.J.RunName.outside g.J.RunName.limit
          c.commit.new.self.view.program (parts c.commit.new.self) log (s.left - n) s.limit s.kills)
          (sym c.speculation.invariant.1.cost_is) (came g c).legal),
      record {
        total = omega (
          arith,
          c.count_all.ensures.total,
          counted.total,
          ap length (grown g c),
          length-append s.log.items (access_entries c.args.t q.made.items),
          entries_count c.args.t q.made.items,
          c.len-count.ensures,
        );
        whole = counted.whole;
        unused = counted.unused;
        parts = counted.parts;
      },
    )

pub returns-clause-made : goal.returns-clause-made
returns-clause-made g c = λ yes.
    let s = c.self.inside in
    let q = c.speculation.inside in
    let t = c.args.t in
    let in' = came g c in
    let was : (let w : SharedView = record { log = s.log.items; room = s.log.room; machine = s.machine; given = s.given } in w)
    ≡ c.args.self.now = c.self.view_is in
    let seen : (let w : SpeculationView = record {
      thread = q.thread;
      origin = q.origin;
      made = q.made.items;
      count = q.count;
      here = q.here;
    } in w) ≡ c.args.speculation.now = c.speculation.view_is in
    let made : q.made.items ≡ c.args.speculation.now.made = ap (λ (x : SpeculationView). x.made) seen in
    let here : q.here ≡ c.args.speculation.now.here = ap (λ (x : SpeculationView). x.here) seen in
    let new : LogState = record { log = c.push_accesses.new.log.items; concrete = parts c.commit.new.self } in
    let takes : TakesAll g.J.RunName.program g.J.RunName.limit (log_state c.args.self.now) t c.args.speculation.now.made new =
    subst (λ (x : SharedView). TakesAll g.J.RunName.program g.J.RunName.limit (log_state x) t
    c.args.speculation.now.made new) was
    (subst (λ (m : List SpeculativeAccess). TakesAll g.J.RunName.program g.J.RunName.limit
    (record { log = s.log.items; concrete = parts s.machine }) t m new) made
    (subst (λ (es : List Entry). TakesAll g.J.RunName.program g.J.RunName.limit
    (record { log = s.log.items; concrete = parts s.machine }) t q.made.items
    (record { log = es; concrete = parts c.commit.new.self })) (sym (grown g c)) in'.takes)) in
    let count : c.len-count.result ≡ length c.args.speculation.now.made = omega (arith, c.len-count.ensures, ap length made) in
    let thread : c.args.speculation.now.thread ≡ t = (c.if-not-is_ready.ensures.ready (λ i. true)).thread in (
      takes,
      grown g c ∙ (λ i. (was i).log ++ access_entries t (made i)),
      c.count_all.ensures.count ∙ (λ i. (let k : ShareView = c.args.share.now in
          record k { count = k.count + count i })),
      c.settle.ensures ∙ ap (λ u. speculation_at u c.args.speculation.now.here) thread,
      (in'.stands ∙ ap (λ (x : Thread). Some x) here, in'.moves),
    )

pub returns-clause-legal : goal.returns-clause-legal
returns-clause-legal g c = (invariant_of-self-2 g c).0.legal

pub returns-clause-within : goal.returns-clause-within
returns-clause-within g c =
    let legal = (invariant_of-self-2 g c).0 in omega (arith, legal.counted, legal.limit_is)
