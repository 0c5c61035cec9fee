use Rattle.std.proofs.Common.{◌≡◌, ◌++◌, ◌∷◌, [], subst}
use Rattle.image_search.proofs.Keeping.{IsKeptOf, kept_all, kept_next, more_twice}
use Rattle.image_search.proofs.kept.KeptStates.keep_all.Goals as goal

pub loop-next-preserved : goal.loop-next-preserved
loop-next-preserved c =
    let items : c.loop-next.nexts.items ≡ c.pop.new.self.items ++ c.in-Some.next ∷ [] =
    rw c.in-Some.is at c.pop.ensures.items in
    let key : IsKeptOf c.loop-next.self.parts c.keep_state.new.self c.in-Some.next =
    rw c.in_default-2.is at c.in_ok-bound.ensures.kept in
    record {
      sound = c.in_ok-bound.ensures.sound;
      more = more_twice c.args.self.now c.loop-next.self c.keep_state.new.self c.loop-next.invariant.more
          c.in_ok-bound.ensures.more;
      kept = λ y is. kept_next c.args.self.now.parts c.loop-next.nexts.items c.pop.new.self.items c.in-Some.next c.loop-next.self
          c.keep_state.new.self items c.in_ok-bound.ensures.more
          (subst (λ parts. IsKeptOf parts c.keep_state.new.self c.in-Some.next) c.loop-next.invariant.more.parts key) y
          (c.loop-next.invariant.kept y is);
    }

pub returns-clause-kept : goal.returns-clause-kept
returns-clause-kept c = λ y is.
    kept_all c.args.self.now.parts c.loop-next.nexts.items c.loop-next.nexts.len c.loop-next.self c.loop-next.nexts.ok.0
    c.in_default.ensures.cases.0 y (c.loop-next.invariant.kept y is)
