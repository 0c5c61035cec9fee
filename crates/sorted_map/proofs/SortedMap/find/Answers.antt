use Rattle.std.proofs.Common.{rules, subst}
use Rattle.std.proofs.lemmas.List.Sorted.{answers_always}
use Rattle.sorted_map.specs.Maps.{IsOrdered}
use Rattle.sorted_map.proofs.Finding.{searched}
use Rattle.sorted_map.proofs.SortedMap.find.Goals as goal

pub returns : goal.returns
returns g c = record {
  place =
      let facts = c.binary_search_by_key.ensures in
      let by_key = facts.position (λ e. e.0) (answers_always _ _ _ (λ f a r g called. search rules)) in
      rw (← c.self.view_is, ← c.deref.ensures.value)
      (searched g.met.K.Ord.total c.args.key c.deref.result.now c.binary_search_by_key.result (rw c.deref.ensures.value c.self.invariant) facts.bound by_key);
  ordered = subst (IsOrdered g.K.Ord.cmp) c.self.view_is c.self.invariant;
}
