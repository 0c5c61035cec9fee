use Rattle.std.proofs.Common.{sym, subst}
use Rattle.std.specs.List.Sorted.{IsStrictlySortedBy}
use Rattle.sorted_map.specs.Maps.{IsOrdered}
use Rattle.sorted_map.proofs.SortedMap.new.Goals as goal

pub invariant_of-result : goal.invariant_of-result
unfolding IsStrictlySortedBy
invariant_of-result g c = subst (IsOrdered g.K.Ord.cmp) (sym c.new.ensures.items) tt
