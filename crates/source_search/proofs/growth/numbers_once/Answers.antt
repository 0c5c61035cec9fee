use Rattle.std.proofs.lemmas.List.Filters.{dedup_is}
use Rattle.std.proofs.lemmas.List.Kept.{Contains-dedup_nat, Contains-from_dedup}
use Rattle.std.proofs.lemmas.List.Sorted.{Contains-permutation, IsPermutation-sym}
use Rattle.source_search.proofs.growth.numbers_once.Goals as goal

pub returns-clause-all : goal.returns-clause-all
returns-clause-all c = λ n is.
    rw (dedup_is _ _ _ c.dedup.ensures.filtered)
    (Contains-dedup_nat _ n (Contains-permutation _ _ n c.sort_unstable.ensures.permutation is))

pub returns-clause-only : goal.returns-clause-only
returns-clause-only c = λ n is.
    Contains-permutation _ _ n (IsPermutation-sym _ _ c.sort_unstable.ensures.permutation)
    (Contains-from_dedup _ _ n (rw (dedup_is _ _ _ c.dedup.ensures.filtered) at is))
