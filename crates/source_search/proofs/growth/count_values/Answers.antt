use Rattle.std.proofs.Common.{arith, refl}
use Rattle.std.specs.Cmp.{int_cmp_total, int_eq_equiv}
use Rattle.std.proofs.lemmas.Bool.Decides.{Decides-int_eq}
use Rattle.std.proofs.lemmas.List.Filters.{dedup_is}
use Rattle.std.proofs.lemmas.List.Kept.{Contains-dedup, Contains-from_dedup, IsStrictlySortedBy-dedup}
use Rattle.std.proofs.lemmas.List.Sorted.{Contains-permutation, IsPermutation-sym}
use Rattle.source_search.proofs.growth.count_values.Goals as goal

pub returns : goal.returns
returns c =
    let is = dedup_is _ _ _ c.dedup.ensures.filtered in
    let moved = c.sort_unstable.ensures.permutation in
    record {
      values = c.dedup.new.self.items;
      rising = rw is (IsStrictlySortedBy-dedup int_cmp_total (λ x y. refl) _ c.sort_unstable.ensures.sorted);
      all = λ v here. rw is (Contains-dedup int_eq_equiv (λ x y. (Decides-int_eq x y).0) _ v
          (Contains-permutation _ _ v moved here));
      only = λ v here. Contains-permutation _ _ v (IsPermutation-sym _ _ moved)
          (Contains-from_dedup _ _ v (rw is at here));
      count = omega (arith, c.len.ensures);
    }
