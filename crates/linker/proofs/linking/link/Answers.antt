use Rattle.std.proofs.Common.{map, sym, ap, ◌∙◌, inl, inr, rules}
use Rattle.std.proofs.lemmas.List.Sorted.{IsNonDecreasingBy-from_sort_by_key}
use Rattle.codegen.specs.Generated.{piece_of}
use Rattle.linker.specs.Linked.{are_from}
use Rattle.linker.proofs.Rising.{rising_seen}
use Rattle.linker.proofs.Orders.{of_sorted}
use Rattle.linker.proofs.linking.link.Goals as goal

pub returns-then-not-are_numbered : goal.returns-then-not-are_numbered
returns-then-not-are_numbered c =
    let sorted = c.sort_unstable_by_key.new.self.items in
    inr (inl (
      c.refuse_stray.ensures,
      record {
        sorted = sorted;
        same = c.sort_unstable_by_key.ensures.permutation;
        rising = rising_seen sorted (IsNonDecreasingBy-from_sort_by_key (λ x. x.number) sorted
            c.sort_unstable_by_key.ensures.sorted (λ a r q k. search rules));
        other = ap (λ n. are_from 0 n (map piece_of sorted)) (sym c.pieces.ensures)
            ∙ ap (λ l. are_from 0 c.pieces.result (map piece_of l)) (sym c.as_slice.ensures.value)
            ∙ sym c.if-not-are_numbered.ensures;
      },
    ))

pub returns : goal.returns
returns c =
    let sorted = c.sort_unstable_by_key.new.self.items in
    of_sorted c.args.layout.now c.args.pieces.items sorted c.as_slice-2.result.now c.link_sorted.result
    (c.as_slice-2.ensures.value) (record {
      same = c.sort_unstable_by_key.ensures.permutation;
      numbered = ap (λ n. are_from 0 n (map piece_of sorted)) (sym c.pieces.ensures)
          ∙ ap (λ l. are_from 0 c.pieces.result (map piece_of l)) (sym c.as_slice.ensures.value)
          ∙ sym c.if-not-are_numbered.ensures;
    }) c.link_sorted.ensures
