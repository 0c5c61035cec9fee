use Rattle.std.proofs.Common.{◌≡◌, MatchOption, ◌-◌, length, take, drop, ap, sym, ◌∙◌, subst}
use Rattle.program.specs.Trees.{Block, Done, Then}
use Rattle.program.specs.Views.{block_before, statement_of}
use Rattle.source_offers.specs.Rests.{rest_in}
use Rattle.source_offers.proofs.Rests.{empty_list, first_split, rest_last}
use Rattle.source_offers.proofs.rest.+upcoming.Goals as goal

pub returns-in-empty-top : goal.returns-in-empty-top
returns-in-empty-top t c =
    let e : rest_in c.args.rest.now ≡ rest_in (take (length c.args.rest.now - 1) c.args.rest.now) =
    rest_last c.args.rest.now c.top-item.result c.in-len1-up.len_at_least c.top-item.is
    ∙ ap (λ ss. block_before ss (rest_in (take (length c.args.rest.now - 1) c.args.rest.now)))
    (empty_list c.top-item.result.now c.in-empty-top.len_below) in
    subst (λ b. MatchOption c.upcoming.result (b ≡ Done) (λ s. (later : Block) × (b ≡ Then
    (statement_of s.now) later))) (sym e) c.upcoming.ensures

pub returns-in-len1-up-top : goal.returns-in-len1-up-top
returns-in-len1-up-top t c =
    let below : Block = rest_in (take (length c.args.rest.now - 1) c.args.rest.now) in (
      block_before (drop 1 c.top-item.result.now) below,
      rest_last c.args.rest.now c.top-item.result c.in-len1-up.len_at_least c.top-item.is
          ∙ ap (λ ss. block_before ss below)
          (first_split c.top-item.result.now c.first-item.result c.in-len1-up-top.len_at_least c.first-item.is),
    )
