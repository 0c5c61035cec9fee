use Rattle.std.proofs.Common.{◌≡◌, Contains, arith, length, subst, suc, sym}
use Rattle.source_search.specs.Growth.{HasStood}
use Rattle.source_search.specs.Kept.{states_in}
use Rattle.source_search.proofs.Growing.{stood}
use Rattle.source_search.proofs.growth.count_ways.Goals as goal

pub returns : goal.returns
returns c =
    let once = c.numbers_once-once.result.items in
    let count : length once ≡ c.len.result = omega (arith, c.len.ensures) in
    subst (HasStood (states_in c.args.parts.now c.args.states.now) (suc c.args.place)) count
    (stood c.args.parts.now c.args.states.now c.requires c.args.place once
    (λ n is. c.numbers_once-once.ensures.all n (subst (λ ns. Contains ns n) (sym c.in_ok-numbers.ensures) is))
    (λ n is. subst (λ ns. Contains ns n) c.in_ok-numbers.ensures (c.numbers_once-once.ensures.only n is)))
