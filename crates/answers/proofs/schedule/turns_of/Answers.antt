use Rattle.std.proofs.Common.{nat_lt, length, rules, tests}
use Rattle.std.proofs.lemmas.Iterator.{YieldsList-from_map, items_from_collect}
use Rattle.std.proofs.lemmas.Iterator.Consumers.{YieldsList-at, YieldsList-from_filter}
use Rattle.std.proofs.lemmas.Iterator.Splits.{YieldsList-from_slice_split}
use Rattle.answers.specs.Turns.{is_white_space, turn_of}
use Rattle.answers.proofs.schedule.turns_of.Goals as goal

pub returns : goal.returns
returns c =
    items_from_collect _ c.collect.ensures.ran
    (YieldsList-from_map _ turn_of
    (YieldsList-at c.map.ensures.source
    (YieldsList-from_filter _ (λ word. nat_lt 0 (length word))
    (YieldsList-at c.filter.ensures.source
    (YieldsList-from_slice_split _ is_white_space c.args.text.now c.split.ensures.rest c.split.ensures.done
    c.split.ensures.closure (λ x r q k. search (rules, tests))))
    c.filter.ensures.closure (λ x r q k. search (rules, tests))))
    c.map.ensures.closure (λ x r q k. search (rules, tests)))
