use Rattle.std.proofs.Common.{arith, ◌≡◌, ◌-◌, ◌≤◌, length, option_map, refl, ap, sym, ◌∙◌, subst, rules, take, get_or}
use Rattle.std.proofs.lemmas.List.{take_rest}
use Rattle.std.specs.Vec.{vec_len}
use Rattle.program.specs.Views.{block_before}
use Rattle.source_offers.specs.Rests.{IsTaken, rest_in}
use Rattle.source_offers.proofs.Rests.{dropped_one, empty_list, rest_last, rest_popped, rest_set, taken}
use Rattle.source_offers.proofs.rest.+take_first.Goals as goal

pub returns-in-empty : goal.returns-in-empty
returns-in-empty t c =
    let all : vec_len c.args.rest.now ≡ length c.args.rest.now.items = search rules in
    let some : 1 ≤ vec_len c.args.rest.now = omega (arith, c.in-Some.ensures.variant.0 refl) in
    let e : rest_in c.args.rest.now.items ≡ rest_in c.pop-empty.new.self.items =
    rest_popped c.args.rest.now.items c.pop-empty.new.self.items c.in-Some.top.now (vec_len c.args.rest.now) all
    some c.in-Some.ensures.value c.pop-empty.ensures.rest
    ∙ ap (λ ss. block_before ss (rest_in c.pop-empty.new.self.items))
    (empty_list c.in-Some.top.now.now c.in-empty.len_below) in
    subst (λ b. IsTaken (option_map (λ s. s.now) c.take_first.result) b (rest_in c.take_first.new.rest.items))
    (sym e) c.take_first.ensures

pub returns-in-len1-up : goal.returns-in-len1-up
returns-in-len1-up t c =
    let rest = c.args.rest.now.items in
    let n = vec_len c.args.rest.now in
    let all : n ≡ length rest = search rules in
    let some : 1 ≤ n = omega (arith, c.in-Some.ensures.variant.0 refl) in
    let below = rest_in (take (n - 1) rest) in
    taken _ _ below c.in-Some.top.now.now (omega (arith, c.in-len1-up.len_at_least))
    (rest_last rest c.in-Some.top.now (omega (arith, all, some))
    (subst (λ k. c.in-Some.top.now ≡ get_or rest (k - 1) c.in-Some.top.now) all c.in-Some.ensures.value)
    ∙ ap (λ k. block_before c.in-Some.top.now.now (rest_in (take (k - 1) rest))) (sym all))
    (rest_set rest _ n all some ∙ ap (λ ss. block_before ss below) (take_rest c.in-Some.top.now.now 1))

pub returns-in-len1 : goal.returns-in-len1
returns-in-len1 t c =
    let all : vec_len c.args.rest.now ≡ length c.args.rest.now.items = search rules in
    let some : 1 ≤ vec_len c.args.rest.now = omega (arith, c.in-Some.ensures.variant.0 refl) in
    let below = rest_in c.pop-taken.new.self.items in
    taken _ _ below c.in-Some.top.now.now c.in-len1.len_at_least
    (rest_popped c.args.rest.now.items c.pop-taken.new.self.items c.in-Some.top.now (vec_len c.args.rest.now) all
    some c.in-Some.ensures.value c.pop-taken.ensures.rest)
    (sym (ap (λ ss. block_before ss below) (dropped_one c.in-Some.top.now.now c.in-len1.len_below)))
