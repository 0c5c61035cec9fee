use Rattle.std.proofs.Common.{◌≡◌, ◌<◌, ◌∙◌, ap, arith, length, slice_get, slice_set, subst}
use Rattle.std.proofs.lemmas.Bool.Decides.{nat_tests}
use Rattle.std.proofs.lemmas.Option.{slice_get-get_or}
use Rattle.source_search.proofs.Merged.{get_set, get_set_other}
use Rattle.source_search.proofs.packed.number_at.Goals as goal

pub returns-then-at-place : goal.returns-then-at-place
returns-then-at-place c =
    let same : c.args.at ≡ c.args.place = grind (arith, nat_tests, c.if-at-place.true) in
    let less : c.args.place < length c.args.others.now = subst (λ n. n < length c.args.others.now) same c.requires in
    ap (slice_get (slice_set c.args.others.now c.args.place c.args.part)) same
    ∙ get_set c.args.others.now c.args.place c.args.part less

pub returns : goal.returns
returns c =
    get_set_other c.args.others.now c.args.place c.args.at c.args.part
    (λ e. omega (arith, e, c.if-at-place.false))
    ∙ slice_get-get_or c.args.others.now c.args.at 0 c.requires
