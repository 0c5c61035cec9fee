use Rattle.std.proofs.Common.{subst}
use Rattle.std.proofs.lemmas.Result.{IfOk-weaker}
use Rattle.image_states.specs.Nexts.{may_of}
use Rattle.image_search.specs.Ends.{HasEnded}
use Rattle.image_search.proofs.Searched.{never_breaks_so, never_fails_so, never_stuck_so}
use Rattle.image_search.proofs.explore.explore_image.Goals as goal

pub returns-clause-never_stuck : goal.returns-clause-never_stuck
returns-clause-never_stuck g c =
    let p = c.args.image.now in
    let may = may_of c.args.outside in
    IfOk-weaker c.explore_both.result _ _ (λ e found done.
    never_stuck_so p may found.kept (subst (HasEnded p may c.args.most_states found.kept) done found.ended))
    c.explore_both.ensures.searched

pub returns-clause-never_fails : goal.returns-clause-never_fails
returns-clause-never_fails g c =
    let p = c.args.image.now in
    let may = may_of c.args.outside in
    IfOk-weaker c.explore_both.result _ _ (λ e found done.
    never_fails_so p may found.kept (subst (HasEnded p may c.args.most_states found.kept) done found.ended))
    c.explore_both.ensures.searched

pub returns-clause-never_breaks : goal.returns-clause-never_breaks
returns-clause-never_breaks g c =
    let p = c.args.image.now in
    let may = may_of c.args.outside in
    IfOk-weaker c.explore_both.result _ _ (λ e found done.
    never_breaks_so p may found.kept (subst (HasEnded p may c.args.most_states found.kept) done found.ended))
    c.explore_both.ensures.searched
