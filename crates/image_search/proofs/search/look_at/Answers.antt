use Rattle.std.proofs.Common.{ℕ, Bool, List}
use Rattle.proof_image_search.specs.Searching.{Kept}
use Rattle.image_states.specs.Nexts.{may_of}
use Rattle.image_search.specs.Ends.{HasEndedBy, IsMetIn}
use Rattle.image_search.specs.Kept.{IsExpandedAt, states_of}
use Rattle.image_search.proofs.Keeping.{more_itself}
use Rattle.image_search.proofs.Searched.{looked_so, met_so}
use Rattle.image_search.proofs.search.look_at.Goals as goal

pub returns-in-Some-clause-more : goal.returns-in-Some-clause-more
returns-in-Some-clause-more c = more_itself c.args.kept.now

pub returns-in-Some-clause-looked : goal.returns-in-Some-clause-looked
returns-in-Some-clause-looked c =
    let all : (alone : Bool) (most : ℕ) (states : List Kept)
    → HasEndedBy c.args.image.now alone (may_of c.args.outside) most states c.in-Some.ending =
    rw c.in-Some.is at c.in_ok-ending.ensures.ended in
    all c.args.kept.now.parts.alone c.args.kept.now.most (states_of c.args.image.now c.args.kept.now)

pub returns-in-None-clause-looked : goal.returns-in-None-clause-looked
returns-in-None-clause-looked c =
    let p = c.args.image.now in
    let may = may_of c.args.outside in
    let expanded : IsExpandedAt p c.args.kept.now.parts.alone may (states_of p c.args.kept.now) (states_of p c.expand.new.kept) c.args.place =
    rw c.in-None.is at c.in_ok-expand.ensures.expanded in
    looked_so p c.args.kept.now.parts.alone may (states_of p c.args.kept.now) (states_of p c.expand.new.kept) c.args.place c.args.passed.now
    c.look_at_ends.new.passed (c.in_ok-ending.ensures.told c.in_default.is) expanded

pub returns-in-Some-2-clause-looked : goal.returns-in-Some-2-clause-looked
returns-in-Some-2-clause-looked c =
    let may = may_of c.args.outside in
    let met : IsMetIn c.args.image.now may c.expand.new.kept c.in-Some-2.bound =
    rw c.in-Some-2.is at c.in_ok-expand.ensures.expanded in
    met_so c.args.image.now may c.expand.new.kept c.in-Some-2.bound met
