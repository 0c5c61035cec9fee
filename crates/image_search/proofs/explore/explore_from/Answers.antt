use Rattle.std.proofs.Common.{◌∙◌, subst, sym}
use Rattle.std.proofs.lemmas.List.{length-map}
use Rattle.image_states.specs.Nexts.{may_of}
use Rattle.image_states.specs.Packed.{kept_of}
use Rattle.image_search.specs.Ends.{AreAllBy, HasEnded, HasEndedBy, IsMet}
use Rattle.image_search.specs.Kept.{IsMetBy, states_of}
use Rattle.image_search.proofs.Searched.{ended_either, met_in, met_so}
use Rattle.image_search.proofs.explore.explore_from.Goals as goal

pub returns-in-Some-clause-searched : goal.returns-in-Some-clause-searched
returns-in-Some-clause-searched g c =
    let p = c.args.image.now in
    let may = may_of c.args.outside in
    let kept = c.keep_opening.new.kept in
    let met : IsMetBy kept c.in-Some.bound = rw c.in-Some.is at c.in_ok-bound.ensures.opens in
    record {
      kept = states_of p kept;
      count = length-map kept.states.items (kept_of p kept.parts) ∙ sym kept.states.ok.0 ∙ sym c.len.ensures;
      ended = subst (λ n. IsMet p may n (states_of p kept) c.in-Some.bound) c.in_ok-bound.ensures.most
          (met_so p may kept c.in-Some.bound (met_in p may kept c.in-Some.bound met));
    }

pub returns-clause-searched : goal.returns-clause-searched
returns-clause-searched g c =
    let p = c.args.image.now in
    let may = may_of c.args.outside in
    let kept = c.search.new.kept in
    let ended : HasEndedBy p kept.parts.alone may c.keep_opening.new.kept.most (states_of p kept) c.in-Some-2.ending =
    rw c.in-Some-2.is at c.in_ok-ending.ensures.ended in
    record {
      kept = states_of p kept;
      count = length-map kept.states.items (kept_of p kept.parts) ∙ sym kept.states.ok.0 ∙ sym c.len-states.ensures;
      ended = subst (λ n. HasEnded p may n (states_of p kept) c.in-Some-2.ending) c.in_ok-bound.ensures.most
          (ended_either p kept.parts.alone may c.keep_opening.new.kept.most (states_of p kept) c.in-Some-2.ending ended);
    }

pub returns-in-Some-clause-sleeping : goal.returns-in-Some-clause-sleeping
returns-in-Some-clause-sleeping g c = λ e. absurd cc

pub sleeping_behind-requires-clause-complete : goal.sleeping_behind-requires-clause-complete
sleeping_behind-requires-clause-complete g c = λ e.
    let p = c.args.image.now in
    let kept = c.search.new.kept in
    let ended : HasEndedBy p kept.parts.alone (may_of c.args.outside) c.keep_opening.new.kept.most (states_of p kept)
    c.in-Some-2.ending =
    rw c.in-Some-2.is at c.in_ok-ending.ensures.ended in
    let all : AreAllBy p kept.parts.alone (may_of c.args.outside) (states_of p kept) = rw e at ended in
    all.complete

pub sleeping_behind-requires-clause-sound : goal.sleeping_behind-requires-clause-sound
sleeping_behind-requires-clause-sound g c = c.in_ok-ending.ensures.sound

pub returns-in_default-2-clause-alone : goal.returns-in_default-2-clause-alone
returns-in_default-2-clause-alone g c =
    sym c.in_ok-bound.ensures.alone ∙ (rw c.in_default-2.is at c.in_ok-ending.ensures.alone)
