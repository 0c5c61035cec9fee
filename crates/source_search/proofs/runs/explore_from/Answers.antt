use Rattle.std.proofs.Common.{◌≡◌, ◌∙◌, ap, false, length, subst, sym, true}
use Rattle.std.proofs.lemmas.List.{length-map}
use Rattle.program.specs.Views.{program_of}
use Rattle.meaning.specs.States.{opening}
use Rattle.source_search.specs.Bounds.{AreAll, IsMet}
use Rattle.source_search.specs.Found.{interleaves}
use Rattle.source_search.specs.Kept.{states_of}
use Rattle.source_search.specs.Packed.{unpacked}
use Rattle.source_search.proofs.Bounded.{completed, ended}
use Rattle.source_search.proofs.Keeping.{seen_still}
use Rattle.source_search.specs.Living.{IsLookedFor}
use Rattle.source_search.proofs.Lively.{looked_for}
use Rattle.source_search.proofs.Endable.{end_looked_for}
use Rattle.source_search.proofs.Searched.{nowhere_aborted, nowhere_stuck}
use Rattle.source_search.proofs.runs.explore_from.Goals as goal

pub returns-clause-never_stuck : goal.returns-clause-never_stuck
returns-clause-never_stuck g c = λ complete none.
    nowhere_stuck (program_of c.args.checked.now.tree) c.program-program.ensures.well_formed c.args.outside
    (states_of c.keep_opening.new.kept) (states_of c.search.new.kept)
    (c.in_ok-opens.ensures.seen (c.is_complete-complete.ensures.opens complete))
    c.in_ok-findings.ensures.longer
    (c.in_ok-findings.ensures.expanded (c.is_complete-complete.ensures.complete complete))
    c.in_ok-findings.findings.stuck
    (c.in_ok-findings.ensures.stuck (c.is_complete-complete.ensures.complete complete))
    (c.is_complete-complete.ensures.stuck complete none)

pub returns-clause-never_aborted : goal.returns-clause-never_aborted
returns-clause-never_aborted g c = λ complete none.
    nowhere_aborted (program_of c.args.checked.now.tree) c.program-program.ensures.well_formed c.args.outside
    (states_of c.keep_opening.new.kept) (states_of c.search.new.kept)
    (c.in_ok-opens.ensures.seen (c.is_complete-complete.ensures.opens complete))
    c.in_ok-findings.ensures.longer
    (c.in_ok-findings.ensures.expanded (c.is_complete-complete.ensures.complete complete))
    c.in_ok-findings.findings.aborted
    (c.in_ok-findings.ensures.aborted (c.is_complete-complete.ensures.complete complete))
    (c.is_complete-complete.ensures.aborted complete none)

pub returns-clause-blocked : goal.returns-clause-blocked
returns-clause-blocked g c =
    let p = program_of c.args.checked.now.tree in
    let kept = states_of c.search.new.kept in
    c.in_ok-blocked.ensures (λ complete none.
    let all : AreAll p c.args.outside kept = record {
      opens = seen_still (states_of c.keep_opening.new.kept) kept c.in_ok-findings.ensures.longer p
          (interleaves c.args.outside) (opening p)
          (c.in_ok-opens.ensures.seen (c.is_complete-complete.ensures.opens complete));
      expanded = c.in_ok-findings.ensures.expanded (c.is_complete-complete.ensures.complete complete);
    } in
    looked_for p c.program-program.ensures.well_formed c.args.outside kept all none c.in_ok-found.found
    (subst (λ xs. IsLookedFor p xs c.in_ok-found.found) c.in_ok-lost.ensures.same
    (c.in_ok-found.ensures (c.is_complete-complete.ensures.complete complete) none)))

pub returns-clause-ending : goal.returns-clause-ending
returns-clause-ending g c =
    let p = program_of c.args.checked.now.tree in
    let kept = states_of c.search.new.kept in
    c.in_ok-ending.ensures (λ asked complete none.
    let all : AreAll p c.args.outside kept = record {
      opens = seen_still (states_of c.keep_opening.new.kept) kept c.in_ok-findings.ensures.longer p
          (interleaves c.args.outside) (opening p)
          (c.in_ok-opens.ensures.seen (c.is_complete-complete.ensures.opens complete));
      expanded = c.in_ok-findings.ensures.expanded (c.is_complete-complete.ensures.complete complete);
    } in
    end_looked_for p c.program-program.ensures.well_formed c.args.outside kept all none c.in_ok-lost.lost
    (c.in_ok-lost.ensures.found asked (c.is_complete-complete.ensures.complete complete) none))

pub returns-clause-searched : goal.returns-clause-searched
returns-clause-searched g c =
    let p = program_of c.args.checked.now.tree in
    let kept = states_of c.search.new.kept in
    let count : length kept ≡ length c.as_slice-all.result.now =
    length-map c.search.new.kept.states.items (unpacked c.search.new.kept.parts)
    ∙ ap length (sym c.as_slice-all.ensures.value) in
    let all : c.in_ok-opens.opens ≡ true → c.in_ok-findings.findings.complete ≡ true → AreAll p c.args.outside kept =
    λ opens complete. record {
      opens = seen_still (states_of c.keep_opening.new.kept) kept c.in_ok-findings.ensures.longer p
          (interleaves c.args.outside) (opening p) (c.in_ok-opens.ensures.seen opens);
      expanded = c.in_ok-findings.ensures.expanded complete;
    } in
    record {
      kept = kept;
      count = count;
      ended = ended p c.args.outside c.args.most_states (length c.as_slice-all.result.now) c.is_complete-complete.result
          (λ q may states. (c.in_ok-findings.findings.complete ≡ false
          → IsMet q may c.args.most_states states c.in_ok-findings.findings.bound)
          × (c.in_ok-opens.opens ≡ true → c.in_ok-findings.findings.complete ≡ true → AreAll q may states))
          c.bound_unless-bound.result c.bound_unless-bound.ensures kept count (c.in_ok-findings.ensures.bound, all)
          (λ complete. all (c.is_complete-complete.ensures.opens complete)
          (c.is_complete-complete.ensures.complete complete));
      complete = completed p c.args.outside c.args.most_states (length c.as_slice-all.result.now) c.is_complete-complete.result
          (λ q may states. (c.in_ok-findings.findings.complete ≡ false
          → IsMet q may c.args.most_states states c.in_ok-findings.findings.bound)
          × (c.in_ok-opens.opens ≡ true → c.in_ok-findings.findings.complete ≡ true → AreAll q may states))
          c.bound_unless-bound.result c.bound_unless-bound.ensures;
      grown = c.growth_if-growth.ensures.grown;
      ungrown = λ complete. c.growth_if-growth.ensures.incomplete (c.is_complete-complete.ensures.complete complete);
    }
