use Rattle.std.proofs.Common.{false, refl}
use Rattle.program.specs.Views.{program_of}
use Rattle.source_states.specs.States.{state_of}
use Rattle.source_search.specs.Kept.{states_of}
use Rattle.source_search.proofs.Keeping.{seen_still}
use Rattle.source_search.proofs.Searched.{closed}
use Rattle.source_search.proofs.holding.search_from.Goals as goal

pub returns : goal.returns
returns c = λ e. record {
  covered = seen_still (states_of c.open.new.self) (states_of c.search.new.kept) c.in_ok-findings.ensures.longer
      (program_of c.args.checked.now.tree) false (state_of c.args.state) (c.in_ok-open.ensures.seen c.if-not-branch.false);
  expanded = closed (program_of c.args.checked.now.tree) (record { strays = false; kills = 0 })
      (states_of c.search.new.kept) (c.in_ok-findings.ensures.expanded e) refl;
}
