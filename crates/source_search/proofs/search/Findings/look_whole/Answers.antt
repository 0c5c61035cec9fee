use Rattle.std.proofs.Common.{◌≡◌, Bool, Some, slice_get, subst, sym}
use Rattle.program.specs.Views.{program_of}
use Rattle.source_states.specs.States.{state_of}
use Rattle.source_search.specs.Kept.{IsExpandedSo, states_of}
use Rattle.source_search.proofs.search.Findings.look_whole.Goals as goal

pub returns-clause-looked : goal.returns-clause-looked
returns-clause-looked c = λ e.
    let here : slice_get (states_of c.args.kept.now) c.args.place ≡ Some (state_of c.in-Some.state) =
    rw c.in-Some.is at c.in_ok-state.ensures in
    record {
      state = state_of c.in-Some.state;
      here = here;
      expanded = subst (λ (b : Bool). IsExpandedSo (program_of c.args.checked.now.tree) c.args.outside b
          (states_of c.expand.new.self) (state_of c.in-Some.state)) (sym c.requires.interleaved)
          (c.in_ok-all.ensures.kept e);
      stuck = c.in_ok-look.ensures.stuck;
      aborted = c.in_ok-look.ensures.aborted;
    }
