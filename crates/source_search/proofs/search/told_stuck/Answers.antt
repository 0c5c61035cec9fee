use Rattle.source_search.proofs.search.told_stuck.Goals as goal

pub returns : goal.returns
returns c = λ e. rw e at c.in_ok-stuck.ensures
