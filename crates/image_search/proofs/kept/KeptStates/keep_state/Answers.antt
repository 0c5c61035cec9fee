use Rattle.image_search.proofs.Keeping.{more_none}
use Rattle.image_search.proofs.kept.KeptStates.keep_state.Goals as goal

pub returns-then-not-is_within-clause-more : goal.returns-then-not-is_within-clause-more
returns-then-not-is_within-clause-more c = more_none c.args.self.now

pub returns-then-not-is_within-clause-kept : goal.returns-then-not-is_within-clause-kept
returns-then-not-is_within-clause-kept c = λ within.
    absurd ((rw c.if-not-is_within.true at c.is_within.ensures) within)

pub keep-requires-clause-within : goal.keep-requires-clause-within
keep-requires-clause-within c = rw c.if-not-is_within.false at c.is_within.ensures

pub returns-then-branch-clause-kept : goal.returns-then-branch-clause-kept
returns-then-branch-clause-kept c = λ within. rw c.if-branch.true at c.in_ok-keep.ensures.kept
