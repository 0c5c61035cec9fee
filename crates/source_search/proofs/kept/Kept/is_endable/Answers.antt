use Rattle.std.proofs.Common.{inl, inr}
use Rattle.source_search.proofs.kept.Kept.is_endable.Goals as goal

pub returns-then-is_noted-clause-endable : goal.returns-then-is_noted-clause-endable
returns-then-is_noted-clause-endable c = λ e. inl (c.is_noted.ensures c.if-is_noted.true)

pub returns-clause-endable : goal.returns-clause-endable
returns-clause-endable c = λ e. inr (c.are_over.ensures.over e)
