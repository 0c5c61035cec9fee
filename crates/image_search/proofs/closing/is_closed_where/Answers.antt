use Rattle.image_search.proofs.closing.is_closed_where.Goals as goal

pub returns-then-not-is_flagged-clause-closed : goal.returns-then-not-is_flagged-clause-closed
returns-then-not-is_flagged-clause-closed c = λ e is. absurd (c.is_flagged.ensures.isnt c.if-not-is_flagged.true is)

pub returns-clause-closed : goal.returns-clause-closed
returns-clause-closed c = λ e flagged. c.in_ok-is.ensures.closed e
