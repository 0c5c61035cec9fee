use Rattle.source_search.proofs.parts.Parts.follow_at.Goals as goal

pub follow_from-requires-clause-alone : goal.follow_from-requires-clause-alone
follow_from-requires-clause-alone g c = rw c.in-Some-2.is at c.in_ok-small.ensures
