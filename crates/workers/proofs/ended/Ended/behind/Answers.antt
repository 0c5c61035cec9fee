use Rattle.workers.proofs.ended.Ended.behind.Goals as goal

pub of-requires : goal.of-requires
of-requires g c = c.requires c.in-Ends.is
