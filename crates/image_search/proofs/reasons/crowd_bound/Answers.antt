use Rattle.image_search.proofs.reasons.crowd_bound.Goals as goal

pub returns-then-branch : goal.returns-then-branch
returns-then-branch c = c.in_ok-is_crowd_shown.ensures c.if-branch.true

pub returns : goal.returns
returns c = c.requires
