use Rattle.image_search.proofs.reasons.is_crowd_shown.Goals as goal

pub returns : goal.returns
returns c = λ e. (_, c.in_ok-is.ensures e)
