use Rattle.answers.proofs.Hinted.{appended_or_not}
use Rattle.answers.proofs.hinting.push_told.Goals as goal

pub returns : goal.returns
returns c = appended_or_not _ _ _ _ c.push_str-appended.ensures.bytes
