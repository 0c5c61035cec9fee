use Rattle.emit_image.proofs.Ending.{comment_ends}
use Rattle.emit_image.proofs.comments.comments_end.Goals as goal

pub returns : goal.returns
returns c = comment_ends
