use Rattle.std.proofs.Common.{string_bytes}
use Rattle.log_text.proofs.Lines.{none_more}
use Rattle.log_text.proofs.writing.append_set.Goals as goal

pub returns-then-is_empty : goal.returns-then-is_empty
returns-then-is_empty c =
    none_more c.args.word.now (string_bytes c.args.text.now) c.args.set.now c.if-is_empty.ensures
