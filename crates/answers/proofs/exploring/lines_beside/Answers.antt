use Rattle.std.proofs.Common.{[], map, string_bytes}
use Rattle.answers.proofs.Told.{ok_so}
use Rattle.answers.proofs.exploring.lines_beside.Goals as goal

pub returns : goal.returns
returns c =
    ok_so c.put_beside.result _ _ (λ v told. ([], map string_bytes c.as_slice.result.now, told)) c.put_beside.ensures
