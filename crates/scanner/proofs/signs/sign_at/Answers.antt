use Rattle.std.proofs.Common.{refl}
use Rattle.scanner.proofs.Passing.{sign_found}
use Rattle.scanner.proofs.signs.sign_at.Goals as goal

pub returns-in-len1-up : goal.returns-in-len1-up
returns-in-len1-up c = sign_found c.args.bytes.now c.sign_of.result _ _ c.requires refl c.has_equal_second.ensures
    c.sign_of.ensures
