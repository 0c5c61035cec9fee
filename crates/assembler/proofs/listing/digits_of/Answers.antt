use Rattle.assembler.proofs.Shown.{digits_are}
use Rattle.assembler.proofs.listing.digits_of.Goals as goal

pub returns : goal.returns
returns c = digits_are c.args.place c.requires
