use Rattle.assembler.proofs.Encoded.{listed_so, read_so}
use Rattle.assembler.proofs.assembling.assemble.Goals as goal

pub returns-in-Some-clause-image : goal.returns-in-Some-clause-image
returns-in-Some-clause-image c =
    listed_so c.listed.result c.args.text.now c.in_ok-known.known c.in-Some.image c.in-Some.is c.in_ok-known.ensures.encoded
    c.in_ok-known.ensures.listing c.listed.ensures.image

pub returns-in-None-clause-image : goal.returns-in-None-clause-image
returns-in-None-clause-image c =
    read_so c.read.result c.args.text.now c.in_ok-known.known c.in-None.is c.in_ok-known.ensures.listing
    c.read.ensures.encoded
