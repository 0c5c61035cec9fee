use Rattle.std.proofs.Common.{suc}
use Rattle.image_search.proofs.Flagging.{known_more, known_still, lives_slice}
use Rattle.image_search.proofs.living.mark.Goals as goal

pub returns-then-not-is-clause-known : goal.returns-then-not-is-clause-known
returns-then-not-is-clause-known c =
    known_still c.args.image.now (suc c.args.k) c.args.kept.now c.lives.new.kept c.args.flags.now.items c.requires.sound
    c.in_ok-is.ensures.still c.requires.known

pub returns-clause-known : goal.returns-clause-known
returns-clause-known c =
    known_more c.args.image.now (suc c.args.k) c.lives.new.kept c.args.flags.now.items c.args.place
    (known_still c.args.image.now (suc c.args.k) c.args.kept.now c.lives.new.kept c.args.flags.now.items c.requires.sound
    c.in_ok-is.ensures.still c.requires.known)
    (lives_slice c.args.image.now (suc c.args.k) c.lives.new.kept c.args.place _ c.args.flags.now.items
    c.as_slice-2.ensures.value (c.in_ok-is.ensures.lives c.if-not-is.false))
