use Rattle.image_search.proofs.Flagging.{known_more, known_still, lives_slice}
use Rattle.image_search.proofs.at_once.mark_for_all.Goals as goal

pub returns-then-not-is-clause-known : goal.returns-then-not-is-clause-known
returns-then-not-is-clause-known c = λ t.
    known_still c.args.image.now t c.args.kept.now c.lives_for_all.new.kept c.args.flags.now.items c.requires.sound
    c.in_ok-is.ensures.still (c.requires.known t)

pub returns-clause-known : goal.returns-clause-known
returns-clause-known c = λ t.
    known_more c.args.image.now t c.lives_for_all.new.kept c.args.flags.now.items c.args.place
    (known_still c.args.image.now t c.args.kept.now c.lives_for_all.new.kept c.args.flags.now.items c.requires.sound
    c.in_ok-is.ensures.still (c.requires.known t))
    (lives_slice c.args.image.now t c.lives_for_all.new.kept c.args.place _ c.args.flags.now.items
    c.as_slice-2.ensures.value (c.in_ok-is.ensures.lives c.if-not-is.false t))
