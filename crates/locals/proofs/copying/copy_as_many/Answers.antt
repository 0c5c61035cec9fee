use Rattle.std.proofs.Common.{subst, sym, reverse}
use Rattle.std.proofs.lemmas.List.{reverse-reverse}
use Rattle.locals.specs.Uses.{AreBlank}
use Rattle.locals.proofs.Blanks.{backwards}
use Rattle.locals.proofs.copying.copy_as_many.Goals as goal

pub copy_frames-requires-clause-blank : goal.copy_frames-requires-clause-blank
copy_frames-requires-clause-blank c =
    let frames = c.to.inside.items.items in (
      subst (AreBlank c.args.used) (sym c.as_mut_slice.ensures.value)
          (subst (AreBlank c.args.used) (reverse-reverse frames)
          (backwards c.args.used (reverse frames) (subst (AreBlank c.args.used) (sym c.to.view_is) c.requires.blank.0))),
      subst (AreBlank c.args.used) (sym c.as_slice.ensures) (backwards c.args.used c.args.from.now c.requires.blank.1),
    )
