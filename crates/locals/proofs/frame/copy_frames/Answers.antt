use Rattle.std.proofs.Common.{◌<◌, arith, length, subst, sym}
use Rattle.std.proofs.lemmas.List.Elements.{All-set}
use Rattle.locals.specs.Threads.{Frame}
use Rattle.locals.specs.Uses.{IsBlank}
use Rattle.locals.proofs.Blanks.{blank_frame, copy_more}
use Rattle.locals.proofs.frame.copy_frames.Goals as goal

pub copy_from-requires-clause-blank : goal.copy_from-requires-clause-blank
copy_from-requires-clause-blank c =
    let within : c.loop-i.i < length c.loop-i.to = omega (arith, c.loop-i-test.true, c.loop-i.auto.to, c.requires.same) in (
      c.loop-i.invariant.blank c.loop-i.i blank_frame within,
      c.requires.blank.1 c.loop-i.i blank_frame c.loop-i-test.true,
    )

pub loop-i-preserved : goal.loop-i-preserved
loop-i-preserved c =
    let i = c.loop-i.i in
    let from = c.args.from.now in
    let within : i < length c.loop-i.to = omega (arith, c.loop-i-test.true, c.loop-i.auto.to, c.requires.same) in
    let P : Frame → Type 0 = λ f. IsBlank c.args.used f.locals in
    record {
      copied = copy_more i c.loop-i.to from c.copy_from.new.self blank_frame c.loop-i.invariant.copied within c.loop-i-test.true
          c.copy_from.ensures;
      blank = All-set P c.loop-i.to i c.copy_from.new.self
          (subst P (sym c.copy_from.ensures) (c.requires.blank.1 i blank_frame c.loop-i-test.true)) c.loop-i.invariant.blank;
      within = omega (arith, c.loop-i-test.true);
    }
