use Rattle.std.proofs.Common.{◌≡◌, ◌≢◌, MatchBool, subst, sym, reverse}
use Rattle.locals.specs.Uses.{AreBlank}
use Rattle.locals.proofs.Blanks.{backwards}
use Rattle.locals.proofs.Reverses.{same_backwards}
use Rattle.locals.proofs.copying.same_callers.Goals as goal

pub same_frames-requires-clause-blank : goal.same_frames-requires-clause-blank
same_frames-requires-clause-blank c = (
  subst (AreBlank c.args.used) (sym c.as_slice.ensures) (backwards c.args.used c.args.a.now c.requires.blank.0),
  subst (AreBlank c.args.used) (sym c.as_slice-2.ensures) (backwards c.args.used c.args.b.now c.requires.blank.1),
)

pub returns : goal.returns
returns c =
    let r = c.same_frames.result in
    same_backwards r c.args.a.now c.args.b.now
    (subst (λ xs. MatchBool r (xs ≡ reverse c.args.b.now) (xs ≢ reverse c.args.b.now)) c.as_slice.ensures
    (subst (λ ys. MatchBool r (c.as_slice.result.now ≡ ys) (c.as_slice.result.now ≢ ys)) c.as_slice-2.ensures
    c.same_frames.ensures))
