use Rattle.std.proofs.Common.{◌≡◌, ◌∙◌, ◌-◌, ap, drop, length, reverse, slice_set, subst, sym}
use Rattle.std.proofs.lemmas.List.{drop-replicate, length-set, reverse-reverse, take_at}
use Rattle.std.proofs.lemmas.List.Elements.{All-cons}
use Rattle.isa.specs.Limits.{most_locals}
use Rattle.locals.specs.Threads.{Frame, Locals}
use Rattle.locals.specs.Uses.{AreBlank, IsBlank}
use Rattle.locals.proofs.Blanks.{backwards, set_top}
use Rattle.locals.proofs.frame.keep_frame.Goals as goal

pub fill_last-requires-clause-blank : goal.fill_last-requires-clause-blank
fill_last-requires-clause-blank c =
    let used = c.args.used in
    let frames = c.frames.inside.items.items in
    let P : Frame → Type 0 = λ f. IsBlank used f.locals in
    let blank : IsBlank used c.fresh.result = subst (λ (l : Locals). IsBlank used l) (sym c.fresh.ensures)
    (drop-replicate used most_locals 0) in
    let all = All-cons P (record { back = 0; locals = c.fresh.result }) c.args.frames.now blank c.requires.blank.0 in (
      subst (AreBlank used) (sym c.as_mut_slice.ensures.value)
          (subst (AreBlank used) (reverse-reverse frames)
          (backwards used (reverse frames) (subst (AreBlank used) (sym (c.frames.view_is ∙ c.push.ensures)) all))),
      c.requires.blank.1,
    )

pub returns : goal.returns
returns c =
    let xs = c.frames.inside.items.items in
    let ys = c.fill_last.new.frames in
    let kept : Frame = record { back = c.args.back; locals = c.args.locals.now } in
    let filled : ys ≡ slice_set xs (length xs - 1) kept = subst (λ zs. ys ≡ slice_set zs (length zs - 1) kept)
    c.as_mut_slice.ensures.value c.fill_last.ensures in
    let same : length ys ≡ length xs = ap length filled ∙ length-set xs (length xs - 1) kept in
    ap reverse (take_at ys (drop (length ys) xs) (length xs) same) ∙ ap reverse filled
    ∙ set_top xs c.args.frames.now (record { back = 0; locals = c.fresh.result }) kept (c.frames.view_is ∙ c.push.ensures)
