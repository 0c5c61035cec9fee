use Rattle.std.proofs.Common.{◌≡◌, ◌∙◌, Some, ap, false, length, refl, slice_get, sym, true}
use Rattle.std.proofs.lemmas.Option.{slice_get_read}
use Rattle.image_search.proofs.flagged.is_flagged.Goals as goal

pub returns-in-Some-clause-is : goal.returns-in-Some-clause-is
returns-in-Some-clause-is c = λ e.
    slice_get_read c.args.flags.now (length c.args.flags.now) c.args.place c.in-Some.flag.now refl
    c.in-Some.ensures.lookup.3.0 c.in-Some.ensures.lookup.1 ∙ ap (λ b. Some b) e

pub returns-in-Some-clause-isnt : goal.returns-in-Some-clause-isnt
returns-in-Some-clause-isnt c = λ e is. absurd (
    let here : slice_get c.args.flags.now c.args.place ≡ Some c.in-Some.flag.now =
    slice_get_read c.args.flags.now (length c.args.flags.now) c.args.place c.in-Some.flag.now refl
    c.in-Some.ensures.lookup.3.0 c.in-Some.ensures.lookup.1 in
    let no' : Some false ≡ Some true = ap (λ b. Some b) (sym e) ∙ sym here ∙ is in cc)
