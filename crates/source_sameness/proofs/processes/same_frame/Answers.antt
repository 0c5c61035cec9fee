use Rattle.std.proofs.Common.{◌≡◌, ◌∙◌, Bool, true, false, not, ap, refl, rules, sym}
use Rattle.std.proofs.lemmas.Bool.Decides.{Decides-int_eq}
use Rattle.std.proofs.lemmas.Slice.Eq.{slice_eq-Decides}
use Rattle.program.specs.Trees.{Done}
use Rattle.source_offers.specs.Rests.{rest_in}
use Rattle.source_sameness.proofs.processes.same_frame.Goals as goal

not_false : (b : Bool) → not b ≡ false → b ≡ true
not_false true e = refl
not_false false e = absurd (cc)

pub returns : goal.returns
returns c = λ same.
    let role : c.args.a.now.role ≡ c.args.b.now.role = search rules in
    let into : c.args.a.now.into ≡ c.args.b.now.into = search rules in
    let locals : c.args.a.now.locals.items ≡ c.args.b.now.locals.items =
    (slice_eq-Decides Decides-int_eq c.args.a.now.locals.items c.args.b.now.locals.items _ refl).0
    (not_false _ (sym c.ne-3.ensures ∙ c.if-ne-3.false)) in
    let rest : rest_in c.args.a.now.rest.items ≡ rest_in c.args.b.now.rest.items =
    sym (ap rest_in c.as_slice-first.ensures.value) ∙ c.same_rest.ensures same Done
    ∙ ap rest_in c.as_slice-second.ensures.value in
    λ i. record { into = into i; frame = record { role = role i; locals = locals i; rest = rest i } }
