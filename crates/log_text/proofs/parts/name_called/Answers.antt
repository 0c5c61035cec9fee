use Rattle.std.proofs.Common.{◌≡◌, arith, ap, sym, ◌∙◌, inl, inr}
use Rattle.std.proofs.lemmas.Bool.{cases_eq}
use Rattle.log_text.specs.LogLines.{name_text}
use Rattle.log_text.specs.Places.{place_of}
use Rattle.log_text.proofs.Names.{few_places, place_once}
use Rattle.log_text.proofs.parts.name_called.Goals as goal

pub loop-place-preserved : goal.loop-place-preserved
loop-place-preserved c = λ name is.
    let past = c.loop-place.invariant name is in
    let at = c.name_at-name.ensures in
    elim (cases_eq (place_of name) c.loop-place.place) [
      | inl same ↦
          let one : name ≡ c.name_at-name.result = place_once name c.name_at-name.result (same ∙ sym at) in
          absurd (c.if-is_called.ensures (is ∙ ap name_text one))
      | inr other ↦ omega (arith, past, other)
    ]

pub returns : goal.returns
returns c = λ name is.
    let past = c.loop-place.invariant name is in
    let few = few_places name in
    absurd (omega (arith, past, few))
