use Rattle.std.proofs.Common.{◌≡◌, ◌∙◌, Some, ap, length, refl, slice_get, subst}
use Rattle.std.specs.Prelude.{option_map}
use Rattle.std.proofs.lemmas.Option.{slice_get_read}
use Rattle.source_table.specs.Tables.{table_of}
use Rattle.source_search.proofs.parts.Parts.has_table.Goals as goal

pub returns-in-Some : goal.returns-in-Some
returns-in-Some c = λ same.
    ap (option_map table_of) (subst (λ xs. slice_get xs c.args.number ≡ Some c.in-Some.part.now) c.deref.ensures.value
    (slice_get_read c.deref.result.now (length c.deref.result.now) c.args.number c.in-Some.part.now refl
    c.in-Some.ensures.lookup.3.0 c.in-Some.ensures.lookup.1))
    ∙ ap Some (c.is_same.ensures same)
