use Rattle.std.proofs.Common.{◌⊎◌, ◌≡◌, ◌∙◌, OnOk, Result, Ok, Err, Some, ap, inl, inr, refl, subst, sym}
use Rattle.words.specs.declared.version.ImageVersion.{ImageVersion}
use Rattle.isa.specs.Programs.{Program}
use Rattle.compiler.specs.Accepts.{RefusesTextAs}
use Rattle.compiler.specs.Compiles.{IsCompiledAs}
use Rattle.scanner.specs.Refusals.{out_of_memory}
use Rattle.answers.specs.Causes.{IsBesideAnother}
use Rattle.answers.proofs.Refusing.{failure_left, left_by, refused_by}
use Rattle.answers.proofs.Beside.{is_beside, is_compiled}
use Rattle.answers.proofs.listing.listing_of_text.Goals as goal

pub returns-in-Err-clause-left : goal.returns-in-Err-clause-left
returns-in-Err-clause-left c =
    let text = c.args.text.now.bytes.now in
    refused_by (RefusesTextAs c.args.image.now.version text) (λ e. ⊥)
    (IsBesideAnother (Some c.args.source) text c.args.image.now) _ c.from-refused.result
    (subst (λ (v : ImageVersion). (c.in-Err.refusal ≡ out_of_memory) ⊎ RefusesTextAs v text c.in-Err.refusal)
    c.version.ensures.value c.in-Err.ensures.compiled) c.from-refused.ensures

pub returns-in_err-listing_beside-in-Ok-clause-left : goal.returns-in_err-listing_beside-in-Ok-clause-left
returns-in_err-listing_beside-in-Ok-clause-left c =
    let text = c.args.text.now.bytes.now in
    let image = c.args.image.now in
    left_by _ _ _ c.from_residual.ensures
    (λ n gives. failure_left (RefusesTextAs image.version text) (λ e. ⊥) (IsBesideAnother (Some c.args.source) text image)
    n c.in_err-listing_beside-in-Ok.field-0.0 gives
    (is_beside c.args.source text image c.in-Ok.lowered.image c.in_err-listing_beside-in-Ok.field-0.0
    (subst (λ (v : ImageVersion). IsCompiledAs v text c.in-Ok.lowered.image) c.version.ensures.value
    c.in-Ok.ensures.compiled.compiled) c.in_err-listing_beside-in-Ok.ensures.failed))

pub returns-in_ok-listing_beside-in-Ok-clause-same : goal.returns-in_ok-listing_beside-in-Ok-clause-same
returns-in_ok-listing_beside-in-Ok-clause-same c =
    is_compiled c.args.text.now.bytes.now c.args.image.now c.in-Ok.lowered.image
    (subst (λ (v : ImageVersion). IsCompiledAs v c.args.text.now.bytes.now c.in-Ok.lowered.image) c.version.ensures.value
    c.in-Ok.ensures.compiled.compiled) c.in_ok-listing_beside-in-Ok.ensures.same
