use Rattle.std.proofs.Common.{◌≡◌, Some, length, refl, slice_get, subst}
use Rattle.std.proofs.lemmas.Option.{slice_get_read}
use Rattle.words.specs.Versions.{most_of}
use Rattle.locals.proofs.ShortCalls.{no_call}
use Rattle.locals.proofs.activation.Activation.call_ahead.Goals as goal

pub returns-in_default : goal.returns-in_default
returns-in_default c t =
    let p = c.args.image.now in
    let place = c.args.self.now.place in
    let xs = c.code.result.now in
    let i = c.in_ok-get.field-0.now in
    let found = c.in_ok-get.ensures.lookup in
    let stands : slice_get p.code place ≡ Some i = subst (λ ys. slice_get ys place ≡ Some i) c.code.ensures.value
    (slice_get_read xs (length xs) place i refl found.3.0 found.1) in
    no_call (most_of p.version) t (slice_get p.code place) i c.args.self.now stands
    (c.in_default.not-FutexWait, c.in_default.not-FutexWake)
