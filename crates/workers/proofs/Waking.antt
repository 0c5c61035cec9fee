-- Whom the last entry concerns, by what is read of it.
use Rattle.std.proofs.Common.{◌≡◌, ◌≢◌, ◌∙◌, ◌-◌, ◌++◌, ℕ, Bool, false, List, [], ◌∷◌, length, slice_get, Option, Some, None}
use Rattle.std.proofs.Common.{MatchBool, refl, ap, arith, length-append, subst, sym}
use Rattle.locals.specs.declared.access.AccessKind.{AccessKind}
use Rattle.locals.specs.declared.access.AccessKind.TheVariants as kind
use Rattle.machine.specs.Accessing.{access_name, told_access}
use Rattle.machine.specs.declared.event.Entry.{Entry}
use Rattle.machine.specs.declared.event.Event.{Event}
use Rattle.machine.specs.declared.event.EventName.{EventName}
use Rattle.machine.specs.declared.event.EventName.TheVariants.{Fork}
use Rattle.machine.specs.declared.thread_set.ThreadSet.{ThreadSet}
use Rattle.packed_log.specs.Views.{Woke, step_of}
use Rattle.runner.specs.Entries.{TellsAccess}
use Rattle.workers.specs.WakeReasons.{Concerns, gives_up, gives_up_by, last_event, nobody_concerned}

pub told : (o : Option Event) (kind : EventName) (woken : ThreadSet) (forked released : Bool)
    → Woke o (Some kind) woken → MatchBool forked (kind ≡ Fork) (kind ≢ Fork) → released ≡ gives_up_by kind
    → Concerns o (record { woken = woken; forked = forked; released = released })
told None kind woken forked released w is gives = absurd (cc w.0)
told (Some event) kind woken forked released w is gives =
    let same : kind ≡ event.name = cc w.0 in
    (w.1, subst (λ (n : EventName). MatchBool forked (n ≡ Fork) (n ≢ Fork)) same is, gives ∙ ap gives_up_by same)

pub untold : (o : Option Event) (woken : ThreadSet) → Woke o None woken
    → Concerns o (record { woken = woken; forked = false; released = false })
untold None woken w = (w.1, refl, refl)
untold (Some event) woken w = absurd (cc w.0)

no_fork : (k : AccessKind) → access_name k ≡ Fork → ⊥
no_fork kind.Load h = absurd cc
no_fork kind.Store h = absurd cc
no_fork kind.Swap h = absurd cc
no_fork kind.CompareSwap h = absurd cc
no_fork kind.FetchOr h = absurd cc
no_fork kind.FetchAdd h = absurd cc

keeps_buckets : (k : AccessKind) → gives_up_by (access_name k) ≡ false
keeps_buckets kind.Load = refl
keeps_buckets kind.Store = refl
keeps_buckets kind.Swap = refl
keeps_buckets kind.CompareSwap = refl
keeps_buckets kind.FetchOr = refl
keeps_buckets kind.FetchAdd = refl

end_is : (es : List Entry) (e : Entry) → slice_get (es ++ e ∷ []) (length es) ≡ Some e
end_is [] e = refl
end_is (x ∷ xs) e = end_is xs e

last_is : (es : List Entry) (e : Entry) → last_event (es ++ e ∷ []) ≡ e.event
last_is es e =
    let at : length (es ++ e ∷ []) - 1 ≡ length es = omega (arith, length-append es (e ∷ [])) in
    ap (λ (n : ℕ). step_of (slice_get (es ++ e ∷ []) n)) at ∙ ap step_of (end_is es e)

told_is : (old : List Entry) (t count : ℕ) (new : List Entry) (h : TellsAccess old t count new)
    → last_event new ≡ Some (told_access h.0)
told_is old t count new h =
    ap last_event h.1 ∙ last_is old (record { thread = t; local = count; event = Some (told_access h.0) })

-- an access concerns nobody
pub concerns_nobody : (old : List Entry) (t count : ℕ) (new : List Entry) → TellsAccess old t count new
    → Concerns (last_event new) nobody_concerned
concerns_nobody old t count new h =
    subst (λ (o : Option Event). Concerns o nobody_concerned) (sym (told_is old t count new h))
    (refl, no_fork h.0.kind, sym (keeps_buckets h.0.kind))

-- and gives no bucket up
pub gives_none_up : (old : List Entry) (t count : ℕ) (new : List Entry) → TellsAccess old t count new
    → gives_up (last_event new) ≡ false
gives_none_up old t count new h = ap gives_up (told_is old t count new h) ∙ keeps_buckets h.0.kind
