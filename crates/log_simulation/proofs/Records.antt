-- What a recorder records.
use Rattle.std.proofs.Common.{◌≡◌, ◌+◌, ◌<◌, ◌≤◌, ℕ, zero, suc, Bool, true, false, List, [], ◌∷◌, length, Option, Some}
use Rattle.std.proofs.Common.{None, refl, ap, sym, ◌∙◌, arith, subst, length-append, inl, inr, ◌⊎◌}
use Rattle.std.specs.Prelude.{◌++◌, ◌&&◌, ◌||◌, MatchBool, if◌then◌else◌, slice_get, slice_set, get_or}
use Rattle.words.specs.Updates.{put}
use Rattle.locals.specs.Threads.{Thread}
use Rattle.locals.specs.Looks.{Request, AskFork, Look, Goes, Asks, Leaves, Breaks, Rests}
use Rattle.locals.specs.Requests.{next_step_of, request_step}
use Rattle.locals.specs.Steps.{local_after}
use Rattle.lowering.specs.declared.mark.Mark.{Mark}
use Rattle.lowering.specs.Pieces.{code_of, marks_of}
use Rattle.proof_thread.specs.Deferrals.{deferred_by_request, deferred_by_step}
use Rattle.meaning.specs.Labels.{Kind}
use Rattle.program.specs.Trees.{Program}
use Rattle.words.proofs.Updates.{put_same, put_other}
use Rattle.proof_simulation.specs.Deferred.{deferred_then, is_failing, has_failed}
use Rattle.proof_simulation.proofs.Tracking.{failed_more}
use Rattle.log_simulation.specs.Entries.{deferred_at, deferred_locally}
use Rattle.log_simulation.specs.Deferred.{deferral_of, deferred_by_next_step, Says, CountsDeferred, Raises}
use Rattle.log_simulation.specs.declared.deferral.Deferral.TheVariants as deferral
use Rattle.log_simulation.specs.declared.deferred.Deferred.{Deferred}

pub when_true : (A B : Type 0) (b : Bool) → MatchBool b A B → b ≡ true → A
when_true A B true h e = h
when_true A B false h e = absurd cc

pub when_false : (A B : Type 0) (b : Bool) → MatchBool b A B → b ≡ false → B
when_false A B true h e = absurd cc
when_false A B false h e = h

-- one action more is deferred at most
pub then_few : (o : Option Kind) (ks : List Kind) → length (deferred_then o ks) ≤ length ks + 1
then_few None ks = omega arith
then_few (Some k) ks = by_test (is_failing k && has_failed ks)
  where
    by_test : (b : Bool) → length (if b then ks else ks ++ k ∷ []) ≤ length ks + 1
    by_test true = omega arith
    by_test false = let long = length-append ks (k ∷ []) in omega (arith, long)

at_few : (marks : List Mark) (o : Option Thread) (ks : List Kind) → length (deferred_at marks o ks) ≤ length ks + 1
at_few marks None ks = omega arith
at_few marks (Some x) ks = then_few _ ks

pub few_deferred : (p : Program) (t n : ℕ) (x : Thread) (ks : List Kind)
    → length (deferred_locally p t n x ks) ≤ length ks + n
few_deferred p t zero x ks = omega arith
few_deferred p t (suc n) x ks =
    let before = few_deferred p t n x ks in
    let more = at_few (marks_of p) (local_after (code_of p) t n x) (deferred_locally p t n x ks) in
    omega (arith, before, more)

-- what is deferred behind a step is told by what the thread comes to
deferral_request : (mark : Option Mark) (request : Request) (v : ℕ)
    → deferred_by_next_step mark (request_step request) v ≡ deferred_by_request mark request v
deferral_request mark (AskFork entry arguments has_room) v = refl
deferral_request mark request v = refl

pub deferral_so : (mark : Option Mark) (l : Look) (v : ℕ)
    → deferred_by_next_step mark (next_step_of l) v ≡ deferred_by_step mark l v
deferral_so mark (Goes x) v = refl
deferral_so mark (Asks request go) v = deferral_request mark request v
deferral_so mark (Leaves phase) v = refl
deferral_so mark Breaks v = refl
deferral_so mark Rests v = refl

or_false : (b : Bool) → (b || false) ≡ b
or_false true = refl
or_false false = refl

or_true : (b : Bool) → (b || true) ≡ true
or_true true = refl
or_true false = refl

or_on : (a b d : Bool) → ((a || b) || d) ≡ (a || (b || d))
or_on true b d = refl
or_on false b d = refl

-- no action adds nothing
pub nothing_more : (x : Deferred) (ks : List Kind) (o : Option Kind) → Says x ks → deferral.Nothing ≡ deferral_of o
    → Says x (deferred_then o ks)
nothing_more x ks None says is = says
nothing_more x ks (Some k) says is = by_test (is_failing k) is
  where
    by_test : (b : Bool) → deferral.Nothing ≡ (if b then deferral.Fault else deferral.Action)
        → Says x (if b && has_failed ks then ks else ks ++ k ∷ [])
    by_test true e = absurd cc
    by_test false e = absurd cc

-- a fault is deferred once
pub fault_again : (x : Deferred) (ks : List Kind) (o : Option Kind) → Says x ks → x.has_failed ≡ true
    → deferral.Fault ≡ deferral_of o → Says x (deferred_then o ks)
fault_again x ks None says failed is = absurd cc
fault_again x ks (Some k) says failed is = by_test (is_failing k) is
  where
    by_test : (b : Bool) → deferral.Fault ≡ (if b then deferral.Fault else deferral.Action)
        → Says x (if b && has_failed ks then ks else ks ++ k ∷ [])
    by_test true e = subst (λ b. Says x (if b then ks else ks ++ k ∷ [])) (sym failed ∙ says.failed) says
    by_test false e = absurd cc

one_more : (x y : Deferred) (ks : List Kind) (k : Kind) (b : Bool) → Says x ks → is_failing k ≡ b
    → y.count ≡ x.count + 1 → y.has_failed ≡ (x.has_failed || b) → Says y (ks ++ k ∷ [])
one_more x y ks k b says is count failed =
    let long = length-append ks (k ∷ []) in
    let was = says.count in
    record {
      count = omega (arith, long, was, count);
      failed = failed ∙ ap (λ c. c || b) says.failed ∙ ap (λ c. has_failed ks || c) (sym is) ∙ sym (failed_more ks k);
    }

pub fault_first : (x y : Deferred) (ks : List Kind) (o : Option Kind) → Says x ks → x.has_failed ≡ false
    → deferral.Fault ≡ deferral_of o → y.count ≡ x.count + 1 → y.has_failed ≡ true → Says y (deferred_then o ks)
fault_first x y ks None says fine is count failed = absurd cc
fault_first x y ks (Some k) says fine is count failed = by_test (is_failing k) refl is
  where
    by_test : (b : Bool) → is_failing k ≡ b → deferral.Fault ≡ (if b then deferral.Fault else deferral.Action)
        → Says y (if b && has_failed ks then ks else ks ++ k ∷ [])
    by_test true so e = subst (λ c. Says y (if c then ks else ks ++ k ∷ [])) (sym fine ∙ says.failed)
        (one_more x y ks k true says so count (failed ∙ sym (or_true x.has_failed)))
    by_test false so e = absurd cc

pub action_more : (x y : Deferred) (ks : List Kind) (o : Option Kind) → Says x ks → deferral.Action ≡ deferral_of o
    → y.count ≡ x.count + 1 → y.has_failed ≡ x.has_failed → Says y (deferred_then o ks)
action_more x y ks None says is count failed = absurd cc
action_more x y ks (Some k) says is count failed = by_test (is_failing k) refl is
  where
    by_test : (b : Bool) → is_failing k ≡ b → deferral.Action ≡ (if b then deferral.Fault else deferral.Action)
        → Says y (if b && has_failed ks then ks else ks ++ k ∷ [])
    by_test true so e = absurd cc
    by_test false so e = one_more x y ks k false says so count (failed ∙ sym (or_false x.has_failed))

-- what stands in a list behind a change at one place
get_set : {A : Type 0} (ws : List A) (t u : ℕ) (x y : A) → slice_get (slice_set ws t y) u ≡ Some x
    → ((u ≡ t) × (x ≡ y)) ⊎ ((u ≡ t → ⊥) × (slice_get ws u ≡ Some x))
get_set [] t u x y h = absurd cc
get_set (w ∷ ws) zero zero x y h = inl (refl, cc)
get_set (w ∷ ws) zero (suc u) x y h = inr (λ e. absurd cc, h)
get_set (w ∷ ws) (suc t) zero x y h = inr (λ e. absurd cc, h)
get_set (w ∷ ws) (suc t) (suc u) x y h = by_rest (get_set ws t u x y h)
  where
    by_rest : ((u ≡ t) × (x ≡ y)) ⊎ ((u ≡ t → ⊥) × (slice_get ws u ≡ Some x))
        → ((suc u ≡ suc t) × (x ≡ y)) ⊎ ((suc u ≡ suc t → ⊥) × (slice_get ws u ≡ Some x))
    by_rest (inl (e, s)) = inl (ap suc e, s)
    by_rest (inr (o, s)) = inr (λ e. o (omega (arith, e)), s)

pub put_deferred : (ws : List Deferred) (f : ℕ → List Kind) (t : ℕ) (y : Deferred) (ks : List Kind)
    → CountsDeferred ws f → Says y ks
    → CountsDeferred (slice_set ws t y) (put f t ks)
put_deferred ws f t y ks waits says u x h = by_place (get_set ws t u x y h)
  where
    by_place : ((u ≡ t) × (x ≡ y)) ⊎ ((u ≡ t → ⊥) × (slice_get ws u ≡ Some x)) → Says x (put f t ks u)
    by_place (inl (e, s)) = subst (λ (i : List Kind). Says x i) (sym (ap (put f t ks) e ∙ put_same f t ks))
        (subst (λ (i : Deferred). Says i ks) (sym s) says)
    by_place (inr (o, s)) = subst (λ (i : List Kind). Says x i) (sym (put_other f t ks u o)) (waits u x s)

-- where there is no such place, nothing is said of it
pub deferred_past : (ws : List Deferred) (f : ℕ → List Kind) (t : ℕ) (ks : List Kind) → CountsDeferred ws f
    → slice_get ws t ≡ None → CountsDeferred ws (put f t ks)
deferred_past ws f t ks waits none u x h =
    subst (λ (i : List Kind). Says x i) (sym (put_other f t ks u (λ e. nowhere (ap (slice_get ws) (sym e) ∙ h))))
    (waits u x h)
  where
    nowhere : slice_get ws t ≡ Some x → ⊥
    nowhere there = let both : Some x ≡ None = sym there ∙ none in absurd cc

-- nothing is deferred of any process
pub none_deferred : (ws : List Deferred) (x : Deferred) → CountsDeferred ws (λ t. []) → Says x []
    → CountsDeferred (ws ++ x ∷ []) (λ t. [])
none_deferred [] x waits says zero y h = let e : x ≡ y = cc in subst (λ (i : Deferred). Says i []) e says
none_deferred [] x waits says (suc t) y h = absurd cc
none_deferred (w ∷ ws) x waits says zero y h = waits zero y h
none_deferred (w ∷ ws) x waits says (suc t) y h = none_deferred ws x (λ u z i. waits (suc u) z i) says t y h

pub there_so : {A : Type 0} (ws : List A) (t : ℕ) (d : A) → t < length ws → slice_get ws t ≡ Some (get_or ws t d)
there_so [] t d less = absurd (omega (arith, less))
there_so (w ∷ ws) zero d less = refl
there_so (w ∷ ws) (suc t) d less = there_so ws t d (omega (arith, less))

pub past_none : {A : Type 0} (ws : List A) (t : ℕ) → length ws ≤ t → slice_get ws t ≡ None
past_none [] t past = refl
past_none (w ∷ ws) zero past = absurd (omega (arith, past))
past_none (w ∷ ws) (suc t) past = past_none ws t (omega (arith, past))

-- a bit more or less
pub put_raised : (bits : List Bool) (f : ℕ → Bool) (t : ℕ) (b : Bool) → Raises bits f
    → Raises (slice_set bits t b) (put f t b)
put_raised bits f t b raised u x h = by_place (get_set bits t u x b h)
  where
    by_place : ((u ≡ t) × (x ≡ b)) ⊎ ((u ≡ t → ⊥) × (slice_get bits u ≡ Some x)) → x ≡ put f t b u
    by_place (inl (e, s)) = s ∙ sym (ap (put f t b) e ∙ put_same f t b)
    by_place (inr (o, s)) = raised u x s ∙ sym (put_other f t b u o)

-- where there is no such place, nothing is said of it
pub raised_past : (bits : List Bool) (f : ℕ → Bool) (t : ℕ) (b : Bool) → Raises bits f → slice_get bits t ≡ None
    → Raises bits (put f t b)
raised_past bits f t b raised none u x h =
    raised u x h ∙ sym (put_other f t b u (λ e. nowhere (ap (slice_get bits) (sym e) ∙ h)))
  where
    nowhere : slice_get bits t ≡ Some x → ⊥
    nowhere there = let both : Some x ≡ None = sym there ∙ none in absurd cc

-- nobody has raised a number
pub none_raised : (bits : List Bool) → Raises bits (λ t. false) → Raises (bits ++ false ∷ []) (λ t. false)
none_raised [] raised zero y h = cc
none_raised [] raised (suc t) y h = absurd cc
none_raised (b ∷ bits) raised zero y h = raised zero y h
none_raised (b ∷ bits) raised (suc t) y h = none_raised bits (λ u z i. raised (suc u) z i) t y h
