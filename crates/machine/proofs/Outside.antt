-- A wake from outside is one of the relation: who slept stands in no list then, and sleeps nowhere.
use Rattle.std.proofs.Common.{◌≡◌, ◌≢◌, ℕ, true, false, ◌||◌, not, eqb, Option, Some, None, Ok, Err}
use Rattle.std.proofs.Common.{List, [], ◌∷◌, refl, sym, ap, ◌∙◌, subst, arith, inl, inr}
use Rattle.std.specs.Prelude.{◌↔◌, filter}
use Rattle.std.specs.List.{IsDistinct, AllByRecursion}
use Rattle.std.proofs.Math.Path.{fun_ext}
use Rattle.std.proofs.lemmas.Bool.{cases_eq, eq-eqb, ne_eqb, eqb-true, or_cases, or_left, or_right}
use Rattle.isa.specs.Programs.{Program}
use Rattle.buckets.specs.Places.{names, with_place, Agree}
use Rattle.robustexit.specs.RobustExit.{put}
use Rattle.machine.specs.declared.event.Event.{Event}
use Rattle.machine.specs.declared.event.EventName.TheVariants as name
use Rattle.machine.specs.declared.event.StepFault.TheVariants.{CannotMove}
use Rattle.machine.specs.ThreadSets.{IsThread, set_of}
use Rattle.machine.specs.States.{ConcreteState, state_of}
use Rattle.machine.specs.ConcreteServing.{event_of}
use Rattle.machine.specs.ConcreteOutside.{drop_sleeper, stray_at, stray_of}
use Rattle.machine.specs.Runs.{Strayed, IsStep}
use Rattle.machine.specs.Views.{IsWellFormed}
use Rattle.machine.specs.Determined.{StraysSo, StrayRefusedSo}
use Rattle.machine.specs.FrontRuns.{doing_of}
use Rattle.machine.proofs.Placing.{by_place}
use Rattle.machine.proofs.Sleeping.{placed, unplaced}
use Rattle.machine.proofs.Landing.{inside}

-- a list without one thread
abbrev but : ℕ → List ℕ → List ℕ
but t xs = filter (λ u. not (eqb u t)) xs

but_same : (t x : ℕ) (xs : List ℕ) → x ≡ t → but t (x ∷ xs) ≡ but t xs
but_same t x xs e = rw (eq-eqb x t e) refl

but_kept : (t x : ℕ) (xs : List ℕ) → x ≢ t → but t (x ∷ xs) ≡ x ∷ but t xs
but_kept t x xs ne = rw (ne_eqb x t ne) refl

names_but : (t v : ℕ) (xs : List ℕ) → names (but t xs) v ≡ true → (names xs v ≡ true) × (v ≢ t)
names_but t v [] h = absurd cc
names_but t v (x ∷ xs) h = elim (cases_eq x t) [
  | inl e ↦ let r = names_but t v xs (rw (but_same t x xs e) at h) in (or_right (eqb v x) _ r.0, r.1)
  | inr ne ↦ elim (or_cases (eqb v x) (names (but t xs) v) (rw (but_kept t x xs ne) at h)) [
    | inl q ↦ (or_left (eqb v x) _ q, λ e. ne (sym (eqb-true v x q) ∙ e))
    | inr q ↦ let r = names_but t v xs q in (or_right (eqb v x) _ r.0, r.1)
  ]
]

names_rest : (t v : ℕ) (xs : List ℕ) → v ≢ t → names xs v ≡ true → names (but t xs) v ≡ true
names_rest t v [] ne h = h
names_rest t v (x ∷ xs) ne h = elim (cases_eq x t) [
  | inl e ↦ rw (but_same t x xs e) (elim (or_cases (eqb v x) (names xs v) h) [
    | inl q ↦ absurd (ne (eqb-true v x q ∙ e))
    | inr q ↦ names_rest t v xs ne q
  ])
  | inr o ↦ rw (but_kept t x xs o) (elim (or_cases (eqb v x) (names xs v) h) [
    | inl q ↦ or_left (eqb v x) _ q
    | inr q ↦ or_right (eqb v x) _ (names_rest t v xs ne q)
  ])
]

apart_but : (t x : ℕ) (xs : List ℕ) → AllByRecursion (λ y. eqb x y ≡ false) xs
    → AllByRecursion (λ y. eqb x y ≡ false) (but t xs)
apart_but t x [] a = a
apart_but t x (y ∷ ys) a = elim (cases_eq y t) [
  | inl e ↦ rw (but_same t y ys e) (apart_but t x ys a.1)
  | inr ne ↦ rw (but_kept t y ys ne) (a.0, apart_but t x ys a.1)
]

distinct_but : (t : ℕ) (xs : List ℕ) → IsDistinct eqb xs → IsDistinct eqb (but t xs)
unfolding IsDistinct
distinct_but t [] d = d
distinct_but t (x ∷ xs) d = elim (cases_eq x t) [
  | inl e ↦ rw (but_same t x xs e) (distinct_but t xs d.1)
  | inr ne ↦ rw (but_kept t x xs ne) (apart_but t x xs d.0, distinct_but t xs d.1)
]

awake_then : (s : ℕ → Option ℕ) (t v : ℕ) → v ≡ t → with_place s (t ∷ []) None v ≡ None
awake_then s t v e = placed s (t ∷ []) None v (or_left (eqb v t) false (eq-eqb v t e))

as_before : (s : ℕ → Option ℕ) (t v : ℕ) → v ≢ t → with_place s (t ∷ []) None v ≡ s v
as_before s t v ne = unplaced s (t ∷ []) None v (ap (λ b. b || false) (ne_eqb v t ne))

no_place : (a : ℕ) (o : Option ℕ) → o ≡ None → o ≡ Some a → ⊥
no_place a o e f = absurd cc

agree_dropped : (q : ℕ → List ℕ) (s : ℕ → Option ℕ) (t : ℕ) → Agree q s
    → Agree (λ a. but t (q a)) (with_place s (t ∷ []) None)
agree_dropped q s t ok = record {
  stands = λ v a h. elim (cases_eq v t) [
    | inl e ↦ absurd (no_place a _ (awake_then s t v e) h)
    | inr ne ↦ names_rest t v (q a) ne (ok.stands v a (sym (as_before s t v ne) ∙ h))
  ];
  sleeps = λ v a h. let r = names_but t v (q a) h in as_before s t v r.1 ∙ ok.sleeps v a r.0;
  distinct = λ a. distinct_but t (q a) (ok.distinct a);
}

-- who sleeps then slept before
slept : (s : ℕ → Option ℕ) (t v a : ℕ) → with_place s (t ∷ []) None v ≡ Some a → s v ≡ Some a
slept s t v a h = elim (cases_eq v t) [
  | inl e ↦ absurd (no_place a _ (awake_then s t v e) h)
  | inr ne ↦ sym (as_before s t v ne) ∙ h
]

-- what always holds is kept
pub keeps_dropped : (p : Program) (k : ConcreteState) (t : ℕ) → IsWellFormed p k
    → IsWellFormed p (record { common = drop_sleeper k.common t; threads = k.threads })
keeps_dropped p k t concrete = record {
  most = concrete.most;
  fits = concrete.fits;
  sized = concrete.sized;
  some = concrete.some;
  few = concrete.few;
  agree = agree_dropped k.common.queue k.common.asleep t concrete.agree;
  made = λ v a h. concrete.made v a (slept k.common.asleep t v a h);
}

-- who sleeps is a thread
pub is_sleeper : (p : Program) (k : ConcreteState) (t a : ℕ) → IsWellFormed p k → k.common.asleep t ≡ Some a
    → IsThread t
is_sleeper p k t a concrete at = let r = concrete.made t a at in (r.0, omega (arith, r.1, concrete.few, concrete.fits))

pub with_one : (s : ℕ → Option ℕ) (t : ℕ) → with_place s (t ∷ []) None ≡ put s t None
with_one s t = fun_ext (λ v. by_place s t None v _ (awake_then s t v) (as_before s t v))

-- what a wake from outside is, and leaves
abbrev Strays : Program → ConcreteState → ConcreteState → ℕ → Event → Type 0
Strays p k k' t e = (e.woken ≡ set_of (t ∷ []))
    × IsStep p (state_of k) (record { thread = t; woken = t ∷ []; pauses = false; doing = Strayed e.value })
    (state_of k') × IsWellFormed p k'

strayed : (p : Program) (k : ConcreteState) (t a : ℕ) → IsWellFormed p k → k.common.asleep t ≡ Some a
    → Strays p k (record { common = drop_sleeper k.common t; threads = k.threads }) t
    (event_of name.Stray a (t ∷ []) [])
strayed p k t a concrete at = (
  refl,
  record {
    sleeps = at;
    woken = refl;
    after = λ i. record (state_of k) { asleep = with_one k.common.asleep t i };
    pauses = refl;
  },
  keeps_dropped p k t concrete,
)

by_sleep : (p : Program) (k k' : ConcreteState) (t : ℕ) (e : Event) (o : Option ℕ) → IsWellFormed p k
    → k.common.asleep t ≡ o → stray_at k t o ≡ Ok (k', e) → Strays p k k' t e
by_sleep p k k' t e None concrete at h = absurd cc
by_sleep p k k' t e (Some a) concrete at h =
    subst (λ (q : ConcreteState × Event). Strays p k q.0 t q.1) (inside _ (k', e) h) (strayed p k t a concrete at)

pub strays_so : StraysSo
strays_so p k k' t e concrete h = by_sleep p k k' t e (k.common.asleep t) concrete refl h

pub stray_refused_so : StrayRefusedSo
stray_refused_so k t = by_place_of (k.common.asleep t) refl
  where
    by_place_of : (o : Option ℕ) → k.common.asleep t ≡ o
        → (stray_at k t (k.common.asleep t) ≡ Err CannotMove) ↔ (k.common.asleep t ≡ None)
    by_place_of None at = (λ h. at, λ h. ap (stray_at k t) at)
    by_place_of (Some a) at = (λ h. absurd (never (ap (stray_at k t) (sym at) ∙ h)), λ h. absurd cc)
      where
        never : stray_at k t (Some a) ≡ Err CannotMove → ⊥
        never h = absurd cc

told_by : (k k' : ConcreteState) (t : ℕ) (e : Event) (o : Option ℕ) → stray_at k t o ≡ Ok (k', e)
    → doing_of e.name e.value ≡ Strayed e.value
told_by k k' t e None h = absurd cc
told_by k k' t e (Some a) h =
    subst (λ (q : ConcreteState × Event). doing_of q.1.name q.1.value ≡ Strayed q.1.value) (inside _ (k', e) h) refl

-- the event of a wake from outside tells so
pub stray_told : (k k' : ConcreteState) (t : ℕ) (e : Event) → stray_of k t ≡ Ok (k', e)
    → doing_of e.name e.value ≡ Strayed e.value
stray_told k k' t e h = told_by k k' t e (k.common.asleep t) h
