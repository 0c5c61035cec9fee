-- A machine that stands as a kept state, but for local steps by which threads are further on.
use Rattle.std.proofs.Common.{◌≡◌, ◌∙◌, ◌≤◌, ◌⊎◌, ℕ, zero, suc, Contains, List, [], Option, Some, None, ap, arith}
use Rattle.std.proofs.Common.{false, inl, inr, length, refl, subst, sym}
use Rattle.std.proofs.lemmas.Bool.{cases_lt}
use Rattle.std.proofs.lemmas.List.{get_or_past}
use Rattle.std.specs.Prelude.{slice_index}
use Rattle.std.proofs.lemmas.Option.{same_Some, slice_get_past}
use Rattle.isa.specs.Programs.{Program}
use Rattle.locals.specs.Steps.{local_after}
use Rattle.locals.specs.Threads.{Thread, is_dying}
use Rattle.machine.specs.States.{State, state_of, thread_of}
use Rattle.machine.specs.Views.{IsWellFormed, View, concrete}
use Rattle.proof_image_search.specs.Searching.{Kept}
use Rattle.proof_image_search.proofs.Ahead.{Ahead, AheadAt, AllAhead, ahead, one_more}
use Rattle.proof_image_search.proofs.Further.{itself_further}
use Rattle.proof_image_search.proofs.Closing.{Reached}
use Rattle.image_states.specs.Packed.{asleep_at, kept_of, place_of, thread_at, unpacked, local_in}
use Rattle.image_states.proofs.Covering.{last_step, runs_code}
use Rattle.image_search.specs.declared.kept.KeptStates.{KeptStates as KeptOf}
use Rattle.image_search.specs.Living.{IsThere, StandsOn}

-- local steps by none of which a thread begins to die
ahead_by : (p : Program) (t n : ℕ) (x y : Thread) → local_after p t n x ≡ Some y → (n ≡ 0) ⊎ (is_dying y ≡ false)
    → Ahead p t n x y
ahead_by p t zero x y goes lives = same_Some _ _ goes
ahead_by p t (suc n) x y goes lives =
    let before = last_step p t (local_after p t n x) y goes in
    one_more p t n x before.0 y (ahead_by p t n x before.0 before.1 (inr (runs_code p t before.0 y before.2))) before.2
    (alive lives)
  where
    alive : (suc n ≡ 0) ⊎ (is_dying y ≡ false) → is_dying y ≡ false
    alive (inl never) = absurd (omega (arith, never))
    alive (inr is) = is

module _ (p : Program) (kept : KeptOf) (place : ℕ) (v : View) (well : IsWellFormed p (concrete v))
    (there : IsThere p kept place v) where
  all : AllAhead p (thread_of (concrete v)) (thread_at kept.parts.locals.items there.packed.parts.items)
  all zero = tt
  all (suc k) = elim (cases_lt k (length v.threads)) [
    | inl less ↦ by_stands (there.stands k less)
    | inr most ↦ subst (λ o. AheadAt p (suc k) o (thread_at kept.parts.locals.items there.packed.parts.items (suc k)))
        (sym (slice_get_past v.threads k most))
        (subst (λ o. AheadAt p (suc k) None o)
        (sym (ap (local_in kept.parts.locals.items)
        (slice_get_past there.packed.parts.items k (omega (arith, most, there.made))))) tt)
  ]
    where
      by_stands : StandsOn p kept.parts v there.packed (suc k) → AheadAt p (suc k) (thread_of (concrete v) (suc k))
          (thread_at kept.parts.locals.items there.packed.parts.items (suc k))
      by_stands s = subst (λ o. AheadAt p (suc k) o (thread_at kept.parts.locals.items there.packed.parts.items (suc k)))
          (sym s.stands) (subst (λ o. AheadAt p (suc k) (Some s.here) o) (sym s.is)
          (s.count, ahead_by p (suc k) s.count s.here s.there s.runs.goes s.runs.lives))

  sleepers : (u : ℕ) → asleep_at there.packed.places.items u ≡ (state_of (concrete v)).asleep u
  sleepers zero = nobody zero (λ less. omega (arith, less))
    where
      nobody : (u : ℕ) → ((1 ≤ u) → ⊥) → None ≡ (state_of (concrete v)).asleep u
      nobody u never = by_place ((state_of (concrete v)).asleep u) refl
        where
          by_place : (o : Option ℕ) → (state_of (concrete v)).asleep u ≡ o → None ≡ (state_of (concrete v)).asleep u
          by_place None e = sym e
          by_place (Some a) e = absurd (never (well.made u a e).0)
  sleepers (suc k) = elim (cases_lt k (length v.threads)) [
    | inl less ↦ there.sleeps k less
    | inr most ↦ ap place_of (get_or_past there.packed.places.items k 0 (omega (arith, most, there.few))) ∙ nobody most
  ]
    where
      nobody : length v.threads ≤ k → None ≡ (state_of (concrete v)).asleep (suc k)
      nobody most = by_place ((state_of (concrete v)).asleep (suc k)) refl
        where
          by_place : (o : Option ℕ) → (state_of (concrete v)).asleep (suc k) ≡ o
              → None ≡ (state_of (concrete v)).asleep (suc k)
          by_place None e = sym e
          by_place (Some a) e = absurd (let made : suc k ≤ length v.threads = (well.made (suc k) a e).1 in
              omega (arith, made, most))

  most_same : kept.parts.most ≡ (state_of (concrete v)).most
  most_same = there.most ∙ sym well.most

  same : unpacked p kept.parts there.packed
      ≡ ahead (state_of (concrete v)) (thread_at kept.parts.locals.items there.packed.parts.items) []
  same = λ i. record {
    most = most_same i;
    word = λ a. slice_index (there.words i) a;
    size = length (there.words i);
    made = there.made i;
    thread = thread_at kept.parts.locals.items there.packed.parts.items;
    asleep = λ u. sleepers u i;
    output = [];
  }

  -- it is one of some states
  pub reached : (rs : List Kept) → Contains rs (kept_of p kept.parts there.packed)
      → Reached p kept.parts.alone rs (state_of (concrete v)) there.packed.killed
  reached rs has = record {
    here = thread_at kept.parts.locals.items there.packed.parts.items;
    words = (state_of (concrete v)).word;
    output = [];
    all = itself_further p kept.parts.alone (state_of (concrete v))
        (thread_at kept.parts.locals.items there.packed.parts.items) all;
    is = subst (λ (q : State). Contains rs (record { state = q; killed = there.packed.killed })) same has;
  }
