-- What is told of threads that sleep for good.
use Rattle.std.proofs.Common.{◌≡◌, ℕ, Bool, Contains, List, [], ◌∷◌, ◌++◌, None, Some, ap, arith, inl, inr, slice_get, subst, sym}
use Rattle.std.proofs.Common.{length, true}
use Rattle.std.proofs.lemmas.List.Elements.{Contains-push_cases}
use Rattle.isa.specs.Programs.{Program}
use Rattle.machine.specs.PieceStates.{PieceState, IsHeldRight}
use Rattle.machine.specs.States.{State}
use Rattle.machine.specs.Views.{IsWellFormed, concrete}
use Rattle.piece_machine.specs.PieceDetermined.{IsFit}
use Rattle.piece_machine.specs.PieceViews.{PieceView, parts, pieces}
use Rattle.proof_image_search.specs.Searching.{IsCompleteBy, Kept, May}
use Rattle.proof_image_search.proofs.Closing.{Reached}
use Rattle.proof_image_liveness.specs.Sleeping.{AreAsleep, AreWakened, SleepsForGood}
use Rattle.proof_image_liveness.proofs.Closed.{for_good_behind}
use Rattle.proof_image_liveness.proofs.Going.{whole_base}
use Rattle.proof_image_liveness.proofs.Quieting.{never_sleeps, outside_of}
use Rattle.image_states.specs.Packed.{kept_of}
use Rattle.image_search.specs.declared.ending.Ending.{Ending}
use Rattle.image_search.specs.declared.ending.Ending.TheVariants.{Complete}
use Rattle.image_search.specs.declared.ending.Sleeping.{Sleeping}
use Rattle.image_search.specs.declared.ending.Sleeping.TheVariants.{ForGood, Never, Unknown, Unsought}
use Rattle.image_search.specs.declared.kept.KeptStates.{KeptStates as KeptOf}
use Rattle.image_search.specs.Kept.{IsSound, states_of}
use Rattle.image_search.specs.Living.{IsStill, IsThere, flagged}
use Rattle.image_search.specs.Sleeping.{HasSlept, TellsOfSleepers, NeverSleeps}
use Rattle.image_search.proofs.Closed.{flagged_in}
use Rattle.image_search.proofs.Flagging.{states_same}
use Rattle.image_search.proofs.Keeping.{state_at}
use Rattle.image_search.proofs.Matched.{reached}

pub told_slept : (p : Program) (may : May) (ending : Ending) (s : Sleeping) → ending ≡ Complete → TellsOfSleepers p may s
    → HasSlept p may ending s
told_slept p may ending Unsought complete is = λ e. is
told_slept p may ending Never complete is = is
told_slept p may ending (ForGood turns threads) complete is = is
told_slept p may ending (Unknown why) complete is = (complete, is)

pub complete_still : (p : Program) (may : May) (a b : KeptOf) → IsSound a → IsStill a b
    → IsCompleteBy p a.parts.alone may (states_of p a) → IsCompleteBy p b.parts.alone may (states_of p b)
complete_still p may a b sound still h =
    subst (λ (alone : Bool). IsCompleteBy p alone may (states_of p b)) (sym still.parts.alone)
    (subst (IsCompleteBy p a.parts.alone may) (sym (states_same p a b sound still)) h)

pub never_so : (p : Program) (alone : Bool) (may : May) (kept : List Kept) → IsCompleteBy p alone may kept
    → ((r : Kept) → Contains kept r → AreWakened p alone r) → NeverSleeps p may
never_so p alone may kept complete wakened buckets steps s some run from t a slept =
    never_sleeps p alone may kept complete wakened buckets some steps s run from t

-- a thread more sleeps for good
pub all_more : (p : Program) (s : PieceState) (threads : List ℕ) (t : ℕ)
    → ((u : ℕ) → Contains threads u → SleepsForGood p s u) → SleepsForGood p s t → (u : ℕ)
    → Contains (threads ++ t ∷ []) u → SleepsForGood p s u
all_more p s threads t all one u has = elim (Contains-push_cases threads t u has) [
  | inl is ↦ all u is
  | inr same ↦ subst (SleepsForGood p s) same one
]

pub none_sleep : (p : Program) (s : PieceState) (threads : List ℕ) → threads ≡ [] → (u : ℕ) → Contains threads u
    → SleepsForGood p s u
none_sleep p s threads none u has =
    let less = has.1 in
    let empty : length threads ≡ 0 = ap length none in absurd (omega (arith, less, empty))

-- where a machine stands as a flagged state, and the flagged ones are closed
module _ (p : Program) (t : ℕ) (kept : KeptOf) (flags : List Bool) (place : ℕ) (v : PieceView)
    (well : IsWellFormed p (concrete v.view)) (right : IsHeldRight p (pieces v))
    (free : (b : ℕ) → (pieces v).holder b ≡ None) (is : slice_get flags place ≡ Some true)
    (asleep : AreAsleep p kept.parts.alone t (flagged flags (states_of p kept))) (there : IsThere p kept place v.view) where
  behind : Reached p kept.parts.alone (flagged flags (states_of p kept)) (pieces v).base there.packed.killed
  behind = reached p kept place v.view well there (flagged flags (states_of p kept))
      (flagged_in flags (states_of p kept) place (kept_of p kept.parts there.packed) is
      (state_at p kept place there.packed there.here))

  pub sleeps_so : SleepsForGood p (pieces v) t
  sleeps_so =
      let sleeps = asleep.sleeps _ behind.is in
      for_good_behind p kept.parts.alone t (flagged flags (states_of p kept)) asleep (pieces v) right there.packed.killed sleeps.0
      (subst (λ (q : State). Reached p kept.parts.alone (flagged flags (states_of p kept)) q there.packed.killed)
      (sym (whole_base p (pieces v) (outside_of p (pieces v) right free))) behind)
      sleeps.1

-- the same of a machine whose program this is
pub sleeps_in : (p : Program) (t : ℕ) (kept : KeptOf) (flags : List Bool) (place : ℕ) (v : PieceView)
    → v.view.program ≡ p → IsFit v.view.program (parts v) → ((b : ℕ) → (pieces v).holder b ≡ None)
    → slice_get flags place ≡ Some true → AreAsleep p kept.parts.alone t (flagged flags (states_of p kept))
    → IsThere p kept place v.view
    → SleepsForGood p (pieces v) t
sleeps_in p t kept flags place v same fit free is asleep there =
    let fit_here : IsFit p (parts v) = subst (λ q. IsFit q (parts v)) same fit in
    sleeps_so p t kept flags place v fit_here.well fit_here.right free is asleep there
