-- Which words of threads that have ended the next step of a thread uses.
use Rattle.std.proofs.Common.{◌≡◌, ◌≢◌, ◌<◌, ◌≤◌, ◌∙◌, ℕ, zero, suc, List, Some, None, inl, inr, refl, sym, subst}
use Rattle.std.proofs.Common.{Bool, arith, length}
use Rattle.std.specs.Prelude.{slice_index}
use Rattle.std.proofs.lemmas.Bool.{cases_lt}
use Rattle.std.proofs.lemmas.Option.{same_Some}
use Rattle.isa.specs.Programs.{Program}
use Rattle.robustexit.specs.declared.phase.ExitPhase.{ExitPhase}
use Rattle.robustexit.specs.declared.phase.ExitPhase.TheVariants.{Ended}
use Rattle.locals.specs.declared.request.Request.{Request as Told}
use Rattle.locals.specs.declared.request.NextStep.TheVariants as next
use Rattle.locals.specs.Threads.{Thread, Exits}
use Rattle.locals.specs.Looks.{Look, Goes, Asks, Leaves, Breaks, Rests, look}
use Rattle.locals.specs.Requests.{next_step_of}
use Rattle.machine.specs.RequestMeanings.{asked_of}
use Rattle.machine.specs.States.{State}
use Rattle.proof_image_search.specs.Searching.{IsApart, IsExitWord, Names, Uses}
use Rattle.image_states.specs.declared.packed.Packed.{Packed as PackedOf}
use Rattle.image_states.specs.declared.parts.Parts.{Parts as PartsOf}
use Rattle.image_states.specs.Ends.{IsApartAt, IsSpared}
use Rattle.image_states.specs.Packed.{asleep_at, place_of, thread_at, unpacked}
use Rattle.image_states.proofs.Forked.{is_fork}
use Rattle.image_states.proofs.Found.{absent_past}
use Rattle.image_states.proofs.Served.{asks}
use Rattle.image_states.proofs.Turned.{broken_told, ended_told, exit_told}
use Rattle.machine.proofs.Steps.{forks_when, local_goes}

-- no thread stands past those that were made
pub made_so : (p : Program) (parts : PartsOf) (x : PackedOf) (u : ℕ) (z : Thread)
    → (unpacked p parts x).thread u ≡ Some z → u ≤ length x.parts.items
made_so p parts x zero z e = omega arith
made_so p parts x (suc u) z e = elim (cases_lt u (length x.parts.items)) [
  | inl less ↦ omega (arith, less)
  | inr past ↦ absurd (let no' : None ≡ Some z = sym (absent_past p parts x u past) ∙ e in cc)
]

pub spared_all : (p : Program) (parts : PartsOf) (x : PackedOf) (n a : ℕ) → length x.parts.items ≤ n
    → ((j : ℕ) → j < n → thread_at parts.locals.items x.parts.items (suc j) ≡ Some (Exits Ended) → IsExitWord (suc j) a → ⊥)
    → IsSpared (unpacked p parts x) a
spared_all p parts x n a past none zero ended is = absurd (let no' : None ≡ Some (Exits Ended) = ended in cc)
spared_all p parts x n a past none (suc t) ended is =
    let low : suc t ≤ length x.parts.items = made_so p parts x (suc t) (Exits Ended) ended in
    none t (omega (arith, low, past)) ended is

pub apart_all : (p : Program) (parts : PartsOf) (x : PackedOf) (n : ℕ) → length x.parts.items ≤ n
    → ((j : ℕ) → j < n → IsApartAt p (unpacked p parts x) (suc j)) → IsApart p (unpacked p parts x)
apart_all p parts x n past each = record {
  first = refl;
  few = λ u z e. made_so p parts x u z e;
  apart = λ t ended u z stands awake a uses is. by_number u z stands awake a uses t ended is;
}
  where
    by_number : (u : ℕ) (z : Thread) → (unpacked p parts x).thread u ≡ Some z → (unpacked p parts x).asleep u ≡ None
        → (a : ℕ) → Uses (unpacked p parts x) u (look p u z) a → IsSpared (unpacked p parts x) a
    by_number zero z stands awake a uses = absurd (let no' : None ≡ Some z = stands in cc)
    by_number (suc u) z stands awake a uses =
        let low : suc u ≤ length x.parts.items = made_so p parts x (suc u) z stands in
        each u (omega (arith, low, past)) z stands awake a uses

-- the word at an address is spared, and so at one that is the same
pub spared_at : (s : State) (a b : ℕ) → a ≡ b → IsSpared s b → IsSpared s a
spared_at s a b same h = subst (IsSpared s) (sym same) h

-- who sleeps isn't awake
pub not_awake : (places : List ℕ) (k place : ℕ) → place ≡ slice_index places k → place ≢ 0
    → asleep_at places (suc k) ≡ None → ⊥
not_awake places k place is some awake = by_number (slice_index places k) refl awake
  where
    by_number : (n : ℕ) → slice_index places k ≡ n → place_of n ≡ None → ⊥
    by_number zero e h = some (is ∙ e)
    by_number (suc n) e h = absurd cc

-- a thread that stands here
pub apart_here : (p : Program) (s : State) (t k : ℕ) (here : Thread) → t ≡ suc k → s.thread (suc k) ≡ Some here
    → ((a : ℕ) → Uses s t (look p t here) a → IsSpared s a) → IsApartAt p s (suc k)
apart_here p s t k here number there h x stands awake a uses =
    h a (subst (λ j. Uses s j (look p j here) a) (sym number)
    (subst (λ z. Uses s (suc k) (look p (suc k) z) a) (same_Some x here (sym stands ∙ there)) uses))

-- what the next step uses, by what the code tells of it
module _ (p : Program) (s : State) (t : ℕ) (here : Thread) where
  pub local_uses : next_step_of (look p t here) ≡ next.Local → (a : ℕ) → Uses s t (look p t here) a → ⊥
  local_uses told = by (look p t here) told
    where
      by : (l : Look) → next_step_of l ≡ next.Local → (a : ℕ) → Uses s t l a → ⊥
      by (Goes z) e a is = is
      by (Asks r go) e a is = local_goes (Asks r go) e refl
      by (Leaves phase) e a is = absurd cc
      by Breaks e a is = is
      by Rests e a is = is

  pub broken_uses : next_step_of (look p t here) ≡ next.Broken → (a : ℕ) → Uses s t (look p t here) a → ⊥
  broken_uses told a is = subst (λ l. Uses s t l a) (broken_told (look p t here) told) is

  pub ended_uses : next_step_of (look p t here) ≡ next.Ended → (a : ℕ) → Uses s t (look p t here) a → ⊥
  ended_uses told a is = subst (λ l. Uses s t l a) (ended_told (look p t here) told) is

  pub request_uses : (q : Told) → next_step_of (look p t here) ≡ next.Shared q → (a : ℕ) → Uses s t (look p t here) a
      → Names (asked_of q) a
  request_uses q told a is =
      let go = asks (look p t here) q told in subst (λ l. Uses s t l a) go.1 is

  pub exit_uses : (phase : ExitPhase) → next_step_of (look p t here) ≡ next.Exit phase → (a : ℕ)
      → Uses s t (look p t here) a → Uses s t (Leaves phase) a
  exit_uses phase told a is = subst (λ l. Uses s t l a) (exit_told (look p t here) phase told) is

  pub fork_uses : (e n : ℕ) (room : Bool) → next_step_of (look p t here) ≡ next.Fork e n room → (a : ℕ)
      → Uses s t (look p t here) a → ⊥
  fork_uses e n room told a is =
      let fork = is_fork (look p t here) room (forks_when (look p t here) e n room told) in
      subst (λ l. Uses s t l a) fork.asks is
