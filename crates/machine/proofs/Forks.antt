-- A fork that is served is served, and its thread stands among the others.
use Rattle.std.proofs.Common.{◌≡◌, ◌≢◌, ℕ, zero, suc, ◌-◌, ◌<◌, Bool, true, false, cond, List, [], ◌∷◌, ◌++◌}
use Rattle.std.proofs.Common.{length, Some, Result, Ok, Err, slice_get, slice_set, refl, ap, sym, ◌∙◌, arith, inl}
use Rattle.std.proofs.Common.{inr, length-set, length-append}
use Rattle.std.specs.Prelude.{slice_index}
use Rattle.std.proofs.Math.Path.{fun_ext}
use Rattle.std.proofs.lemmas.Bool.{cases_eq, eq-eqb, ne_eqb, cond-true, cond-false}
use Rattle.words.specs.Process.{process_word}
use Rattle.isa.specs.Programs.{Program}
use Rattle.locals.specs.Threads.{Thread, opening_thread}
use Rattle.locals.specs.Looks.{AskFork, Asks}
use Rattle.machine.specs.declared.event.Event.{Event}
use Rattle.machine.specs.declared.event.EventName.TheVariants as name
use Rattle.machine.specs.declared.event.StepFault.{StepFault}
use Rattle.machine.specs.declared.event.StepFault.TheVariants.{Broken}
use Rattle.robustexit.specs.RobustExit.{put}
use Rattle.machine.specs.States.{Common, ConcreteState, thread_at, thread_of, state_of, with_thread}
use Rattle.machine.specs.AbstractServing.{with_child}
use Rattle.machine.specs.ConcreteServing.{Served, fork_at, plain, set_word}
use Rattle.machine.specs.ConcreteSteps.{go_on_with, on_machine}
use Rattle.machine.specs.Views.{IsWellFormed}
use Rattle.machine.proofs.Placing.{by_place, put-here, put-there, threads_put, words_put}
use Rattle.machine.proofs.Keeping.{Holds, holds-concrete, holds-set, holds-more}
use Rattle.machine.proofs.Landing.{Steps, inside, HasPlace}
use Rattle.machine.proofs.Serves.{stays}

-- one thread more, after the others
get-append : (xs : List Thread) (y : Thread) → slice_get (xs ++ y ∷ []) (length xs) ≡ Some y
get-append [] y = refl
get-append (x ∷ xs) y = get-append xs y

get-append_other : (xs : List Thread) (y : Thread) (i : ℕ) → i ≢ length xs
    → slice_get (xs ++ y ∷ []) i ≡ slice_get xs i
get-append_other [] y zero ne = absurd (ne refl)
get-append_other [] y (suc i) ne = refl
get-append_other (x ∷ xs) y zero ne = refl
get-append_other (x ∷ xs) y (suc i) ne = get-append_other xs y i (λ e. ne (ap suc e))

thread-append : (xs : List Thread) (y : Thread) (u : ℕ)
    → thread_at (xs ++ y ∷ []) u ≡ put (thread_at xs) (suc (length xs)) (Some y) u
thread-append xs y zero = sym (put-there (thread_at xs) (suc (length xs)) (Some y) zero (λ e. absurd (omega arith)))
thread-append xs y (suc u) =
    by_place (thread_at xs) (suc (length xs)) (Some y) (suc u) _ (λ e. ap (slice_get (xs ++ y ∷ [])) (omega arith)
    ∙ get-append xs y) (λ ne. get-append_other xs y u (λ e. ne (ap suc e)))

-- two places are written in either order
put-swap : {A : Type 0} → (f : ℕ → A) (i j : ℕ) (v w : A) (u : ℕ) → i ≢ j
    → put (put f i v) j w u ≡ put (put f j w) i v u
put-swap f i j v w u ne = elim (cases_eq u j) [
  | inl e ↦ put-here (put f i v) j w u e
      ∙ sym (put-there (put f j w) i v u (λ q. ne (sym q ∙ e)) ∙ put-here f j w u e)
  | inr out ↦ put-there (put f i v) j w u out ∙ elim (cases_eq u i) [
    | inl e ↦ put-here f i v u e ∙ sym (put-here (put f j w) i v u e)
    | inr other ↦ put-there f i v u other ∙ sym (put-there (put f j w) i v u other ∙ put-there f j w u out)
  ]
]

new_thread : (ts : List Thread) (t : ℕ) (x y z : Thread) (u : ℕ) → thread_at ts t ≡ Some z → t ≢ suc (length ts)
    → thread_at (slice_set ts (t - 1) x ++ y ∷ []) u ≡ put (put (thread_at ts) (suc (length ts)) (Some y)) t
    (Some x) u
new_thread ts t x y z u stands ne =
    let long : length (slice_set ts (t - 1) x) ≡ length ts = length-set ts (t - 1) x in
    let f : thread_at (slice_set ts (t - 1) x) ≡ put (thread_at ts) t (Some x) =
    fun_ext (threads_put ts t x z stands) in
    thread-append (slice_set ts (t - 1) x) y u ∙ (λ i. put (f i) (suc (long i)) (Some y) u)
    ∙ put-swap (thread_at ts) t (suc (length ts)) (Some x) (Some y) u ne

-- the place of a test that went well, or not
made : (k : ConcreteState) (t : ℕ) (go : ℕ → Thread) (b : Bool) (r : Result Served StepFault)
    (q : ConcreteState × Event) → on_machine k t (go_on_with go (cond b r (Err Broken))) ≡ Ok q
    → (b ≡ true) × (on_machine k t (go_on_with go r) ≡ Ok q)
made k t go true r q h = (refl, h)
made k t go false r q h = absurd cc

pub forks : (p : Program) (k k' : ConcreteState) (t : ℕ) (e : Event) (y : Thread) (go : ℕ → Thread) (entry : ℕ)
    (arguments : List ℕ) (has_room : Bool) → IsWellFormed p k → thread_of k t ≡ Some y → HasPlace k t
    → on_machine k t (go_on_with go (fork_at (length k.threads) k.common entry arguments has_room)) ≡ Ok (k', e)
    → Steps p k k' t e (Asks (AskFork entry arguments has_room) go)
forks p k k' t e y go entry arguments has_room concrete stands place h = elim (cases_eq (length k.threads) k.common.most) [
  | inl full ↦ stays p k k' t e (plain name.Fork 0) y (AskFork entry arguments has_room) go 0 concrete stands refl
      (refl, inl (full, refl, refl))
      (ap (λ o. on_machine k t (go_on_with go o)) (sym (cond-true _ _ _ (eq-eqb _ _ full))) ∙ h)
  | inr ne ↦
      let child : ℕ = suc (length k.threads) in
      let o = made k t go has_room _ (k', e)
      (ap (λ o. on_machine k t (go_on_with go o)) (sym (cond-false _ _ _ (ne_eqb _ _ ne))) ∙ h) in
      let x : Thread = go child in
      let made_one : Thread = opening_thread entry arguments in
      let threads : List Thread = slice_set k.threads (t - 1) x ++ made_one ∷ [] in
      let c : Common = set_word k.common (process_word child 2) child in
      let is = inside _ (k', e) o.1 in
      let k'-is : k' ≡ record { common = c; threads = threads } = ap (λ (q : ConcreteState × Event). q.0) (sym is) in
      let long : length threads ≡ child = length-append (slice_set k.threads (t - 1) x) (made_one ∷ [])
      ∙ omega (arith, length-set k.threads (t - 1) x) in
      let few : length k.threads < k.common.most = omega (arith, concrete.few, ne) in
      let lies : process_word child 2 < length k.common.words = omega (arith, concrete.sized, concrete.most, few) in
      let size : length (slice_set k.common.words (process_word child 2) child) ≡ length k.common.words =
      length-set k.common.words (process_word child 2) child in
      let holds : Holds p child c =
      holds-set _ _ k.common (process_word child 2) child
      (holds-more _ _ child k.common (omega arith) (holds-concrete p k concrete)) in
      let word : (b : ℕ) → slice_index c.words b ≡ put (λ d. slice_index k.common.words d)
      (process_word child 2) child b = words_put k.common.words (process_word child 2) child lies in
      let state : state_of (record { common = c; threads = threads })
      ≡ with_thread (with_child (state_of k) entry arguments) t x = λ i. record {
        most = k.common.most;
        word = λ b. word b i;
        size = size i;
        made = long i;
        thread = λ u. new_thread k.threads t x made_one y u stands
            (λ q. absurd (let f = place.few in omega (arith, q, f))) i;
        asleep = k.common.asleep;
        output = k.common.output;
      } in
      record {
        woken = [];
        set = ap (λ (q : ConcreteState × Event). q.1.woken) (sym is);
        moves = (
          child,
          with_child (state_of k) entry arguments,
          (refl, inr (few, o.0, refl, refl)),
          ap state_of k'-is ∙ state,
        );
        concrete = rw k'-is (record {
          most = concrete.most;
          fits = concrete.fits;
          sized = holds.sized;
          some = omega (arith, long);
          few = omega (arith, long, few);
          agree = holds.agree;
          made = λ u a g. let r = holds.made u a g in (r.0, omega (arith, long, r.1));
        });
      }
]
