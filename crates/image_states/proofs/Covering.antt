-- What a packed state covers in which a thread was taken on by local steps.
use Rattle.std.proofs.Common.{◌≡◌, ◌≢◌, ◌<◌, ◌≤◌, ◌∙◌, ℕ, zero, suc, List, [], ◌∷◌, Option, Some, None, All, Contains, length, slice_get}
use Rattle.std.proofs.Common.{inl, inr, refl, sym, ap, subst, arith, true, false, Bool, ◌==◌}
use Rattle.std.proofs.lemmas.Bool.{eqb-true, eqb-false}
use Rattle.std.specs.Prelude.{◌⊎◌, slice_index, slice_set, ℤ}
use Rattle.std.proofs.lemmas.List.{length-set}
use Rattle.std.proofs.lemmas.List.Elements.{All-set}
use Rattle.std.proofs.lemmas.Option.{slice_get_within, same_Some}
use Rattle.words.specs.Updates.{put}
use Rattle.words.proofs.Updates.{at_put, put_again, put_same}
use Rattle.isa.specs.Programs.{Program}
use Rattle.robustexit.specs.declared.phase.ExitPhase.TheVariants.{Entry, Pending, ClearId, LastWake, Ended}
use Rattle.locals.specs.Threads.{Thread, Runs, Dies, Exits, is_dying}
use Rattle.locals.specs.Steps.{and_step, local_after, local_step}
use Rattle.machine.specs.States.{State, with_thread}
use Rattle.proof_image_search.specs.Searching.{Kept, IsCovered}
use Rattle.image_states.specs.declared.next.Next.{Next as NextOf}
use Rattle.image_states.specs.declared.packed.Packed.{Packed as PackedOf}
use Rattle.image_states.specs.declared.parts.Parts.{Parts as PartsOf}
use Rattle.image_states.specs.Packed.{kept_of, local_in, thread_at, unpacked, words_in, IsPlaced, IsWithin}
use Rattle.image_states.specs.Nexts.{shaped, Covers, IsBase, Reaches}

-- who takes a local step runs its code
pub runs_code : (p : Program) (t : ℕ) (x y : Thread) → local_step p t x ≡ Some y → is_dying x ≡ false
runs_code p t (Runs place operands locals callers) y e = refl
runs_code p t (Dies cause) y e = absurd cc
runs_code p t (Exits (Entry e' seen)) y e = absurd cc
runs_code p t (Exits Pending) y e = absurd cc
runs_code p t (Exits ClearId) y e = absurd cc
runs_code p t (Exits LastWake) y e = absurd cc
runs_code p t (Exits Ended) y e = absurd cc

-- the last of some local steps
pub last_step : (p : Program) (t : ℕ) (o : Option Thread) (y : Thread) → and_step p t o ≡ Some y
    → (z : Thread) × (o ≡ Some z) × (local_step p t z ≡ Some y)
last_step p t None y e = absurd cc
last_step p t (Some z) y e = (z, refl, e)

-- before more local steps a thread runs its code
pub runs_before : (p : Program) (t n k : ℕ) (x y z : Thread) → local_after p t n x ≡ Some z → k < n
    → local_after p t k x ≡ Some y → is_dying y ≡ false
runs_before p t zero k x y z goes less here = absurd (omega (arith, less))
runs_before p t (suc n) k x y z goes less here =
    at (k == n) refl (λ l. runs_before p t n k x y before.0 before.1 l here)
  where
    before : (w : Thread) × (local_after p t n x ≡ Some w) × (local_step p t w ≡ Some z)
    before = last_step p t (local_after p t n x) z goes

    at : (b : Bool) → (k == n) ≡ b → (k < n → is_dying y ≡ false) → is_dying y ≡ false
    at true e rest =
        let same : k ≡ n = eqb-true k n e in
        let one : before.0 ≡ y =
        same_Some before.0 y (sym before.1 ∙ ap (λ m. local_after p t m x) (sym same) ∙ here) in
        subst (λ w. is_dying w ≡ false) one (runs_code p t before.0 z before.2)
    at false e rest = rest (let ne : k ≢ n = eqb-false k n e in omega (arith, less, ne))

-- where it is covered in what state local steps take a thread, it is before them
pub run_covered : (p : Program) (alone : Bool) (kept : List Kept) (k : ℕ) (s : State) (t n : ℕ) (x y : Thread)
    → local_after p t n x ≡ Some y → (n ≡ 0) ⊎ (is_dying y ≡ false)
    → (m : ℕ) × IsCovered p alone kept m (with_thread s t y) k
    → (m : ℕ) × IsCovered p alone kept m (with_thread s t x) k
run_covered p alone kept k s t zero x y e lives c =
    subst (λ z. (m : ℕ) × IsCovered p alone kept m (with_thread s t z) k) (sym (same_Some x y e)) c
run_covered p alone kept k s t (suc n) x y e lives c =
    run_covered p alone kept k s t n x before.0 before.1 (inr (runs_code p t before.0 y before.2)) (
      suc c.0,
      inr (inl (
        t,
        before.0,
        y,
        record { stands = put_same s.thread t (Some before.0); goes = before.2; lives = alive lives },
        subst (λ r. IsCovered p alone kept c.0 r k) (sym again) c.1,
      )),
    )
  where
    before : (z : Thread) × (local_after p t n x ≡ Some z) × (local_step p t z ≡ Some y)
    before = last_step p t (local_after p t n x) y e

    alive : (suc n ≡ 0) ⊎ (is_dying y ≡ false) → is_dying y ≡ false
    alive (inl never) = absurd (omega (arith, never))
    alive (inr is) = is

    again : with_thread (with_thread s t before.0) t y ≡ with_thread s t y
    again = λ i. record s { thread = λ u. put_again s.thread t (Some before.0) (Some y) u i }

-- what is kept, but for what was printed, is covered
pub leaf : (p : Program) (parts : PartsOf) (kept : List Kept) (y : PackedOf) (s : State)
    → record s { output = [] } ≡ unpacked p parts y → Contains kept (kept_of p parts y)
    → IsCovered p parts.alone kept zero s y.killed
leaf p parts kept y s e has =
    ([], subst (λ (r : State). Contains kept (record { state = r; killed = y.killed })) (sym e) has)

pub get_set : {X : Type 0} (xs : List X) (i : ℕ) (x : X) → i < length xs → slice_get (slice_set xs i x) i ≡ Some x
get_set [] i x l = absurd (omega (arith, l))
get_set (y ∷ ys) zero x l = refl
get_set (y ∷ ys) (suc i) x l = get_set ys i x (omega (arith, l))

pub get_set_other : {X : Type 0} (xs : List X) (i j : ℕ) (x : X) → (j ≡ i → ⊥)
    → slice_get (slice_set xs i x) j ≡ slice_get xs j
get_set_other [] i j x ne = refl
get_set_other (y ∷ ys) zero zero x ne = absurd (ne refl)
get_set_other (y ∷ ys) zero (suc j) x ne = refl
get_set_other (y ∷ ys) (suc i) zero x ne = refl
get_set_other (y ∷ ys) (suc i) (suc j) x ne = get_set_other ys i j x (λ e. ne (ap suc e))

-- a thread that was changed
pub put_thread : (locals : List Thread) (ns : List ℕ) (k part : ℕ) (there : Thread) → k < length ns
    → slice_get locals part ≡ Some there → (u : ℕ)
    → put (thread_at locals ns) (suc k) (Some there) u ≡ thread_at locals (slice_set ns k part) u
put_thread locals ns k part there less is u =
    at_put (thread_at locals ns) (suc k) (Some there) u (λ o. o ≡ thread_at locals (slice_set ns k part) u)
    (λ e. subst (λ j. Some there ≡ thread_at locals (slice_set ns k part) j) (sym e)
    (sym (ap (local_in locals) (get_set ns k part less) ∙ is)))
    (other u)
  where
    other : (j : ℕ) → j ≢ suc k → thread_at locals ns j ≡ thread_at locals (slice_set ns k part) j
    other zero ne = refl
    other (suc j) ne = ap (local_in locals) (sym (get_set_other ns k j part (λ e. ne (ap suc e))))

-- the state in which a thread has gone on, and others sleep elsewhere
module _ (p : Program) (parts : PartsOf) (x b : PackedOf) (k memory : ℕ) (here : Thread)
    (base : IsBase p parts x k memory here b) (y : PackedOf) (asleep : ℕ → Option ℕ) (placed : IsPlaced b y asleep)
    (output : List ℤ) where
  memory_is : memory ≡ y.memory
  memory_is = sym base.moved.memory ∙ sym placed.memory

  parts_are : slice_set x.parts.items k base.part ≡ y.parts.items
  parts_are = sym base.moved.parts ∙ sym placed.parts

  made_is : length x.parts.items ≡ length y.parts.items
  made_is = sym (length-set x.parts.items k base.part) ∙ ap length parts_are

  threads_are : (u : ℕ) → put (thread_at parts.locals.items x.parts.items) (suc k) (Some base.there) u
      ≡ thread_at parts.locals.items y.parts.items u
  threads_are u = put_thread parts.locals.items x.parts.items k base.part base.there base.moved.less base.is u
      ∙ ap (λ ns. thread_at parts.locals.items ns u) parts_are

  abbrev pub before : State
  before = shaped (unpacked p parts x) (words_in parts.memories.items memory) asleep output

  is_unpacked : record (with_thread before (suc k) base.there) { output = [] } ≡ unpacked p parts y
  is_unpacked = λ i. record (unpacked p parts y) {
    word = λ a. slice_index (words_in parts.memories.items (memory_is i)) a;
    size = length (words_in parts.memories.items (memory_is i));
    made = made_is i;
    thread = λ u. threads_are u i;
    asleep = sym placed.places i;
  }

  pub base_covers : Covers p parts y (with_thread before (suc k) here) y.killed
  base_covers kept has =
      run_covered p parts.alone kept y.killed before (suc k) base.count here base.there base.runs.goes base.runs.lives
      (zero, leaf p parts kept y (with_thread before (suc k) base.there) is_unpacked has)

  pub base_within : IsWithin parts x → memory < length parts.memories.items → IsWithin parts y
  base_within is less = record {
    memory = subst (λ m. m < length parts.memories.items) memory_is less;
    locals = subst (All (λ n. n < length parts.locals.items)) parts_are
        (All-set (λ n. n < length parts.locals.items) x.parts.items k base.part
        (slice_get_within parts.locals.items base.part base.there base.is) is.locals);
    places = placed.count ∙ ap length base.moved.places ∙ is.places ∙ made_is;
    few = subst (λ n. n ≤ parts.most) made_is is.few;
  }

-- one of the next states is such a one
pub base_reaches : (p : Program) (parts : PartsOf) (x b : PackedOf) (k memory : ℕ) (here : Thread)
    → IsBase p parts x k memory here b → IsWithin parts x → memory < length parts.memories.items
    → (nexts : List NextOf) (y : NextOf) (asleep : ℕ → Option ℕ) → IsPlaced b y.state asleep
    → y.state.killed ≡ x.killed → Contains nexts y → (output : List ℤ)
    → Reaches p parts nexts
    (with_thread (shaped (unpacked p parts x) (words_in parts.memories.items memory) asleep output) (suc k) here) x.killed
base_reaches p parts x b k memory here base is less nexts y asleep placed killed has output = record {
  next = y;
  found = has;
  within = base_within p parts x b k memory here base y.state asleep placed output is less;
  covers = subst (Covers p parts y.state
      (with_thread (shaped (unpacked p parts x) (words_in parts.memories.items memory) asleep output) (suc k) here)) killed
      (base_covers p parts x b k memory here base y.state asleep placed output);
}
