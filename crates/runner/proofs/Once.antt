-- An entry leads to one state, and can't be taken where its local steps end too early.
use Rattle.std.proofs.Common.{◌≡◌, ◌<◌, ◌-◌, ◌+◌, ◌++◌, ℕ, zero, suc, List, [], ◌∷◌, Option, Some, None, refl, ap, sym}
use Rattle.std.proofs.Common.{◌∙◌, ◌≤◌, arith, subst, length, length-set, slice_get, slice_set, Bool, true, false}
use Rattle.std.proofs.Common.{Ok, Err}
use Rattle.std.proofs.Common.{inl, inr}
use Rattle.isa.specs.Programs.{Program}
use Rattle.locals.specs.Threads.{Thread}
use Rattle.locals.specs.Steps.{local_step, local_after, and_step}
use Rattle.machine.specs.declared.event.Event.{Event}
use Rattle.machine.specs.declared.event.Entry.{Entry}
use Rattle.machine.specs.States.{thread_at, thread_of}
use Rattle.piece_machine.specs.PieceConcrete.{PieceConcrete, Outcome, stray_piece, whole_at, with_local}
use Rattle.piece_machine.specs.PieceFronts.{OutsidePiece}
use Rattle.runner.specs.Logs.{Ends, Enters, EntersOwn, EntersOutside, Runs, is_outside}
use Rattle.machine.specs.declared.event.StepFault.TheVariants.{CannotMove}
use Rattle.machine.specs.ConcreteOutside.{stray_at}
use Rattle.runner.proofs.Owning.{inside, own_entry, tells_outside, wake_or_kill}
use Rattle.runner.proofs.Going.{after_sum}

-- behind the last local step comes none
pub past_last : (p : Program) (t n : ℕ) (h : Thread) → local_step p t h ≡ None → local_after p t (suc n) h ≡ None
past_last p t zero h none = none
past_last p t (suc n) h none = ap (and_step p t) (past_last p t n h none)

nothing_there : {A : Type 0} → (x : A) (o : Option A) → o ≡ Some x → o ≡ None → ⊥
nothing_there x o is none = absurd cc

pub none_after : (p : Program) (t m n : ℕ) (o h : Thread) → local_after p t m o ≡ Some h → local_step p t h ≡ None
    → m < n → local_after p t n o ≡ None
none_after p t m n o h goes none less =
    let k : ℕ = n - suc m in
    let e : suc k + m ≡ n = omega (arith, less) in
    ap (λ (j : ℕ). local_after p t j o) (sym e) ∙ after_sum p t m (suc k) o h goes ∙ past_last p t k h none

pub never_there : (p : Program) (k : PieceConcrete) (e : Entry) (o : Thread) → thread_of k.concrete e.thread ≡ Some o
    → local_after p e.thread e.local o ≡ None → (new : PieceConcrete) → Enters p k e new → ⊥
never_there p k e o stands none new (inr outside) =
    nothing_there o (local_after p e.thread e.local o)
    (ap (λ (n : ℕ). local_after p e.thread n o) outside.alone) none
never_there p k e o stands none new (inl enters) =
    let f : Some enters.origin ≡ Some o = sym enters.stands ∙ stands in
    let same : enters.origin ≡ o = cc in
    nothing_there enters.here (local_after p e.thread e.local enters.origin) enters.goes
    (ap (λ (x : Thread). local_after p e.thread e.local x) same ∙ none)

pub no_more : (p : Program) (t m n : ℕ) (o h x : Thread) → local_after p t m o ≡ Some h → local_step p t h ≡ None
    → m < n → local_after p t n o ≡ Some x → ⊥
no_more p t m n o h x goes none less after =
    let k : ℕ = n - suc m in
    let e : suc k + m ≡ n = omega (arith, less) in
    nothing_there x (local_after p t n o) after
    (ap (λ (j : ℕ). local_after p t j o) (sym e) ∙ after_sum p t m (suc k) o h goes ∙ past_last p t k h none)

-- a thread goes to one place by so many local steps
pub here_once : (p : Program) (k : PieceConcrete) (t n : ℕ) (o h : Thread) (o' h' : Thread) → thread_of k.concrete t ≡ Some o
    → local_after p t n o ≡ Some h → thread_of k.concrete t ≡ Some o' → local_after p t n o' ≡ Some h' → h ≡ h'
here_once p k t n o h o' h' stands goes stands' goes' =
    let e : Some o ≡ Some o' = sym stands ∙ stands' in
    let same : o ≡ o' = cc in
    let f : Some h ≡ Some h' = sym goes ∙ ap (λ (x : Thread). local_after p t n x) same ∙ goes' in cc

ends_once : (p : Program) (k a b : PieceConcrete) (t : ℕ) (here : Thread) (event : Option Event)
    → Ends p k t here event a → Ends p k t here event b → a ≡ b
ends_once p k a b t here None x y = x ∙ sym y
ends_once p k a b t here (Some event) x y =
    ap (λ (q : PieceConcrete × Event). q.0) (inside (a, event) (b, event) (sym x.1 ∙ y.1))

-- an entry of a thread's own leads to one state
own_once : (p : Program) (k a b : PieceConcrete) (e : Entry) → EntersOwn p k e a → EntersOwn p k e b → a ≡ b
own_once p k a b e x y =
    let same = here_once p k e.thread e.local x.origin x.here y.origin y.here x.stands x.goes y.stands y.goes in
    ends_once p (with_local k e.thread x.here) a b e.thread x.here e.event x.ends
    (subst (λ (h : Thread). Ends p (with_local k e.thread h) e.thread h e.event b) (sym same) y.ends)

-- a thread that is awake isn't woken from outside
pub no_stray : (k : PieceConcrete) (t : ℕ) (q : PieceConcrete × Event) → k.concrete.common.asleep t ≡ None
    → stray_piece k t ≡ Ok q → ⊥
no_stray k t q awake gives =
    let refused : stray_piece k t ≡ Err CannotMove = ap (λ o. whole_at k (stray_at k.concrete t o)) awake in
    done_or_not q (sym gives ∙ refused)
  where
    done_or_not : (x : PieceConcrete × Event)
        → (let a : Outcome = Ok x in a) ≡ (let b : Outcome = Err CannotMove in b) → ⊥
    done_or_not x h = cc

-- no entry of a thread's own comes from outside
pub apart : (p : Program) (k a b : PieceConcrete) (e : Entry) → EntersOwn p k e a → EntersOutside p k e b → ⊥
apart p k a b e own outside =
    true_or_false (is_outside e.event) (tells_outside p k b e outside) (own_entry p k a e own)
  where
    true_or_false : (b : Bool) → b ≡ true → b ≡ false → ⊥
    true_or_false b is isn't = absurd cc

-- what comes from outside with one event leads to one state
step_once : (p : Program) (k a b : PieceConcrete) (t : ℕ) (event : Event) → OutsidePiece p k t event a
    → OutsidePiece p k t event b → a ≡ b
step_once p k a b t event (inl x) (inl y) =
    ap (λ (q : PieceConcrete × Event). q.0) (inside (a, event) (b, event) (sym x ∙ y))
step_once p k a b t event (inl x) (inr y) = absurd (wake_or_kill p k a b t event x y)
step_once p k a b t event (inr x) (inl y) = absurd (wake_or_kill p k b a t event y x)
step_once p k a b t event (inr x) (inr y) =
    ap (λ (q : PieceConcrete × Event). q.0) (inside (a, event) (b, event) (sym x ∙ y))

outside_once : (p : Program) (k a b : PieceConcrete) (e : Entry) → EntersOutside p k e a → EntersOutside p k e b → a ≡ b
outside_once p k a b e x y =
    let f : Some y.event ≡ Some x.event = sym y.is ∙ x.is in
    let same : y.event ≡ x.event = cc in
    step_once p k a b e.thread x.event x.gives
    (subst (λ (event : Event). OutsidePiece p k e.thread event b) same y.gives)

-- an entry leads to one state
pub enters_once : (p : Program) (k a b : PieceConcrete) (e : Entry) → Enters p k e a → Enters p k e b → a ≡ b
enters_once p k a b e (inl x) (inl y) = own_once p k a b e x y
enters_once p k a b e (inl x) (inr y) = absurd (apart p k a b e x y)
enters_once p k a b e (inr x) (inl y) = absurd (apart p k b a e y x)
enters_once p k a b e (inr x) (inr y) = outside_once p k a b e x y

-- where the local steps end too early
pub never_local : (p : Program) (k : PieceConcrete) (e : Entry) (m : ℕ) (o h : Thread) → thread_of k.concrete e.thread ≡ Some o
    → local_after p e.thread m o ≡ Some h → local_step p e.thread h ≡ None → m < e.local
    → (new : PieceConcrete) → Enters p k e new → ⊥
never_local p k e m o h stands goes none less new (inr outside) = absurd (omega (arith, less, outside.alone))
never_local p k e m o h stands goes none less new (inl enters) =
    let f : Some enters.origin ≡ Some o = sym enters.stands ∙ stands in
    let same : enters.origin ≡ o = cc in
    no_more p e.thread m e.local o h enters.here goes none less
    (ap (λ (x : Thread). local_after p e.thread e.local x) (sym same) ∙ enters.goes)

-- entries after entries
pub runs_split : (p : Program) (k k' : PieceConcrete) (xs ys : List Entry) → Runs p k (xs ++ ys) k'
    → (mid : PieceConcrete) × Runs p k xs mid × Runs p mid ys k'
runs_split p k k' [] ys runs = (k, refl, runs)
runs_split p k k' (x ∷ xs) ys runs =
    let rest = runs_split p runs.0 k' xs ys runs.2 in (rest.0, (runs.0, runs.1, rest.1), rest.2)

-- a log leads to one state
pub runs_once : (p : Program) (k a b : PieceConcrete) (xs : List Entry) → Runs p k xs a → Runs p k xs b → a ≡ b
runs_once p k a b [] x y = sym x ∙ y
runs_once p k a b (e ∷ es) x y =
    runs_once p x.0 a b es x.2
    (subst (λ (m : PieceConcrete). Runs p m es b) (enters_once p k y.0 x.0 e y.1 x.1) y.2)

-- a thread that was made, and is still there after it was put somewhere
made_by : (threads : List Thread) (t : ℕ) (x : Thread) → slice_get threads t ≡ Some x → t < length threads
made_by [] t x h = absurd cc
made_by (y ∷ ys) zero x h = omega arith
made_by (y ∷ ys) (suc t) x h = let less = made_by ys t x h in omega (arith, less)

pub within_made : (threads : List Thread) (t : ℕ) (x : Thread) → thread_at threads t ≡ Some x → t ≤ length threads
within_made threads zero x stands = absurd cc
within_made threads (suc t) x stands = let less = made_by threads t x stands in omega (arith, less)

pub still_made : (threads after : List Thread) (t : ℕ) (x h : Thread) → thread_at threads t ≡ Some x
    → after ≡ slice_set threads (t - 1) h → (0 < t) × (t ≤ length after)
still_made threads after zero x h stands is = absurd cc
still_made threads after (suc t) x h stands is =
    let less = made_by threads t x stands in
    let many : length after ≡ length threads = ap length is ∙ length-set threads (suc t - 1) h in
    (omega arith, omega (arith, less, many))

pub made_so : (threads : List Thread) (t : ℕ) (x : Thread) → thread_at threads t ≡ Some x → (0 < t) × (t ≤ length threads)
made_so threads zero x h = absurd cc
made_so threads (suc t) x h = (omega arith, within_made threads (suc t) x h)
