-- Of one program and one limit there is one log in order behind which no thread can make an entry.
use Rattle.std.proofs.Common.{◌≡◌, ℕ, ◌+◌, ◌<◌, ◌≤◌, ◌++◌, ◌⊎◌, List, [], ◌∷◌, true, Option, Some, Ok, Err, Result}
use Rattle.std.proofs.Common.{inl, inr, refl, ap, sym, ◌∙◌, arith, subst}
use Rattle.std.proofs.lemmas.Bool.{cases_lt}
use Rattle.std.proofs.lemmas.List.{append_assoc, append-nil}
use Rattle.std.proofs.lemmas.List.Sums.{sum_by-append}
use Rattle.isa.specs.Programs.{Program}
use Rattle.locals.specs.Steps.{local_after}
use Rattle.locals.specs.Threads.{Thread}
use Rattle.machine.specs.ConcreteSteps.{can_move}
use Rattle.machine.specs.States.{thread_of}
use Rattle.machine.specs.declared.event.Entry.{Entry}
use Rattle.machine.specs.declared.event.Event.{Event}
use Rattle.machine.specs.declared.event.StepFault.{StepFault}
use Rattle.piece_machine.specs.PieceConcrete.{PieceConcrete}
use Rattle.piece_machine.specs.PieceViews.{parts}
use Rattle.runner.specs.Entries.{entry_end}
use Rattle.runner.specs.Logs.{Enters, Runs, cost, event_cost, opening}
use Rattle.runner.specs.Orders.{AllBetween, ComesInOrder, IsDue, LiesBetween, OneLogSo}
use Rattle.runner.specs.Reports.{IsNextEntry, IsStopped}
use Rattle.runner.specs.Rounds.{Idle}
use Rattle.runner.specs.Walks.{Turns}
use Rattle.runner.proofs.Going.{runs_more}
use Rattle.runner.proofs.Growing.{same_event}
use Rattle.runner.proofs.Once.{enters_once, here_once, no_more, runs_once}

-- the local steps of a turn end at one place
turn_once : (p : Program) (t m n : ℕ) (o h h' : Thread) → Turns p t m o h → Turns p t n o h' → m ≡ n
turn_once p t m n o h h' x y = elim (cases_lt m n) [
  | inl less ↦ absurd (no_more p t m n o h h' x.goes (x.whole (omega (arith, less, y.turn))) less y.goes)
  | inr past ↦ elim (cases_lt n m) [
    | inl more ↦ absurd (no_more p t n m o h' h y.goes (y.whole (omega (arith, more, x.turn))) more x.goes)
    | inr at ↦ omega (arith, past, at)
  ]
]

stop_once : (p : Program) (k : PieceConcrete) (t m n : ℕ) (o h o' h' : Thread) → thread_of k.concrete t ≡ Some o
    → Turns p t m o h → thread_of k.concrete t ≡ Some o' → Turns p t n o' h' → (m ≡ n) × (h ≡ h')
stop_once p k t m n o h o' h' stands x stands' y =
    let both : Some o' ≡ Some o = sym stands' ∙ stands in
    let from : o' ≡ o = cc in
    let same = turn_once p t m n o h h' x (subst (λ (z : Thread). Turns p t n z h') from y) in (
      same,
      here_once p k t n o h o' h' stands (ap (λ (j : ℕ). local_after p t j o) (sym same) ∙ x.goes) stands' y.goes,
    )

turns_of : (p : Program) (k : PieceConcrete) (t n : ℕ) (e : Option Event) (x : IsNextEntry p k t n e)
    → Turns p t n x.origin x.here
turns_of p k t n e x = record { goes = x.goes; turn = x.turn; whole = x.whole }

-- a thread has one next entry
pub next_once : (p : Program) (k : PieceConcrete) (t m n : ℕ) (e f : Option Event) → IsNextEntry p k t m e
    → IsNextEntry p k t n f → (m ≡ n) × (e ≡ f)
next_once p k t m n e f x y =
    let same = stop_once p k t m n x.origin x.here y.origin y.here x.stands (turns_of p k t m e x) y.stands
    (turns_of p k t n f y) in (
      same.0,
      same_event (entry_end p k t x.here) x.concrete y.concrete e f x.gives
          (ap (λ (h : Thread). entry_end p k t h) same.1 ∙ y.gives),
    )

ended_or_not : (r : Result (PieceConcrete × Option Event) StepFault) (q : PieceConcrete × Option Event) (f : StepFault)
    → r ≡ Ok q → r ≡ Err f → ⊥
ended_or_not r q f done fails = absurd (cc (sym done ∙ fails))

-- who makes it within the limit isn't stopped
pub not_stopped : (p : Program) (limit : ℕ) (log : List Entry) (k : PieceConcrete) (t n : ℕ) (e : Option Event)
    → IsNextEntry p k t n e → cost log + (n + event_cost e) ≤ limit → IsStopped p limit log k t → ⊥
not_stopped p limit log k t n e next within (inl past) =
    let same = next_once p k t n past.count e past.event next past.entry in
    absurd (omega (arith, within, past.past, same.0, ap event_cost same.1))
not_stopped p limit log k t n e next within (inr held) =
    let same = stop_once p k t n held.count next.origin next.here held.origin held.here next.stands
    (turns_of p k t n e next) held.stands (record { goes = held.goes; turn = held.turn; whole = held.whole }) in
    ended_or_not (entry_end p k t next.here) (next.concrete, e) _ next.gives
    (ap (λ (h : Thread). entry_end p k t h) same.1 ∙ held.waits)

-- of two threads one comes first round the ring
before : (last a b : ℕ) → a < b → LiesBetween last b a ⊎ LiesBetween last a b
before last a b less = elim (cases_lt last a) [
  | inl above ↦ inl (inl (above, less))
  | inr at ↦ elim (cases_lt last b) [
    | inl over ↦ inr (inr (at, inl over))
    | inr under ↦ inl (inr (under, inr less))
  ]
]

-- what is due behind a log that leads to a state
record IsDueAt (p : Program) (limit : ℕ) (log : List Entry) (k : PieceConcrete) (last : ℕ) (e : Entry) : Type 0 where
  pub moves : can_move k.concrete e.thread ≡ true
  pub next : IsNextEntry p k e.thread e.local e.event
  pub stopped : AllBetween p limit (record { log = log; concrete = k }) last e.thread

due_at : (p : Program) (limit : ℕ) (log : List Entry) (k : PieceConcrete) (last : ℕ) (e : Entry)
    → Runs p (opening p) log k → IsDue p limit log last e → IsDueAt p limit log k last e
due_at p limit log k last e leads d =
    subst (λ (q : PieceConcrete). IsDueAt p limit log q last e) (runs_once p (opening p) d.concrete k log d.leads leads)
    (record { moves = d.moves; next = d.next; stopped = d.stopped })

abbrev IsWithin : ℕ → List Entry → Entry → Type 0
IsWithin limit log e = cost log + (e.local + event_cost e.event) ≤ limit

-- another thread isn't due as long as the first one's entry is
not_before : (p : Program) (limit : ℕ) (log : List Entry) (k : PieceConcrete) (last : ℕ) (e f : Entry)
    → IsDueAt p limit log k last e → IsDueAt p limit log k last f → IsWithin limit log e
    → LiesBetween last f.thread e.thread → ⊥
not_before p limit log k last e f x y within lies =
    not_stopped p limit log k e.thread e.local e.event x.next within (y.stopped e.thread lies x.moves)

one_thread : (p : Program) (limit : ℕ) (log : List Entry) (k : PieceConcrete) (last : ℕ) (e f : Entry)
    → IsDueAt p limit log k last e → IsDueAt p limit log k last f → IsWithin limit log e → IsWithin limit log f
    → e.thread ≡ f.thread
one_thread p limit log k last e f x y within within' = elim (cases_lt e.thread f.thread) [
  | inl less ↦ absurd (neither (before last e.thread f.thread less))
  | inr past ↦ elim (cases_lt f.thread e.thread) [
    | inl more ↦ absurd (nor (before last f.thread e.thread more))
    | inr at ↦ omega (arith, past, at)
  ]
]
  where
    neither : LiesBetween last f.thread e.thread ⊎ LiesBetween last e.thread f.thread → ⊥
    neither (inl lies) = not_before p limit log k last e f x y within lies
    neither (inr lies) = not_before p limit log k last f e y x within' lies

    nor : LiesBetween last e.thread f.thread ⊎ LiesBetween last f.thread e.thread → ⊥
    nor (inl lies) = not_before p limit log k last f e y x within' lies
    nor (inr lies) = not_before p limit log k last e f x y within lies

one_due : (p : Program) (limit : ℕ) (log : List Entry) (k : PieceConcrete) (last : ℕ) (e f : Entry)
    → IsDueAt p limit log k last e → IsDueAt p limit log k last f → IsWithin limit log e → IsWithin limit log f → e ≡ f
one_due p limit log k last e f x y within within' =
    let thread = one_thread p limit log k last e f x y within within' in
    let same = next_once p k e.thread e.local f.local e.event f.event x.next
    (subst (λ (t : ℕ). IsNextEntry p k t f.local f.event) (sym thread) y.next) in
    λ i. record { thread = thread i; local = same.0 i; event = same.1 i }

pub first_within : (limit : ℕ) (log es : List Entry) (e : Entry) → cost (log ++ e ∷ es) ≤ limit → IsWithin limit log e
first_within limit log es e within =
    let f : Entry → ℕ = λ x. x.local + event_cost x.event in
    let all : cost (log ++ e ∷ es) ≡ cost log + cost (e ∷ es) = sum_by-append f log (e ∷ es) in
    let rest : cost (e ∷ es) ≡ cost (e ∷ []) + cost es = sum_by-append f (e ∷ []) es in
    omega (arith, within, all, rest)

-- nothing is due where no thread can make an entry
none_due : (p : Program) (limit : ℕ) (log es : List Entry) (k k' : PieceConcrete) (last : ℕ) (e : Entry)
    → Runs p (opening p) log k → IsDue p limit log last e → cost (log ++ e ∷ es) ≤ limit → k ≡ k'
    → Idle p limit (record { log = log ++ []; concrete = k' }) → ⊥
none_due p limit log es k k' last e leads due within same idle =
    let x = due_at p limit log k last e leads due in
    let here : Idle p limit (record { log = log; concrete = k }) =
    subst (λ (q : PieceConcrete). Idle p limit (record { log = log; concrete = q })) (sym same)
    (subst (λ (l : List Entry). Idle p limit (record { log = l; concrete = k' })) (append-nil log) idle) in
    not_stopped p limit log k e.thread e.local e.event x.next (first_within limit log es e within) (here e.thread x.moves)

-- where a log leads on, within the limit, to where no thread can make an entry
record LeadsOn (p : Program) (limit : ℕ) (log : List Entry) (k : PieceConcrete) (es : List Entry) : Type 0 where
  pub last : PieceConcrete
  pub runs : Runs p k es last
  pub within : cost (log ++ es) ≤ limit
  pub idle : Idle p limit (record { log = log ++ es; concrete = last })

leads_rest : (p : Program) (limit : ℕ) (log : List Entry) (k mid : PieceConcrete) (e : Entry) (es : List Entry)
    → Enters p k e mid → LeadsOn p limit log k (e ∷ es) → LeadsOn p limit (log ++ e ∷ []) mid es
leads_rest p limit log k mid e es enters x =
    let all : (log ++ e ∷ []) ++ es ≡ log ++ (e ∷ es) = append_assoc log (e ∷ []) es in
    let same = enters_once p k x.runs.0 mid e x.runs.1 enters in
    record {
      last = x.last;
      runs = subst (λ (q : PieceConcrete). Runs p q es x.last) same x.runs.2;
      within = subst (λ (l : List Entry). cost l ≤ limit) (sym all) x.within;
      idle = subst (λ (l : List Entry). Idle p limit (record { log = l; concrete = x.last })) (sym all) x.idle;
    }

one_rest : (p : Program) (limit : ℕ) (log : List Entry) (k : PieceConcrete) (last : ℕ) (xs ys : List Entry)
    → Runs p (opening p) log k → ComesInOrder p limit log last xs → ComesInOrder p limit log last ys
    → LeadsOn p limit log k xs → LeadsOn p limit log k ys → xs ≡ ys
one_rest p limit log k last [] [] leads x y a b = refl
one_rest p limit log k last [] (f ∷ fs) leads x y a b =
    absurd (none_due p limit log fs k a.last last f leads y.0 b.within a.runs a.idle)
one_rest p limit log k last (e ∷ es) [] leads x y a b =
    absurd (none_due p limit log es k b.last last e leads x.0 a.within b.runs b.idle)
one_rest p limit log k last (e ∷ es) (f ∷ fs) leads x y a b =
    let same : e ≡ f = one_due p limit log k last e f (due_at p limit log k last e leads x.0)
    (due_at p limit log k last f leads y.0) (first_within limit log es e a.within) (first_within limit log fs f b.within) in
    let mid = a.runs.0 in
    let enters = a.runs.1 in
    let rest = one_rest p limit (log ++ e ∷ []) mid e.thread es fs
    (runs_more p (opening p) k mid log e leads enters) x.1
    (subst (λ (z : Entry). ComesInOrder p limit (log ++ z ∷ []) z.thread fs) (sym same) y.1)
    (leads_rest p limit log k mid e es enters a)
    (leads_rest p limit log k mid e fs enters
    (subst (λ (z : Entry). LeadsOn p limit log k (z ∷ fs)) (sym same) b)) in
    λ i. same i ∷ rest i

pub one_log : OneLogSo
one_log p may limit r s x order y order' =
    one_rest p limit [] (opening p) 0 r.log.items s.log.items refl order order'
    (record { last = parts r.last; runs = x.legal; within = x.within; idle = x.over })
    (record { last = parts s.last; runs = y.legal; within = y.within; idle = y.over })
