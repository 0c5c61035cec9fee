-- The answer to a request is that of an action which others learn of just where the protocol's step carries one.
use Rattle.std.proofs.Common.{◌≡◌, ℕ, zero, suc, ◌+◌, ◌-◌, ◌*◌, ◌/◌, ◌%◌, ◌<◌, ◌≤◌, ◌==◌, ◌&&◌, Bool, true, false}
use Rattle.std.proofs.Common.{Option, Some, None}
use Rattle.std.proofs.Common.{refl, ap, sym, ◌∙◌, subst, arith, inl, inr, List, length, if◌then◌else◌}
use Rattle.std.specs.Prelude.{not, is_some, nat_lt}
use Rattle.std.proofs.lemmas.Bool.{cases_eq, cases_Bool, eq-eqb, eqb-true, ne_eqb, lt-ltb, ltb-true, or_left, or_right}
use Rattle.std.proofs.lemmas.Nat.{mod-mul-add, div-add-mod'}
use Rattle.words.specs.Process.{process_word}
use Rattle.words.specs.Versions.{most_of, base_of}
use Rattle.robustexit.specs.ExitRules.{exit_of}
use Rattle.locals.specs.Looks.{Request, Look, Goes, Asks, Leaves, Breaks, Rests, AskLoad, AskStore}
use Rattle.machine.specs.States.{State}
use Rattle.machine.specs.Runs.{Moves}
use Rattle.program.specs.declared.kinds.Member.{Member}
use Rattle.program.specs.Trees.{Program}
use Rattle.meaning.specs.Labels.{Kind, End, Faulted, Killed}
use Rattle.meaning.specs.Table.{Table}
use Rattle.protocol.specs.Word.{waiters, owner, with_waiters}
use Rattle.protocol.specs.Points.{LeaveSwaps, ToWait, Point, ToExit, EnterPends, EnterTries, ReenterPends, ReenterTries}
use Rattle.protocol.specs.Points.{TakeReads, TakeSleeps, JoinSleeps, ToEnter, ToReenter}
use Rattle.protocol.specs.Points.{TakeMarks, TakeTries, GotReads, GotLinks, GotHeads, GotUnpends, WaitReads}
use Rattle.protocol.specs.Points.{NotifyAdds, NotifyWakes, BroadcastAdds, BroadcastReads}
use Rattle.protocol.specs.Carries.{Event}
use Rattle.protocol.specs.Points.{JoinReads, JoinLearns, JoinTakes, LeavePends, LeaveReads}
use Rattle.protocol.specs.Points.{LeaveHeads, LeaveWakes, HasLeft, Dies, Walks, ClearsId, LastWakes}
use Rattle.protocol.specs.Points.{Unmade, Runs, HasEnded}
use Rattle.protocol.specs.World.{World}
use Rattle.protocol.specs.Cells.{Cell, LockOf, LinkOf, HeadOf, PendingOf, IdOf, ResultOf, OutcomeOf}
use Rattle.protocol.specs.Cells.{SequenceOf}
use Rattle.protocol.specs.Requests.{request}
use Rattle.protocol.specs.Answers.{next}
use Rattle.protocol.specs.Served.{MayAnswer, source_event}
use Rattle.protocol.proofs.Roles.{Listed, Knows}
use Rattle.protocol.proofs.Good.{Good}
use Rattle.proof_thread.specs.Variables.{IsVariable, variable_address}
use Rattle.proof_templates.specs.Layout.{place, valid}
use Rattle.proof_templates.specs.Asking.{machine_request, machine_answer}
use Rattle.proof_templates.proofs.Addresses.{variable_apart}
use Rattle.proof_templates.proofs.Layouts.{apart, number_is, is_number, monitor_valid, monitor_below}
use Rattle.proof_simulation.specs.Ordering.{StepsSo, any_below, is_process_word, is_link_word, is_lock_word, completes}
use Rattle.proof_simulation.specs.Ordering.{completes_exit, is_raise, raises_number}
use Rattle.proof_simulation.specs.Ordering.{MovesSo}
use Rattle.proof_simulation.specs.Serving.{IsAskable}
use Rattle.proof_simulation.specs.Deferred.{Stage, stage_of, Agrees, Stays, Works, notified_at, raised_then}
use Rattle.lowering.specs.declared.mark.Mark.{Mark}
use Rattle.proof_thread.specs.Deferrals.{deferred_by_mark, deferred_by_request}
use Rattle.proof_simulation.specs.Progress.{answer_in, visible_step}
use Rattle.proof_thread.specs.Deferrals.{deferred_by_step}
use Rattle.protocol.specs.Rules.{release_of}
use Rattle.words.specs.declared.version.ImageVersion.{ImageVersion}
use Rattle.words.specs.declared.version.ImageVersion.TheVariants.{One, Two, Linux}
use Rattle.protocol.specs.Requests.{given_up}
use Rattle.proof_templates.proofs.Negated.{most_few}
use Rattle.protocol.specs.Requests as P

none_below : (k : ℕ) (test : ℕ → Bool) → ((n : ℕ) → n < k → test n ≡ false) → any_below k test ≡ false
none_below zero test h = refl
none_below (suc k) test h = rw (h k (omega arith)) (none_below k test (λ n l. h n (omega (arith, l))))

found_below : (k : ℕ) (test : ℕ → Bool) (n : ℕ) → n < k → test n ≡ true → any_below k test ≡ true
found_below zero test n l h = absurd (omega (arith, l))
found_below (suc k) test n l h = elim (cases_eq n k) [
  | inl e ↦ or_left (test k) (any_below k test) (subst (λ i. test i ≡ true) e h)
  | inr o ↦ or_right (test k) (any_below k test) (found_below k test n (omega (arith, l, o)) h)
]

-- the words of the processes that there can be are found as such
found_word : (p : Program) (k t : ℕ) → k < 6 → 0 < t → t ≤ most_of p.version
    → is_process_word p k (process_word t k) ≡ true
found_word p k t low some few =
    let before : process_word t k - 1 ≡ (t - 1) * 6 + k = omega (arith, some) in
    let above : 0 < process_word t k = omega (arith, some) in
    let below : process_word t k < base_of p.version = omega (arith, some, few, low) in
    rw (lt-ltb 0 (process_word t k) above, lt-ltb (process_word t k) (base_of p.version) below)
    (eq-eqb ((process_word t k - 1) % 6) k (ap (λ i. i % 6) before ∙ mod-mul-add (t - 1) 6 k low))

-- and no others
word_is : (p : Program) (k a : ℕ) → is_process_word p k a ≡ true
    → (n : ℕ) × (n < most_of p.version) × (process_word (suc n) k ≡ a)
word_is p k a h =
    let above = ltb-true 0 a (and_first (nat_lt 0 a) _ h) in
    let rest = and_second (nat_lt 0 a) _ h in
    let below = ltb-true a (base_of p.version) (and_first (nat_lt a (base_of p.version)) _ rest) in
    let left = eqb-true ((a - 1) % 6) k (and_second (nat_lt a (base_of p.version)) _ rest) in
    let whole = div-add-mod' (a - 1) 6 in
    ((a - 1) / 6, omega (arith, above, below, whole), omega (arith, above, whole, left))
  where
    and_first : (x y : Bool) → (x && y) ≡ true → x ≡ true
    and_first true y h = refl
    and_first false y h = h

    and_second : (x y : Bool) → (x && y) ≡ true → y ≡ true
    and_second true y h = h
    and_second false y h = absurd cc

no_word : (p : Program) (k a : ℕ) → ((n : ℕ) → n < most_of p.version → process_word (suc n) k ≡ a → ⊥)
    → is_process_word p k a ≡ false
no_word p k a none = elim (cases_Bool (is_process_word p k a)) [
  | inl h ↦ let w = word_is p k a h in absurd (none w.0 w.1 w.2)
  | inr h ↦ h
]

-- what a step does, as it is an action or none
pub plainly : (p : Program) (done raises : Bool) (deferral : Option Kind) (mark : Option Mark) (s : State) (t : ℕ)
    (woken : List ℕ) (l : Look) (s' : State) → StepsSo p done raises deferral mark s t woken l s'
    → Moves (exit_of p.version) s t woken l s'
plainly p done raises deferral mark s t woken (Goes x) s' g = (g.0, g.1)
plainly p done raises deferral mark s t woken (Asks request go) s' g = (g.0, g.1, g.2, g.3)
plainly p done raises deferral mark s t woken (Leaves phase) s' g = (g.0, g.1, g.2, g.3)
plainly p done raises deferral mark s t woken Breaks s' g = g
plainly p done raises deferral mark s t woken Rests s' g = g

-- and which of the two
pub told_apart : (p : Program) (s : State) (t : ℕ) (woken : List ℕ) (l : Look) (s' : State)
    → Moves (exit_of p.version) s t woken l s'
    → (done : Bool) × MovesSo p done s t woken l s'
told_apart p s t woken (Goes x) s' g = (false, (g.0, g.1, refl))
told_apart p s t woken (Asks request go) s' g = (completes p request g.0, (g.0, g.1, g.2, g.3, refl))
told_apart p s t woken (Leaves phase) s' g = (completes_exit s.word t phase, (g.0, g.1, g.2, g.3, refl))
told_apart p s t woken Breaks s' g = absurd g
told_apart p s t woken Rests s' g = absurd g

-- and the action that waits
pub told_deferral : (p : Program) (done : Bool) (mark : Option Mark) (s : State) (t : ℕ) (woken : List ℕ) (l : Look)
    (s' : State) → MovesSo p done s t woken l s' → (deferral : Option Kind)
    × StepsSo p done (raises_number l) deferral mark s t woken l s'
told_deferral p done mark s t woken (Goes x) s' g = (deferred_by_mark mark, (g.0, g.1, g.2, refl, refl))
told_deferral p done mark s t woken (Asks request go) s' g =
    (deferred_by_request mark request g.0, (g.0, g.1, g.2, g.3, g.4, refl, refl))
told_deferral p done mark s t woken (Leaves phase) s' g = (None, (g.0, g.1, g.2, g.3, g.4, refl, refl))
told_deferral p done mark s t woken Breaks s' g = absurd g
told_deferral p done mark s t woken Rests s' g = absurd g

-- what a step does, with whether others learn of it and the action that waits
pub steps_so : (p : Program) (mark : Option Mark) (s s' : State) (t : ℕ) (woken : List ℕ) (l : Look)
    (g : Moves (exit_of p.version) s t woken l s')
    → StepsSo p (visible_step p s.word t l (answer_in (exit_of p.version) s s' t woken l g)) (raises_number l)
    (deferred_by_step mark l (answer_in (exit_of p.version) s s' t woken l g)) mark s t woken l s'
steps_so p mark s s' t woken (Goes x) g = (g.0, g.1, refl, refl, refl)
steps_so p mark s s' t woken (Asks request go) g = (g.0, g.1, g.2, g.3, refl, refl, refl)
steps_so p mark s s' t woken (Leaves phase) g = (g.0, g.1, g.2, g.3, refl, refl, refl)
steps_so p mark s s' t woken Breaks g = absurd g
steps_so p mark s s' t woken Rests g = absurd g

-- what a point asks is no action that waits, but where a fault is written
abbrev DeferralOf : Option Mark → Option Request → ℕ → Option Kind
DeferralOf mark None r = None
DeferralOf mark (Some q) r = deferred_by_request mark q r

swap_deferral : (v : ImageVersion) (p : Program) (mark : Option Mark) (t m r : ℕ)
    → DeferralOf mark (machine_request p (given_up (release_of v) t m)) r ≡ None
swap_deferral One p mark t m r = refl
swap_deferral Two p mark t m r = refl
swap_deferral Linux p mark t m r = refl

none_deferral : (p : Program) (mark : Option Mark) (t : ℕ) (pt : Point) (r : ℕ) → stage_of pt ≡ Works
    → DeferralOf mark (machine_request p (request (release_of p.version) t pt)) r ≡ None
none_deferral p mark t (Dies (Faulted fault) x) r h = absurd cc
none_deferral p mark t (Dies Killed x) r h = absurd cc
none_deferral p mark t (LeaveSwaps m k) r h = swap_deferral p.version p mark t m r
none_deferral p mark t (HasLeft m ToExit) r h = refl
none_deferral p mark t (HasLeft m (ToWait c s)) r h = refl
none_deferral p mark t pt r h = refl

pub point_deferral : (p : Program) (mark : Option Mark) (t : ℕ) (pt : Point) (r : ℕ) (asks : Request)
    → stage_of pt ≡ Works → machine_request p (request (release_of p.version) t pt) ≡ Some asks
    → deferred_by_request mark asks r ≡ None
point_deferral p mark t pt r asks h same =
    sym (ap (λ (o : Option Request). DeferralOf mark o r) same) ∙ none_deferral p mark t pt r h

-- where a number is raised
abbrev pub raises_at : Point → Bool
raises_at (NotifyAdds c) = true
raises_at (BroadcastAdds c) = true
raises_at pt = false

abbrev RaiseOf : Option Request → Bool
RaiseOf None = false
RaiseOf (Some q) = is_raise q

-- a thread's number isn't the one that a raise takes
dropped_raise : (t : ℕ) → t ≤ 1000 → ((4294967296 - t) == 1) ≡ false
dropped_raise t few = ne_eqb (4294967296 - t) 1 (λ h. omega (arith, few, h))

swap_raise : (v : ImageVersion) (p : Program) (t m : ℕ) → t ≤ 1000
    → RaiseOf (machine_request p (given_up (release_of v) t m)) ≡ false
swap_raise One p t m few = refl
swap_raise Two p t m few = refl
swap_raise Linux p t m few = dropped_raise t few

raise_of : (p : Program) (t : ℕ) → t ≤ 1000 → (pt : Point) → RaiseOf (machine_request p (request (release_of
    p.version) t pt)) ≡ raises_at pt
raise_of p t few (LeaveSwaps m k) = swap_raise p.version p t m few
raise_of p t few (HasLeft m ToExit) = refl
raise_of p t few (HasLeft m (ToWait c s)) = refl
raise_of p t few pt = refl

-- a point's request raises one just there
pub point_raises : (p : Program) (t : ℕ) → t ≤ 1000 → (pt : Point) (asks : Request)
    → machine_request p (request (release_of p.version) t pt) ≡ Some asks → is_raise asks ≡ raises_at pt
point_raises p t few pt asks same = sym (ap RaiseOf same) ∙ raise_of p t few pt

-- whether it is raised behind a step from a point, which carries an action or doesn't
either_raised : (b : Bool) (x y : Point) (e : Option Event) → is_some (notified_at x) ≡ false
    → is_some (notified_at y) ≡ false → is_some (notified_at (if b then x else y)) ≡ raised_then (is_some e) false false
either_raised true x y None h g = h
either_raised true x y (Some e) h g = h
either_raised false x y None h g = g
either_raised false x y (Some e) h g = g

none_raised : (o : Option Event) → false ≡ raised_then (is_some o) false false
none_raised None = refl
none_raised (Some e) = refl

pub next_raised : (w : World) (T : Table) (t : ℕ) (pt : Point) (r : ℕ) (w' : World) (e : End)
    → is_some (notified_at (next w e pt r))
    ≡ raised_then (is_some (source_event w T t pt r w' e)) (raises_at pt) (is_some (notified_at pt))
next_raised w T t (EnterTries m) r w' e =
    either_raised (r == 0) (GotReads m 0) (TakeReads m ToEnter) _ refl refl
next_raised w T t (ReenterTries m) r w' e =
    either_raised (r == 0) (GotReads m 0) (TakeReads m ToReenter) None refl refl
next_raised w T t (TakeReads m k) r w' e =
    either_raised (owner r == 0) (TakeTries m r k) (TakeMarks m r k) None refl refl
next_raised w T t (TakeMarks m v k) r w' e =
    either_raised (r == v) (TakeSleeps m (with_waiters v) k) (TakeReads m k) None refl refl
next_raised w T t (TakeTries m v k) r w' e =
    either_raised (r == v) (GotReads m v) (TakeReads m k) _ refl refl
next_raised w T t (JoinReads q) r w' e =
    either_raised (r == 0) (JoinLearns q e) (JoinSleeps q) _ refl refl
next_raised w T t (JoinLearns q end) r w' e =
    either_raised (r == 16) (JoinTakes q end) Runs None refl refl
next_raised w T t (LeaveSwaps m k) r w' e =
    either_raised (waiters r == 0) (HasLeft m k) (LeaveWakes m k) (source_event w T t (LeaveSwaps m k) r w' e)
    refl refl
next_raised w T t (HasLeft m ToExit) r w' e = refl
next_raised w T t (HasLeft m (ToWait c s)) r w' e = refl
next_raised w T t (Walks zero x end) r w' e = none_raised (source_event w T t (Walks zero x end) r w' e)
next_raised w T t (Walks (suc m) x end) r w' e = none_raised (source_event w T t (Walks (suc m) x end) r w' e)
next_raised w T t pt r w' e = refl

-- a step from a point leads to no fault
either_works : (b : Bool) (x y : Point) → stage_of x ≡ Works → stage_of y ≡ Works
    → stage_of (if b then x else y) ≡ Works
either_works true x y h g = h
either_works false x y h g = g

pub next_stays : (w : World) (e : End) (pt : Point) (r : ℕ) → Stays (stage_of pt) (stage_of (next w e pt r))
next_stays w e (EnterTries m) r = inl (either_works (r == 0) _ _ refl refl)
next_stays w e (ReenterTries m) r = inl (either_works (r == 0) _ _ refl refl)
next_stays w e (TakeReads m k) r = inl (either_works (owner r == 0) _ _ refl refl)
next_stays w e (TakeMarks m v k) r = inl (either_works (r == v) _ _ refl refl)
next_stays w e (TakeTries m v k) r = inl (either_works (r == v) _ _ refl refl)
next_stays w e (JoinReads q) r = inl (either_works (r == 0) _ _ refl refl)
next_stays w e (JoinLearns q end) r = inl (either_works (r == 16) _ _ refl refl)
next_stays w e (LeaveSwaps m k) r = inl (either_works (waiters r == 0) _ _ refl refl)
next_stays w e (HasLeft m ToExit) r = inl refl
next_stays w e (HasLeft m (ToWait c s)) r = inl refl
next_stays w e (Dies (Faulted fault) x) r = inr refl
next_stays w e (Dies Killed x) r = inr refl
next_stays w e (Walks zero x end) r = inl refl
next_stays w e (Walks (suc m) x end) r = inl refl
next_stays w e pt r = inl refl

-- so that no fault waits, where none did
pub next_calm : (w : World) (e : End) (pt : Point) (r : ℕ) → Agrees (stage_of pt) false
    → Agrees (stage_of (next w e pt r)) false
next_calm w e pt r h = elim (next_stays w e pt r) [
  | inl same ↦ subst (λ (x : Stage). Agrees x false) (sym same) h
  | inr leaves ↦ subst (λ (x : Stage). Agrees x false) (sym leaves) tt
]

-- what a thread knows of the words in its hands
pub listed_at : (w : World) (T : Table) (t : ℕ) (pt : Point) → Good w T → (w.at t).point ≡ pt → Listed pt (w.at t).list
unfolding Knows
listed_at w T t pt inv point = subst (λ (i : Point). Listed i (w.at t).list) point (inv.locks.knows t).1

-- the words of processes, and of monitors
module _ (p : Program) where
  numbered : (n : ℕ) → n < most_of p.version → valid p (IdOf (suc n)) ≡ true
  numbered n l = number_is p (suc n) (omega arith) (omega (arith, l))

  not_id : (x : Cell) → valid p x ≡ true → ((n : ℕ) → IdOf (suc n) ≡ x → ⊥) → is_process_word p 2 (place p x) ≡ false
  not_id x h other = no_word p 2 (place p x) (λ n l e. other n (apart p (IdOf (suc n)) x (numbered n l) h e))

  is_word : (k q : ℕ) → k < 6 → valid p (IdOf q) ≡ true → is_process_word p k (process_word q k) ≡ true
  is_word k q low h = let within = is_number p q h in found_word p k q low within.0 within.1

  is_link : (m : ℕ) → valid p (LinkOf m) ≡ true → is_link_word p (place p (LinkOf m)) ≡ true
  is_link m h = found_below (length p.monitors) (λ i. place p (LinkOf i) == place p (LinkOf m)) m (monitor_below p m h)
      (eq-eqb (place p (LinkOf m)) (place p (LinkOf m)) refl)

  is_lock : (m : ℕ) → valid p (LockOf m) ≡ true → is_lock_word p (place p (LockOf m)) ≡ true
  is_lock m h = found_below (length p.monitors) (λ i. place p (LockOf i) == place p (LockOf m)) m (monitor_below p m h)
      (eq-eqb (place p (LockOf m)) (place p (LockOf m)) refl)

  not_lock : (x : Cell) → valid p x ≡ true → ((m : ℕ) → LockOf m ≡ x → ⊥) → is_lock_word p (place p x) ≡ false
  not_lock x h other = none_below (length p.monitors) (λ i. place p (LockOf i) == place p x)
      (λ m l. ne_eqb (place p (LockOf m)) (place p x)
      (λ e. other m (apart p (LockOf m) x (monitor_valid p m l) h e)))

  -- a load of a variable is no such action
  pub variable_loaded : (m : Member) (i a r : ℕ) → IsVariable p m i → a ≡ variable_address p m i
      → completes p (AskLoad a) r ≡ false
  variable_loaded m i a r is there =
      let no : is_process_word p 2 a ≡ false = no_word p 2 a
      (λ n l e. variable_apart p m i (IdOf (suc n)) is (numbered n l) (sym (e ∙ there))) in
      ap (λ b. b && (r == 0)) no

  -- a store into one is
  pub variable_stored : (m : Member) (i v r : ℕ) → IsVariable p m i
      → completes p (AskStore (variable_address p m i) v) r ≡ true
  variable_stored m i v r is =
      let head = no_word p 0 (variable_address p m i)
      (λ n l e. variable_apart p m i (HeadOf (suc n)) is (numbered n l) (sym e)) in
      let pending = no_word p 1 (variable_address p m i)
      (λ n l e. variable_apart p m i (PendingOf (suc n)) is (numbered n l) (sym e)) in
      let link = none_below (length p.monitors) (λ n. place p (LinkOf n) == variable_address p m i)
      (λ n l. ne_eqb (place p (LinkOf n)) (variable_address p m i)
      (λ e. variable_apart p m i (LinkOf n) is (monitor_valid p n l) (sym e))) in
      rw (head, pending, link) refl

  abbrev Shown : ℕ → Point → ℕ → Option Request → Bool
  Shown t pt r None = false
  Shown t pt r (Some q) = completes p q (machine_answer p (request (release_of p.version) t pt) r)

  abbrev ShownBy : P.Request → ℕ → Option Request → Bool
  ShownBy a r None = false
  ShownBy a r (Some q) = completes p q (machine_answer p a r)

  abbrev Fine : World → Table → ℕ → Point → ℕ → World → End → Type 0
  Fine w T t pt r w' e = Shown t pt r (machine_request p (request (release_of p.version) t pt)) ≡ is_some
      (source_event w T t pt r w' e)

  either : {A : Type 0} (b : Bool) (x : A) → b ≡ is_some (if b then Some x else None)
  either true x = refl
  either false x = refl

  both_no : (a b : Bool) → b ≡ false → (a && b) ≡ false
  both_no true b h = h
  both_no false b h = refl

  both_yes : (a b : Bool) → b ≡ true → (a && b) ≡ a
  both_yes true b h = h
  both_yes false b h = refl

  second_no : (a b : Bool) → (a && not true && b) ≡ false
  second_no true b = refl
  second_no false b = refl

  third_no : (a b : Bool) → (a && b && not true) ≡ false
  third_no true true = refl
  third_no true false = refl
  third_no false b = refl

  loaded : (x : Cell) (r : ℕ) → valid p x ≡ true → ((n : ℕ) → IdOf (suc n) ≡ x → ⊥)
      → completes p (AskLoad (place p x)) r ≡ false
  loaded x r h other = ap (λ b. b && (r == 0)) (not_id x h other)

  nobody : owner 0 ≡ 0
  unfolding owner
  nobody = refl

  swap_shown : (v : ImageVersion) (t m r : ℕ) → t ≤ 1000
      → ShownBy (given_up (release_of v) t m) r (machine_request p (given_up (release_of v) t m)) ≡ true
  swap_shown One t m r few = refl
  swap_shown Two t m r few = refl
  swap_shown Linux t m r few = ap not (dropped_raise t few)

  pub points : (w : World) (T : Table) (t : ℕ) (pt : Point) (r : ℕ) (w' : World) (e : End) (l : List ℕ)
      → valid p (IdOf t) ≡ true → Listed pt l → MayAnswer pt r → IsAskable p (request (release_of p.version) t pt)
      → (asks : Request)
      → machine_request p (request (release_of p.version) t pt) ≡ Some asks → Fine w T t pt r w' e
  points w T t (EnterPends m) r w' e l mine listed may ok asks same =
      rw (is_word 1 t (omega arith) mine) (second_no _ _)
  points w T t (EnterTries m) r w' e l mine listed may ok asks same =
      both_yes (r == 0) (owner 0 == 0) (eq-eqb (owner 0) 0 nobody) ∙ either (r == 0) _
  points w T t (ReenterPends m) r w' e l mine listed may ok asks same =
      rw (is_word 1 t (omega arith) mine) (second_no _ _)
  points w T t (ReenterTries m) r w' e l mine listed may ok asks same = rw (ne_eqb r 0 may) refl
  points w T t (TakeReads m k) r w' e l mine listed may ok asks same = loaded (LockOf m) r ok (λ n e. cc)
  points w T t (TakeMarks m v k) r w' e l mine listed may ok asks same =
      both_no (r == v) (owner v == 0) (ne_eqb (owner v) 0 listed.1)
  points w T t (TakeTries m v k) r w' e l mine listed may ok asks same =
      both_yes (r == v) (owner v == 0) (eq-eqb (owner v) 0 listed.1) ∙ either (r == v) _
  points w T t (GotReads m v) r w' e l mine listed may ok asks same = loaded (HeadOf t) _ ok (λ n e. cc)
  points w T t (GotLinks m v h) r w' e l mine listed may ok asks same = rw (is_link m ok)
      (third_no (not (is_process_word p 0 (place p (LinkOf m)))) (not (is_process_word p 1 (place p (LinkOf m)))))
  points w T t (GotHeads m v) r w' e l mine listed may ok asks same = rw (is_word 0 t (omega arith) mine) refl
  points w T t (GotUnpends m v) r w' e l mine listed may ok asks same =
      rw (is_word 1 t (omega arith) mine) (second_no _ _)
  points w T t (WaitReads c) r w' e l mine listed may ok asks same = loaded (SequenceOf c) r ok (λ n e. cc)
  points w T t (NotifyWakes c) r w' e l mine listed may ok asks same = rw (not_lock (SequenceOf c) ok (λ m e. cc)) refl
  points w T t (BroadcastReads c) r w' e l mine listed may ok asks same = loaded (SequenceOf c) r ok (λ n e. cc)
  points w T t (JoinReads q) r w' e l mine listed may ok asks same =
      rw (is_word 2 q (omega arith) ok) (either (r == 0) _)
  points w T t (JoinLearns q end) r w' e l mine listed may ok asks same = loaded (OutcomeOf q) r ok (λ n e. cc)
  points w T t (JoinTakes q end) r w' e l mine listed may ok asks same = loaded (ResultOf q) r ok (λ n e. cc)
  points w T t (LeavePends m k) r w' e l mine listed may ok asks same =
      rw (is_word 1 t (omega arith) mine) (second_no _ _)
  points w T t (LeaveReads m k) r w' e l mine listed may ok asks same = loaded (LinkOf m) _ ok (λ n e. cc)
  points w T t (LeaveHeads m h k) r w' e l mine listed may ok asks same = rw (is_word 0 t (omega arith) mine) refl
  points w T t (LeaveSwaps m k) r w' e l mine listed may ok asks same =
      swap_shown p.version t m r (let n = is_number p t mine in let h = most_few p.version in omega (arith, n.1, h))
  points w T t (LeaveWakes m k) r w' e l mine listed may ok asks same = rw (is_lock m ok) refl
  points w T t (HasLeft m ToExit) r w' e l mine listed may ok asks same =
      rw (is_word 1 t (omega arith) mine) (second_no _ _)
  points w T t Unmade r w' e l mine listed may ok asks same = absurd ok
  points w T t Runs r w' e l mine listed may ok asks same = absurd ok
  points w T t (HasEnded end) r w' e l mine listed may ok asks same = absurd ok
  points w T t (Walks n x end) r w' e l mine listed may ok asks same = absurd cc
  points w T t (ClearsId end) r w' e l mine listed may ok asks same = absurd cc
  points w T t (LastWakes end) r w' e l mine listed may ok asks same = refl
  points w T t pt r w' e l mine listed may ok asks same = refl

  -- the answer of the machine to what a point asks
  pub point_completes : (w : World) (T : Table) (t : ℕ) (pt : Point) (r : ℕ) (w' : World) (e : End) (l : List ℕ)
      (asks : Request) → valid p (IdOf t) ≡ true → Listed pt l → MayAnswer pt r
      → IsAskable p (request (release_of p.version) t pt)
      → machine_request p (request (release_of p.version) t pt) ≡ Some asks
      → completes p asks (machine_answer p (request (release_of p.version) t pt) r) ≡ is_some (source_event w T t pt r
      w' e)
  point_completes w T t pt r w' e l asks mine listed may ok same =
      sym (ap (λ (o : Option Request). Shown t pt r o) same) ∙ points w T t pt r w' e l mine listed may ok asks same
