-- Kills that are possible, and that aren't.
use Rattle.std.proofs.Common.{◌≡◌, ◌⊎◌, ◌↔◌, ◌++◌, ℕ, List, [], ◌∷◌, Option, Some}
use Rattle.std.proofs.Common.{None, Contains, refl, ap, sym, ◌∙◌, subst, inl, inr, arith}
use Rattle.std.specs.List.Sorted.{IsStrictlyIncreasing}
use Rattle.words.specs.Updates.{put}
use Rattle.program.specs.declared.kinds.Member.{Member}
use Rattle.program.specs.Trees.{Program}
use Rattle.meaning.specs.Labels.{Killed}
use Rattle.meaning.specs.Offers.{Offer, Rests, Does, Takes, MakesOne, ClaimsOne, JoinsOne, NotifiesSome, NotifiesAll}
use Rattle.meaning.specs.Offers.{offer}
use Rattle.meaning.specs.Processes.{Process, Dying, holds, without_monitor}
use Rattle.meaning.specs.Runs.{Enters, GivesUp, IsKill, IsKillable, IsLeft, IsNotifying}
use Rattle.meaning.specs.States.{SourceState}
use Rattle.meaning.specs.Table.{Table, AllowsKill, AreResumed}
use Rattle.meaning.specs.Values.{Variables}
use Rattle.source_states.specs.Killed.{IsLeftOf, IsTheOne}

some_once : {A : Type 0} (x y : A) → Some x ≡ Some y → x ≡ y
some_once x y e = cc

none_some : {A : Type 0} (x : A) → None ≡ Some x → ⊥
none_some x e = cc

the_one : (o : Option ℕ) (P : ℕ → Type 0) (m : ℕ) → IsTheOne o P → P m ↔ (o ≡ Some m)
the_one None P m never = (λ h. absurd (never m h), λ e. absurd (none_some m e))
the_one (Some k) P m one = (λ h. ap Some ((one m).0 h), λ e. (one m).1 (some_once k m e))

-- what the code finds left is what the meaning says
left_is : (p : Program) (v : Variables) (q : Process) (o : Offer) (entered given : Option ℕ) (held : List ℕ)
    (last : Option ℕ) (ms : List ℕ) → IsTheOne entered (Enters q) → IsTheOne given (GivesUp o) → o ≡ offer p v q
    → held ≡ holds q
    → IsLeftOf held (λ m. (entered ≡ Some m) ⊎ (given ≡ Some m)) last ms ↔ IsLeft p v q last ms
left_is p v q o entered given held None ms enters gives offers is = (λ h. h ∙ is, λ h. h ∙ sym is)
left_is p v q o entered given held (Some m) ms enters gives offers is = (
  λ h. (
    subst (λ xs. Contains xs m) is h.0,
    there h.1,
    h.2 ∙ ap (λ xs. without_monitor m xs ++ m ∷ []) is,
  ),
  λ h. (
    subst (λ xs. Contains xs m) (sym is) h.0,
    back h.1,
    h.2 ∙ ap (λ xs. without_monitor m xs ++ m ∷ []) (sym is),
  ),
)
  where
    there : (entered ≡ Some m) ⊎ (given ≡ Some m) → Enters q m ⊎ GivesUp (offer p v q) m
    there (inl e) = inl ((the_one entered (Enters q) m enters).1 e)
    there (inr e) = inr (subst (λ x. GivesUp x m) offers ((the_one given (GivesUp o) m gives).1 e))

    back : Enters q m ⊎ GivesUp (offer p v q) m → (entered ≡ Some m) ⊎ (given ≡ Some m)
    back (inl h) = inl ((the_one entered (Enters q) m enters).0 h)
    back (inr h) = inr ((the_one given (GivesUp o) m gives).0 (subst (λ x. GivesUp x m) (sym offers) h))

none_notifies : (o : Offer) → IsNotifying o None
none_notifies Rests = tt
none_notifies (Does label effect after) = tt
none_notifies (Takes label free abandoned) = tt
none_notifies (MakesOne child after full) = tt
none_notifies (ClaimsOne child after refused) = tt
none_notifies (JoinsOne child after) = tt
none_notifies (NotifiesSome c after) = tt
none_notifies (NotifiesAll c after) = tt

notifying : (o : Offer) (n : Option Member) → ((c : Member) → IsNotifying o (Some c) ↔ (n ≡ Some c)) → IsNotifying o n
notifying o None h = none_notifies o
notifying o (Some c) h = (h c).1 refl

none_resumed : (t : Table) (n : Option Member) (resumed : List ℕ) → resumed ≡ [] → AreResumed t n resumed
none_resumed t None resumed none = none
none_resumed t (Some c) resumed none = (
  subst IsStrictlyIncreasing (sym none) (λ k less. absurd (omega (arith, less))),
  λ q (k, l, e). absurd (let m = subst (λ xs. Contains xs q) none (k, l, e) in omega (arith, m.1)),
)

-- a kill that is possible
pub killed : (p : Program) (s s' : SourceState) (n : ℕ) (before : Process) (o : Offer) (entered given : Option ℕ)
    (held ms : List ℕ) (last : Option ℕ) (notified : Option Member) (resumed : List ℕ) (t : Table)
    → s.process n ≡ Some before → IsKillable before → o ≡ offer p s.variable before → held ≡ holds before
    → IsTheOne entered (Enters before) → IsTheOne given (GivesUp o)
    → IsLeftOf held (λ m. (entered ≡ Some m) ⊎ (given ≡ Some m)) last ms
    → ((c : Member) → IsNotifying o (Some c) ↔ (notified ≡ Some c))
    → AllowsKill n notified resumed s.table t
    → s' ≡ record s { table = t; process = put s.process n (Some (Dying Killed ms)) }
    → IsKill p s n resumed last s'
killed p s s' n before o entered given held ms last notified resumed t stands killable offers is enters gives left
    notifies allows done = record {
      before = before;
      monitors = ms;
      notified = notified;
      stands = stands;
      killable = killable;
      notifies = subst (λ x. IsNotifying x notified) offers (notifying o notified notifies);
      left = (left_is p s.variable before o entered given held last ms enters gives offers is).0 left;
      allows = subst (AllowsKill n notified resumed s.table) (sym (ap (λ (x : SourceState). x.table) done)) allows;
      variables = ap (λ (x : SourceState). x.variable) done;
      printed = ap (λ (x : SourceState). x.printed) done;
      processes = ap (λ (x : SourceState). x.process) done;
    }

-- a kill isn't possible where no monitors can be left so
pub not_left : (p : Program) (s : SourceState) (n : ℕ) (before : Process) (o : Offer) (entered given : Option ℕ)
    (held : List ℕ) (last : Option ℕ) (resumed : List ℕ)
    → s.process n ≡ Some before → o ≡ offer p s.variable before → held ≡ holds before
    → IsTheOne entered (Enters before) → IsTheOne given (GivesUp o)
    → ((ms : List ℕ) → IsLeftOf held (λ m. (entered ≡ Some m) ⊎ (given ≡ Some m)) last ms → ⊥)
    → (u : SourceState) → IsKill p s n resumed last u → ⊥
not_left p s n before o entered given held last resumed stands offers is enters gives never u k =
    never k.monitors ((left_is p s.variable before o entered given held last k.monitors enters gives offers is).1
    (subst (λ q. IsLeft p s.variable q last k.monitors) (some_once k.before before (sym k.stands ∙ stands)) k.left))

-- nor where the table doesn't allow it
pub not_allowed : (p : Program) (s : SourceState) (n : ℕ) (before : Process) (o : Offer) (last : Option ℕ)
    (notified : Option Member) (resumed : List ℕ)
    → s.process n ≡ Some before → o ≡ offer p s.variable before
    → ((c : Member) → IsNotifying o (Some c) ↔ (notified ≡ Some c))
    → ((t : Table) → AllowsKill n notified resumed s.table t → ⊥)
    → (u : SourceState) → IsKill p s n resumed last u → ⊥
not_allowed p s n before o last notified resumed stands offers notifies never u k =
    cases k.notified (subst (λ x. IsNotifying x k.notified)
    (ap (offer p s.variable) (some_once k.before before (sym k.stands ∙ stands)) ∙ sym offers) k.notifies) k.allows
  where
    cases : (d : Option Member) → IsNotifying o d → AllowsKill n d resumed s.table u.table → ⊥
    cases None h allows = never u.table (none_resumed s.table notified resumed allows.0, allows.1)
    cases (Some c) h allows =
        never u.table (subst (λ x. AllowsKill n x resumed s.table u.table) (sym ((notifies c).0 h)) allows)
