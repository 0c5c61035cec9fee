-- Which offers can be taken up, and so which processes can move.
use Rattle.std.proofs.Common.{if◌then◌else◌, ◌≡◌, ◌⊎◌, ◌↔◌, ◌<◌, ◌≤◌, ◌+◌, ℕ, Bool, true, false, MatchBool, List, []}
use Rattle.std.proofs.Common.{Option, Some, None, Contains, refl, sym, ◌∙◌, subst, inl, inr, arith}
use Rattle.std.specs.List.Sorted.{IsStrictlyIncreasing}
use Rattle.std.specs.Prelude.{IsSome}
use Rattle.words.specs.Updates.{put}
use Rattle.program.specs.declared.kinds.Member.{Member}
use Rattle.program.specs.Trees.{Program}
use Rattle.meaning.specs.Labels.{End, Label, Alone, Stores, Forks, FindsFull, Claims, FindsClaimed, Joins, Enters}
use Rattle.meaning.specs.Labels.{Resumes, Exits, Waits, Notifies, Broadcasts, Abandons, Ends, kind_of}
use Rattle.meaning.specs.Offers.{Nothing, Makes, Offer, Rests, Does, Takes, MakesOne, ClaimsOne, JoinsOne}
use Rattle.meaning.specs.Offers.{NotifiesSome, NotifiesAll, TakesUp, offer}
use Rattle.meaning.specs.Processes.{Process}
use Rattle.meaning.specs.Runs.{CanMove}
use Rattle.meaning.specs.States.{SourceState, variables_after, printed_after, processes_after}
use Rattle.meaning.specs.Table.{Table, HeldBy, Allows, without_waiters}
use Rattle.sourcemeaning.specs.Free.{IsFree, IsFreeLabel}
use Rattle.sourcemeaning.specs.Moving.{CanBeTakenUp, IsEnterable}

-- the processes that wait on each condition are those of a list that rises
abbrev pub HasWaiters : Table → Type 0
HasWaiters t = (c : Member) → (ws : List ℕ) × ((q : ℕ) → t.waits q ≡ Some c ↔ Contains ws q)
    × IsStrictlyIncreasing ws

-- the table after an action that it always allows
free_label : (n : ℕ) (t : Table) (l : Label) → IsFreeLabel l → (t' : Table) × Allows n l t t'
free_label n t (Alone kind) h = (t, refl)
free_label n t (Stores m) h = (t, refl)
free_label n t (Exits m) h = (_, refl)
free_label n t (Waits c) h = (_, refl)
free_label n t (Abandons m) h = (_, refl)
free_label n t (Ends end) h = (_, refl)
free_label n t (Forks child) h = absurd h
free_label n t FindsFull h = absurd h
free_label n t (Claims child) h = absurd h
free_label n t (FindsClaimed child) h = absurd h
free_label n t (Joins child end) h = absurd h
free_label n t (Enters m w) h = absurd h
free_label n t (Resumes m w) h = absurd h
free_label n t (Notifies c resumed) h = absurd h
free_label n t (Broadcasts c resumed) h = absurd h

made_or_full : (n : ℕ) (t : Table) (q : Process) (after : ℕ → Process) (full : Process)
    → (t.made < t.most) ⊎ (t.most ≤ t.made) → CanBeTakenUp n t (MakesOne q after full)
made_or_full n t q after full (inl h) = record {
  label = Forks (t.made + 1);
  effect = Makes (t.made + 1) q;
  after = after (t.made + 1);
  leaves = record t { made = t.made + 1 };
  takes = inl (t.made + 1, refl, refl, refl);
  allows = (h, refl, refl);
}
made_or_full n t q after full (inr h) = record {
  label = FindsFull;
  effect = Nothing;
  after = full;
  leaves = t;
  takes = inr (refl, refl, refl);
  allows = (h, refl);
}

claimed_or_not : (n : ℕ) (t : Table) (child : ℕ) (after refused : Process) (b : Bool) → t.claimed child ≡ b
    → CanBeTakenUp n t (ClaimsOne child after refused)
claimed_or_not n t child after refused false e = record {
  label = Claims child;
  effect = Nothing;
  after = after;
  leaves = record t { claimed = put t.claimed child true };
  takes = inl (refl, refl, refl);
  allows = (e, refl);
}
claimed_or_not n t child after refused true e = record {
  label = FindsClaimed child;
  effect = Nothing;
  after = refused;
  leaves = t;
  takes = inr (refl, refl, refl);
  allows = (e, refl);
}

below_or_not : (a b : ℕ) → (a < b) ⊎ (b ≤ a)
below_or_not a b = grind arith

nobody : (q : ℕ) (ws : List ℕ) → Contains ws q → ws ≡ [] → ⊥
nobody q ws h none = let here : Contains [] q = subst (λ xs. Contains xs q) none h in omega (arith, here.1)

-- what is free of the others can be done at once
pub free_moves : (n : ℕ) (t : Table) (o : Offer) → HasWaiters t → IsFree o → CanBeTakenUp n t o
free_moves n t Rests has h = absurd h
free_moves n t (Does l e q) has h = record {
  label = l;
  effect = e;
  after = q;
  leaves = (free_label n t l h).0;
  takes = (refl, refl, refl);
  allows = (free_label n t l h).1;
}
free_moves n t (Takes l free abandoned) has h = absurd h
free_moves n t (MakesOne q after full) has h = made_or_full n t q after full (below_or_not t.made t.most)
free_moves n t (ClaimsOne child after refused) has h = claimed_or_not n t child after refused (t.claimed child) refl
free_moves n t (JoinsOne child after) has h = absurd h
free_moves n t (NotifiesSome c q) has h = record {
  label = Notifies c (has c).0;
  effect = Nothing;
  after = q;
  leaves = record t { waits = without_waiters (has c).0 t.waits };
  takes = ((has c).0, refl, refl, refl);
  allows = (
    record {
      rising = (has c).2;
      wait = λ r w. ((has c).1 r).1 w;
      some = λ r w none. nobody r (has c).0 (((has c).1 r).0 w) none;
    },
    refl,
  );
}
free_moves n t (NotifiesAll c q) has h = record {
  label = Broadcasts c (has c).0;
  effect = Nothing;
  after = q;
  leaves = record t { waits = without_waiters (has c).0 t.waits };
  takes = ((has c).0, refl, refl, refl);
  allows = (
    record { rising = (has c).2; wait = λ r w. ((has c).1 r).1 w; all = λ r w. ((has c).1 r).0 w },
    refl,
  );
}

pub rests_never : (n : ℕ) (t : Table) (o : Offer) → o ≡ Rests → CanBeTakenUp n t o → ⊥
rests_never n t o e x = subst (λ y. TakesUp y x.label x.effect x.after) e x.takes

pub enters : (n : ℕ) (t : Table) (m : ℕ) (free abandoned : Process)
    → IsEnterable t m ↔ CanBeTakenUp n t (Takes (Enters m) free abandoned)
enters n t m free abandoned = (
  λ h. record {
    label = Enters m h.0;
    effect = Nothing;
    after = if h.0 then abandoned else free;
    leaves = record t { hold = put t.hold m (HeldBy n) };
    takes = (h.0, refl, refl, refl);
    allows = (h.1, refl);
  },
  λ x. let allowed : Allows n (Enters m x.takes.0) t x.leaves =
      subst (λ l. Allows n l t x.leaves) x.takes.1 x.allows in
      (x.takes.0, allowed.0),
)

pub resumes : (n : ℕ) (t : Table) (m : ℕ) (free abandoned : Process)
    → ((t.waits n ≡ None) × IsEnterable t m) ↔ CanBeTakenUp n t (Takes (Resumes m) free abandoned)
resumes n t m free abandoned = (
  λ h. record {
    label = Resumes m h.1.0;
    effect = Nothing;
    after = if h.1.0 then abandoned else free;
    leaves = record t { hold = put t.hold m (HeldBy n) };
    takes = (h.1.0, refl, refl, refl);
    allows = (h.0, h.1.1, refl);
  },
  λ x. let allowed : Allows n (Resumes m x.takes.0) t x.leaves =
      subst (λ l. Allows n l t x.leaves) x.takes.1 x.allows in (allowed.0, (x.takes.0, allowed.1)),
)

pub joins : (n : ℕ) (t : Table) (child : ℕ) (after : End → Process)
    → ((end : End) × (t.over child ≡ Some end)) ↔ CanBeTakenUp n t (JoinsOne child after)
joins n t child after = (
  λ h. record {
    label = Joins child h.0;
    effect = Nothing;
    after = after h.0;
    leaves = t;
    takes = (h.0, refl, refl, refl);
    allows = (h.1, refl);
  },
  λ x. let allowed : Allows n (Joins child x.takes.0) t x.leaves =
      subst (λ l. Allows n l t x.leaves) x.takes.1 x.allows in (x.takes.0, allowed.0),
)

some_once : {A : Type 0} (x y : A) → Some x ≡ Some y → x ≡ y
some_once x y e = cc

none_some : {A : Type 0} (x : A) → None ≡ Some x → ⊥
none_some x e = cc

-- a process moves where what it offers can be taken up
pub moves : (p : Program) (s : SourceState) (n : ℕ) (q : Process) → s.process n ≡ Some q
    → CanBeTakenUp n s.table (offer p s.variable q) ↔ CanMove p s n
moves p s n q stands = (
  λ x. record {
    kind = kind_of x.label;
    after = record {
      table = x.leaves;
      variable = variables_after x.effect s.variable;
      process = put (processes_after x.effect s.process) n (Some x.after);
      printed = printed_after x.effect s.printed;
    };
    moves = record {
      before = q;
      after = x.after;
      label = x.label;
      effect = x.effect;
      stands = stands;
      acts = x.takes;
      named = refl;
      allows = x.allows;
      variables = refl;
      printed = refl;
      processes = refl;
    };
  },
  λ m. record {
    label = m.moves.label;
    effect = m.moves.effect;
    after = m.moves.after;
    leaves = m.after.table;
    takes = subst (λ r. TakesUp (offer p s.variable r) m.moves.label m.moves.effect m.moves.after)
        (some_once m.moves.before q (sym m.moves.stands ∙ stands)) m.moves.acts;
    allows = m.moves.allows;
  },
)

-- nobody is there to move
pub absent_never : (p : Program) (s : SourceState) (n : ℕ) → s.process n ≡ None → CanMove p s n → ⊥
absent_never p s n absent m = none_some m.moves.before (sym absent ∙ m.moves.stands)

-- what is decided of one is decided of the other
pub decided : (b : Bool) (X Y : Type 0) → X ↔ Y → MatchBool b X (X → ⊥) → MatchBool b Y (Y → ⊥)
decided true X Y e h = e.0 h
decided false X Y e h = λ y. h (e.1 y)

some_is : {A : Type 0} (o : Option A) (x : A) → o ≡ Some x → IsSome o
some_is o x e = subst IsSome (sym e) refl

-- who can move is there
pub mover_is_there : (p : Program) (s : SourceState) (n : ℕ) → CanMove p s n → IsSome (s.process n)
mover_is_there p s n m = some_is (s.process n) m.moves.before m.moves.stands
