-- A stray wake-up may be put off to where its process takes its monitor again: until then more processes wait, so that
-- no more can move.
use Rattle.std.proofs.Common.{◌≡◌, ◌⊎◌, ℕ, zero, suc, ◌+◌, ◌≤◌, ◌<◌, ◌++◌, true, List, [], ◌∷◌, length, Option, Some, None}
use Rattle.std.proofs.Common.{Contains, refl, sym, ap, ◌∙◌, subst, inl, inr, arith}
use Rattle.std.specs.List.Sorted.{IsStrictlyIncreasing}
use Rattle.std.proofs.lemmas.Bool.{cases_eq, cases_lt}
use Rattle.words.specs.Updates.{put}
use Rattle.words.proofs.Updates.{at_put, at_put2}
use Rattle.program.specs.declared.kinds.Member.{Member}
use Rattle.program.specs.Trees.{Program}
use Rattle.program.specs.WellFormed.{WellFormed}
use Rattle.meaning.specs.Labels.{Action, Label, Alone, Stores, Forks, FindsFull, Claims, FindsClaimed, Joins}
use Rattle.meaning.specs.Labels.{Enters, Resumes, Exits, Waits, Notifies, Broadcasts, Abandons, Ends, kind_of}
use Rattle.meaning.specs.Table.{Table, Allows, IsNotified, IsBroadcast, without_waiters}
use Rattle.meaning.specs.Processes.{Process}
use Rattle.meaning.specs.Offers.{Effect, Offer, Rests, Does, Takes, MakesOne, ClaimsOne, JoinsOne, NotifiesSome, NotifiesAll}
use Rattle.meaning.specs.Offers.{TakesUp, offer}
use Rattle.meaning.specs.States.{SourceState, opening, printed_after, processes_after, variables_after}
use Rattle.meaning.specs.Runs.{CanMove, IsAction, IsStray, Leads}
use Rattle.meaning.proofs.Discipline.{WaitsAt}
use Rattle.meaning.proofs.Ends.{numbered}
use Rattle.meaning.proofs.Holding.{all_stand, resumes_only}
use Rattle.meaning.proofs.Keeping.{OptionWaits}
use Rattle.meaning.proofs.Led.{leads_more}
use Rattle.meaning.proofs.Offered.{IsPlain, plain}
use Rattle.meaning.proofs.Rising.{rise_cons}
use Rattle.proof_commutation.proofs.Behind.{act}
use Rattle.proof_commutation.proofs.Following.{no_zero}
use Rattle.proof_exploration.specs.Exploring.{AreUnkilled, HasAborted, IsStuck, IsTurn, IsUnkilled, LeadsBy, awake}
use Rattle.proof_exploration.proofs.Ending.{EndsWell, ends_well}
use Rattle.proof_exploration.proofs.Resuming.{within, without_in}
use Rattle.proof_exploration.proofs.Tables.{Guard, allowed, split, table_after, wait_change, waits_after, without_none}
use Rattle.proof_exploration.proofs.Tables.{without_out}
use Rattle.proof_exploration.proofs.Turns.{awake_in, turn_run, woken_run}

-- whether one waits on a condition can be told
same_member : (d c : Member) → d.monitor ≡ c.monitor → d.number ≡ c.number → d ≡ c
same_member d c a b = ap (λ m. record d { monitor = m }) a ∙ ap (λ n. record c { number = n }) b

some_once : (d c : Member) → Some d ≡ Some c → d ≡ c
some_once d c e = cc

waits_or : (o : Option Member) (c : Member) → (o ≡ Some c) ⊎ (o ≡ Some c → ⊥)
waits_or None c = inr (λ e. absurd (cc))
waits_or (Some d) c = elim (cases_eq d.monitor c.monitor) [
  | inl a ↦ elim (cases_eq d.number c.number) [
    | inl b ↦ inl (ap Some (same_member d c a b))
    | inr o ↦ inr (λ e. o (ap (λ (m : Member). m.number) (some_once d c e)))
  ]
  | inr o ↦ inr (λ e. o (ap (λ (m : Member). m.monitor) (some_once d c e)))
]

-- members of lists
none_in : (q : ℕ) → Contains [] q → ⊥
none_in q c = let less : c.0 < 0 = c.1 in omega (arith, less)

first_in : (q r : ℕ) (qs : List ℕ) → r ≡ q → Contains (r ∷ qs) q
first_in q r qs e = (0, omega arith, e)

later_in : (q r : ℕ) (qs : List ℕ) → Contains qs q → Contains (r ∷ qs) q
later_in q r qs c = (suc c.0, (let less : c.0 < length qs = c.1 in omega (arith, less)), c.2)

either_in : (q r : ℕ) (qs : List ℕ) → Contains (r ∷ qs) q → (r ≡ q) ⊎ Contains qs q
either_in q r qs (zero, less, e) = inl e
either_in q r qs (suc k, less, e) = inr (k, omega (arith, less), e)

-- those of some numbers that wait on a condition, n of them from k on
record Waiting (w : ℕ → Option Member) (c : Member) (n k : ℕ) : Type 0 where
  list : List ℕ
  rising : IsStrictlyIncreasing list
  wait : (q : ℕ) → Contains list q → w q ≡ Some c
  all : (q : ℕ) → k ≤ q → q < k + n → w q ≡ Some c → Contains list q
  above : (q : ℕ) → Contains list q → k ≤ q

waiting : (w : ℕ → Option Member) (c : Member) (n k : ℕ) → Waiting w c n k
waiting w c zero k = record {
  list = [];
  rising = λ i less. absurd (omega (arith, less));
  wait = λ q i. absurd (none_in q i);
  all = λ q low high is. absurd (omega (arith, low, high));
  above = λ q i. absurd (none_in q i);
}
waiting w c (suc n) k = one_more w c n k (waiting w c n (suc k)) (waits_or (w k) c)
  where
    one_more : (w : ℕ → Option Member) (c : Member) (n k : ℕ) → Waiting w c n (suc k)
        → (w k ≡ Some c) ⊎ (w k ≡ Some c → ⊥) → Waiting w c (suc n) k
    one_more w c n k rest (inl is) = record {
      list = k ∷ rest.list;
      rising = rise_cons k rest.list rest.rising (λ q i. let low = rest.above q i in omega (arith, low));
      wait = λ q i. elim (either_in q k rest.list i) [
        | inl e ↦ subst (λ r. w r ≡ Some c) e is
        | inr later ↦ rest.wait q later
      ];
      all = λ q low high waits. elim (cases_eq k q) [
        | inl e ↦ first_in q k rest.list e
        | inr o ↦ later_in q k rest.list (rest.all q (omega (arith, o, low)) (omega (arith, high)) waits)
      ];
      above = λ q i. elim (either_in q k rest.list i) [
        | inl e ↦ omega (arith, e)
        | inr later ↦ let low = rest.above q later in omega (arith, low)
      ];
    }
    one_more w c n k rest (inr not) = record {
      list = rest.list;
      rising = rest.rising;
      wait = rest.wait;
      all = λ q low high waits. elim (cases_eq k q) [
        | inl e ↦ absurd (not (ap w e ∙ waits))
        | inr o ↦ rest.all q (omega (arith, o, low)) (omega (arith, high)) waits
      ];
      above = λ q i. let low = rest.above q i in omega (arith, low);
    }

-- all that wait on a condition
record AllOn (w : ℕ → Option Member) (c : Member) : Type 0 where
  list : List ℕ
  rising : IsStrictlyIncreasing list
  wait : (q : ℕ) → Contains list q → w q ≡ Some c
  all : (q : ℕ) → w q ≡ Some c → Contains list q

all_on : (p : Program) → WellFormed p → (done : List Action) (s : SourceState) → Leads p (opening p) done s
    → (c : Member) → AllOn s.table.waits c
all_on p wf done s run c = record {
  list = found.list;
  rising = found.rising;
  wait = found.wait;
  all = λ q is. found.all q (low q is) (high q is) is;
}
  where
    found : Waiting s.table.waits c s.table.made 1
    found = waiting s.table.waits c s.table.made 1

    there : (q : ℕ) → s.table.waits q ≡ Some c → s.process q ≡ None → ⊥
    there q is none = subst (OptionWaits c) none ((all_stand p wf done s run q).waits c is)

    low : (q : ℕ) → s.table.waits q ≡ Some c → 1 ≤ q
    low q is = elim (cases_eq q 0) [
      | inl e ↦ absurd (there q is (ap s.process e ∙ no_zero p s done run))
      | inr o ↦ omega (arith, o)
    ]

    high : (q : ℕ) → s.table.waits q ≡ Some c → q < 1 + s.table.made
    high q is = elim (cases_lt s.table.made q) [
      | inl past ↦ absurd (there q is (numbered p s done run q past))
      | inr le ↦ omega (arith, le)
    ]

-- a notify or a broadcast is offered with any list
other_notify : (o : Offer) (c : Member) (qs rs : List ℕ) (e : Effect) (q : Process) → IsPlain o → EndsWell o
    → TakesUp o (Notifies c qs) e q → TakesUp o (Notifies c rs) e q
other_notify Rests c qs rs e q is well t = absurd t
other_notify (Does l f r) c qs rs e q is well t = absurd (subst (λ k. EndsWell (Does k f r)) (sym t.0) well)
other_notify (Takes l free abandoned) c qs rs e q (m, inl x) well t =
    absurd (let z : Notifies c qs ≡ Enters m t.0 = t.1 ∙ ap (λ k. k t.0) x in cc)
other_notify (Takes l free abandoned) c qs rs e q (m, inr x) well t =
    absurd (let z : Notifies c qs ≡ Resumes m t.0 = t.1 ∙ ap (λ k. k t.0) x in cc)
other_notify (MakesOne d r full) c qs rs e q is well (inl t) = absurd (let x = t.1 in cc)
other_notify (MakesOne d r full) c qs rs e q is well (inr t) = absurd (let x = t.0 in cc)
other_notify (ClaimsOne d r refused) c qs rs e q is well (inl t) = absurd (let x = t.0 in cc)
other_notify (ClaimsOne d r refused) c qs rs e q is well (inr t) = absurd (let x = t.0 in cc)
other_notify (JoinsOne d r) c qs rs e q is well t = absurd (let x = t.1 in cc)
other_notify (NotifiesSome d r) c qs rs e q is well t =
    let x : Notifies c qs ≡ Notifies d t.0 = t.1 in
    let same : c ≡ d = cc in (rs, ap (λ m. Notifies m rs) same, t.2, t.3)
other_notify (NotifiesAll d r) c qs rs e q is well t = absurd (let x = t.1 in cc)

other_broadcast : (o : Offer) (c : Member) (qs rs : List ℕ) (e : Effect) (q : Process) → IsPlain o → EndsWell o
    → TakesUp o (Broadcasts c qs) e q → TakesUp o (Broadcasts c rs) e q
other_broadcast Rests c qs rs e q is well t = absurd t
other_broadcast (Does l f r) c qs rs e q is well t = absurd (subst (λ k. EndsWell (Does k f r)) (sym t.0) well)
other_broadcast (Takes l free abandoned) c qs rs e q (m, inl x) well t =
    absurd (let z : Broadcasts c qs ≡ Enters m t.0 = t.1 ∙ ap (λ k. k t.0) x in cc)
other_broadcast (Takes l free abandoned) c qs rs e q (m, inr x) well t =
    absurd (let z : Broadcasts c qs ≡ Resumes m t.0 = t.1 ∙ ap (λ k. k t.0) x in cc)
other_broadcast (MakesOne d r full) c qs rs e q is well (inl t) = absurd (let x = t.1 in cc)
other_broadcast (MakesOne d r full) c qs rs e q is well (inr t) = absurd (let x = t.0 in cc)
other_broadcast (ClaimsOne d r refused) c qs rs e q is well (inl t) = absurd (let x = t.0 in cc)
other_broadcast (ClaimsOne d r refused) c qs rs e q is well (inr t) = absurd (let x = t.0 in cc)
other_broadcast (JoinsOne d r) c qs rs e q is well t = absurd (let x = t.1 in cc)
other_broadcast (NotifiesSome d r) c qs rs e q is well t = absurd (let x = t.1 in cc)
other_broadcast (NotifiesAll d r) c qs rs e q is well t =
    let x : Broadcasts c qs ≡ Broadcasts d t.0 = t.1 in
    let same : c ≡ d = cc in (rs, ap (λ m. Broadcasts m rs) same, t.2, t.3)

-- another label with which the same offer is taken up
abbrev TakesToo : Label → Label → Type 0
TakesToo l k = (o : Offer) (e : Effect) (q : Process) → IsPlain o → EndsWell o → TakesUp o l e q → TakesUp o k e q

-- more processes wait, and each on the condition that it waited on
abbrev MoreWait : (ℕ → Option Member) → (ℕ → Option Member) → Type 0
MoreWait w v = (q : ℕ) → (v q ≡ w q) ⊎ (w q ≡ None)

more_none : (w v : ℕ → Option Member) (q : ℕ) → MoreWait w v → v q ≡ None → w q ≡ None
more_none w v q more is = elim (more q) [ inl e ↦ sym e ∙ is | inr none ↦ none ]

none_some : (c : Member) (x : Option Member) → x ≡ None → x ≡ Some c → ⊥
none_some c x a b = let e : None ≡ Some c = sym a ∙ b in absurd (cc)

more_some : (w v : ℕ → Option Member) (q : ℕ) (c : Member) → MoreWait w v → w q ≡ Some c → v q ≡ Some c
more_some w v q c more is = elim (more q) [ inl e ↦ e ∙ is | inr none ↦ absurd (none_some c (w q) none is) ]

-- the action is possible where more wait, with a label of its own, and more wait behind it
record Later (t : ℕ) (l : Label) (T : Table) (v : ℕ → Option Member) : Type 0 where
  label : Label
  guard : Guard t label (record T { waits = v })
  takes : TakesToo l label
  after : table_after t label (record T { waits = v })
      ≡ record (table_after t l T) { waits = waits_after t (wait_change label) v }
  more : MoreWait (waits_after t (wait_change l) T.waits) (waits_after t (wait_change label) v)

-- whom a notify resumes then: the same, or all where it resumed nobody
abbrev chosen : List ℕ → List ℕ → List ℕ
chosen [] all = all
chosen (q ∷ qs) all = q ∷ qs

module _ (t : ℕ) (T : Table) (v : ℕ → Option Member) (more : MoreWait T.waits v) (none : v t ≡ None)
    (on : (c : Member) → AllOn v c) where
  notified : (c : Member) (qs : List ℕ) → IsNotified T c qs
      → IsNotified (record T { waits = v }) c (chosen qs (on c).list)
  notified c [] is = record {
    rising = (on c).rising;
    wait = (on c).wait;
    some = λ q w e. none_in q (subst (λ l. Contains l q) e ((on c).all q w));
  }
  notified c (r ∷ qs) is = record {
    rising = is.rising;
    wait = λ q i. more_some T.waits v q c more (is.wait q i);
    some = λ q w e. absurd (cc);
  }

  notified_more : (c : Member) (qs : List ℕ) → IsNotified T c qs
      → MoreWait (without_waiters qs T.waits) (without_waiters (chosen qs (on c).list) v)
  notified_more c [] is q = elim (within (on c).list q) [
    | inl i ↦ elim (more q) [
      | inl e ↦ absurd (is.some q (sym e ∙ (on c).wait q i) refl)
      | inr n ↦ inr n
    ]
    | inr out ↦ elim (more q) [
      | inl e ↦ inl (without_out (on c).list v q out ∙ e)
      | inr n ↦ inr n
    ]
  ]
  notified_more c (r ∷ qs) is q = without_more (r ∷ qs) q
    where
      without_more : (qs : List ℕ) → MoreWait (without_waiters qs T.waits) (without_waiters qs v)
      without_more qs q = elim (within qs q) [
        | inl i ↦ inr (without_in qs T.waits q i)
        | inr out ↦ elim (more q) [
          | inl e ↦ inl (without_out qs v q out ∙ e ∙ sym (without_out qs T.waits q out))
          | inr n ↦ inr (without_none qs T.waits q n)
        ]
      ]

  broadcast : (c : Member) → IsBroadcast (record T { waits = v }) c (on c).list
  broadcast c = record { rising = (on c).rising; wait = (on c).wait; all = (on c).all }

  broadcast_more : (c : Member) (qs : List ℕ) → IsBroadcast T c qs
      → MoreWait (without_waiters qs T.waits) (without_waiters (on c).list v)
  broadcast_more c qs is q = elim (within qs q) [
    | inl i ↦ inr (without_in qs T.waits q i)
    | inr out ↦ elim (more q) [
      | inl e ↦ inl (without_out (on c).list v q (λ i. out (is.all q (sym e ∙ (on c).wait q i)))
          ∙ e ∙ sym (without_out qs T.waits q out))
      | inr n ↦ inr (without_none qs T.waits q n)
    ]
  ]

  waits_more : (c : Member) → MoreWait (put T.waits t (Some c)) (put v t (Some c))
  waits_more c q = at_put2 v T.waits t (Some c) (Some c) q (λ x y. (x ≡ y) ⊎ (y ≡ None)) (λ e. inl refl) (λ o. more q)

  later : (l : Label) → Guard t l T → Later t l T v
  later (Notifies c qs) g = record {
    label = Notifies c (chosen qs (on c).list);
    guard = notified c qs g;
    takes = λ o e q is well x. other_notify o c qs (chosen qs (on c).list) e q is well x;
    after = refl;
    more = notified_more c qs g;
  }
  later (Broadcasts c qs) g = record {
    label = Broadcasts c (on c).list;
    guard = broadcast c;
    takes = λ o e q is well x. other_broadcast o c qs (on c).list e q is well x;
    after = refl;
    more = broadcast_more c qs g;
  }
  later (Waits c) g = record {
    label = Waits c;
    guard = tt;
    takes = λ o e q is well x. x;
    after = refl;
    more = waits_more c;
  }
  later (Resumes m w) g = record {
    label = Resumes m w;
    guard = (none, g.1);
    takes = λ o e q is well x. x;
    after = refl;
    more = more;
  }
  later (Enters m w) g = record {
    label = Enters m w;
    guard = g;
    takes = λ o e q is well x. x;
    after = refl;
    more = more;
  }
  later (Exits m) g = record {
    label = Exits m;
    guard = tt;
    takes = λ o e q is well x. x;
    after = refl;
    more = more;
  }
  later (Abandons m) g = record {
    label = Abandons m;
    guard = tt;
    takes = λ o e q is well x. x;
    after = refl;
    more = more;
  }
  later (Alone kind) g = record {
    label = Alone kind;
    guard = tt;
    takes = λ o e q is well x. x;
    after = refl;
    more = more;
  }
  later (Stores m) g = record {
    label = Stores m;
    guard = tt;
    takes = λ o e q is well x. x;
    after = refl;
    more = more;
  }
  later (Forks child) g = record {
    label = Forks child;
    guard = g;
    takes = λ o e q is well x. x;
    after = refl;
    more = more;
  }
  later FindsFull g = record {
    label = FindsFull;
    guard = g;
    takes = λ o e q is well x. x;
    after = refl;
    more = more;
  }
  later (Claims child) g = record {
    label = Claims child;
    guard = g;
    takes = λ o e q is well x. x;
    after = refl;
    more = more;
  }
  later (FindsClaimed child) g = record {
    label = FindsClaimed child;
    guard = g;
    takes = λ o e q is well x. x;
    after = refl;
    more = more;
  }
  later (Joins child end) g = record {
    label = Joins child end;
    guard = g;
    takes = λ o e q is well x. x;
    after = refl;
    more = more;
  }
  later (Ends end) g = record {
    label = Ends end;
    guard = tt;
    takes = λ o e q is well x. x;
    after = refl;
    more = more;
  }

-- the action is possible where fewer wait
record Sooner (t : ℕ) (l : Label) (T : Table) : Type 0 where
  label : Label
  guard : Guard t label T
  takes : TakesToo l label

module _ (t : ℕ) (T : Table) (v : ℕ → Option Member) (more : MoreWait T.waits v) (on : (c : Member) → AllOn T.waits c)
  where
    fewer : (l : Label) → Guard t l (record T { waits = v }) → Sooner t l T
    fewer (Notifies c qs) g = record {
      label = Notifies c (on c).list;
      guard = record {
        rising = (on c).rising;
        wait = (on c).wait;
        some = λ q w e. none_in q (subst (λ l. Contains l q) e ((on c).all q w));
      };
      takes = λ o e q is well x. other_notify o c qs (on c).list e q is well x;
    }
    fewer (Broadcasts c qs) g = record {
      label = Broadcasts c (on c).list;
      guard = record { rising = (on c).rising; wait = (on c).wait; all = (on c).all };
      takes = λ o e q is well x. other_broadcast o c qs (on c).list e q is well x;
    }
    fewer (Resumes m w) g = record {
      label = Resumes m w;
      guard = (more_none T.waits v t more g.0, g.1);
      takes = λ o e q is well x. x;
    }
    fewer (Waits c) g = record { label = Waits c; guard = tt; takes = λ o e q is well x. x }
    fewer (Enters m w) g = record { label = Enters m w; guard = g; takes = λ o e q is well x. x }
    fewer (Exits m) g = record { label = Exits m; guard = tt; takes = λ o e q is well x. x }
    fewer (Abandons m) g = record { label = Abandons m; guard = tt; takes = λ o e q is well x. x }
    fewer (Alone kind) g = record { label = Alone kind; guard = tt; takes = λ o e q is well x. x }
    fewer (Stores m) g = record { label = Stores m; guard = tt; takes = λ o e q is well x. x }
    fewer (Forks child) g = record { label = Forks child; guard = g; takes = λ o e q is well x. x }
    fewer FindsFull g = record { label = FindsFull; guard = g; takes = λ o e q is well x. x }
    fewer (Claims child) g = record { label = Claims child; guard = g; takes = λ o e q is well x. x }
    fewer (FindsClaimed child) g = record { label = FindsClaimed child; guard = g; takes = λ o e q is well x. x }
    fewer (Joins child end) g = record { label = Joins child end; guard = g; takes = λ o e q is well x. x }
    fewer (Ends end) g = record { label = Ends end; guard = tt; takes = λ o e q is well x. x }

-- the second state is the first, but that more processes wait
pub record SleepsMore (s r : SourceState) : Type 0 where
  pub table : r.table ≡ record s.table { waits = r.table.waits }
  pub variable : r.variable ≡ s.variable
  pub process : r.process ≡ s.process
  pub waits : MoreWait s.table.waits r.table.waits

sleeps_self : (s : SourceState) → SleepsMore s s
sleeps_self s = record { table = refl; variable = refl; process = refl; waits = λ q. inl refl }

module _ (p : Program) (wf : WellFormed p) where
  -- who acts doesn't wait
  unwaiting : (done : List Action) (s : SourceState) (a : Action) (s' : SourceState) → Leads p (opening p) done s
      → IsAction p s a s' → s.table.waits a.process ≡ None
  unwaiting done s a s' run x = by (s.table.waits a.process) refl
    where
      by : (o : Option Member) → s.table.waits a.process ≡ o → s.table.waits a.process ≡ None
      by None is = is
      by (Some c) is =
          let at : WaitsAt c x.before =
          subst (OptionWaits c) x.stands ((all_stand p wf done s run a.process).waits c is) in
          let r = resumes_only p s.variable x.before c x.label x.effect x.after at x.acts in
          (subst (λ l. Allows a.process l s.table s'.table) r.2 x.allows).0

  -- an action, where more processes wait
  module _ (done more : List Action) (s r : SourceState) (run : Leads p (opening p) done s)
      (run' : Leads p (opening p) more r) (m : SleepsMore s r) (a : Action) (s' : SourceState) (x : IsAction p s a s')
    where
      abbrev v : ℕ → Option Member
      v = put r.table.waits a.process None

      first : Guard a.process x.label s.table × (s'.table ≡ table_after a.process x.label s.table)
      first = split a.process x.label s.table s'.table x.allows

      woken : (on : List Action) × Leads p (opening p) on (awake true a.process r)
      woken = woken_run p wf true more r a.process run'

      more_wait : MoreWait s.table.waits v
      more_wait q = at_put r.table.waits a.process None q (λ o. (o ≡ s.table.waits q) ⊎ (s.table.waits q ≡ None))
          (λ e. inr (ap s.table.waits e ∙ unwaiting done s a s' run x)) (λ o. m.waits q)

      waits_none : v a.process ≡ None
      waits_none = at_put r.table.waits a.process None a.process (λ o. o ≡ None) (λ e. refl) (λ o. absurd (o refl))

      act_later : Later a.process x.label s.table v
      act_later = later a.process s.table v more_wait waits_none
          (all_on p wf woken.0 (awake true a.process r) woken.1) x.label first.0

      table : awake_in a.process r.table ≡ record s.table { waits = v }
      table = ap (awake_in a.process) m.table

      abbrev next : SourceState
      next = record {
        table = table_after a.process act_later.label (awake_in a.process r.table);
        variable = variables_after x.effect r.variable;
        process = put (processes_after x.effect r.process) a.process (Some x.after);
        printed = printed_after x.effect r.printed;
      }

      acts_later : IsTurn p true r (act a.process (kind_of act_later.label)) next
      acts_later = record {
        before = x.before;
        after = x.after;
        label = act_later.label;
        effect = x.effect;
        stands = ap (λ (f : ℕ → Option Process). f a.process) m.process ∙ x.stands;
        acts = subst (λ w. TakesUp (offer p w x.before) act_later.label x.effect x.after) (sym m.variable)
            (act_later.takes (offer p s.variable x.before) x.effect x.after (plain p s.variable x.before)
            (ends_well p s.variable x.before) x.acts);
        named = refl;
        allows = allowed a.process act_later.label (awake_in a.process r.table)
            (subst (Guard a.process act_later.label) (sym table) act_later.guard);
        variables = refl;
        printed = refl;
        processes = refl;
      }

      sleeps_later : SleepsMore s' next
      sleeps_later = record {
        table = ap (table_after a.process act_later.label) table ∙ act_later.after
            ∙ ap (λ (T : Table). record T { waits = waits_after a.process (wait_change act_later.label) v }) (sym first.1);
        variable = ap (variables_after x.effect) m.variable ∙ sym x.variables;
        process = ap (λ f. put (processes_after x.effect f) a.process (Some x.after)) m.process ∙ sym x.processes;
        waits = subst (λ (T : Table). MoreWait T.waits (waits_after a.process (wait_change act_later.label) v))
            (sym first.1) act_later.more;
      }

  stray_sleeps : (s r s' : SourceState) (u : ℕ) (c : Member) → SleepsMore s r → IsStray s u c s' → SleepsMore s' r
  stray_sleeps s r s' u c m x = record {
    table = m.table ∙ ap (λ (T : Table). record T { waits = r.table.waits }) (sym x.allows.1);
    variable = m.variable ∙ sym x.variables;
    process = m.process ∙ sym x.processes;
    waits = subst (λ (T : Table). MoreWait T.waits r.table.waits) (sym x.allows.1)
        (λ q. at_put s.table.waits u None q (λ o. (r.table.waits q ≡ o) ⊎ (o ≡ None)) (λ e. inr refl)
        (λ o. m.waits q));
  }

  -- a run with stray wake-ups, as turns
  pub record PutOff (r e : SourceState) : Type 0 where
    pub turns : List Action
    pub end : SourceState
    pub led : LeadsBy p true r turns end
    pub more : SleepsMore e end

  pub put_off : (actions done more : List Action) (s r e : SourceState) → Leads p (opening p) done s
      → Leads p (opening p) more r → SleepsMore s r → Leads p s actions e → AreUnkilled actions → PutOff r e
  put_off [] done more s r e run run' m led none =
      record { turns = []; end = r; led = refl; more = subst (λ x. SleepsMore x r) led m }
  put_off (a ∷ actions) done more s r e run run' m (mid, inl x, led) none =
      let turn : IsTurn p true r (act a.process (kind_of (act_later done more s r run run' m a mid x).label))
      (next done more s r run run' m a mid x) = acts_later done more s r run run' m a mid x in
      let on = turn_run p wf true more r run'
      (act a.process (kind_of (act_later done more s r run run' m a mid x).label))
      (next done more s r run run' m a mid x) turn in
      let rest : PutOff (next done more s r run run' m a mid x) e =
      put_off actions (done ++ a ∷ []) on.0 mid (next done more s r run run' m a mid x) e
      (leads_more p (opening p) s mid done a run (inl x)) on.1 (sleeps_later done more s r run run' m a mid x) led none.1 in
      record {
        turns = act a.process (kind_of (act_later done more s r run run' m a mid x).label) ∷ rest.turns;
        end = rest.end;
        led = (next done more s r run run' m a mid x, turn, rest.led);
        more = rest.more;
      }
  put_off (a ∷ actions) done more s r e run run' m (mid, inr (inl x), led) none =
      put_off actions (done ++ a ∷ []) more mid r e (leads_more p (opening p) s mid done a run (inr (inl x))) run'
      (stray_sleeps s r mid a.process x.0 m x.2) led none.1
  put_off (a ∷ actions) done more s r e run run' m (mid, inr (inr x), led) none =
      absurd (subst IsUnkilled x.2 none.0)

  -- where fewer wait at least as many can move
  fewer_move : (done : List Action) (s r : SourceState) → Leads p (opening p) done s → SleepsMore s r → (t : ℕ)
      → CanMove p r t → CanMove p s t
  fewer_move done s r run m t can = record {
    kind = kind_of now.label;
    after = record {
      table = table_after t now.label s.table;
      variable = variables_after x.effect s.variable;
      process = put (processes_after x.effect s.process) t (Some x.after);
      printed = printed_after x.effect s.printed;
    };
    moves = record {
      before = x.before;
      after = x.after;
      label = now.label;
      effect = x.effect;
      stands = ap (λ (f : ℕ → Option Process). f t) (sym m.process) ∙ x.stands;
      acts = subst (λ w. TakesUp (offer p w x.before) now.label x.effect x.after) m.variable
          (now.takes (offer p r.variable x.before) x.effect x.after (plain p r.variable x.before)
          (ends_well p r.variable x.before) x.acts);
      named = refl;
      allows = allowed t now.label s.table now.guard;
      variables = refl;
      printed = refl;
      processes = refl;
    };
  }
    where
      x : IsAction p r (act t can.kind) can.after
      x = can.moves

      now : Sooner t x.label s.table
      now = fewer t s.table r.table.waits m.waits (all_on p wf done s run) x.label
          (subst (Guard t x.label) m.table (split t x.label r.table can.after.table x.allows).0)

  pub sleeps_stuck : (done : List Action) (s r : SourceState) → Leads p (opening p) done s → SleepsMore s r
      → IsStuck p s → IsStuck p r
  sleeps_stuck done s r run m stuck = record {
    rests = λ t can. stuck.rests t (fewer_move done s r run m t can);
    process = stuck.process;
    at = stuck.at;
    stands = ap (λ (f : ℕ → Option Process). f stuck.process) m.process ∙ stuck.stands;
    goes_on = stuck.goes_on;
  }

  pub sleeps_aborted : (s r : SourceState) → SleepsMore s r → HasAborted s → HasAborted r
  sleeps_aborted s r m is = (is.0, is.1, ap (λ (f : ℕ → Option Process). f is.0) m.process ∙ is.2)

  pub put_off_run : (actions : List Action) (s : SourceState) → Leads p (opening p) actions s → AreUnkilled actions
      → PutOff (opening p) s
  put_off_run actions s run none =
      put_off actions [] [] (opening p) (opening p) s refl refl (sleeps_self (opening p)) run none
