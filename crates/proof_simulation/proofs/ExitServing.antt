-- A step of robust exit, as the machine takes it, is a step of the protocol's exit, and leads to the phase of its next
-- point.
use Rattle.std.proofs.Common.{◌≡◌, ℕ, zero, suc, ◌+◌, ◌<◌, ◌≤◌, ◌==◌, ◌||◌, true, List, [], ◌∷◌, length, inl, inr, refl}
use Rattle.std.proofs.Common.{sym, ap, ◌∙◌, subst, arith}
use Rattle.std.specs.Prelude.{nat_le}
use Rattle.std.proofs.lemmas.Bool.{cases_Bool, cond-true, cond-false, or_left, or_right, eq-eqb}
use Rattle.words.specs.Process.{process_word}
use Rattle.words.specs.Versions.{most_of}
use Rattle.isa.specs.Programs.{memory_size}
use Rattle.robustexit.specs.RobustExit.{Shared, EntryStep, IsPending, IsForeign, IsPassed, IsOwned, PendingStep}
use Rattle.robustexit.specs.RobustExit.{NoEntry as NoEntry', ExitStep, Abandons}
use Rattle.robustexit.specs.Phases.{next_entry}
use Rattle.robustexit.specs.declared.phase.ExitPhase.{ExitPhase}
use Rattle.robustexit.specs.declared.phase.ExitPhase.TheVariants.{Entry, Pending, ClearId, LastWake}
use Rattle.locals.specs.Threads.{Exits}
use Rattle.locals.specs.Looks.{Leaves}
use Rattle.program.specs.declared.kinds.Member.{Member}
use Rattle.program.specs.Trees.{Program}
use Rattle.program.specs.WellFormed.{WellFormed}
use Rattle.lowering.specs.Pieces.{code_of}
use Rattle.meaning.specs.Labels.{Cause, End}
use Rattle.meaning.specs.Table.{Table}
use Rattle.machine.specs.States.{State, with_thread}
use Rattle.machine.specs.AbstractServing.{shared_of, with_shared}
use Rattle.machine.specs.Runs.{Moves}
use Rattle.protocol.specs.Word.{died_word}
use Rattle.protocol.specs.Points.{Entry as PendingEntry, NoEntry, Owned, Unowned, entry_at, entry_word}
use Rattle.protocol.specs.Points.{Spot, OnLock, OnId, Point, Walks, ClearsId, LastWakes}
use Rattle.protocol.specs.Points.{Runs, MeetsClaimed, Dies}
use Rattle.protocol.specs.World.{World, mem, tail}
use Rattle.protocol.specs.Cells.{LockOf, LinkOf, PendingOf, IdOf, write}
use Rattle.protocol.specs.Memory.{entry_address}
use Rattle.protocol.specs.Requests.{request}
use Rattle.protocol.specs.Answers.{WakesOne, Foreign, Abandon, ExitDoes, Serves, next, next_list}
use Rattle.protocol.specs.Exits.{Shares, IsLayout, PhaseIs, IsShort, PendingIsThere, NextIsThere}
use Rattle.protocol.proofs.Good.{Good}
use Rattle.protocol.proofs.Chains.{ChainAt, Chain, chain_some, chain_none}
use Rattle.protocol.proofs.Pend.{PendAt}
use Rattle.protocol.proofs.Exits.{exits_follow}
use Rattle.protocol.proofs.Phases.{at_entry, phases_follow}
use Rattle.protocol.proofs.Roles.{Knows}
use Rattle.words.proofs.Updates.{put_other}
use Rattle.proof_thread.specs.Variables.{IsVariable, variable_address}
use Rattle.proof_templates.specs.Layout.{place, valid}
use Rattle.proof_templates.specs.Asking.{machine_answer}
use Rattle.proof_templates.proofs.Layouts.{is_layout, number_is, monitor_valid}
use Rattle.proof_templates.proofs.Addresses.{variable_apart}
use Rattle.proof_simulation.specs.Killing.{IsOfProgram}
use Rattle.proof_simulation.specs.Standing.{entries_seen}
use Rattle.proof_simulation.specs.Serving.{IsServed}
use Rattle.proof_simulation.proofs.Pigeons.{short}
use Rattle.protocol.specs.Rules.{ReleaseRule, release_of, version_rules, Rules, ExitRule, WakesAlways, WakesUnowned}
use Rattle.protocol.specs.Rules.{WakesUncovered}
use Rattle.robustexit.specs.ExitRules.{exit_of}

-- a point of an exit
abbrev pub IsExit : Point → Type 0
IsExit (Walks e x end) = Unit {0}
IsExit (ClearsId end) = Unit {0}
IsExit (LastWakes end) = Unit {0}
IsExit pt = ⊥

-- at most as many entries on the walk as there are monitors
abbrev pub WalkIsShort : Point → ExitPhase → List ℕ → Type 0
WalkIsShort (Walks e x end) phase l = entries_seen phase + length l ≤ 64
WalkIsShort pt phase l = Unit {0}

-- the step as it is served, and where it leads
pub record LeavesOn (p : Program) (s s' : State) (w : World) (t : ℕ) (pt : Point) : Type 0 where
  pub mid : State
  pub later : ExitPhase
  pub served : IsServed p s mid w t pt 0
  pub same : s' ≡ with_thread mid t (Exits later)
  pub phase : (end : End) → PhaseIs (place p) (valid p) (next w end pt 0) later
  pub short : (end : End) → WalkIsShort (next w end pt 0) later (next_list pt (w.at t).list)

-- ---- what an exit changes: a lock word or the id word, and sleepers
pub record IsExitWorld (w w' : World) : Type 0 where
  pub made : w'.made ≡ w.made
  pub at : w'.at ≡ w.at
  pub result : w'.result ≡ w.result
  pub sequence : w'.sequence ≡ w.sequence

waking_world : (w v w' : World) (x : Spot) → IsExitWorld w v → WakesOne v x w' → IsExitWorld w w'
waking_world w v w' x k one = subst (λ (y : World). IsExitWorld w y) (sym one.awake)
    (record { made = k.made; at = k.at; result = k.result; sequence = k.sequence })

same_world : (w : World) → IsExitWorld w w
same_world w = record { made = refl; at = refl; result = refl; sequence = refl }

abandoned_world : (w w' : World) (t m : ℕ) → Abandon w t m w' → IsExitWorld w w'
abandoned_world w w' t m h = elim h.1 [
  | inl k ↦ subst (λ (y : World). IsExitWorld w y) (sym k.1)
      (record { made = refl; at = refl; result = refl; sequence = refl })
  | inr k ↦ waking_world w (write w (LockOf m) (died_word (w.lock m))) w' (OnLock m)
      (record { made = refl; at = refl; result = refl; sequence = refl }) k.1
]

foreign_world : (x : ExitRule) (w w' : World) (m : ℕ) → Foreign x w m w' → IsExitWorld w w'
foreign_world WakesAlways w w' m f = waking_world w w w' (OnLock m) (same_world w) f
foreign_world WakesUnowned w w' m f = elim f [
  | inl k ↦ waking_world w w w' (OnLock m) (same_world w) k.1
  | inr k ↦ subst (λ (y : World). IsExitWorld w y) (sym k.1) (same_world w)
]
foreign_world WakesUncovered w w' m f = elim f [
  | inl k ↦ waking_world w w w' (OnLock m) (same_world w) k.1
  | inr k ↦ subst (λ (y : World). IsExitWorld w y) (sym k.1) (same_world w)
]

exit_world : (w : World) (t : ℕ) (pt : Point) (w' : World) → IsExit pt → ExitDoes w t pt w' → IsExitWorld w w'
exit_world w t (Walks zero x end) w' is h = elim h [
  | inl k ↦ subst (λ (y : World). IsExitWorld w y) (sym k.1) (same_world w)
  | inr k ↦ elim k.2 [
    | inl f ↦ foreign_world w.rules.exit w w' k.0 f.1
    | inr a ↦ abandoned_world w w' t k.0 a
  ]
]
exit_world w t (Walks (suc m) x end) w' is h = elim h [
  | inl k ↦ subst (λ (y : World). IsExitWorld w y) (sym k.1) (same_world w)
  | inr k ↦ elim k [
    | inl f ↦ subst (λ (y : World). IsExitWorld w y) (sym f.1) (same_world w)
    | inr a ↦ abandoned_world w w' t m a.1
  ]
]
exit_world w t (ClearsId end) w' is h = subst (λ (y : World). IsExitWorld w y) (sym h)
    (record { made = refl; at = refl; result = refl; sequence = refl })
exit_world w t (LastWakes end) w' is h = waking_world w w w' (OnId t) (same_world w) h
exit_world w t pt w' is h = absurd is

serves_exit : (u : ReleaseRule) (w : World) (t : ℕ) (pt : Point) (w' : World) → IsExit pt → ExitDoes w t pt w'
    → Serves w t pt (request u t pt) 0 w'
serves_exit u w t (Walks e x end) w' is h = (refl, h)
serves_exit u w t (ClearsId end) w' is h = (refl, h)
serves_exit u w t (LastWakes end) w' is h = (refl, h)
serves_exit u w t pt w' is h = absurd is

told_exit : (p : Program) (t : ℕ) (pt : Point) → IsExit pt → 0 ≡ machine_answer p (request (release_of p.version) t
    pt) 0
told_exit p t (Walks e x end) is = refl
told_exit p t (ClearsId end) is = refl
told_exit p t (LastWakes end) is = refl
told_exit p t pt is = absurd is

-- ---- an entry after some others
seen_next : (e n : ℕ) → entries_seen (next_entry e n) ≤ n
seen_next e n = elim (cases_Bool ((e == 0) || nat_le 2048 n)) [
  | inl y ↦
      let z = ap entries_seen (cond-true ((e == 0) || nat_le 2048 n) Pending (Entry (record { 0 = e }) n) y) in
      omega (arith, z)
  | inr o ↦
      let z = ap entries_seen (cond-false ((e == 0) || nat_le 2048 n) Pending (Entry (record { 0 = e }) n) o) in
      omega (arith, z)
]

-- ---- what the invariant says of an exit
-- a pending entry is that of a monitor of the program
entry_there : (p : Program) (n : ℕ) (x : PendingEntry) → IsOfProgram p x → n ≡ entry_word x → (m : ℕ) → n ≡ suc m
    → valid p (LinkOf m) ≡ true
entry_there p n NoEntry of e m is = absurd (omega (arith, e, is))
entry_there p n (Owned i) of e m is =
    let same : i ≡ m = omega (arith, e, is) in subst (λ u. valid p (LinkOf u) ≡ true) same (monitor_valid p i of)
entry_there p n (Unowned i) of e m is =
    let same : i ≡ m = omega (arith, e, is) in subst (λ u. valid p (LinkOf u) ≡ true) same (monitor_valid p i of)

pends_there : (p : Program) (w : World) (T : Table) (t : ℕ) (pt : Point) → IsExit pt → IsOfProgram p (entry_at pt)
    → Good w T → (w.at t).point ≡ pt → PendingIsThere (valid p) w t pt
pends_there p w T t (Walks e x end) is of good point =
    entry_there p (w.pending t) x of (subst (λ (q : Point). PendAt q (w.pending t)) point (good.pends.pend t))
pends_there p w T t (ClearsId end) is of good point = tt
pends_there p w T t (LastWakes end) is of good point = tt
pends_there p w T t pt is of good point = absurd is

chain_here : (w : World) (T : Table) (t e : ℕ) (x : PendingEntry) (end : End) → Good w T
    → (w.at t).point ≡ Walks e x end → Chain w.link e (w.at t).list
chain_here w T t e x end good point =
    subst (λ (q : Point). ChainAt w.link (w.head t) q (w.at t).list) point (good.chains.chain t)

-- the walk is at the first of the list, and behind its last where there is none
pub first_listed : (w : World) (T : Table) (t m : ℕ) (x : PendingEntry) (end : End) → Good w T
    → (w.at t).point ≡ Walks (suc m) x end → (w.at t).list ≡ m ∷ tail (w.at t).list
first_listed w T t m x end good point =
    (chain_some w.link m (w.at t).list (chain_here w T t (suc m) x end good point)).0

pub none_listed : (w : World) (T : Table) (t : ℕ) (x : PendingEntry) (end : End) → Good w T
    → (w.at t).point ≡ Walks 0 x end → (w.at t).list ≡ []
none_listed w T t x end good point = chain_none w.link (w.at t).list (chain_here w T t 0 x end good point)

-- the next entry is of a monitor of the list
pub next_listed : (w : World) (T : Table) (t m k : ℕ) (x : PendingEntry) (end : End) → Good w T
    → (w.at t).point ≡ Walks (suc m) x end → w.link m ≡ suc k → mem k (tail (w.at t).list) ≡ true
next_listed w T t m k x end good point link =
    let here = chain_some w.link m (w.at t).list (chain_here w T t (suc m) x end good point) in
    let behind = chain_some w.link k (tail (w.at t).list)
    (subst (λ (a : ℕ). Chain w.link a (tail (w.at t).list)) link here.1) in
    ap (mem k) behind.0 ∙ or_left (k == k) _ (eq-eqb k k refl)

next_there : (p : Program) (w : World) (T : Table) (t : ℕ) (pt : Point) → IsExit pt → Good w T → (w.at t).point ≡ pt
    → ((m : ℕ) → mem m (w.at t).list ≡ true → m < length p.monitors) → NextIsThere (valid p) w pt
next_there p w T t (Walks zero x end) is good point lists = tt
next_there p w T t (Walks (suc m) x end) is good point lists = λ k h. monitor_valid p k (lists k
    (ap (mem k) (first_listed w T t m x end good point)
    ∙ or_right (k == m) (mem k (tail (w.at t).list)) (next_listed w T t m k x end good point h)))
next_there p w T t (ClearsId end) is good point lists = tt
next_there p w T t (LastWakes end) is good point lists = tt
next_there p w T t pt is good point lists = absurd is

module _ (p : Program) (fits : WellFormed p) (s : State) (w : World) (T : Table) (t : ℕ)
    (shares : Shares (place p) (valid p) (shared_of s) w) (good : Good w T) (some : 0 < t) (few : t ≤ most_of p.version)
    (size : s.size ≡ memory_size (code_of p)) (rules : w.rules ≡ version_rules p.version) where
  lay : IsLayout (place p) (valid p) s.size
  lay = subst (λ (n : ℕ). IsLayout (place p) (valid p) n) (sym size) (is_layout p fits)

  -- the exit rule of the machine is that of the world
  rule_is : exit_of p.version ≡ w.rules.exit
  rule_is = sym (ap (λ (u : Rules). u.exit) rules)

  valid_t : valid p (PendingOf t) ≡ true
  valid_t = number_is p t some few

  -- the walk is short
  is_short : (pt : Point) (phase : ExitPhase) → IsExit pt → PhaseIs (place p) (valid p) pt phase
      → WalkIsShort pt phase (w.at t).list → IsShort phase
  is_short (Walks zero x end) phase is at short = subst IsShort (sym at) tt
  is_short (Walks (suc m) x end) phase is at short =
      let seen = ap entries_seen at.1.1 in subst IsShort (sym at.1.1) (omega (arith, short, seen))
  is_short (ClearsId end) phase is at short = subst IsShort (sym at) tt
  is_short (LastWakes end) phase is at short = subst IsShort (sym at) tt
  is_short pt phase is at short = absurd is

  -- one step of the walk sees one entry
  still_short : (pt : Point) (phase later : ExitPhase) (woken : List ℕ) (after : Shared) → IsExit pt
      → (w.at t).point ≡ pt → PhaseIs (place p) (valid p) pt phase → WalkIsShort pt phase (w.at t).list
      → ExitStep (exit_of p.version) s.size t phase (shared_of s) woken after later → (end : End)
      → WalkIsShort (next w end pt 0) later (next_list pt (w.at t).list)
  still_short (Walks zero x over) phase later woken after is point at short step end = tt
  still_short (Walks (suc m) x over) phase later woken after is point at short step end =
      let d = subst (λ (y : ExitPhase). ExitStep (exit_of p.version) s.size t y (shared_of s) woken after later)
      at.1.1 step in
      let had = ap entries_seen at.1.1 in
      let here = (chain_some w.link m (w.at t).list (chain_here w T t (suc m) x over good point)).0 in
      let long = ap length here in
      elim d [
        | inl k ↦
            let seen = ap entries_seen k.2 in
            let most = seen_next (s.word (place p (LinkOf m))) (at.1.0 + 1) in
            omega (arith, short, had, long, seen, most)
        | inr k ↦ absurd (k.0 (lay.entry m at.0))
      ]
  still_short (ClearsId over) phase later woken after is point at short step end = tt
  still_short (LastWakes over) phase later woken after is point at short step end = tt
  still_short pt phase later woken after is point at short step end = absurd is

  -- no variable's word changes
  module _ (m : Member) (i : ℕ) (there : IsVariable p m i) where
    abbrev a : ℕ
    a = variable_address p m i

    in_entry : (k : ℕ) (woken : List ℕ) (after : Shared) → valid p (LinkOf k) ≡ true
        → EntryStep s.size t (place p (LinkOf k)) (shared_of s) woken after → after.word a ≡ s.word a
    in_entry k woken after ok (IsPending h idle) = ap (λ (x : Shared). x.word a) idle.same
    in_entry k woken after ok (IsForeign h idle) = ap (λ (x : Shared). x.word a) idle.same
    in_entry k woken after ok (IsOwned h gone) =
        ap (λ (f : ℕ → ℕ). f a) gone.marks
        ∙ put_other s.word (place p (LinkOf k) + 1) _ a (λ q. variable_apart p m i (LockOf k) there ok q)

    abandoned : (e k : ℕ) (woken : List ℕ) (after : Shared) → k < length p.monitors → e ≡ place p (LinkOf k)
        → Abandons t (e + 1) (shared_of s) woken after → after.word a ≡ s.word a
    abandoned e k woken after of is gone =
        ap (λ (f : ℕ → ℕ). f a) gone.marks
        ∙ put_other s.word (e + 1) _ a (λ q. variable_apart p m i (LockOf k) there (monitor_valid p k of)
        (q ∙ ap (λ n. n + 1) is))

    -- the pending entry is none, or that of a monitor of the program
    in_pending : (e n : ℕ) (x : PendingEntry) (woken : List ℕ) (after : Shared) → IsOfProgram p x
        → n ≡ entry_word x → e ≡ entry_address (place p) n → PendingStep (exit_of p.version) s.size t e (shared_of s)
        woken after
        → after.word a ≡ s.word a
    in_pending e n x woken after of is at (NoEntry' absent idle) = ap (λ (z : Shared). z.word a) idle.same
    in_pending e n x woken after of is at (IsForeign ok h so one) = ap (λ (f : ℕ → ℕ). f a) one.same
    in_pending e n x woken after of is at (IsPassed ok h so idle) = ap (λ (z : Shared). z.word a) idle.same
    in_pending e n NoEntry woken after of is at (IsOwned ok gone) =
        let none : e ≡ 0 = at ∙ ap (entry_address (place p)) is in absurd (omega (arith, ok.0, none))
    in_pending e n (Owned m) woken after of is at (IsOwned ok gone) =
        abandoned e m woken after of (at ∙ ap (entry_address (place p)) is) gone
    in_pending e n (Unowned m) woken after of is at (IsOwned ok gone) =
        abandoned e m woken after of (at ∙ ap (entry_address (place p)) is) gone

    variable_stays : (pt : Point) (phase later : ExitPhase) (woken : List ℕ) (after : Shared) → IsExit pt
        → IsOfProgram p (entry_at pt) → (w.at t).point ≡ pt → PhaseIs (place p) (valid p) pt phase
        → ExitStep (exit_of p.version) s.size t phase (shared_of s) woken after later → after.word a ≡ s.word a
    variable_stays (Walks zero x end) phase later woken after is of point at step =
        let d : ExitStep (exit_of p.version) s.size t Pending (shared_of s) woken after later =
        subst (λ (y : ExitPhase). ExitStep (exit_of p.version) s.size t y (shared_of s) woken after later) at step in
        in_pending (s.word (process_word t 1)) (w.pending t) x woken after of
        (subst (λ (q : Point). PendAt q (w.pending t)) point (good.pends.pend t))
        (shares.words.word (PendingOf t) valid_t) d.0
    variable_stays (Walks (suc k) x end) phase later woken after is of point at step =
        let d = subst (λ (y : ExitPhase). ExitStep (exit_of p.version) s.size t y (shared_of s) woken after later)
        at.1.1 step in
        elim d [
          | inl g ↦ in_entry k woken after at.0 g.1
          | inr g ↦ absurd (g.0 (lay.entry k at.0))
        ]
    variable_stays (ClearsId end) phase later woken after is of point at step =
        let d : ExitStep (exit_of p.version) s.size t ClearId (shared_of s) woken after later =
        subst (λ (y : ExitPhase). ExitStep (exit_of p.version) s.size t y (shared_of s) woken after later) at step in
        ap (λ (x : Shared). x.word a) d.1
        ∙ put_other s.word (process_word t 2) 0 a (λ q. variable_apart p m i (IdOf t) there valid_t q)
    variable_stays (LastWakes end) phase later woken after is of point at step =
        let d : ExitStep (exit_of p.version) s.size t LastWake (shared_of s) woken after later =
        subst (λ (y : ExitPhase). ExitStep (exit_of p.version) s.size t y (shared_of s) woken after later) at step in
        ap (λ (f : ℕ → ℕ). f a) d.0.same
    variable_stays pt phase later woken after is of point at step = absurd is

  -- the step of an exit
  pub leaves_on : (pt : Point) (phase : ExitPhase) (woken : List ℕ) (s' : State) → IsExit pt
      → IsOfProgram p (entry_at pt) → (w.at t).point ≡ pt
      → ((m : ℕ) → mem m (w.at t).list ≡ true → m < length p.monitors) → PhaseIs (place p) (valid p) pt phase
      → WalkIsShort pt phase (w.at t).list → Moves (exit_of p.version) s t woken (Leaves phase) s'
      → LeavesOn p s s' w t pt
  leaves_on pt phase woken s' is of point lists at short moves =
      let after : Shared = moves.0 in
      let later : ExitPhase = moves.1 in
      let step : ExitStep (exit_of p.version) s.size t phase (shared_of s) woken after later = moves.2 in
      let f = exits_follow (place p) (valid p) s.size t w pt phase later (shared_of s) after woken lay shares valid_t
      valid_t (pends_there p w T t pt is of good point) at
      (subst (λ (x : ExitRule). ExitStep x s.size t phase (shared_of s) woken after later) rule_is step) in
      let k = exit_world w t pt f.world is f.does in
      record {
        mid = with_shared s after;
        later = later;
        served = record {
          reply = 0;
          after = f.world;
          serves = serves_exit (release_of p.version) w t pt f.world is f.does;
          told = told_exit p t pt is;
          shares = f.shares;
          keeps = record {
            size = refl;
            most = refl;
            made = refl;
            output = refl;
            thread = refl;
            variables = λ m i there. variable_stays m i there pt phase later woken after is of point at step;
          };
          made = k.made;
          at = k.at;
          result = k.result;
          numbers = λ c. let same = ap (λ (g : Member → ℕ). g c) k.sequence in omega (arith, same);
        };
        same = moves.3;
        phase = λ end. phases_follow (exit_of p.version) (place p) (valid p) s.size t w pt end phase later (shared_of
            s) after woken lay
            shares (next_there p w T t pt is good point lists) (is_short pt phase is at short) at step;
        short = λ end. still_short pt phase later woken after is point at short step end;
      }

-- ---- where an exit begins, by the answer to the request that led to it: the address of the first entry
pub running_chain : (w : World) (T : Table) (t : ℕ) → Good w T → (w.at t).point ≡ Runs
    → Chain w.link (w.head t) (w.at t).list
running_chain w T t good point =
    subst (λ (q : Point). ChainAt w.link (w.head t) q (w.at t).list) point (good.chains.chain t)

pub refused_chain : (w : World) (T : Table) (t child : ℕ) → Good w T → (w.at t).point ≡ MeetsClaimed child
    → Chain w.link (w.head t) (w.at t).list
refused_chain w T t child good point =
    subst (λ (q : Point). ChainAt w.link (w.head t) q (w.at t).list) point (good.chains.chain t)

pub dying_chain : (w : World) (T : Table) (t : ℕ) (cause : Cause) (x : PendingEntry) → Good w T
    → (w.at t).point ≡ Dies cause x → Chain w.link (w.head t) (w.at t).list
dying_chain w T t cause x good point =
    subst (λ (q : Point). ChainAt w.link (w.head t) q (w.at t).list) point (good.chains.chain t)

pub list_short : (p : Program) → WellFormed p → (w : World) (T : Table) (t : ℕ) → Good w T
    → ((m : ℕ) → mem m (w.at t).list ≡ true → m < length p.monitors) → length (w.at t).list ≤ 64
unfolding Knows
list_short p fits w T t good lists =
    let few = short (length p.monitors) (w.at t).list (good.locks.knows t).0 lists in
    let most = fits.monitors in omega (arith, few, most)

pub first_phase : (p : Program) → WellFormed p → (w : World) (t : ℕ) (x : PendingEntry) (end : End)
    → ((m : ℕ) → mem m (w.at t).list ≡ true → m < length p.monitors) → Chain w.link (w.head t) (w.at t).list
    → PhaseIs (place p) (valid p) (Walks (w.head t) x end) (next_entry (entry_address (place p) (w.head t)) 0)
first_phase p fits w t x end lists chain =
    at_entry (place p) (valid p) (memory_size (code_of p)) (w.head t) 0 x end (is_layout p fits)
    (λ k h. monitor_valid p k (lists k (head_listed k h))) (omega arith)
  where
    head_listed : (k : ℕ) → w.head t ≡ suc k → mem k (w.at t).list ≡ true
    head_listed k h =
        let here = chain_some w.link k (w.at t).list
        (subst (λ (a : ℕ). Chain w.link a (w.at t).list) h chain) in
        ap (mem k) here.0 ∙ or_left (k == k) (mem k (tail (w.at t).list)) (eq-eqb k k refl)

pub first_short : (p : Program) → WellFormed p → (w : World) (T : Table) (t e : ℕ) → Good w T
    → ((m : ℕ) → mem m (w.at t).list ≡ true → m < length p.monitors)
    → entries_seen (next_entry e 0) + length (w.at t).list ≤ 64
first_short p fits w T t e good lists =
    let seen = seen_next e 0 in
    let few = list_short p fits w T t good lists in omega (arith, seen, few)
