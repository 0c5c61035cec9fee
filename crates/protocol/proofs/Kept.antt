-- Each move keeps all of it, and the source allows what it carries.
use Rattle.std.proofs.Common.{not, if◌then◌else◌, ◌≡◌, ℕ, ◌<◌, ◌≤◌, true, false, ◌==◌, Option, Some, None, List, []}
use Rattle.std.proofs.Common.{◌∷◌}
use Rattle.std.proofs.Common.{inl, inr, refl, sym, ap, ◌∙◌, subst, arith}
use Rattle.std.proofs.lemmas.Bool.{cases_eq, false≢true, eq-eqb, ne_eqb, or_left, or_right, cond-true}
use Rattle.words.specs.Updates.{put}
use Rattle.words.specs.declared.version.ImageVersion.{ImageVersion}
use Rattle.words.specs.Versions.{most_of}
use Rattle.words.proofs.Versions.{most_few, most_some}
use Rattle.program.specs.declared.kinds.Member.{Member}
use Rattle.meaning.specs.Labels.{Label, Alone, Stores, Waits}
use Rattle.meaning.specs.Table.{Hold, Free, Abandoned, HeldBy, Table, first_table, Allows, IsNotified, IsBroadcast}
use Rattle.meaning.specs.Table.{AreResumed}
use Rattle.protocol.specs.Word.{owner, waiters, owner_died_bit}
use Rattle.protocol.specs.Points.{ToEnter, ToReenter, ToResume, ToExit, ToWait, Owned, Spot, OnSequence, Point}
use Rattle.protocol.specs.Points.{Unmade, Runs, NotifyWakes, BroadcastMarks, BroadcastReads, BroadcastMoves, Thread}
use Rattle.protocol.specs.Points.{thread_at, entry_at}
use Rattle.protocol.specs.World.{World, mem, tail, IsWake, awake_after, requeued_sleep, opening_under, opening_thread}
use Rattle.protocol.specs.Moves.{Move, Own, Raise, CompareSwapGot, FreeGot, SwapWake, SwapAlone, WakeSeq, MoveAll}
use Rattle.protocol.specs.Moves.{EntryAlone, EntryWake, PendAlone, PendWake, ClearId, Kill, StraySeq, Fork, ForkFull}
use Rattle.protocol.specs.Moves.{Claim, ClaimTaken, IdGone}
use Rattle.protocol.specs.Steps.{Can, after}
use Rattle.protocol.specs.Finds.{IsOwn}
use Rattle.protocol.specs.Origins.{from}
use Rattle.protocol.specs.Carries.{IsByHolder, Permits, PermitsMove, event_of, death, table_after, killed_waits}
use Rattle.protocol.specs.Carries.{resumed_by, is_resumed, has_died}
use Rattle.protocol.specs.Runs.{IsOver, HasJoined}
use Rattle.protocol.proofs.Words.{owner-small, died-small}
use Rattle.protocol.proofs.Sleeps.{requeue_less, mem-contains, contains-mem, chosen_sound, chosen_all}
use Rattle.protocol.proofs.Rising.{resumed_rise}
use Rattle.protocol.proofs.Roles.{own, holds, helps, may_sleep, Knows, Tie}
use Rattle.protocol.proofs.Lock.{slept, tie_of_free}
use Rattle.protocol.proofs.Chains.{ChainAt, chain_some}
use Rattle.protocol.proofs.Waits.{HomeAt, FreshAt, marks}
use Rattle.protocol.proofs.Conds.{Between, Notifying, stage, resumed_waits, resumed_or_asleep}
use Rattle.protocol.proofs.Joins.{IdAt, joins, goes}
use Rattle.protocol.proofs.Pend.{PendAt}
use Rattle.protocol.proofs.Processes.{is_made, point_made, EndsAt, RefusedAt}
use Rattle.std.specs.Prelude.{Contains}
use Rattle.std.proofs.lemmas.Bool.{cond_both}
use Rattle.meaning.specs.Table.{enterable}
use Rattle.protocol.specs.Rules.{Rules, AreSafe}
use Rattle.protocol.proofs.Bits.{StyleAt}
use Rattle.protocol.proofs.KeptBits.{kept_rules, kept_styles, kept_bits, kept_plain}
use Rattle.protocol.specs.Moves.{KeepWake, KeepAlone}
use Rattle.protocol.proofs.KeptLocks.{kept_locks}
use Rattle.protocol.proofs.KeptLists.{kept_chains, kept_pends, kept_homes, kept_fresh, kept_marks}
use Rattle.protocol.proofs.KeptConds.{kept_conds, waiter_made, resuming}
use Rattle.protocol.proofs.KeptEnds.{kept_joins, kept_threads, kept_ends, kept_claims, kept_refusals, kept_made}
use Rattle.protocol.proofs.KeptEnds.{kept_most, claim_free, refused_claim, over_at}
use Rattle.protocol.proofs.Good.{Good, known_at, chain_at, mine_at, head_in}

pub kept : (w : World) (T : Table) (t : ℕ) (m : Move) → Good w T → Can w t m → Good (after w t m) (table_after w T t m)
kept w T t m inv can = record {
  locks = kept_locks w T t m inv can;
  chains = kept_chains w T t m inv can;
  pends = kept_pends w T t m inv can;
  homes = kept_homes w T t m inv can;
  fresh = kept_fresh w T t m inv can;
  marked_locks = kept_marks w T t m inv can;
  conds = kept_conds w T t m inv can;
  joiners = kept_joins w T t m inv can;
  threads = kept_threads w T t m inv can;
  ends = kept_ends w T t m inv can;
  claims = kept_claims w T t m inv can;
  refusals = kept_refusals w T t m inv can;
  made = kept_made w T t m inv can;
  most = kept_most w T t m inv can;
  safe_rules = kept_rules w T t m inv can;
  styles = kept_styles w T t m inv can;
  bits = kept_bits w T t m inv can;
  plain = kept_plain w T t m inv can;
}

-- ---- the source allows what a move carries
own_allowed : (w : World) (T : Table) (t : ℕ) (l : Label) → Good w T → Can w t (Own l) → IsOwn (w.at t) l
    → Allows t l T T × IsByHolder t l T
own_allowed w T t (Alone kind) inv can own = (refl, tt)
own_allowed w T t (Stores m) inv can own = (
  refl,
  mine_at w T t (Own (Stores m))
      inv can m (or_left (mem m (w.at t).list) _ own),
)
own_allowed w T t l inv can own = absurd own

-- a thread holds the monitor of its pending entry
holds_pending : (w : World) (T : Table) (t m : ℕ) (move : Move) → Good w T → Can w t move
    → entry_at (from move) ≡ Owned m → T.hold m ≡ HeldBy t
holds_pending w T t m move inv can is = mine_at w T t move
    inv can m (or_right (mem m (w.at t).list) _ (ap (λ y. own y m) is ∙ eq-eqb m m refl))

-- and that of the front of its list
holds_first : (w : World) (T : Table) (t m : ℕ) (move : Move) → Good w T → Can w t move
    → (w.at t).list ≡ m ∷ tail (w.at t).list → T.hold m ≡ HeldBy t
holds_first w T t m move inv can is = mine_at w T t move inv can m (head_in m (w.at t).list _ is)

tie_zero : (h : Hold) (v : ℕ) → Tie h v → v ≡ 0 → h ≡ Free
unfolding Tie
tie_zero Free v h z = refl
tie_zero (HeldBy q) v h z = absurd (omega (arith, h.0, h.1, ap owner z, owner-small 0 (omega arith)))
tie_zero Abandoned v h z = absurd (omega (arith, h.1, ap owner_died_bit z, died-small 0 (omega arith)))

tie_enterable : (h : Hold) (v : ℕ) → Tie h v → owner v ≡ 0 → h ≡ enterable (has_died v)
unfolding Tie
tie_enterable Free v h z = sym (ap (λ b. enterable (not b)) (eq-eqb (owner_died_bit v) 0 h.1))
tie_enterable (HeldBy q) v h z = absurd (omega (arith, h.0, h.1, z))
tie_enterable Abandoned v h z = sym
    (ap (λ b. enterable (not b)) (ne_eqb (owner_died_bit v) 0 (λ d. omega (arith, d, h.1))))

-- a notify resumes somebody, where any waits
some_resumed : (c : Member) (asleep : ℕ → Option Spot) (waits : ℕ → Option Member) (woken : List ℕ) (u : ℕ)
    → IsWake asleep (OnSequence c) 1 woken → ((x : ℕ) → asleep x ≡ Some (OnSequence c) → waits x ≡ Some c)
    → waits u ≡ Some c → (x : ℕ) × (is_resumed c (awake_after asleep woken) waits x ≡ true)
some_resumed c asleep waits [] u wake slept h = elim (resumed_or_asleep c (awake_after asleep []) waits u h)
    [ inl r ↦ (u, r) | inr a ↦ absurd (false≢true (wake.all (omega arith) u a)) ]
some_resumed c asleep waits (x ∷ xs) u wake slept h =
    let here : mem x (x ∷ xs) ≡ true = or_left (x == x) (mem x xs) (eq-eqb x x refl) in
    elim (resumed_or_asleep c (awake_after asleep (x ∷ xs)) waits x (slept x (wake.slept x here))) [
      | inl r ↦ (x, r)
      | inr a ↦ let z : awake_after asleep (x ∷ xs) x ≡ None = cond-true (mem x (x ∷ xs)) None
          (asleep x) here in absurd cc
    ]

resumed_wait : (w : World) (T : Table) (c : Member) (asleep' : ℕ → Option Spot) (q : ℕ)
    → Contains (resumed_by w T c asleep') q → T.waits q ≡ Some c
resumed_wait w T c asleep' q h = resumed_waits c asleep' T.waits q
    (chosen_sound (is_resumed c asleep' T.waits) w.made 1 q (contains-mem (resumed_by w T c asleep') q h))

resumed_member : (w : World) (T : Table) (c : Member) (asleep' : ℕ → Option Spot) (x : ℕ) → Good w T
    → is_resumed c asleep' T.waits x ≡ true → mem x (resumed_by w T c asleep') ≡ true
resumed_member w T c asleep' x inv r =
    let k = waiter_made w T x c inv (resumed_waits c asleep' T.waits x r) in
    chosen_all (is_resumed c asleep' T.waits) w.made 1 x r (omega (arith, k.0)) (omega (arith, k.1))

not_member : (x : ℕ) (us : List ℕ) → mem x us ≡ true → us ≡ [] → ⊥
not_member x [] h e = false≢true h
not_member x (u ∷ us) h e = cc

notified : (w : World) (T : Table) (c : Member) (woken : List ℕ) → Good w T → IsWake w.asleep (OnSequence c) 1 woken
    → IsNotified T c (resumed_by w T c (awake_after w.asleep woken))
notified w T c woken inv wake = record {
  rising = resumed_rise w T c (awake_after w.asleep woken);
  wait = λ q h. resumed_wait w T c (awake_after w.asleep woken) q h;
  some = λ q h none. let r = some_resumed c w.asleep T.waits woken q wake (λ x a. inv.conds.sleeper x c a) h
      in not_member r.0 (resumed_by w T c (awake_after w.asleep woken))
      (resumed_member w T c (awake_after w.asleep woken) r.0 inv r.1) none;
}

broadcast : (w : World) (T : Table) (c : Member) → Good w T
    → IsBroadcast T c (resumed_by w T c (requeued_sleep w.asleep c))
broadcast w T c inv = record {
  rising = resumed_rise w T c (requeued_sleep w.asleep c);
  wait = λ q h. resumed_wait w T c (requeued_sleep w.asleep c) q h;
  all = λ q h. elim (resumed_or_asleep c (requeued_sleep w.asleep c) T.waits q h) [
    | inl r ↦ mem-contains (resumed_by w T c (requeued_sleep w.asleep c)) q
        (resumed_member w T c (requeued_sleep w.asleep c) q inv r)
    | inr a ↦ absurd ((requeue_less w.asleep c q c a).1 refl)
  ];
}

killed_resumes : (w : World) (T : Table) (t : ℕ) (c : Member)
    → AreResumed T (Some c) (resumed_by w T c (put w.asleep t None))
killed_resumes w T t c = (
  resumed_rise w T c (put w.asleep t None),
  λ q h. resumed_wait w T c (put w.asleep t None) q h,
)

kill_permitted : (w : World) (T : Table) (t : ℕ) (p : Point)
    → Permits (death w T t p) T (record T { waits = killed_waits w T t p })
kill_permitted w T t (NotifyWakes c) = (killed_resumes w T t c, refl)
kill_permitted w T t (BroadcastMarks c) = (killed_resumes w T t c, refl)
kill_permitted w T t (BroadcastReads c) = (killed_resumes w T t c, refl)
kill_permitted w T t (BroadcastMoves c s) = (killed_resumes w T t c, refl)
kill_permitted w T t p = (refl, refl)

waits_permitted : (t m : ℕ) (c : Member) (T : Table) → c.monitor ≡ m
    → Allows t (Waits c) T (record T { hold = put T.hold m Free; waits = put T.waits t (Some c) })
waits_permitted t m c T home = ap (λ x. record T { hold = put T.hold x Free; waits = put T.waits t (Some c) })
    (sym home)

pub permitted : (w : World) (T : Table) (t : ℕ) (m : Move) → Good w T → Can w t m
    → PermitsMove (event_of w T t m) T (table_after w T t m)
permitted w T t (Own l) inv can = own_allowed w T t l inv can can.finds
permitted w T t (Raise fault) inv can = (refl, tt)
permitted w T t (CompareSwapGot e) inv can = ((tie_zero (T.hold e) (w.lock e) (inv.locks.tie e) can.finds, refl), tt)
permitted w T t (FreeGot e v ToEnter) inv can =
    let z : owner (w.lock e) ≡ 0 = rw can.finds (known_at w T t (FreeGot e v ToEnter) inv can).1.1 in (
      (
        subst (λ x. T.hold e ≡ enterable (has_died x)) can.finds
            (tie_enterable (T.hold e) (w.lock e) (inv.locks.tie e) z),
        refl,
      ),
      tt,
    )
permitted w T t (FreeGot e v ToReenter) inv can = absurd (known_at w T t (FreeGot e v ToReenter) inv can).1.0
permitted w T t (FreeGot e v (ToResume c)) inv can =
    let z : owner (w.lock e) ≡ 0 = rw can.finds (known_at w T t (FreeGot e v (ToResume c)) inv can).1.1 in (
      (
        resuming w T t e v c inv can,
        subst (λ x. T.hold e ≡ enterable (has_died x)) can.finds
            (tie_enterable (T.hold e) (w.lock e) (inv.locks.tie e) z),
        refl,
      ),
      tt,
    )
permitted w T t (SwapWake e ToExit) inv can = (refl, holds_pending w T t e (SwapWake e ToExit) inv can refl)
permitted w T t (SwapWake e (ToWait c s)) inv can =
    let home : c.monitor ≡ e = subst HomeAt can.stands (inv.homes.home_ok t) in
    (waits_permitted t e c T home, rw home (holds_pending w T t e (SwapWake e (ToWait c s)) inv can refl))
permitted w T t (SwapAlone e ToExit) inv can = (refl, holds_pending w T t e (SwapAlone e ToExit) inv can refl)
permitted w T t (SwapAlone e (ToWait c s)) inv can =
    let home : c.monitor ≡ e = subst HomeAt can.stands (inv.homes.home_ok t) in
    (waits_permitted t e c T home, rw home (holds_pending w T t e (SwapAlone e (ToWait c s)) inv can refl))
permitted w T t (KeepWake e v ToExit) inv can = (refl, holds_pending w T t e (KeepWake e v ToExit) inv can refl)
permitted w T t (KeepWake e v (ToWait c s)) inv can =
    let home : c.monitor ≡ e = subst HomeAt can.stands (inv.homes.home_ok t) in
    (waits_permitted t e c T home, rw home (holds_pending w T t e (KeepWake e v (ToWait c s)) inv can refl))
permitted w T t (KeepAlone e v ToExit) inv can = (refl, holds_pending w T t e (KeepAlone e v ToExit) inv can refl)
permitted w T t (KeepAlone e v (ToWait c s)) inv can =
    let home : c.monitor ≡ e = subst HomeAt can.stands (inv.homes.home_ok t) in
    (waits_permitted t e c T home, rw home (holds_pending w T t e (KeepAlone e v (ToWait c s)) inv can refl))
permitted w T t (WakeSeq c woken) inv can = (
  (notified w T c woken inv can.finds, refl),
  holds_first w T t c.monitor (WakeSeq c woken)
      inv can (known_at w T t (WakeSeq c woken) inv can).1,
)
permitted w T t (MoveAll c s) inv can = (
  (broadcast w T c inv, refl),
  holds_first w T t c.monitor (MoveAll c s)
      inv can (known_at w T t (MoveAll c s) inv can).1,
)
permitted w T t (EntryAlone e x end) inv can = (
  refl,
  holds_first w T t e (EntryAlone e x end)
      inv can (chain_some w.link e _ (chain_at w T t (EntryAlone e x end) inv can)).0,
)
permitted w T t (EntryWake e x end woken) inv can = (
  refl,
  holds_first w T t e (EntryWake e x end woken)
      inv can (chain_some w.link e _ (chain_at w T t (EntryWake e x end woken) inv can)).0,
)
permitted w T t (PendAlone e end) inv can = (refl, holds_pending w T t e (PendAlone e end) inv can refl)
permitted w T t (PendWake e end woken) inv can = (refl, holds_pending w T t e (PendWake e end woken) inv can refl)
permitted w T t (ClearId end) inv can = (refl, tt)
permitted w T t (Fork parent) inv can =
    ((rw inv.made (rw inv.most can.finds.1), omega (arith, can.finds.0, inv.made), refl), tt)
permitted w T t ForkFull inv can = ((rw inv.made (rw inv.most can.finds), refl), tt)
permitted w T t (Claim q) inv can = ((claim_free w T q inv can.finds.2, refl), tt)
permitted w T t (ClaimTaken q) inv can = ((refused_claim w T t q inv can.stands, refl), tt)
permitted w T t (IdGone q end) inv can = ((over_at w T q end inv can.finds.1, refl), tt)
permitted w T t (StraySeq c p) inv can = (inv.conds.sleeper t c can.awake, refl)
permitted w T t (Kill p) inv can = kill_permitted w T t p
permitted w T t m inv can = refl

-- ---- the opening
opening_case : (P : Thread → Type 0) → P (thread_at Runs []) → P (thread_at Unmade []) → (t : ℕ) → P (opening_thread t)
opening_case P a b t = cond_both (t == 1) (thread_at Runs []) (thread_at Unmade []) P (λ h. a) (λ h. b)

opening_id : (q : ℕ) → IdAt (opening_thread q).point q (if q == 1 then 1 else 0)
opening_id q = elim (cases_eq q 1) [
  | inl e ↦ subst (λ y. IdAt (opening_thread y).point y (if y == 1 then 1 else 0)) (sym e) refl
  | inr n ↦ subst (λ b. IdAt (if b then thread_at Runs [] else thread_at Unmade []).point q (if b then 1 else 0))
      (sym (ne_eqb q 1 n)) refl
]

opening_number : (t : ℕ) → is_made (opening_thread t) ≡ true → (0 < t) × (t ≤ 1)
unfolding is_made
opening_number t = elim (cases_eq t 1) [
  | inl e ↦ λ h. (omega (arith, e), omega (arith, e))
  | inr n ↦ λ h. absurd (false≢true (subst (λ b. point_made (if b then thread_at Runs [] else thread_at Unmade
      []).point ≡ true) (ne_eqb t 1 n) h))
]

pub good_start : (version : ImageVersion) (rules : Rules) → AreSafe rules
    → Good (opening_under version rules) (first_table (most_of version))
unfolding holds helps may_sleep Knows stage joins goes is_made
good_start version rules safe = record {
  locks = record {
    tie = λ e. tie_of_free 0 (owner-small 0 (omega arith)) (died-small 0 (omega arith));
    owned = λ e t h. absurd cc;
    held = λ e t. opening_case
        (λ y. holds y e ≡ true → Free ≡ HeldBy t) (λ h. absurd (false≢true h)) (λ h. absurd (false≢true h)) t;
    knows = λ t. opening_case Knows (tt, tt) (tt, refl) t;
    sleeps = λ e t h. absurd cc;
    safe = λ e t h. absurd cc;
    stuck = λ e t h k. absurd cc;
  };
  chains = record { chain = λ t. opening_case (λ y. ChainAt (λ m. 0) 0 y.point y.list) refl refl t };
  pends = record { pend = λ t. opening_case (λ y. PendAt y.point 0) refl refl t };
  homes = record { home_ok = λ t. opening_case (λ y. HomeAt y.point) tt tt t };
  fresh = record { fresh = λ t. opening_case (λ y. FreshAt (λ c. 0) y.point) tt tt t };
  marked_locks = record {
    mark = λ t e. opening_case (λ y. marks y.point e ≡ true → waiters 0 ≡ 2147483648)
        (λ h. absurd (false≢true h)) (λ h. absurd (false≢true h)) t;
  };
  conds = record {
    going = λ u h. refl;
    ringing = λ u c h. refl;
    low = λ u c s. opening_case (λ y. stage y ≡ Between c s → s ≤ 0) (λ h. absurd cc) (λ h. absurd cc) u;
    between = λ u c s h. inr refl;
    current = λ u c s. opening_case (λ y. stage y ≡ Between c s → s ≡ 0 → None ≡ Some c)
        (λ h e. absurd cc) (λ h e. absurd cc) u;
    past = λ u c h. inr refl;
    sleeping = λ u c h. absurd cc;
    sleeper = λ u c h. absurd cc;
    waits = λ u c h. absurd cc;
    rings = λ n u c s. opening_case (λ y. stage y ≡ Notifying c → stage (opening_thread u) ≡ Between c s → s < 0)
        (λ h k. absurd cc) (λ h k. absurd cc) n;
  };
  joiners = record {
    claimed = λ u q. opening_case (λ y. joins y q ≡ true → ((opening_under version rules).claim q ≡ 1) × (0 < q))
        (λ h. absurd (false≢true h)) (λ h. absurd (false≢true h)) u;
    one = λ u v q. opening_case
        (λ y. joins y q ≡ true → joins (opening_thread v) q ≡ true → u ≡ v) (λ h k. absurd (false≢true h))
        (λ h k. absurd (false≢true h)) u;
    ids = λ q. opening_id q;
    sleeps = λ u q h. absurd cc;
    unended = λ u q h. absurd cc;
  };
  threads = record {
    few = omega (arith, most_some version);
    bound = most_few version;
    exist = λ t a b. let e : t ≡ 1 = omega (arith, a, b)
        in subst (λ y. is_made (opening_thread y) ≡ true) (sym e) refl;
    number = λ t. opening_number t;
    joined = λ u q.
        opening_case (λ y. joins y q ≡ true → q ≤ 1) (λ h. absurd (false≢true h)) (λ h. absurd (false≢true h)) u;
  };
  ends = record {
    tells = λ t. opening_case (λ y. EndsAt y.point 0 0) tt tt t;
    past = λ q e h. absurd cc;
    ended = λ q e. opening_case (λ y. IsOver y.point e → None ≡ Some e) (λ h. absurd h) (λ h. absurd h) q;
    learned = λ t q e. opening_case (λ y. HasJoined y.point q e → None ≡ Some e) (λ h. absurd h) (λ h. absurd h) t;
  };
  claims = λ q. refl;
  refusals = record { refused = λ t. opening_case (λ y. RefusedAt (λ q. false) y.point) tt tt t };
  made = refl;
  most = refl;
  safe_rules = safe;
  styles = record { style = λ t. opening_case (λ y. StyleAt rules.release y.point) tt tt t };
  bits = record { bit = λ k e u h. absurd cc };
  plain = record { word = λ k e h. refl };
}
