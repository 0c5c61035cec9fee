-- A stray wake-up: a sleeper wakes though nobody woke it. Who slept on a condition's word waits no longer.
use Rattle.std.proofs.Common.{◌≡◌, ◌≢◌, ℕ, zero, suc, ◌<◌, ◌≤◌, ◌==◌, ◌&&◌, ◌||◌, Bool, true, false, List, []}
use Rattle.std.proofs.Common.{◌∷◌, length, Option, Some, None, slice_get, refl, ap, sym, ◌∙◌, subst, arith, inl, inr}
use Rattle.std.proofs.lemmas.Bool.{or_left, or_right, cases_eq, eq-eqb, ne_eqb, false≢true}
use Rattle.std.specs.Prelude.{map, if◌then◌else◌, is_some}
use Rattle.words.specs.Updates.{put}
use Rattle.machine.specs.States.{State, with_sleepers}
use Rattle.machine.specs.AbstractServing.{shared_of}
use Rattle.program.specs.declared.kinds.Member.{Member}
use Rattle.program.specs.Scope.{member_type}
use Rattle.proof_thread.specs.Variables.{is_condition}
use Rattle.program.specs.Trees.{Monitor, Program}
use Rattle.program.specs.WellFormed.{WellFormed}
use Rattle.lowering.specs.Layout.{member_address}
use Rattle.meaning.specs.Table.{Table}
use Rattle.meaning.specs.Runs.{Leads}
use Rattle.meaning.specs.States.{SourceState}
use Rattle.protocol.specs.Points.{Spot, OnLock, OnSequence, OnId, Point, TakeReads, JoinReads, JoinSleeps}
use Rattle.protocol.specs.Points.{Thread as Place, thread_at}
use Rattle.protocol.specs.World.{World}
use Rattle.protocol.specs.Moves.{Move, Stray, StraySeq, StrayId}
use Rattle.protocol.specs.Steps.{Can, after}
use Rattle.protocol.specs.Carries.{table_after}
use Rattle.protocol.specs.Cells.{LockOf, IdOf, SequenceOf, cell_of}
use Rattle.protocol.specs.Exits.{Shares, sleep_address}
use Rattle.protocol.proofs.Good.{Good}
use Rattle.protocol.proofs.Roles.{may_sleep, point_sleeps}
use Rattle.protocol.proofs.Joins.{joins, point_joins}
use Rattle.protocol.proofs.Processes.{is_made, point_made}
use Rattle.words.proofs.Updates.{at_put, put_same, put_other}
use Rattle.proof_templates.specs.Layout.{place, valid}
use Rattle.proof_templates.proofs.Layouts.{apart, condition_there}
use Rattle.program.specs.declared.kinds.MemberType.TheVariants.{Condition}
use Rattle.refinement.specs.Outside.{any_below, member_count, is_word_of, is_condition_word}
use Rattle.proof_simulation.specs.Corresponding.{Corresponds, Reached}
use Rattle.proof_simulation.specs.Ordering.{act}
use Rattle.proof_simulation.specs.Deferred.{stage_of, stages, raised_at, Works}
use Rattle.proof_simulation.specs.Strays.{stray_condition, stray_kinds, after_stray}
use Rattle.proof_simulation.proofs.Local.{put_again}
use Rattle.proof_simulation.proofs.Worlds.{reached_on, reached_good, agrees_at}

-- where a thread stands that sleeps: it takes a lock, or joins
pub data AtSleep : Point → Type 0 where
  on_lock : (m : ℕ) (k : _) → AtSleep (TakeReads m k)
  on_join : (q : ℕ) → AtSleep (JoinReads q)
  on_sleep : (q : ℕ) → AtSleep (JoinSleeps q)

by_lock : (pt : Point) (x : ℕ) → point_sleeps pt x ≡ true → AtSleep pt
by_lock (TakeReads m k) x h = on_lock m k
by_lock pt x h = absurd (false≢true h)

by_join : (pt : Point) (x : ℕ) → point_joins pt x ≡ true → AtSleep pt
by_join (JoinReads q) x h = on_join q
by_join (JoinSleeps q) x h = on_sleep q
by_join pt x h = absurd (false≢true h)

pub at_sleep : (w : World) (T : Table) (t : ℕ) (x : Spot) → Good w T → w.asleep t ≡ Some x
    → AtSleep (w.at t).point
unfolding may_sleep joins
at_sleep w T t (OnLock m) good e = by_lock (w.at t).point m (good.locks.sleeps m t e)
at_sleep w T t (OnSequence c) good e =
    let b = good.conds.sleeping t c e in subst AtSleep (sym b.stands) (on_lock b.monitor _)
at_sleep w T t (OnId q) good e = by_join (w.at t).point q (good.joiners.sleeps t q e)

made_asleep : (pt : Point) → AtSleep pt → point_made pt ≡ true
made_asleep pt (on_lock m k) = refl
made_asleep pt (on_join q) = refl
made_asleep pt (on_sleep q) = refl

works_asleep : (pt : Point) → AtSleep pt → stage_of pt ≡ Works
works_asleep pt (on_lock m k) = refl
works_asleep pt (on_join q) = refl
works_asleep pt (on_sleep q) = refl

-- the move of a sleeper that wakes by itself
abbrev pub stray_move : Spot → Point → Move
stray_move (OnLock m) pt = Stray m pt
stray_move (OnSequence c) pt = StraySeq c pt
stray_move (OnId q) pt = StrayId q pt

-- and the condition that it waits on no longer
abbrev pub condition_of : Spot → Option Member
condition_of (OnLock m) = None
condition_of (OnSequence c) = Some c
condition_of (OnId q) = None

abbrev pub woken_world : World → ℕ → World
woken_world w t = record w { asleep = put w.asleep t None }

stray_can : (w : World) (t : ℕ) (x : Spot) → (0 < t) × (t ≤ w.made) → w.asleep t ≡ Some x
    → Can w t (stray_move x (w.at t).point)
stray_can w t (OnLock m) number e = record { number = number; awake = e; stands = refl; finds = tt }
stray_can w t (OnSequence c) number e = record { number = number; awake = e; stands = refl; finds = tt }
stray_can w t (OnId q) number e = record { number = number; awake = e; stands = refl; finds = tt }

-- the thread stays where it stands
stray_after : (w : World) (t : ℕ) (x : Spot) → after w t (stray_move x (w.at t).point) ≡ woken_world w t
stray_after w t x = by_spot x
  where
    still : w.at ≡ put w.at t (thread_at (w.at t).point (w.at t).list)
    still = put_again w.at t (thread_at (w.at t).point (w.at t).list) refl

    here : record w { asleep = put w.asleep t None; at = put w.at t (thread_at (w.at t).point (w.at t).list) }
        ≡ woken_world w t
    here = ap (λ (f : ℕ → Place). record w { asleep = put w.asleep t None; at = f }) (sym still)

    by_spot : (x : Spot) → after w t (stray_move x (w.at t).point) ≡ woken_world w t
    by_spot (OnLock m) = here
    by_spot (OnSequence c) = here
    by_spot (OnId q) = here

stray_table : (w : World) (t : ℕ) (x : Spot) (c : SourceState)
    → table_after w c.table t (stray_move x (w.at t).point) ≡ (after_stray t (condition_of x) c).table
stray_table w t (OnLock m) c = refl
stray_table w t (OnSequence d) c = refl
stray_table w t (OnId q) c = refl

-- the condition is told by the address of the word
and_second : (a b : Bool) → b ≡ false → (a && b) ≡ false
and_second true b h = h
and_second false b h = refl

module _ (p : Program) where
  told_none : (d : Member) (a : ℕ) → (valid p (SequenceOf d) ≡ true → a ≢ place p (SequenceOf d))
      → stray_condition p a (Some d) ≡ None
  told_none d a other = by_valid (valid p (SequenceOf d)) refl
    where
      by_valid : (b : Bool) → valid p (SequenceOf d) ≡ b → stray_condition p a (Some d) ≡ None
      by_valid true e = ap (λ b. if valid p (SequenceOf d) && b then Some d else None)
          (ne_eqb (member_address p d) a (λ i. other e (sym i)))
          ∙ ap (λ b. if b then Some d else None) (and_second (valid p (SequenceOf d)) false refl)
      by_valid false e = ap (λ b. if b && (member_address p d == a) then Some d else None) e

  told_some : (d : Member) (a : ℕ) → valid p (SequenceOf d) ≡ true → a ≡ place p (SequenceOf d)
      → stray_condition p a (Some d) ≡ Some d
  told_some d a ok is = ap (λ b. if b && (member_address p d == a) then Some d else None) ok
      ∙ ap (λ b. if b then Some d else None) (eq-eqb (member_address p d) a (sym is))

  told : (x : Spot) (a : ℕ) (waits : Option Member) → valid p (cell_of x) ≡ true → a ≡ place p (cell_of x)
      → ((c : Member) → x ≡ OnSequence c → waits ≡ Some c) → stray_condition p a waits ≡ condition_of x
  told (OnLock m) a None ok is waits = refl
  told (OnLock m) a (Some d) ok is waits =
      told_none d a (λ there e. other (apart p (LockOf m) (SequenceOf d) ok there (sym is ∙ e)))
    where
      other : LockOf m ≡ SequenceOf d → ⊥
      other h = cc
  told (OnId q) a None ok is waits = refl
  told (OnId q) a (Some d) ok is waits =
      told_none d a (λ there e. other (apart p (IdOf q) (SequenceOf d) ok there (sym is ∙ e)))
    where
      other : IdOf q ≡ SequenceOf d → ⊥
      other h = cc
  told (OnSequence c) a o ok is waits =
      ap (stray_condition p a) (waits c refl) ∙ told_some c a ok is

spot_of : (p : Program) (a : Option ℕ) (o : Option Spot) (x : ℕ) → a ≡ sleep_address (place p) o → a ≡ Some x
    → (y : Spot) × (o ≡ Some y) × (x ≡ place p (cell_of y))
spot_of p a None x e h = absurd (cc (e, h))
spot_of p a (Some y) x e h = (y, refl, cc)

-- a test below a number
found_below : (k : ℕ) (test : ℕ → Bool) (n : ℕ) → n < k → test n ≡ true → any_below k test ≡ true
found_below zero test n l h = absurd (omega (arith, l))
found_below (suc k) test n l h = elim (cases_eq n k) [
  | inl e ↦ or_left (test k) (any_below k test) (subst (λ i. test i ≡ true) e h)
  | inr o ↦ or_right (test k) (any_below k test) (found_below k test n (omega (arith, l, o)) h)
]

none_below : (k : ℕ) (test : ℕ → Bool) → ((n : ℕ) → test n ≡ false) → any_below k test ≡ false
none_below zero test h = refl
none_below (suc k) test h = ap (λ b. b || any_below k test) (h k) ∙ none_below k test h

pub index_below : {A : Type 0} (xs : List A) (n : ℕ) (x : A) → slice_get xs n ≡ Some x → n < length xs
index_below [] n x h = absurd cc
index_below (y ∷ xs) zero x h = omega arith
index_below (y ∷ xs) (suc n) x h = let less = index_below xs n x h in omega (arith, less)

module _ (p : Program) (a : ℕ) where
  word_of_none : ((d : Member) → valid p (SequenceOf d) ≡ true → a ≢ place p (SequenceOf d))
      → is_condition_word p a ≡ false
  word_of_none other = none_below (length p.monitors) _ (λ m. none_below (member_count (slice_get p.monitors m)) _ (λ n.
      each (record { monitor = m; number = n })))
    where
      each : (d : Member) → is_word_of p a d ≡ false
      each d = by_valid (is_condition (member_type p d)) refl
        where
          by_valid : (b : Bool) → is_condition (member_type p d) ≡ b → is_word_of p a d ≡ false
          by_valid true e = ap (λ b. is_condition (member_type p d) && b)
              (ne_eqb (member_address p d) a (λ i. other d e (sym i)))
              ∙ and_second (is_condition (member_type p d)) false refl
          by_valid false e = ap (λ b. b && (member_address p d == a)) e

  word_of_some : (d : Member) → valid p (SequenceOf d) ≡ true → a ≡ place p (SequenceOf d)
      → is_condition_word p a ≡ true
  word_of_some d ok is =
      let x = condition_there (slice_get p.monitors d.monitor) d.number ok in
      found_below (length p.monitors) _ d.monitor (index_below p.monitors d.monitor x.0 x.1)
      (found_below (member_count (slice_get p.monitors d.monitor)) _ d.number
      (subst (λ (o : Option Monitor). d.number < member_count o) (sym x.1)
      (index_below x.0.members d.number Condition x.2))
      (ap (λ b. b && (member_address p d == a)) ok
      ∙ eq-eqb (member_address p d) a (sym is)))

  word_told : (x : Spot) → valid p (cell_of x) ≡ true → a ≡ place p (cell_of x)
      → is_condition_word p a ≡ is_some (condition_of x)
  word_told (OnLock m) ok is = word_of_none (λ d there e. other d (apart p (LockOf m) (SequenceOf d) ok there
      (sym is ∙ e)))
    where
      other : (d : Member) → LockOf m ≡ SequenceOf d → ⊥
      other d h = cc
  word_told (OnId q) ok is = word_of_none (λ d there e. other d (apart p (IdOf q) (SequenceOf d) ok there (sym is ∙ e)))
    where
      other : (d : Member) → IdOf q ≡ SequenceOf d → ⊥
      other d h = cc
  word_told (OnSequence c) ok is = word_of_some c ok is

-- the action of a stray
stray_leads : (p : Program) (t : ℕ) (c : SourceState) (o : Option Member) → ((d : Member) → o ≡ Some d
    → c.table.waits t ≡ Some d) → Leads p c (map (act t) (stray_kinds o)) (after_stray t o c)
stray_leads p t c None waits = refl
stray_leads p t c (Some d) waits = (
  after_stray t (Some d) c,
  inr (inl (d, refl, record { allows = (waits d refl, refl); variables = refl; printed = refl; processes = refl })),
  refl,
)

module _ (p : Program) (w : WellFormed p) where
  -- what belongs to the state behind a stray wake-up of thread t, which slept at this address
  pub record Strayed (steps : ℕ) (s : State) (c : SourceState) (k : Corresponds p w steps s c) (t a : ℕ) : Type 0 where
    -- it has an action just where the address is that of a condition's word
    pub word : is_condition_word p a ≡ is_some (stray_condition p a (c.table.waits t))
    pub ties : Corresponds p w (suc steps) (with_sleepers s (put s.asleep t None))
        (after_stray t (stray_condition p a (c.table.waits t)) c)
    pub waits : (d : Member) → stray_condition p a (c.table.waits t) ≡ Some d → c.table.waits t ≡ Some d
    pub staged : (u : ℕ) → stages ties.world u ≡ stages k.world u
    pub raised : (u : ℕ) → raised_at ties.world u ≡ raised_at k.world u
    pub works : stages k.world t ≡ Works
    pub leads : Leads p c (map (act t) (stray_kinds (stray_condition p a (c.table.waits t))))
        (after_stray t (stray_condition p a (c.table.waits t)) c)

  pub strayed : (steps : ℕ) (s : State) (c : SourceState) (k : Corresponds p w steps s c) (t a : ℕ)
      → s.asleep t ≡ Some a → Strayed steps s c k t a
  unfolding is_made
  strayed steps s c k t a sleeps = record {
    word = word_told p a x ok found.2 ∙ sym (ap (λ (i : Option Member). is_some i) so);
    ties = (tied o reached).0;
    waits = waits_so;
    staged = (tied o reached).1;
    raised = (tied o reached).2;
    works = works_asleep (k.world.at t).point (at_sleep k.world c.table t x good there);
    leads = stray_leads p t c o waits_so;
  }
    where
      good : Good k.world c.table
      good = reached_good p.version k.world c.table k.reached

      found : (y : Spot) × (k.world.asleep t ≡ Some y) × (a ≡ place p (cell_of y))
      found = spot_of p (s.asleep t) (k.world.asleep t) a (k.shares.sleeps t) sleeps

      x : Spot
      x = found.0

      there : k.world.asleep t ≡ Some x
      there = found.1

      ok : valid p (cell_of x) ≡ true
      ok = k.shares.spots t x there

      o : Option Member
      o = stray_condition p a (c.table.waits t)

      so : o ≡ condition_of x
      so = told p x a (c.table.waits t) ok found.2
          (λ d e. good.conds.sleeper t d (there ∙ ap (λ (y : Spot). Some y) e))

      waits_so : (d : Member) → o ≡ Some d → c.table.waits t ≡ Some d
      waits_so d e = good.conds.sleeper t d (there ∙ ap (λ (y : Spot). Some y) (by_spot x (sym so ∙ e)))
        where
          by_spot : (y : Spot) → condition_of y ≡ Some d → y ≡ OnSequence d
          by_spot (OnLock m) h = absurd cc
          by_spot (OnSequence c) h = cc
          by_spot (OnId q) h = absurd cc

      number : (0 < t) × (t ≤ k.world.made)
      number = good.threads.number t (made_asleep (k.world.at t).point (at_sleep k.world c.table t x good there))

      reached : Reached p.version (woken_world k.world t) (after_stray t o c).table
      reached =
          subst (λ (i : Option Member). Reached p.version (woken_world k.world t) (after_stray t i c).table) (sym so)
          (subst (λ (T : Table). Reached p.version (woken_world k.world t) T) (stray_table k.world t x c)
          (subst (λ (v : World). Reached p.version v (table_after k.world c.table t (stray_move x (k.world.at t).point)))
          (stray_after k.world t x)
          (reached_on p.version k.world c.table t (stray_move x (k.world.at t).point) k.reached
          (stray_can k.world t x number there))))

      shares : Shares (place p) (valid p) (shared_of (with_sleepers s (put s.asleep t None))) (woken_world k.world t)
      shares = record {
        words = agrees_at (place p) (valid p) s.word k.world k.world.at k.world.made (put k.world.asleep t None)
            k.shares.words;
        sleeps = λ u. at_put k.world.asleep t None u (λ (i : Option Spot). put s.asleep t None u ≡ sleep_address
            (place p) i)
            (λ e. ap (put s.asleep t None) e ∙ put_same s.asleep t None)
            (λ n. put_other s.asleep t None u n ∙ k.shares.sleeps u);
        spots = λ u y. at_put k.world.asleep t None u (λ (i : Option Spot). i ≡ Some y → valid p (cell_of y) ≡ true)
            (λ e h. absurd cc) (λ n h. k.shares.spots u y h);
      }

      Tied : Option Member → Type 0
      Tied i = (x : Corresponds p w (suc steps) (with_sleepers s (put s.asleep t None)) (after_stray t i c))
          × ((u : ℕ) → stages x.world u ≡ stages k.world u) × ((u : ℕ) → raised_at x.world u ≡ raised_at k.world u)

      tied : (i : Option Member) → Reached p.version (woken_world k.world t) (after_stray t i c).table → Tied i
      tied None r = (
        record {
          world = woken_world k.world t;
          reached = r;
          shares = shares;
          size = k.size;
          most = k.most;
          made = k.made;
          output = k.output;
          variables = k.variables;
          fit = k.fit;
          threads = k.threads;
          lists = k.lists;
          words = k.words;
          blank = k.blank;
          numbers = λ d. let few = k.numbers d in omega (arith, few);
        },
        λ u. refl,
        λ u. refl,
      )
      tied (Some i) r = (
        record {
          world = woken_world k.world t;
          reached = r;
          shares = shares;
          size = k.size;
          most = k.most;
          made = k.made;
          output = k.output;
          variables = k.variables;
          fit = k.fit;
          threads = k.threads;
          lists = k.lists;
          words = k.words;
          blank = k.blank;
          numbers = λ d. let few = k.numbers d in omega (arith, few);
        },
        λ u. refl,
        λ u. refl,
      )
