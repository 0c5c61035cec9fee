-- From each state a run of the threads' own steps leads to where no thread is within a call; and so whoever sleeps is woken.
use Rattle.std.proofs.Common.{◌≡◌, ◌≢◌, ◌<◌, ◌≤◌, ◌∙◌, ◌+◌, ◌++◌, ◌%◌, ◌⊎◌, ℕ, zero, suc, Bool, true, List, [], ◌∷◌}
use Rattle.std.proofs.Common.{Option, Some, None, Contains, inl, inr, refl, sym, ap, arith, subst}
use Rattle.std.proofs.lemmas.Bool.{cases_eq}
use Rattle.std.proofs.lemmas.Option.{same_Some}
use Rattle.words.specs.Updates.{put}
use Rattle.words.proofs.Updates.{put_other, put_same}
use Rattle.isa.specs.Programs.{Program}
use Rattle.buckets.specs.Places.{names}
use Rattle.futexcalls.specs.declared.pieces.FutexCall.{FutexCall}
use Rattle.futexcalls.specs.declared.pieces.FutexCall.TheVariants.{Wait, Wake, Requeue}
use Rattle.futexcalls.specs.declared.pieces.FutexPhase.{FutexPhase}
use Rattle.futexcalls.specs.declared.pieces.FutexPhase.TheVariants.{First, Second, Compare, Act}
use Rattle.futexcalls.specs.Pieces.{after_lock, greater, held_at, lesser, takes_at, IsPhase, LiesIn}
use Rattle.robustexit.specs.ExitRules.{exit_of}
use Rattle.locals.specs.Looks.{Asks, look}
use Rattle.machine.specs.States.{State}
use Rattle.machine.specs.Runs.{Step}
use Rattle.machine.specs.PieceStates.{PieceState, IsHeldRight, IsWithin, opening_pieces, request_of}
use Rattle.machine.specs.PieceSteps.{BlocksAt, CanTakePiece, IsLock, PieceRun}
use Rattle.proof_pieces.proofs.Calls.{called_is}
use Rattle.proof_pieces.proofs.Rests.{holders_go_on, sleeps_so}
use Rattle.proof_image_search.specs.Searching.{AreFrom, AreNamed, IsCompleteBy, IsNamed, Kept, May, kills_by, kills_in}
use Rattle.proof_image_search.proofs.Further.{further}
use Rattle.proof_image_search.proofs.Closing.{Reached, reaches}
use Rattle.proof_image_liveness.specs.Sleeping.{AreOwn, AreWakened, IsFew, IsWoken}
use Rattle.proof_image_liveness.proofs.Calling.{Past, acts_on, past_of, requeues, waits}
use Rattle.proof_image_liveness.proofs.Going.{IsOutside, OwnRun, goes_both, no_run, taken, then_run, whole_base}
use Rattle.proof_image_liveness.proofs.Waking.{wakes}

-- how many of the threads up to a number are within a call
abbrev inside : FutexPhase → ℕ
inside First = 0
inside Second = 1
inside Compare = 1
inside Act = 1

abbrev all_inside : (ℕ → FutexPhase) → ℕ → ℕ
all_inside f zero = inside (f zero)
all_inside f (suc k) = inside (f (suc k)) + all_inside f k

same_inside : (f g : ℕ → FutexPhase) (t k : ℕ) → k < t → ((v : ℕ) → v ≢ t → g v ≡ f v) → all_inside g k ≡ all_inside f k
same_inside f g t zero less same = ap inside (same zero (omega (arith, less)))
same_inside f g t (suc k) less same =
    ap (λ x. inside x + all_inside g k) (same (suc k) (omega (arith, less)))
    ∙ ap (λ n. inside (f (suc k)) + n) (same_inside f g t k (omega (arith, less)) same)

some_inside : (x : FutexPhase) → x ≢ First → inside x ≡ 1
some_inside First ne = absurd (ne refl)
some_inside Second ne = refl
some_inside Compare ne = refl
some_inside Act ne = refl

fewer_inside : (f g : ℕ → FutexPhase) (t k : ℕ) → t ≤ k → f t ≢ First → g t ≡ First → ((v : ℕ) → v ≢ t → g v ≡ f v)
    → all_inside f k ≡ suc (all_inside g k)
fewer_inside f g t zero low was is same =
    let e : t ≡ zero = omega (arith, low) in
    some_inside (f zero) (λ first. was (ap f e ∙ first)) ∙ sym (ap (λ x. suc (inside x)) (ap g (sym e) ∙ is))
fewer_inside f g t (suc k) low was is same = elim (cases_eq t (suc k)) [
  | inl e ↦
      let one : inside (f (suc k)) ≡ 1 = some_inside (f (suc k)) (λ first. was (ap f e ∙ first)) in
      let none : inside (g (suc k)) ≡ 0 = ap inside (ap g (sym e) ∙ is) in
      let rest : all_inside g k ≡ all_inside f k = same_inside f g t k (omega (arith, e)) same in
      omega (arith, one, none, rest)
  | inr ne ↦
      let one : inside (g (suc k)) ≡ inside (f (suc k)) = ap inside (same (suc k) (λ e. ne (sym e))) in
      let rest : all_inside f k ≡ suc (all_inside g k) = fewer_inside f g t k (omega (arith, low, ne)) was is same in
      omega (arith, one, rest)
]

-- a call past First holds a bucket
holds_some : (n : ℕ) (ph : FutexPhase) (call : FutexCall) → IsPhase n ph call
    → (b : ℕ) × (names (held_at n ph (Some call)) b ≡ true)
holds_some n Second (Requeue x y wakes moves expected) there = (lesser (x.0 % n) (y.0 % n), grind arith)
holds_some n Compare (Requeue x y wakes moves expected) there = (lesser (x.0 % n) (y.0 % n), grind arith)
holds_some n Act (Requeue x y wakes moves expected) there = (lesser (x.0 % n) (y.0 % n), grind arith)
holds_some n Compare (Wait a expected) there = (a.0 % n, grind arith)
holds_some n Act (Wait a expected) there = (a.0 % n, grind arith)
holds_some n Act (Wake a wakes) there = (a.0 % n, grind arith)
holds_some n Compare (Wake a wakes) there = absurd there
holds_some n Second (Wait a expected) there = absurd there
holds_some n Second (Wake a wakes) there = absurd there
holds_some n First call there = absurd there

module _ (p : Program) (s : PieceState) (right : IsHeldRight p s) where
  within_up : (k : ℕ) → ((v : ℕ) → v ≤ k → s.phase v ≡ First) ⊎ ((u : ℕ) × IsWithin p s u)
  within_up zero = elim (right.apart zero) [
    | inl first ↦ inl (λ v low. let e : v ≡ zero = omega (arith, low) in ap s.phase e ∙ first)
    | inr w ↦ inr (zero, w)
  ]
  within_up (suc k) = elim (right.apart (suc k)) [
    | inr w ↦ inr (suc k, w)
    | inl first ↦ elim (within_up k) [
      | inr w ↦ inr w
      | inl below ↦ inl (λ v low. elim (cases_eq v (suc k)) [
        | inl e ↦ ap s.phase e ∙ first
        | inr ne ↦ below v (omega (arith, low, ne))
      ])
    ]
  ]

  -- no thread is within a call, or one is
  outside_or : IsOutside s ⊎ ((u : ℕ) × IsWithin p s u)
  outside_or = elim (within_up s.base.made) [
    | inr w ↦ inr w
    | inl below ↦ inl (λ v. elim (right.apart v) [
      | inl first ↦ first
      | inr w ↦ let less : v < s.base.made + 1 = right.few v w.thread w.stands in below v (omega (arith, less))
    ])
  ]

  not_first : (u : ℕ) → IsWithin p s u → s.phase u ≢ First
  not_first u w first = subst (λ f. IsPhase s.buckets f w.call) first w.there

  -- some thread within a call isn't held up
  some_goes_on : (u : ℕ) → IsWithin p s u → (t : ℕ) × IsWithin p s t × CanTakePiece p s t
  some_goes_on u w =
      let r = holds_some s.buckets (s.phase u) w.call w.there in
      holders_go_on p s r.0 u right (right.all r.0 u
      (ap (λ o. names (held_at s.buckets (s.phase u) o) r.0)
      (called_is p u w.thread w.call w.go (s.base.thread u) w.stands w.asks) ∙ r.1))

  -- it takes its call to the end
  module _ (t : ℕ) (w : IsWithin p s t)
      (free : BlocksAt (exit_of p.version) s t (Asks (request_of w.call) w.go) → ⊥) (few : IsFew s.base) where
    to_end : (f : FutexPhase) (call : FutexCall) → s.phase t ≡ f → w.call ≡ call → IsPhase s.buckets f call → Past p t s
    to_end First call at is there = absurd there
    to_end Act call at is there = acts_on p t w.thread s right w.stands w.awake w.call w.go w.asks at few
    to_end Compare (Wait a expected) at is there = past_of p t w.thread s (waits p t w.thread s right w.stands w.awake a.0
        expected w.go (w.asks ∙ ap (λ (c : FutexCall). Asks (request_of c) w.go) is)
        (subst (LiesIn s.base.size) is w.lies) at)
    to_end Compare (Wake a n) at is there = absurd there
    to_end Compare (Requeue a b n m expected) at is there =
        let lies : LiesIn s.base.size (Requeue a b n m expected) = subst (LiesIn s.base.size) is w.lies in
        past_of p t w.thread s (requeues p t w.thread s right w.stands w.awake a.0 b.0 n m expected w.go
        (w.asks ∙ ap (λ (c : FutexCall). Asks (request_of c) w.go) is) lies.0 lies.1 few at)
    to_end Second (Wait a expected) at is there = absurd there
    to_end Second (Wake a n) at is there = absurd there
    to_end Second (Requeue a b n m expected) at is there = by_holder (s.holder g) refl
      where
        g : ℕ
        g = greater (a.0 % s.buckets) (b.0 % s.buckets)

        call : FutexCall
        call = Requeue a b n m expected

        asks : look p t w.thread ≡ Asks (request_of call) w.go
        asks = w.asks ∙ ap (λ (c : FutexCall). Asks (request_of c) w.go) is

        lies : LiesIn s.base.size call
        lies = subst (LiesIn s.base.size) is w.lies

        takes : takes_at s.buckets (s.phase t) call ≡ Some g
        takes = ap (λ f. takes_at s.buckets f call) at

        mid : PieceState
        mid = record s {
          phase = put s.phase t (after_lock s.buckets (s.phase t) call);
          holder = put s.holder g (Some t);
        }

        there_at : mid.phase t ≡ Compare
        there_at = put_same s.phase t (after_lock s.buckets (s.phase t) call)
            ∙ ap (λ f. after_lock s.buckets f call) at

        behind : OwnRun p s mid × IsHeldRight p mid → Past p t s
        behind r =
            let o = requeues p t w.thread mid r.1 w.stands w.awake a.0 b.0 n m expected w.go asks lies.0 lies.1 few
            there_at in
            record {
              after = o.after;
              run = then_run p s mid o.after r.0 o.run;
              right = o.right;
              first = o.first;
              others = λ v ne. o.others v ne ∙ put_other s.phase t (after_lock s.buckets (s.phase t) call) v ne;
              made = o.made;
            }

        by_holder : (o : Option ℕ) → s.holder g ≡ o → Past p t s
        by_holder None none = behind (taken p s mid t w.thread [] right w.stands w.awake
            (IsLock call w.go g asks lies takes none refl refl))
        by_holder (Some v) held = absurd (free (subst
            (λ (c : FutexCall). BlocksAt (exit_of p.version) s t (Asks (request_of c) w.go)) (sym is)
            (lies, g, v, takes, held)))

    pub past : Past p t s
    past = to_end (s.phase t) w.call refl refl w.there

-- a run leads to where this holds, and no thread is within a call
abbrev Quiets : Program → (PieceState → Type 0) → PieceState → Type 0
Quiets p Holds s = (s' : PieceState) × OwnRun p s s' × IsHeldRight p s' × Holds s' × IsOutside s'

module _ (p : Program) (Holds : PieceState → Type 0)
    (on : (s s' : PieceState) → OwnRun p s s' → Holds s → Holds s')
    (few : (s : PieceState) → IsHeldRight p s → Holds s → IsFew s.base) where
  -- where some thread is within a call, one call is taken to its end
  one_past : (s : PieceState) → IsHeldRight p s → Holds s → (u : ℕ) → IsWithin p s u
      → (t : ℕ) × (q : Past p t s) × (all_inside s.phase s.base.made ≡ suc (all_inside q.after.phase s.base.made))
  one_past s right holds u w =
      let g = some_goes_on p s right u w in
      let same : g.2.thread ≡ g.1.thread = same_Some _ _ (sym g.2.stands ∙ g.1.stands) in
      let free : BlocksAt (exit_of p.version) s g.0 (Asks (request_of g.1.call) g.1.go) → ⊥ = λ blocks. g.2.free
      (subst (BlocksAt (exit_of p.version) s g.0) (sym (ap (look p g.0) same ∙ g.1.asks)) blocks) in
      let q = past p s right g.0 g.1 free (few s right holds) in
      let less : g.0 < s.base.made + 1 = right.few g.0 g.1.thread g.1.stands in (
        g.0,
        q,
        fewer_inside s.phase q.after.phase g.0 s.base.made (omega (arith, less)) (not_first p s right g.0 g.1) q.first
            q.others,
      )

  pub quiet : (fuel : ℕ) (s : PieceState) → IsHeldRight p s → Holds s → all_inside s.phase s.base.made ≤ fuel
      → Quiets p Holds s
  quiet zero s right holds enough = elim (outside_or p s right) [
    | inl outside ↦ (s, no_run p s, right, holds, outside)
    | inr within ↦ let q = one_past s right holds within.0 within.1 in
        let count = q.2 in absurd (omega (arith, count, enough))
  ]
  quiet (suc fuel) s right holds enough = by_case (λ z r h few'. quiet fuel z r h few') (outside_or p s right)
    where
      by_case : ((z : PieceState) → IsHeldRight p z → Holds z → all_inside z.phase z.base.made ≤ fuel → Quiets p Holds z)
          → IsOutside s ⊎ ((u : ℕ) × IsWithin p s u) → Quiets p Holds s
      by_case again (inl outside) = (s, no_run p s, right, holds, outside)
      by_case again (inr (u, w)) =
          let q = one_past s right holds u w in
          let count : all_inside s.phase s.base.made ≡ suc (all_inside q.1.after.phase s.base.made) = q.2 in
          let less : all_inside q.1.after.phase q.1.after.base.made ≤ fuel =
          subst (λ k. all_inside q.1.after.phase k ≤ fuel) (sym q.1.made) (omega (arith, count, enough)) in
          let r = again q.1.after q.1.right (on s q.1.after q.1.run holds) less in
          (r.0, then_run p s q.1.after r.0 q.1.run r.1, r.2, r.3, r.4)

own_named : (may : May) (steps : List Step) → AreOwn steps → AreNamed may steps × (kills_in steps ≡ 0)
own_named may [] own = (tt, refl)
own_named may (step ∷ steps) own =
    let rest = own_named may steps own.1 in
    let none : kills_by step.doing ≡ 0 = ap kills_by own.0 in
    let none_more : kills_in steps ≡ 0 = rest.1 in
    ((subst (IsNamed may) (sym own.0) tt, rest.0), omega (arith, none, none_more))

named_both : (may : May) (steps more : List Step) → AreNamed may steps → AreNamed may more → AreNamed may (steps ++ more)
named_both may [] more a b = b
named_both may (step ∷ steps) more a b = (a.0, named_both may steps more a.1 b)

kills_both : (steps more : List Step) → kills_in (steps ++ more) ≡ kills_in steps + kills_in more
kills_both [] more = omega arith
kills_both (step ∷ steps) more =
    let rest : kills_in (steps ++ more) ≡ kills_in steps + kills_in more = kills_both steps more in omega (arith, rest)

from_both : (may : May) (steps more : List Step) → AreFrom may steps → AreOwn more → AreFrom may (steps ++ more)
from_both may steps more from own =
    let o = own_named may more own in
    let none : kills_in more ≡ 0 = o.1 in
    let all : kills_in (steps ++ more) ≡ kills_in steps + kills_in more = kills_both steps more in
    let few : kills_in steps ≤ may.kills = from.few in
    record { named = named_both may steps more from.named o.0; few = omega (arith, none, all, few) }

module _ (p : Program) (alone : Bool) (may : May) (kept : List Kept) (complete : IsCompleteBy p alone may kept)
    (wakened : (r : Kept) → Contains kept r → AreWakened p alone r) (buckets : ℕ) (some : 0 < buckets) where
  -- a run leads to the state
  abbrev Come : PieceState → Type 0
  Come s = (steps : List Step) × PieceRun p buckets steps s × AreFrom may steps

  come_on : (s s' : PieceState) → OwnRun p s s' → Come s → Come s'
  come_on s s' run come = (
    come.0 ++ run.steps,
    goes_both p come.0 run.steps (opening_pieces p buckets) s s' come.1 run.goes,
    from_both may come.0 run.steps come.2 run.own,
  )

  come_few : (s : PieceState) → IsHeldRight p s → Come s → IsFew s.base
  come_few s right come =
      let r = (reaches p alone kept may complete buckets come.0 s some come.1 come.2).1.1 in
      let few = (wakened _ r.is).few in
      record { most = few.most; asleep = λ u a slept. few.asleep u a (sleeps_so p s u a slept); made = few.made }

  from_quiet : (s : PieceState) (t a : ℕ) → IsHeldRight p s → IsOutside s → Come s → s.base.asleep t ≡ Some a
      → IsWoken p s t
  from_quiet s t a right outside come slept =
      let k = (reaches p alone kept may complete buckets come.0 s some come.1 come.2).1 in
      let r : Reached p alone kept s.base k.0 =
      subst (λ (q : State). Reached p alone kept q k.0) (whole_base p s outside) k.1 in
      let w = (wakened _ r.is).wakened t a slept in
      wakes p alone t (record { state = further s.base r.here r.words r.output; killed = k.0 } ∷ w.behind)
      (w.live, w.lives) s k.0 right outside
      (record { here = r.here; words = r.words; output = r.output; all = r.all; is = (0, omega arith, refl) })

  pub never_sleeps : (steps : List Step) (s : PieceState) → PieceRun p buckets steps s → AreFrom may steps → (t : ℕ)
      → IsWoken p s t
  never_sleeps steps s run from t =
      let right = (reaches p alone kept may complete buckets steps s some run from).0 in
      by_quiet (quiet p Come come_on come_few (all_inside s.phase s.base.made) s right (steps, run, from) (omega arith))
    where
      by_quiet : Quiets p Come s → IsWoken p s t
      by_quiet (s', run', right', come', outside') = by_place (s'.base.asleep t) refl
        where
          by_place : (o : Option ℕ) → s'.base.asleep t ≡ o → IsWoken p s t
          by_place None e =
              record { steps = run'.steps; after = s'; goes = run'.goes; own = run'.own; awake = e }
          by_place (Some a) e =
              let w = from_quiet s' t a right' outside' come' e in
              let all = then_run p s s' w.after run' (record { steps = w.steps; goes = w.goes; own = w.own }) in
              record { steps = all.steps; after = w.after; goes = all.goes; own = all.own; awake = w.awake }

-- where no bucket is held, no thread is within a call
pub outside_of : (p : Program) (s : PieceState) → IsHeldRight p s → ((b : ℕ) → s.holder b ≡ None) → IsOutside s
outside_of p s right free u = elim (right.apart u) [
  | inl first ↦ first
  | inr w ↦ absurd (
      let r = holds_some s.buckets (s.phase u) w.call w.there in
      let mine : s.holder r.0 ≡ Some u = right.all r.0 u
      (ap (λ o. names (held_at s.buckets (s.phase u) o) r.0)
      (called_is p u w.thread w.call w.go (s.base.thread u) w.stands w.asks) ∙ r.1) in
      let no' : None ≡ Some u = sym (free r.0) ∙ mine in cc)
]
