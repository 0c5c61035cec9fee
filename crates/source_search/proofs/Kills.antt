-- The kills that are tried of a process: whomever one resumes, and whatever comes last.
use Rattle.std.proofs.Common.{◌≡◌, ◌<◌, ◌↔◌, ℕ, zero, suc, List, [], ◌∷◌, Option, Some, None, Contains}
use Rattle.std.proofs.Common.{Bool, true, false, cond, not, ◌==◌, length, map, filter, refl, sym, ap, ◌∙◌, subst, arith}
use Rattle.std.proofs.lemmas.List.Elements.{Contains-append_left, Contains-append_right}
use Rattle.std.proofs.lemmas.List.Kept.{IsStrictlyIncreasing-filter}
use Rattle.std.specs.List.{flat_map}
use Rattle.std.specs.List.Sorted.{IsStrictlyIncreasing}
use Rattle.std.specs.Prelude.{option_map}
use Rattle.words.specs.Updates.{put}
use Rattle.program.specs.declared.kinds.Member.{Member}
use Rattle.program.specs.Trees.{Program}
use Rattle.meaning.specs.Labels.{Action, Kill}
use Rattle.meaning.specs.Offers.{Offer, offer}
use Rattle.meaning.specs.Processes.{Caller, Frame, Process, all_monitors, callers_monitors, holds, monitor_of_role}
use Rattle.meaning.specs.Runs.{IsLeft, IsNotifying}
use Rattle.meaning.specs.States.{SourceState}
use Rattle.meaning.specs.Table.{AllowsKill, AreResumed, Table}
use Rattle.program.specs.declared.kinds.Role.{Role}
use Rattle.program.specs.declared.kinds.Role.TheVariants as role
use Rattle.proof_exploration.specs.Exploring.{SameMembers}
use Rattle.proof_exploration.proofs.Resuming.{without_same}
use Rattle.source_offers.specs.Stages.{standing}
use Rattle.source_offers.specs.declared.process.Stage.{Stage as StageOf}
use Rattle.source_offers.specs.declared.process.Stage.TheVariants as stage
use Rattle.source_reaching.specs.Choices.{HasEachSet, by}
use Rattle.source_search.specs.Choices.{AreHeld, AreKills, AreResumable, WouldNotify, kills_with}
use Rattle.source_reaching.proofs.Subsets.{among, contains_map, is_one_of, one_of, passes, stays}

-- what a function makes of an element of a list is among what it makes of all
contains_flat : {X A : Type 0} (f : X → List A) (xs : List X) (x : X) (a : A) → Contains xs x → Contains (f x) a
    → Contains (flat_map f xs) a
contains_flat f [] x a (k, l, e) i = absurd (omega (arith, l))
contains_flat f (y ∷ ys) x a (zero, l, e) i =
    Contains-append_left (f y) (flat_map f ys) a (subst (λ z. Contains (f z) a) (sym e) i)
contains_flat f (y ∷ ys) x a (suc k, l, e) i =
    Contains-append_right (f y) (flat_map f ys) a (contains_flat f ys x a (k, omega (arith, l), e) i)

-- the kill with this monitor as the last, or with none
with_last : (n : ℕ) (monitors r : List ℕ) (last : Option ℕ) → ((m : ℕ) → last ≡ Some m → Contains monitors m)
    → Contains (kills_with n monitors r) (by n (Kill r last))
with_last n monitors r None are = (0, omega arith, refl)
with_last n monitors r (Some m) are =
    let rest : Contains (map (λ m. by n (Kill r (Some m))) monitors) (by n (Kill r (Some m))) =
    contains_map (λ m. by n (Kill r (Some m))) monitors m (are m refl) in
    let less : rest.0 < length (map (λ m. by n (Kill r (Some m))) monitors) = rest.1 in
    (suc rest.0, omega (arith, less), rest.2)

once : {A : Type 0} (x y : A) → Some x ≡ Some y → x ≡ y
once x y e = cc

-- what comes last is held
last_held : (p : Program) (s : SourceState) (q : Process) (last : Option ℕ) (ms : List ℕ)
    → IsLeft p s.variable q last ms → (m : ℕ) → last ≡ Some m → Contains (holds q) m
last_held p s q None ms left m is = absurd cc
last_held p s q (Some l) ms left m is = subst (Contains (holds q)) (once l m is) left.0

allows_same : (n : ℕ) (notified : Option Member) (resumed r : List ℕ) (t t' : Table)
    → AllowsKill n notified resumed t t' → AreResumed t notified r → SameMembers resumed r
    → AllowsKill n notified r t t'
allows_same n notified resumed r t t' allows are same = (
  are,
  allows.1 ∙ (λ i. record t {
    waits = put (λ q. without_same resumed r t.waits q same i) n None;
  }),
)

-- each list with each monitor is enough
pub kills_tried : (p : Program) (s : SourceState) (n : ℕ) (q : Process) (lists : List (List ℕ)) (monitors : List ℕ)
    (actions : List Action) → Some q ≡ s.process n → AreResumable p s n lists → AreHeld q monitors
    → actions ≡ flat_map (kills_with n monitors) lists → AreKills p s n actions
kills_tried p s n q lists monitors actions stands resumable held is resumed last s' x =
    let same : q ≡ x.before = once q x.before (stands ∙ x.stands) in
    let found : (r : List ℕ) × Contains lists r × AreResumed s.table x.notified r × SameMembers resumed r =
    resumable x.before x.notified resumed x.stands x.notifies x.allows.0 in (
      found.0,
      subst (λ l. Contains l (by n (Kill found.0 last))) (sym is)
          (contains_flat (kills_with n monitors) lists found.0 (by n (Kill found.0 last)) found.1
          (with_last n monitors found.0 last (λ m e. subst (λ b. AreHeld b monitors) same held m x.killable
          (last_held p s x.before last x.monitors x.left m e)))),
      record {
        before = x.before;
        monitors = x.monitors;
        notified = x.notified;
        stands = x.stands;
        killable = x.killable;
        notifies = x.notifies;
        left = x.left;
        allows = allows_same n x.notified resumed found.0 s.table s'.table x.allows found.2 found.3;
        variables = x.variables;
        printed = x.printed;
        processes = x.processes;
      },
    )

-- nobody to kill
pub none_there : (p : Program) (s : SourceState) (n : ℕ) (actions : List Action) → None ≡ s.process n
    → AreKills p s n actions
none_there p s n actions none resumed last s' x =
    absurd (let differ : None ≡ Some x.before = none ∙ x.stands in cc)

themselves : (rs : List ℕ) → SameMembers rs rs
themselves rs q = (λ i. i, λ i. i)

-- nobody is resumed
nobody_resumed : (t : Table) (notified : Option Member) (resumed : List ℕ) → ((c : Member) → notified ≡ Some c → ⊥)
    → AreResumed t notified resumed → resumed ≡ []
nobody_resumed t None resumed none are = are
nobody_resumed t (Some c) resumed none are = absurd (none c refl)

-- what a process would notify, by its offer
pub none_notified : (p : Program) (s : SourceState) (n : ℕ)
    → None ≡ option_map (offer p s.variable) (s.process n) → WouldNotify p s n None
none_notified p s n none before c stands notifies =
    absurd (let differ : None ≡ Some (offer p s.variable before) =
    none ∙ ap (option_map (offer p s.variable)) stands in cc)

pub offer_notified : (p : Program) (s : SourceState) (n : ℕ) (o : Offer) (condition : Option Member)
    → Some o ≡ option_map (offer p s.variable) (s.process n)
    → ((c : Member) → IsNotifying o (Some c) → condition ≡ Some c) → WouldNotify p s n condition
offer_notified p s n o condition is each before c stands notifies =
    each c (subst (λ (b : Offer). IsNotifying b (Some c))
    (sym (once o (offer p s.variable before) (is ∙ ap (option_map (offer p s.variable)) stands))) notifies)

pub nobody_tried : (p : Program) (s : SourceState) (n : ℕ) (lists : List (List ℕ)) → lists ≡ [] ∷ []
    → WouldNotify p s n None → AreResumable p s n lists
nobody_tried p s n lists is none before notified resumed stands notifies are =
    let nobody : resumed ≡ [] = nobody_resumed s.table notified resumed
    (λ c e. let differ : None ≡ Some c =
    none before c stands (subst (IsNotifying (offer p s.variable before)) e notifies) in cc) are in (
      resumed,
      subst (λ l. Contains l resumed) (sym is) (0, omega arith, sym nobody),
      are,
      themselves resumed,
    )

-- a list for each set of those that wait
pub sets_tried : (p : Program) (s : SourceState) (n : ℕ) (c : Member) (waiting : List ℕ) (lists : List (List ℕ))
    → ((r : ℕ) → Contains waiting r ↔ (s.table.waits r ≡ Some c)) → IsStrictlyIncreasing waiting
    → HasEachSet waiting lists → WouldNotify p s n (Some c) → AreResumable p s n lists
sets_tried p s n c waiting lists all rising each only before None resumed stands notifies are = (
  filter (is_one_of []) waiting,
  each (is_one_of []),
  nothing waiting,
  subst (λ l. SameMembers l (filter (is_one_of []) waiting)) (sym are)
      (subst (SameMembers []) (sym (nothing waiting)) (themselves [])),
)
  where
    nothing : (xs : List ℕ) → filter (is_one_of []) xs ≡ []
    nothing [] = refl
    nothing (x ∷ xs) = nothing xs
sets_tried p s n c waiting lists all rising each only before (Some d) resumed stands notifies are = (
  chosen,
  each (is_one_of resumed),
  (
    IsStrictlyIncreasing-filter (is_one_of resumed) waiting rising,
    λ q i. are.1 q ((same q).1 i),
  ),
  same,
)
  where
    chosen : List ℕ
    chosen = filter (is_one_of resumed) waiting

    is : d ≡ c
    is = sym (once c d (only before d stands notifies))

    same : SameMembers resumed chosen
    same q = (
      λ i. stays (is_one_of resumed) waiting q ((all q).1 (are.1 q i ∙ ap Some is)) (among resumed q i),
      λ i. one_of resumed q (passes (is_one_of resumed) waiting q i),
    )

-- the monitors of all ENTRY procedures are enough
callers_too : (r : Role) (ms : List ℕ) (m : ℕ) → Contains ms m → Contains (monitor_of_role r ms) m
callers_too (role.Entry n) ms m (k, l, e) = (suc k, omega (arith, l), e)
callers_too (role.Internal n) ms m i = i
callers_too (role.Recover n) ms m i = i
callers_too role.External ms m i = i
callers_too role.Main ms m i = i

-- what passes a test was in the list
kept_in : (test : ℕ → Bool) (xs : List ℕ) (q : ℕ) → Contains (filter test xs) q → Contains xs q
kept_in test [] q i = i
kept_in test (x ∷ xs) q i = at (test x) (λ j. kept_in test xs q j) i
  where
    further : Contains xs q → Contains (x ∷ xs) q
    further (k, l, e) = (suc k, omega (arith, l), e)

    at : (b : Bool) → (Contains (filter test xs) q → Contains xs q)
        → Contains (cond b (x ∷ filter test xs) (filter test xs)) q → Contains (x ∷ xs) q
    at true rest (zero, l, e) = (zero, omega arith, e)
    at true rest (suc k, l, e) = further (rest (k, omega (arith, l), e))
    at false rest j = further (rest j)

nothing_held : (xs : List ℕ) (m : ℕ) → Contains [] m → Contains xs m
nothing_held xs m (k, l, e) = absurd (omega (arith, l))

-- at each stage
pub held_at : (stage : StageOf) (f : Frame) (callers : List Caller)
    → AreHeld (standing stage f callers) (all_monitors f callers)
held_at (stage.Entering n) f callers m killable i = callers_too f.role (callers_monitors callers) m i
held_at (stage.Before entered) f callers m killable i = i
held_at (stage.Suspended c) f callers m killable i =
    kept_in (λ n. not (n == c.monitor)) (all_monitors f callers) m i
held_at (stage.Joining child into part) f callers m killable i = i
held_at (stage.Returning z) f callers m killable i = callers_too f.role (callers_monitors callers) m i
held_at (stage.Failing fault entered) f callers m killable i = i
held_at (stage.Dying cause ms) f callers m killable i = absurd killable
held_at (stage.Leaving z) f callers m killable i = nothing_held (all_monitors f callers) m i
held_at (stage.Over end) f callers m killable i = absurd killable
