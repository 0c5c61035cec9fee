-- Actions that are tried in place of all that take up an offer.
use Rattle.std.proofs.Common.{◌≡◌, ◌<◌, ◌≤◌, ◌+◌, ◌↔◌, ℕ, true, false, List, [], ◌∷◌, Option, Some, None}
use Rattle.std.proofs.Common.{Contains}
use Rattle.std.proofs.Common.{refl, sym, ap, ◌∙◌, subst, arith, map, inl, inr, filter, zero, suc, length}
use Rattle.std.proofs.lemmas.List.Kept.{IsStrictlyIncreasing-filter}
use Rattle.std.proofs.lemmas.Option.{IfSome_then}
use Rattle.std.proofs.lemmas.Result.{IfOk-weaker}
use Rattle.std.specs.Global.{Global}
use Rattle.std.specs.List.Sorted.{IsStrictlyIncreasing}
use Rattle.std.specs.Prelude.{option_map, IfOk, IfSome, Result, Vec}
use Rattle.words.specs.declared.outcome.Fault.TheVariants.{HandleNotJoinable, ProcessTableFull}
use Rattle.program.specs.declared.kinds.Member.{Member}
use Rattle.program.specs.Trees.{Program}
use Rattle.meaning.specs.Labels.{Action, End, Kind, Label, Fork, Claim, Join, Fails, Enter, Resume, Notify, Broadcast}
use Rattle.meaning.specs.Labels.{Forks, FindsFull, Claims, FindsClaimed, Enters, Resumes, Notifies, Broadcasts, kind_of}
use Rattle.meaning.specs.Offers.{Effect, Offer, Does, Takes, MakesOne, ClaimsOne, JoinsOne}
use Rattle.meaning.specs.Offers.{NotifiesSome, NotifiesAll, TakesUp, offer}
use Rattle.meaning.specs.Processes.{Process}
use Rattle.meaning.specs.States.{SourceState}
use Rattle.meaning.specs.Table.{Table, Allows}
use Rattle.proof_exploration.specs.Exploring.{SameMembers}
use Rattle.proof_exploration.proofs.Resuming.{without_same}
use Rattle.source_states.specs.Actions.{action_of}
use Rattle.source_states.specs.declared.action.Action.{Action as ActionOf}
use Rattle.source_reaching.specs.Choices.{AllTakeUp, AreOwnChoices, HasEachSet, IsTried, by}
use Rattle.source_reaching.proofs.Subsets.{among, contains_map, is_one_of, one_of, passes, stays}

-- all that takes up the offer has this name
abbrev pub HasName : ℕ → Offer → Table → Kind → Type 0
HasName n o t kind = (label : Label) (effect : Effect) (after : Process) (t' : Table) → TakesUp o label effect after
    → Allows n label t t' → kind_of label ≡ kind

-- then one action is enough
pub one_tried : (n : ℕ) (o : Offer) (t : Table) (kind : Kind) (actions : List Action) → actions ≡ by n kind ∷ []
    → HasName n o t kind → AllTakeUp n o t actions
one_tried n o t kind actions is named label effect after t' takes allows = record {
  label = label;
  listed = subst (λ xs. Contains xs (by n (kind_of label))) (sym is)
      (0, omega arith, ap (by n) (sym (named label effect after t' takes allows)));
  takes = takes;
  allows = allows;
}

-- what holds of one action of this name holds of the actions that a function answers
pub all_tried : {E : Type 0} (r : Result (Option (Vec ActionOf Global)) E) (n : ℕ) (kind : Kind)
    (Holds : List Action → Type 0) → ((actions : List Action) → actions ≡ by n kind ∷ [] → Holds actions)
    → IfOk r (λ o. IfSome o (λ v. map action_of v.items ≡ by n kind ∷ []))
    → IfOk r (λ o. IfSome o (λ v. Holds (map action_of v.items)))
all_tried r n kind Holds each answer =
    IfOk-weaker r _ _ (λ o h. IfSome_then o h (λ v is. each (map action_of v.items) is)) answer

-- then one action is enough
pub name_tried : {E : Type 0} (r : Result (Option (Vec ActionOf Global)) E) (n : ℕ) (o : Offer) (t : Table) (kind : Kind)
    → HasName n o t kind → IfOk r (λ o. IfSome o (λ v. map action_of v.items ≡ by n kind ∷ []))
    → IfOk r (λ x. IfSome x (λ v. AllTakeUp n o t (map action_of v.items)))
name_tried r n o t kind named answer =
    all_tried r n kind (AllTakeUp n o t) (λ actions is. one_tried n o t kind actions is named) answer

pub does_named : (n : ℕ) (l : Label) (e : Effect) (q : Process) (t : Table) → HasName n (Does l e q) t (kind_of l)
does_named n l e q t label effect after t' takes allows = ap kind_of takes.0

pub full_named : (n : ℕ) (child : Process) (go : ℕ → Process) (full : Process) (t : Table) → t.most ≤ t.made
    → HasName n (MakesOne child go full) t (Fails ProcessTableFull)
full_named n child go full t is label effect after t' (inl x) allows =
    let allowed : Allows n (Forks x.0) t t' = subst (λ l. Allows n l t t') x.1 allows in
    absurd (omega (arith, is, allowed.0))
full_named n child go full t is label effect after t' (inr x) allows = ap kind_of x.0

pub makes_named : (n : ℕ) (child : Process) (go : ℕ → Process) (full : Process) (t : Table) → t.made < t.most
    → HasName n (MakesOne child go full) t (Fork (t.made + 1))
makes_named n child go full t is label effect after t' (inl x) allows =
    let allowed : Allows n (Forks x.0) t t' = subst (λ l. Allows n l t t') x.1 allows in
    ap kind_of x.1 ∙ ap Fork allowed.1
makes_named n child go full t is label effect after t' (inr x) allows =
    let allowed : Allows n FindsFull t t' = subst (λ l. Allows n l t t') x.0 allows in
    absurd (omega (arith, is, allowed.0))

pub refused_named : (n child : ℕ) (q refused : Process) (t : Table) → t.claimed child ≡ true
    → HasName n (ClaimsOne child q refused) t (Fails HandleNotJoinable)
refused_named n child q refused t is label effect after t' (inl x) allows =
    let allowed : Allows n (Claims child) t t' = subst (λ l. Allows n l t t') x.0 allows in
    absurd (let differ : true ≡ false = sym is ∙ allowed.0 in cc)
refused_named n child q refused t is label effect after t' (inr x) allows = ap kind_of x.0

pub claims_named : (n child : ℕ) (q refused : Process) (t : Table) → t.claimed child ≡ false
    → HasName n (ClaimsOne child q refused) t (Claim child)
claims_named n child q refused t is label effect after t' (inl x) allows = ap kind_of x.0
claims_named n child q refused t is label effect after t' (inr x) allows =
    let allowed : Allows n (FindsClaimed child) t t' = subst (λ l. Allows n l t t') x.0 allows in
    absurd (let differ : true ≡ false = sym allowed.0 ∙ is in cc)

pub enters_named : (n m : ℕ) (free abandoned : Process) (t : Table)
    → HasName n (Takes (Enters m) free abandoned) t (Enter m)
enters_named n m free abandoned t label effect after t' takes allows = ap kind_of takes.1

pub resumes_named : (n m : ℕ) (free abandoned : Process) (t : Table)
    → HasName n (Takes (Resumes m) free abandoned) t (Resume m)
resumes_named n m free abandoned t label effect after t' takes allows = ap kind_of takes.1

pub joins_named : (n child : ℕ) (go : End → Process) (t : Table) → HasName n (JoinsOne child go) t (Join child)
joins_named n child go t label effect after t' takes allows = ap kind_of takes.1

-- two of at most one number are one
only_one : (xs : List ℕ) (x y : ℕ) → length xs ≤ 1 → Contains xs x → Contains xs y → x ≡ y
only_one [] x y few (k, l, e) j = absurd (omega (arith, l))
only_one (a ∷ xs) x y few (zero, l, e) (zero, m, f) = sym e ∙ f
only_one (a ∷ xs) x y few (suc k, l, e) j = absurd (omega (arith, l, few))
only_one (a ∷ xs) x y few (zero, l, e) (suc k, m, f) = absurd (omega (arith, m, few))

-- a list of some of at most one number has that one
all_named : (xs rs : List ℕ) → length xs ≤ 1 → ((x : ℕ) → Contains rs x → Contains xs x) → (rs ≡ [] → ⊥) → (x : ℕ)
    → Contains xs x → Contains rs x
all_named xs [] few among some x i = absurd (some refl)
all_named xs (r ∷ rs) few among some x i =
    (zero, omega arith, only_one xs r x few (among r (zero, omega arith, refl)) i)

-- of a broadcast the list of all that wait is enough
module _ (n : ℕ) (c : Member) (q : Process) (t : Table) (waiting : List ℕ)
    (all : (r : ℕ) → Contains waiting r ↔ (t.waits r ≡ Some c)) (rising : IsStrictlyIncreasing waiting) where
  pub broadcast_tried : (actions : List Action) → actions ≡ by n (Broadcast c waiting) ∷ []
      → AllTakeUp n (NotifiesAll c q) t actions
  broadcast_tried actions is label effect after t' takes allows = record {
    label = Broadcasts c waiting;
    listed = subst (λ xs. Contains xs (by n (Broadcast c waiting))) (sym is) (0, omega arith, refl);
    takes = (waiting, refl, takes.2, takes.3);
    allows = (
      record { rising = rising; wait = λ r i. (all r).0 i; all = λ r w. (all r).1 w },
      allowed.1 ∙ (λ i. record t { waits = λ r. without_same takes.0 waiting t.waits r same i }),
    );
  }
    where
      allowed : Allows n (Broadcasts c takes.0) t t'
      allowed = subst (λ l. Allows n l t t') takes.1 allows

      same : SameMembers takes.0 waiting
      same r = (λ i. (all r).1 ((allowed.0).wait r i), λ i. (allowed.0).all r ((all r).0 i))

  -- of a notify it is enough where at most one waits
  pub few_tried : length waiting ≤ 1 → (actions : List Action) → actions ≡ by n (Notify c waiting) ∷ []
      → AllTakeUp n (NotifiesSome c q) t actions
  few_tried few actions is label effect after t' takes allows = record {
    label = Notifies c waiting;
    listed = subst (λ xs. Contains xs (by n (Notify c waiting))) (sym is) (0, omega arith, refl);
    takes = (waiting, refl, takes.2, takes.3);
    allows = (
      record {
        rising = rising;
        wait = λ r i. (all r).0 i;
        some = λ r w e. none_waits r ((all r).1 w) e;
      },
      allowed.1 ∙ (λ i. record t { waits = λ r. without_same takes.0 waiting t.waits r same i }),
    );
  }
    where
      allowed : Allows n (Notifies c takes.0) t t'
      allowed = subst (λ l. Allows n l t t') takes.1 allows

      none_waits : (r : ℕ) → Contains waiting r → waiting ≡ [] → ⊥
      none_waits r i e =
          let j : Contains [] r = subst (λ l. Contains l r) e i in
          let less : j.0 < 0 = j.1 in omega (arith, less)

      same : SameMembers takes.0 waiting
      same r = (
        λ i. (all r).1 ((allowed.0).wait r i),
        λ i. all_named waiting takes.0 few (λ x j. (all x).1 ((allowed.0).wait x j))
            (λ e. (allowed.0).some r ((all r).0 i) e) r i,
      )

  -- of a notify one list for each set of them
  pub notify_tried : (lists : List (List ℕ)) (actions : List Action) → HasEachSet waiting lists
      → actions ≡ map (λ list. by n (Notify c list)) lists
      → AllTakeUp n (NotifiesSome c q) t actions
  notify_tried lists actions each is label effect after t' takes allows = record {
    label = Notifies c chosen;
    listed = subst (λ xs. Contains xs (by n (Notify c chosen))) (sym is)
        (contains_map (λ list. by n (Notify c list)) lists chosen (each (is_one_of takes.0)));
    takes = (chosen, refl, takes.2, takes.3);
    allows = (
      record {
        rising = IsStrictlyIncreasing-filter (is_one_of takes.0) waiting rising;
        wait = λ r i. (allowed.0).wait r ((same r).1 i);
        some = λ r w e. (allowed.0).some r w (empty_too takes.0 same e);
      },
      allowed.1 ∙ (λ i. record t { waits = λ r. without_same takes.0 chosen t.waits r same i }),
    );
  }
    where
      allowed : Allows n (Notifies c takes.0) t t'
      allowed = subst (λ l. Allows n l t t') takes.1 allows

      chosen : List ℕ
      chosen = filter (is_one_of takes.0) waiting

      same : SameMembers takes.0 chosen
      same r = (
        λ i. stays (is_one_of takes.0) waiting r ((all r).1 ((allowed.0).wait r i)) (among takes.0 r i),
        λ i. one_of takes.0 r (passes (is_one_of takes.0) waiting r i),
      )

      empty_too : (rs : List ℕ) → SameMembers rs chosen → chosen ≡ [] → rs ≡ []
      empty_too [] it e = refl
      empty_too (r ∷ rs) it e =
          let i : Contains [] r = subst (λ l. Contains l r) e ((it r).0 (0, omega arith, refl)) in
          let less : i.0 < 0 = i.1 in
          absurd (omega (arith, less))

some_once : {A : Type 0} (x y : A) → Some x ≡ Some y → x ≡ y
some_once x y e = cc

-- what takes up the offer of a process is what the process may do
pub are_choices : (p : Program) (s : SourceState) (n : ℕ) (o : Offer) (actions : List Action)
    → Some o ≡ option_map (offer p s.variable) (s.process n) → AllTakeUp n o s.table actions
    → AreOwnChoices p s n actions
are_choices p s n o actions is all kind s' x = (
  kind_of tried.label,
  tried.listed,
  record {
    before = x.before;
    after = x.after;
    label = tried.label;
    effect = x.effect;
    stands = x.stands;
    acts = subst (λ b. TakesUp b tried.label x.effect x.after) same tried.takes;
    named = refl;
    allows = tried.allows;
    variables = x.variables;
    printed = x.printed;
    processes = x.processes;
  },
)
  where
    same : o ≡ offer p s.variable x.before
    same = some_once o (offer p s.variable x.before) (is ∙ ap (option_map (offer p s.variable)) x.stands)

    tried : IsTried n o s.table actions x.effect x.after s'.table
    tried = all x.label x.effect x.after s'.table
        (subst (λ b. TakesUp b x.label x.effect x.after) (sym same) x.acts) x.allows

-- who isn't there may do nothing
pub absent_choices : (p : Program) (s : SourceState) (n : ℕ) (actions : List Action)
    → None ≡ option_map (offer p s.variable) (s.process n) → AreOwnChoices p s n actions
absent_choices p s n actions is kind s' x =
    absurd (let differ : None ≡ Some (offer p s.variable x.before) =
    is ∙ ap (option_map (offer p s.variable)) x.stands in cc)
