-- Quiet actions: what is taken up is the quiet action, where it is quiet.
use Rattle.std.proofs.Common.{◌≡◌, ◌⊎◌, ℕ, Bool, true, false, Option, Some, None, refl, ap, sym, ◌∙◌, subst, inl, inr}
use Rattle.std.proofs.lemmas.Bool.{false≢true, le-leb, lt-leb, leb-true}
use Rattle.std.specs.Prelude.{if◌then◌else◌, is_some, nat_le}
use Rattle.words.specs.Updates.{put}
use Rattle.words.specs.declared.outcome.Fault.TheVariants.{HandleNotJoinable, ProcessTableFull}
use Rattle.program.specs.Trees.{Program}
use Rattle.meaning.specs.Labels.{Label, Enters, Resumes, FindsFull, FindsClaimed, Fails, kind_of}
use Rattle.meaning.specs.Offers.{Effect, Nothing, Offer, Rests, Does, Takes, MakesOne, ClaimsOne, JoinsOne}
use Rattle.meaning.specs.Offers.{NotifiesSome, NotifiesAll, TakesUp, offer}
use Rattle.meaning.specs.Processes.{Process}
use Rattle.meaning.specs.States.{SourceState}
use Rattle.meaning.specs.Table.{Table, Allows}
use Rattle.meaning.proofs.Offered.{IsPlain, plain}
use Rattle.proof_commutation.specs.Deferring.{is_internal}
use Rattle.source_states.specs.Done.{IsDone}
use Rattle.source_states.specs.Internal.{IsInternalTaken, if_internal, next_internal, internal_from, internal_kind}
use Rattle.source_states.proofs.Acts.{acts}
use Rattle.source_states.proofs.Steps.{done_without}

chosen : {A : Type 0} (b : Bool) (x y : A) → b ≡ true → (if b then x else y) ≡ x
chosen true x y h = refl
chosen false x y h = absurd cc

other : {A : Type 0} (b : Bool) (x y : A) → b ≡ false → (if b then x else y) ≡ y
other true x y h = absurd cc
other false x y h = refl

-- a monitor that is taken is learned of
taking : (k : Bool → Label) (m : ℕ) (b : Bool) → (k ≡ Enters m) ⊎ (k ≡ Resumes m) → None ≡ if_internal (k b)
taking k m b (inl e) = ap (λ (i : Bool → Label). if_internal (i b)) (sym e)
taking k m b (inr e) = ap (λ (i : Bool → Label). if_internal (i b)) (sym e)

module _ (n : ℕ) (T T' : Table) (label : Label) (effect : Effect) (after : Process) where
  pub found : (o : Offer) → IsPlain o → TakesUp o label effect after → Allows n label T T'
      → internal_kind o T ≡ if_internal label
  found Rests is takes allows = absurd takes
  found (Does l e q) is takes allows = ap if_internal (sym takes.0)
  found (Takes k free abandoned) is takes allows = taking k is.0 takes.0 is.1 ∙ ap if_internal (sym takes.1)
  found (MakesOne child k full) is (inl made) allows =
      let here = subst (λ i. Allows n i T T') made.1 allows in
      other (nat_le T.most T.made) _ _ (lt-leb T.most T.made here.0) ∙ ap if_internal (sym made.1)
  found (MakesOne child k full) is (inr none) allows =
      let here = subst (λ i. Allows n i T T') none.0 allows in
      chosen (nat_le T.most T.made) _ _ (le-leb T.most T.made here.0) ∙ ap if_internal (sym none.0)
  found (ClaimsOne child q refused) is (inl free) allows =
      let here = subst (λ i. Allows n i T T') free.0 allows in
      other (T.claimed child) _ _ here.0 ∙ ap if_internal (sym free.0)
  found (ClaimsOne child q refused) is (inr claimed) allows =
      let here = subst (λ i. Allows n i T T') claimed.0 allows in
      chosen (T.claimed child) _ _ here.0 ∙ ap if_internal (sym claimed.0)
  found (JoinsOne child q) is takes allows = ap if_internal (sym takes.1)
  found (NotifiesSome c q) is takes allows = ap if_internal (sym takes.1)
  found (NotifiesAll c q) is takes allows = ap if_internal (sym takes.1)

pub law : (p : Program) (s : SourceState) (n : ℕ) (before after : Process) (label : Label) (effect : Effect)
    (t : Table) → s.process n ≡ Some before → TakesUp (offer p s.variable before) label effect after
    → Allows n label s.table t → next_internal p s n ≡ if_internal label
law p s n before after label effect t stands takes allows =
    ap (internal_from p s) stands
    ∙ found n s.table t label effect after (offer p s.variable before) (plain p s.variable before) takes allows

is_one : (label : Label) (b : Bool) → is_internal label ≡ b → is_some (if_internal label) ≡ true
    → if_internal label ≡ Some (kind_of label)
is_one label true e some = chosen (is_internal label) _ _ e
is_one label false e some = absurd
    (false≢true (sym (ap is_some (other (is_internal label) (Some (kind_of label)) None e)) ∙ some))

if_some : {A : Type 0} (b : Bool) (x : A) → is_some (if b then Some x else None) ≡ true → b ≡ true
if_some true x h = refl
if_some false x h = absurd cc

module _ (p : Program) (s s' : SourceState) (n : ℕ) (before : Process) (stands : s.process n ≡ Some before)
    (some : is_some (internal_kind (offer p s.variable before) s.table) ≡ true) where
  -- a process that offers one action takes it
  pub does : (label : Label) (effect : Effect) (after : Process) (f : ℕ → Option Process)
      → Does label effect after ≡ offer p s.variable before → f ≡ put s.process n (Some after)
      → IsDone n label effect after (record s { process = f }) s' → IsInternalTaken p n (Some (kind_of label)) s s'
  does label effect after f offers is done = (
    ap (internal_from p s) stands ∙ ap (λ o. internal_kind o s.table) (sym offers)
        ∙ is_one label (is_internal label) refl (ap (λ o. is_some (internal_kind o s.table)) offers ∙ some),
    inl (acts p s s' n before after label effect stands (sym offers)
        (done_without n label effect after (Some after) s s'
        (subst (λ g. IsDone n label effect after (record s { process = g }) s') is done))),
  )

  -- one that would make a process, where no more can be made, faults
  pub full : (child : Process) (q : ℕ → Process) (after : Process)
      → MakesOne child q after ≡ offer p s.variable before → s' ≡ record s { process = put s.process n (Some after) }
      → IsInternalTaken p n (Some (Fails ProcessTableFull)) s s'
  full child q after offers is = (
    ap (internal_from p s) stands ∙ ap (λ o. internal_kind o s.table) (sym offers)
        ∙ chosen (nat_le s.table.most s.table.made) _ _ none,
    inl (record {
      before = before;
      after = after;
      label = FindsFull;
      effect = Nothing;
      stands = stands;
      acts = subst (λ o. TakesUp o FindsFull Nothing after) offers (inr (refl, refl, refl));
      named = refl;
      allows = (leb-true s.table.most s.table.made none, ap (λ (x : SourceState). x.table) is);
      variables = ap (λ (x : SourceState). x.variable) is;
      printed = ap (λ (x : SourceState). x.printed) is;
      processes = ap (λ (x : SourceState). x.process) is;
    }),
  )
    where
      none : nat_le s.table.most s.table.made ≡ true
      none = if_some (nat_le s.table.most s.table.made) (kind_of FindsFull)
          (ap (λ o. is_some (internal_kind o s.table)) offers ∙ some)

  -- one that would claim a child, where that was claimed before, faults
  pub claimed : (child : ℕ) (q after : Process)
      → ClaimsOne child q after ≡ offer p s.variable before
      → s' ≡ record s { process = put s.process n (Some after) }
      → IsInternalTaken p n (Some (Fails HandleNotJoinable)) s s'
  claimed child q after offers is = (
    ap (internal_from p s) stands ∙ ap (λ o. internal_kind o s.table) (sym offers)
        ∙ chosen (s.table.claimed child) _ _ before_now,
    inl (record {
      before = before;
      after = after;
      label = FindsClaimed child;
      effect = Nothing;
      stands = stands;
      acts = subst (λ o. TakesUp o (FindsClaimed child) Nothing after) offers (inr (refl, refl, refl));
      named = refl;
      allows = (before_now, ap (λ (x : SourceState). x.table) is);
      variables = ap (λ (x : SourceState). x.variable) is;
      printed = ap (λ (x : SourceState). x.printed) is;
      processes = ap (λ (x : SourceState). x.process) is;
    }),
  )
    where
      before_now : s.table.claimed child ≡ true
      before_now = if_some (s.table.claimed child) (kind_of (FindsClaimed child))
          (ap (λ o. is_some (internal_kind o s.table)) offers ∙ some)
