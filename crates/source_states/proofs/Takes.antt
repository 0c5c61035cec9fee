-- Offers that are taken up, and that can't be.
use Rattle.std.proofs.lemmas.Bool.Decides.{nat_tests}
use Rattle.std.proofs.Common.{eqb, not, ◌&&◌, ◌≡◌, ◌⊎◌, if◌then◌else◌, ℕ, Bool, true, false, MatchBool, List, Some}
use Rattle.std.proofs.Common.{refl, ap, sym, ◌∙◌, subst, inl, inr, arith}
use Rattle.words.specs.Updates.{put}
use Rattle.words.specs.declared.outcome.Fault.TheVariants.{HandleNotJoinable, ProcessTableFull}
use Rattle.program.specs.declared.kinds.Member.{Member}
use Rattle.meaning.specs.Labels.{Label, Forks, FindsFull, Claims, FindsClaimed, Notifies, Broadcasts, Kind, Fork}
use Rattle.meaning.specs.Labels.{Claim, Fails, Notify, Broadcast, kind_of}
use Rattle.meaning.specs.Table.{Table, Allows}
use Rattle.meaning.specs.Offers.{Nothing, Makes, Takes, MakesOne, ClaimsOne, NotifiesSome, NotifiesAll}
use Rattle.meaning.specs.Processes.{Process}
use Rattle.meaning.specs.States.{SourceState}
use Rattle.source_states.specs.Done.{IsDone}
use Rattle.source_states.specs.Taken.{IsAnswer, IsTakenUp}

-- members that the code's test finds alike
pub same_member : (a b : Member) → false ≡ not (eqb a.monitor b.monitor && eqb a.number b.number) → a ≡ b
same_member a b e =
    let m : a.monitor ≡ b.monitor = grind (arith, nat_tests, e) in
    let n : a.number ≡ b.number = grind (arith, nat_tests, e) in
    λ i. record { monitor = m i; number = n i }

-- the table and one process change
pub placed : (n : ℕ) (label : Label) (after : Process) (s s' : SourceState) (t : Table) → Allows n label s.table t
    → s' ≡ record s { table = t; process = put s.process n (Some after) } → IsDone n label Nothing after s s'
placed n label after s s' t allows is = record {
  allows = subst (Allows n label s.table) (sym (ap (λ (x : SourceState). x.table) is)) allows;
  variables = ap (λ (x : SourceState). x.variable) is;
  printed = ap (λ (x : SourceState). x.printed) is;
  processes = ap (λ (x : SourceState). x.process) is;
}

-- a process is made as well
pub made_one : (n made : ℕ) (kind : Kind) (q : Process) (after : ℕ → Process) (full : Process) (s s' : SourceState)
    (t : Table) → Allows n (Forks made) s.table t → kind ≡ Fork made
    → s' ≡ record s { table = t; process = put (put s.process made (Some q)) n (Some (after made)) }
    → IsTakenUp n kind (MakesOne q after full) s s'
made_one n made kind q after full s s' t allows named is = record {
  label = Forks made;
  effect = Makes made q;
  after = after made;
  takes = inl (made, refl, refl, refl);
  named = named;
  done = record {
    allows = subst (Allows n (Forks made) s.table) (sym (ap (λ (x : SourceState). x.table) is)) allows;
    variables = ap (λ (x : SourceState). x.variable) is;
    printed = ap (λ (x : SourceState). x.printed) is;
    processes = ap (λ (x : SourceState). x.process) is;
  };
}

-- two processes change, one after the other
pub placed_both : (n made : ℕ) (s first second : SourceState) (t : Table) (q r r' : Process)
    → second ≡ record first { process = put first.process n (Some r) }
    → first ≡ record s { table = t; process = put s.process made (Some q) } → r ≡ r'
    → second ≡ record s { table = t; process = put (put s.process made (Some q)) n (Some r') }
placed_both n made s first second t q r r' a b d =
    a ∙ ap (λ (x : SourceState). record x { process = put x.process n (Some r) }) b
    ∙ ap (λ x. record s { table = t; process = put (put s.process made (Some q)) n (Some x) }) d

-- where a process can be made, the fork of another number isn't possible, nor the fault
pub makes_other : (n made : ℕ) (kind : Kind) (q : Process) (after : ℕ → Process) (full : Process) (s : SourceState)
    (t : Table) → Allows n (Forks made) s.table t → (kind ≡ Fork made → ⊥) → (u : SourceState)
    → IsTakenUp n kind (MakesOne q after full) s u → ⊥
makes_other n made kind q after full s t allows other u r = cases r.takes
  where
    cases : ((k : ℕ) × (r.label ≡ Forks k) × (r.effect ≡ Makes k q) × (r.after ≡ after k))
        ⊎ ((r.label ≡ FindsFull) × (r.effect ≡ Nothing) × (r.after ≡ full)) → ⊥
    cases (inl x) =
        let allowed : Allows n (Forks x.0) s.table u.table =
        subst (λ l. Allows n l s.table u.table) x.1 r.done.allows in
        other (r.named ∙ ap kind_of x.1 ∙ ap Fork (allowed.1 ∙ sym allows.1))
    cases (inr x) =
        let allowed : Allows n FindsFull s.table u.table = subst (λ l. Allows n l s.table u.table) x.0 r.done.allows in
        absurd (omega (arith, allowed.0, allows.0))

-- where no process can be made any more, the fault alone is possible
pub full_once : (n : ℕ) (kind : Kind) (q : Process) (after : ℕ → Process) (full : Process) (s : SourceState)
    (t : Table) (b : Bool) (s' : SourceState) → Allows n FindsFull s.table t
    → MatchBool b
    ((kind ≡ Fails ProcessTableFull) × (s' ≡ record s { table = t; process = put s.process n (Some full) }))
    (kind ≡ Fails ProcessTableFull → ⊥)
    → IsAnswer b (IsTakenUp n kind (MakesOne q after full) s) s'
full_once n kind q after full s t true s' allows (named, is) = record {
  label = FindsFull;
  effect = Nothing;
  after = full;
  takes = inr (refl, refl, refl);
  named = named;
  done = placed n FindsFull full s s' t allows is;
}
full_once n kind q after full s t false s' allows never = λ u r. cases u r r.takes
  where
    cases : (u : SourceState) (r : IsTakenUp n kind (MakesOne q after full) s u)
        → ((k : ℕ) × (r.label ≡ Forks k) × (r.effect ≡ Makes k q) × (r.after ≡ after k))
        ⊎ ((r.label ≡ FindsFull) × (r.effect ≡ Nothing) × (r.after ≡ full)) → ⊥
    cases u r (inl x) =
        let allowed : Allows n (Forks x.0) s.table u.table =
        subst (λ l. Allows n l s.table u.table) x.1 r.done.allows in
        absurd (omega (arith, allowed.0, allows.0))
    cases u r (inr x) = never (r.named ∙ ap kind_of x.0)

-- a process that isn't claimed can be claimed, and nothing else is possible
pub claims_other : (n child : ℕ) (kind : Kind) (after refused : Process) (s : SourceState) (t : Table)
    → Allows n (Claims child) s.table t → (kind ≡ Claim child → ⊥) → (u : SourceState)
    → IsTakenUp n kind (ClaimsOne child after refused) s u → ⊥
claims_other n child kind after refused s t allows other u r = cases r.takes
  where
    cases : ((r.label ≡ Claims child) × (r.effect ≡ Nothing) × (r.after ≡ after))
        ⊎ ((r.label ≡ FindsClaimed child) × (r.effect ≡ Nothing) × (r.after ≡ refused)) → ⊥
    cases (inl x) = other (r.named ∙ ap kind_of x.0)
    cases (inr x) =
        let allowed : Allows n (FindsClaimed child) s.table u.table =
        subst (λ l. Allows n l s.table u.table) x.0 r.done.allows in
        absurd (let differ : true ≡ false = sym allowed.0 ∙ allows.0 in cc)

-- where the process is claimed already, the fault alone is possible
pub claimed_once : (n child : ℕ) (kind : Kind) (after refused : Process) (s : SourceState) (t : Table)
    (b : Bool) (s' : SourceState) → Allows n (FindsClaimed child) s.table t
    → MatchBool b
    ((kind ≡ Fails HandleNotJoinable) × (s' ≡ record s { table = t; process = put s.process n (Some refused) }))
    (kind ≡ Fails HandleNotJoinable → ⊥)
    → IsAnswer b (IsTakenUp n kind (ClaimsOne child after refused) s) s'
claimed_once n child kind after refused s t true s' allows (named, is) = record {
  label = FindsClaimed child;
  effect = Nothing;
  after = refused;
  takes = inr (refl, refl, refl);
  named = named;
  done = placed n (FindsClaimed child) refused s s' t allows is;
}
claimed_once n child kind after refused s t false s' allows never = λ u r. cases u r r.takes
  where
    cases : (u : SourceState) (r : IsTakenUp n kind (ClaimsOne child after refused) s u)
        → ((r.label ≡ Claims child) × (r.effect ≡ Nothing) × (r.after ≡ after))
        ⊎ ((r.label ≡ FindsClaimed child) × (r.effect ≡ Nothing) × (r.after ≡ refused)) → ⊥
    cases u r (inl x) =
        let allowed : Allows n (Claims child) s.table u.table =
        subst (λ l. Allows n l s.table u.table) x.0 r.done.allows in
        absurd (let differ : true ≡ false = sym allows.0 ∙ allowed.0 in cc)
    cases u r (inr x) = never (r.named ∙ ap kind_of x.0)

-- a notify of these isn't possible where the table doesn't allow it
pub no_notify : (n : ℕ) (c : Member) (resumed : List ℕ) (after : Process) (s : SourceState)
    → ((t : Table) → Allows n (Notifies c resumed) s.table t → ⊥) → (u : SourceState)
    → IsTakenUp n (Notify c resumed) (NotifiesSome c after) s u → ⊥
no_notify n c resumed after s never u r =
    let named : Notify c resumed ≡ Notify c r.takes.0 = r.named ∙ ap kind_of r.takes.1 in
    let same : r.takes.0 ≡ resumed = cc in
    never u.table (subst (λ l. Allows n l s.table u.table) (r.takes.1 ∙ ap (Notifies c) same) r.done.allows)

pub no_broadcast : (n : ℕ) (c : Member) (resumed : List ℕ) (after : Process) (s : SourceState)
    → ((t : Table) → Allows n (Broadcasts c resumed) s.table t → ⊥) → (u : SourceState)
    → IsTakenUp n (Broadcast c resumed) (NotifiesAll c after) s u → ⊥
no_broadcast n c resumed after s never u r =
    let named : Broadcast c resumed ≡ Broadcast c r.takes.0 = r.named ∙ ap kind_of r.takes.1 in
    let same : r.takes.0 ≡ resumed = cc in
    never u.table (subst (λ l. Allows n l s.table u.table) (r.takes.1 ∙ ap (Broadcasts c) same) r.done.allows)

-- a monitor is taken
pub taken : (n : ℕ) (label : Bool → Label) (kind : Kind) (free abandoned : Process) (was : Bool) (s s' : SourceState)
    (t : Table) → Allows n (label was) s.table t → kind ≡ kind_of (label was)
    → s' ≡ record s { table = t; process = put s.process n (Some (if was then abandoned else free)) }
    → IsTakenUp n kind (Takes label free abandoned) s s'
taken n label kind free abandoned was s s' t allows named is = record {
  label = label was;
  effect = Nothing;
  after = if was then abandoned else free;
  takes = (was, refl, refl, refl);
  named = named;
  done = placed n (label was) (if was then abandoned else free) s s' t allows is;
}
