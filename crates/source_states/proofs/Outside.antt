-- Actions from outside, and actions of a process's own, as steps.
use Rattle.std.proofs.Common.{◌≡◌, ℕ, Bool, true, false, MatchBool, List, Option, refl, sym, ◌∙◌, subst, inl, inr, Vec}
use Rattle.std.specs.Global.{Global}
use Rattle.program.specs.declared.kinds.Member.{Member}
use Rattle.program.specs.Trees.{Program}
use Rattle.meaning.specs.Labels.{Action, Stray, Kill}
use Rattle.meaning.specs.Offers.{offer}
use Rattle.meaning.specs.Runs.{IsAction, IsKill, IsStray, IsStep}
use Rattle.meaning.specs.States.{SourceState}
use Rattle.meaning.proofs.Offered.{IsOwn, own_kind, plain}
use Rattle.source_states.specs.declared.action.ActionKind.{ActionKind}
use Rattle.source_states.specs.declared.action.ActionKind.TheVariants as Code
use Rattle.source_states.specs.Actions.{kind_of}
use Rattle.source_states.specs.Taken.{IsAnswer}
use Rattle.source_states.proofs.SameKind.{same_kind}

own : (p : Program) (s : SourceState) (a : Action) (u : SourceState) → IsAction p s a u → IsOwn a.kind
own p s a u x =
    subst IsOwn (sym x.named)
    (own_kind (offer p s.variable x.before) x.label x.effect x.after (plain p s.variable x.before) x.acts)

differ : (c : Member) (resumed : List ℕ) (last : Option ℕ) → Stray c ≡ Kill resumed last → ⊥
differ c resumed last e = cc

same_condition : (c d : Member) → Stray c ≡ Stray d → d ≡ c
same_condition c d e = cc

same_resumed : (rs qs : List ℕ) (l k : Option ℕ) → Kill rs l ≡ Kill qs k → qs ≡ rs
same_resumed rs qs l k e = cc

same_last : (rs qs : List ℕ) (l k : Option ℕ) → Kill rs l ≡ Kill qs k → k ≡ l
same_last rs qs l k e = cc

pub stray_step : (p : Program) (s : SourceState) (a : Action) (c : Member) (b : Bool)
    (s' : SourceState) → a.kind ≡ Stray c
    → MatchBool b (IsStray s a.process c s') ((u : SourceState) → IsStray s a.process c u → ⊥)
    → IsAnswer b (IsStep p s a) s'
stray_step p s a c true s' e h = inr (inl (c, e, h))
stray_step p s a c false s' e never = cases
  where
    cases : (u : SourceState) → IsStep p s a u → ⊥
    cases u (inl x) = subst IsOwn e (own p s a u x)
    cases u (inr (inl y)) = never u (subst (λ d. IsStray s a.process d u) (same_condition c y.0 (sym e ∙ y.1)) y.2)
    cases u (inr (inr y)) = differ c y.0 y.1 (sym e ∙ y.2)

pub kill_step : (p : Program) (s : SourceState) (a : Action) (resumed : List ℕ) (last : Option ℕ) (b : Bool)
    (s' : SourceState) → a.kind ≡ Kill resumed last → IsAnswer b (IsKill p s a.process resumed last) s'
    → IsAnswer b (IsStep p s a) s'
kill_step p s a resumed last true s' e h = inr (inr (resumed, last, e, h))
kill_step p s a resumed last false s' e never = cases
  where
    cases : (u : SourceState) → IsStep p s a u → ⊥
    cases u (inl x) = subst IsOwn e (own p s a u x)
    cases u (inr (inl y)) = differ y.0 resumed last (sym y.1 ∙ e)
    cases u (inr (inr y)) =
        never u (subst (λ l. IsKill p s a.process resumed l u) (same_last resumed y.0 last y.1 (sym e ∙ y.2))
        (subst (λ r. IsKill p s a.process r y.1 u) (same_resumed resumed y.0 last y.1 (sym e ∙ y.2)) y.3))

not_kill : (k : ActionKind) (resumed : List ℕ) (last : Option ℕ)
    → ((v : Vec ℕ Global) (l : Option ℕ) → k ≡ Code.Kill v l → ⊥) → kind_of k ≡ Kill resumed last → ⊥
not_kill (Code.Kill v l) resumed last never e = never v l refl
not_kill other resumed last never e = cc

pub own_step : (p : Program) (s : SourceState) (n : ℕ) (k : ActionKind) (b : Bool) (s' : SourceState)
    → ((c : Member) → k ≡ Code.Stray c → ⊥) → ((v : Vec ℕ Global) (l : Option ℕ) → k ≡ Code.Kill v l → ⊥)
    → IsAnswer b (IsAction p s (record { process = n; kind = kind_of k })) s'
    → IsAnswer b (IsStep p s (record { process = n; kind = kind_of k })) s'
own_step p s n k true s' stray kill h = inl h
own_step p s n k false s' stray kill never = cases
  where
    cases : (u : SourceState) → IsStep p s (record { process = n; kind = kind_of k }) u → ⊥
    cases u (inl x) = never u x
    cases u (inr (inl y)) = stray y.0 (same_kind k (Code.Stray y.0) refl y.1)
    cases u (inr (inr y)) = not_kill k y.0 y.1 kill y.2
