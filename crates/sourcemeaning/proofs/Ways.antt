-- Runs that go on by an action, or can't.
use Rattle.std.proofs.Common.{◌≡◌, ◌+◌, ◌<◌, ℕ, List, [], ◌∷◌, ◌++◌, length, get_or, map, take, ap, sym, ◌∙◌, subst}
use Rattle.std.proofs.Common.{add-one}
use Rattle.std.proofs.Math.Seq.{take-suc}
use Rattle.std.proofs.lemmas.List.{map-append}
use Rattle.program.specs.Trees.{Program}
use Rattle.meaning.specs.Runs.{IsRun, IsStep}
use Rattle.meaning.specs.States.{SourceState, opening}
use Rattle.meaning.proofs.Led.{leads_more, leads_once, leads_split}
use Rattle.source_states.specs.declared.action.Action.{Action as ActionOf}
use Rattle.source_states.specs.Actions.{action_of}

-- one action more
one_more : (xs : List ActionOf) (i : ℕ) (x : ActionOf) → i < length xs → x ≡ get_or xs i x
    → map action_of (take (i + 1) xs) ≡ map action_of (take i xs) ++ action_of x ∷ []
one_more xs i x l is =
    ap (λ n. map action_of (take n xs)) (add-one i)
    ∙ ap (map action_of) (take-suc xs i x l ∙ ap (λ y. take i xs ++ y ∷ []) (sym is))
    ∙ map-append action_of (take i xs) (x ∷ [])

-- the run goes on
pub goes_on : (p : Program) (xs : List ActionOf) (i : ℕ) (x : ActionOf) (s t : SourceState)
    → i < length xs → x ≡ get_or xs i x → IsRun p (map action_of (take i xs)) s → IsStep p s (action_of x) t
    → IsRun p (map action_of (take (i + 1) xs)) t
goes_on p xs i x s t l is run step =
    subst (λ as'. IsRun p as' t) (sym (one_more xs i x l is))
    (leads_more p (opening p) s t (map action_of (take i xs)) (action_of x) run step)

-- the run ends here
pub ends_here : (p : Program) (xs : List ActionOf) (i : ℕ) (x : ActionOf) (s : SourceState)
    → i < length xs → x ≡ get_or xs i x → IsRun p (map action_of (take i xs)) s
    → ((u : SourceState) → IsStep p s (action_of x) u → ⊥)
    → (t : SourceState) → IsRun p (map action_of (take (i + 1) xs)) t → ⊥
ends_here p xs i x s l is run never t more =
    let split = leads_split p (opening p) t (map action_of (take i xs)) (action_of x ∷ [])
    (subst (λ as'. IsRun p as' t) (one_more xs i x l is) more) in
    let same : split.0 ≡ s = leads_once p (opening p) split.0 s (map action_of (take i xs)) split.1 run in
    never split.2.0 (subst (λ m. IsStep p m (action_of x) split.2.0) same split.2.1)
