-- Lists of actions and of states, as loops go over them.
use Rattle.std.proofs.Common.{◌≡◌, ◌<◌, ◌≤◌, ◌+◌, ◌∙◌, ℕ, List, [], ◌∷◌, ◌++◌, All, ap, append_assoc, arith, get_or, length, map}
use Rattle.std.proofs.Common.{subst, sym, take}
use Rattle.std.proofs.lemmas.List.{append-nil, map_more}
use Rattle.std.proofs.lemmas.List.Elements.{All-push}
use Rattle.meaning.specs.Labels.{Action}
use Rattle.meaning.specs.States.{SourceState}
use Rattle.source_states.specs.Actions.{action_of}
use Rattle.source_states.specs.declared.action.Action.{Action as ActionOf}
use Rattle.source_reaching.specs.Ends.{IsLonger}

-- what holds of some actions and of the next one
pub one_more_action : (P : Action → Type 0) (actions : List ActionOf) (i : ℕ) (a : ActionOf)
    → i < length actions → a ≡ get_or actions i a → All P (map action_of (take i actions)) → P (action_of a)
    → All P (map action_of (take (i + 1) actions))
one_more_action P actions i a less is all one =
    subst (All P)
    (sym (map_more action_of actions i a less
    ∙ ap (λ x. map action_of (take i actions) ++ action_of x ∷ []) (sym is)))
    (All-push P (map action_of (take i actions)) (action_of a) all one)

-- a list of one action
pub one_listed : (actions : List ActionOf) (a : ActionOf) → length actions ≡ 1 → a ≡ get_or actions 0 a
    → map action_of actions ≡ action_of a ∷ []
one_listed [] a one is = absurd (omega (arith, one))
one_listed (b ∷ []) a one is = ap (λ (x : ActionOf). action_of x ∷ []) (sym is)
one_listed (b ∷ c ∷ rest) a one is = absurd (omega (arith, one))

-- what holds of the only action
pub all_of_one : (P : Action → Type 0) (actions : List ActionOf) (a : ActionOf) → 1 ≤ length actions → length actions < 2
    → a ≡ get_or actions 0 a → P (action_of a) → All P (map action_of actions)
all_of_one P actions a some few is holds =
    subst (All P) (sym (one_listed actions a (omega (arith, some, few)) is))
    (All-push P [] (action_of a) (λ k d less. absurd (omega (arith, less))) holds)

pub longer_none : (ends : List SourceState) → IsLonger ends ends
longer_none ends = ([], sym (append-nil ends))

pub longer_twice : (a b c : List SourceState) → IsLonger a b → IsLonger b c → IsLonger a c
longer_twice a b c first second =
    (first.0 ++ second.0, second.1 ∙ ap (λ x. x ++ second.0) first.1 ∙ append_assoc a first.0 second.0)

pub longer_one : (a b : List SourceState) (s : SourceState) → b ≡ a ++ s ∷ [] → IsLonger a b
longer_one a b s is = (s ∷ [], is)
