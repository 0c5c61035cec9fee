-- An action of the code has the name of another only where it is the other.
use Rattle.std.proofs.Common.{◌≡◌, ◌⊎◌, Option, Some, None, refl, ap, sym, ◌∙◌, inl, inr}
use Rattle.meaning.specs.Labels.{Kind, Assign, Test, Call, Return, Print, Fork, Claim, Join, Fails, Enter, Exit, Wait}
use Rattle.meaning.specs.Labels.{Resume, Notify, Broadcast, Abandon, Finish, Stray, Kill}
use Rattle.source_states.specs.declared.action.ActionKind.{ActionKind}
use Rattle.source_states.specs.declared.action.ActionKind.TheVariants as Code
use Rattle.source_states.specs.Actions.{kind_of}

-- the action of the code that has this name, where it has no list
abbrev named_so : Kind → Option ActionKind
named_so Assign = Some Code.Assign
named_so Test = Some Code.Test
named_so Call = Some Code.Call
named_so Return = Some Code.Return
named_so (Print z) = Some (Code.Print z)
named_so (Fork child) = Some (Code.Fork child)
named_so (Claim child) = Some (Code.Claim child)
named_so (Join child) = Some (Code.Join child)
named_so (Fails fault) = Some (Code.Fails fault)
named_so (Enter m) = Some (Code.Enter m)
named_so (Exit m) = Some (Code.Exit m)
named_so (Wait c) = Some (Code.Wait c)
named_so (Resume m) = Some (Code.Resume m)
named_so (Notify c resumed) = None
named_so (Broadcast c resumed) = None
named_so (Abandon m) = Some (Code.Abandon m)
named_so Finish = Some Code.Finish
named_so (Stray c) = Some (Code.Stray c)
named_so (Kill resumed last) = None

is_named_so : (k : ActionKind) → (named_so (kind_of k) ≡ Some k) ⊎ (named_so (kind_of k) ≡ None)
is_named_so (Code.Notify c resumed) = inr refl
is_named_so (Code.Broadcast c resumed) = inr refl
is_named_so (Code.Kill resumed last) = inr refl
is_named_so Code.Assign = inl refl
is_named_so Code.Test = inl refl
is_named_so Code.Call = inl refl
is_named_so Code.Return = inl refl
is_named_so (Code.Print z) = inl refl
is_named_so (Code.Fork child) = inl refl
is_named_so (Code.Claim child) = inl refl
is_named_so (Code.Join child) = inl refl
is_named_so (Code.Fails fault) = inl refl
is_named_so (Code.Enter m) = inl refl
is_named_so (Code.Exit m) = inl refl
is_named_so (Code.Wait c) = inl refl
is_named_so (Code.Resume m) = inl refl
is_named_so (Code.Abandon m) = inl refl
is_named_so Code.Finish = inl refl
is_named_so (Code.Stray c) = inl refl

some_once : {A : Type 0} (x y : A) → Some x ≡ Some y → x ≡ y
some_once x y e = cc

none_some : {A : Type 0} (x : A) → None ≡ Some x → ⊥
none_some x e = cc

pub same_kind : (k l : ActionKind) → named_so (kind_of l) ≡ Some l → kind_of k ≡ kind_of l → k ≡ l
same_kind k l is same = by_case (is_named_so k)
  where
    by_case : (named_so (kind_of k) ≡ Some k) ⊎ (named_so (kind_of k) ≡ None) → k ≡ l
    by_case (inl e) = some_once k l (sym e ∙ ap named_so same ∙ is)
    by_case (inr e) = absurd (none_some l (sym e ∙ ap named_so same ∙ is))
