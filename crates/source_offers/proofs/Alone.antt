-- What is one action whatever its values are: where one can't be had, a fault comes in its place.
use Rattle.std.proofs.Common.{ℕ, ℤ, List, Option, Some, None}
use Rattle.std.specs.Prelude.{⊤}
use Rattle.program.specs.declared.kinds.Role.{Role}
use Rattle.program.specs.Scope.{array_size}
use Rattle.program.specs.Trees.{Assign, If, While, Call, Fork, Join, Return, Wait, Notify, Broadcast, Print, Abort}
use Rattle.program.specs.Trees.{Expression, Program, Statement, Target, ToLocal, ToMember, ToElement}
use Rattle.meaning.specs.Offers.{Offer, answers, assigns, statement_offer, with_index, with_value}
use Rattle.meaning.specs.Offers.{with_values}
use Rattle.meaning.specs.Processes.{Caller, Frame}
use Rattle.meaning.specs.Values.{Variables, Evaluated, Value, Fails, EvaluatedAll, Values, FailsAll, evaluate}
use Rattle.meaning.specs.Values.{evaluate_all, index_in}
use Rattle.source_offers.specs.Foreseen.{IsOneAction}

one_value : (e : Evaluated) (f : Frame) (callers : List Caller) (go : ℤ → Offer) → ((z : ℤ) → IsOneAction (go z))
    → IsOneAction (with_value e f callers go)
one_value (Value z) f callers go each = each z
one_value (Fails fault) f callers go each = tt

one_of_values : (e : EvaluatedAll) (f : Frame) (callers : List Caller) (go : List ℤ → Offer)
    → ((zs : List ℤ) → IsOneAction (go zs)) → IsOneAction (with_values e f callers go)
one_of_values (Values zs) f callers go each = each zs
one_of_values (FailsAll fault) f callers go each = tt

one_index : (i : Option ℕ) (f : Frame) (callers : List Caller) (go : ℕ → Offer) → ((k : ℕ) → IsOneAction (go k))
    → IsOneAction (with_index i f callers go)
one_index None f callers go each = tt
one_index (Some k) f callers go each = each k

-- at a RETURN, by the procedure's role
pub returned : (role : Role) → ((z : ℤ) (callers : List Caller) → IsOneAction (answers role z callers)) → (e : Evaluated)
    (f : Frame) (callers : List Caller) → IsOneAction (with_value e f callers (λ z. answers role z callers))
returned role each e f callers = one_value e f callers _ (λ z. each z callers)

-- by the kind of the statement
abbrev pub IsAlone : Statement → Type 0
IsAlone (Fork q es into) = ⊥
IsAlone (Join e into part) = ⊥
IsAlone (Notify c) = ⊥
IsAlone (Broadcast c) = ⊥
IsAlone (Return value) = ⊥
IsAlone other = ⊤

module _ (p : Program) (v : Variables) (f : Frame) (callers : List Caller) where
  one_assignment : (target : Target) (e : Expression) → IsOneAction (assigns p v f callers target e)
  one_assignment (ToLocal slot) e = one_value (evaluate p v f.locals e) f callers _ (λ z. tt)
  one_assignment (ToMember m) e = one_value (evaluate p v f.locals e) f callers _ (λ z. tt)
  one_assignment (ToElement a i) e =
      one_value (evaluate p v f.locals i) f callers _ (λ n.
      one_index (index_in (array_size p a) n) f callers _ (λ k.
      one_value (evaluate p v f.locals e) f callers _ (λ z. tt)))

  pub one_statement : (s : Statement) → IsAlone s → IsOneAction (statement_offer p v f callers s)
  one_statement (Assign target e) is = one_assignment target e
  one_statement (If e b part) is = one_value (evaluate p v f.locals e) f callers _ (λ z. tt)
  one_statement (While e b) is = one_value (evaluate p v f.locals e) f callers _ (λ z. tt)
  one_statement (Call q es into) is = one_of_values (evaluate_all p v f.locals es) f callers _ (λ zs. tt)
  one_statement (Fork q es into) is = absurd is
  one_statement (Join e into part) is = absurd is
  one_statement (Return value) is = absurd is
  one_statement (Wait c) is = tt
  one_statement (Notify c) is = absurd is
  one_statement (Broadcast c) is = absurd is
  one_statement (Print e) is = one_value (evaluate p v f.locals e) f callers _ (λ z. tt)
  one_statement Abort is = tt
