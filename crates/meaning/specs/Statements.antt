-- What the next statement offers, in a frame and with the callers that it has.
use Rattle.std.specs.Prelude.{ℕ, zero, suc, ℤ, pos, negsuc, Bool, true, false, List, [], ◌∷◌, Option, Some}
use Rattle.std.specs.Prelude.{None}
use Rattle.words.specs.declared.outcome.Fault.{Fault}
use Rattle.words.specs.declared.outcome.Fault.TheVariants.{HandleNotJoinable, ProcessTableFull, AbortStatement}
use Rattle.words.specs.declared.outcome.Fault.TheVariants.{JoinedAborted, IndexOutOfRange}
use Rattle.program.specs.declared.kinds.Role.{Role}
use Rattle.program.specs.declared.kinds.Role.TheVariants.{Entry, Internal, Recover, External, Main}
use Rattle.program.specs.Scope.{array_size}
use Rattle.program.specs.Trees.{Expression, Target, ToLocal, ToMember, ToElement, Statement, Assign, If, While, Call}
use Rattle.program.specs.Trees.{Fork, Join, Return, Wait, Notify, Broadcast, Print, Abort, Block, Done, Then, Part}
use Rattle.program.specs.Trees.{NoPart, SomePart, Program, followed_by, block_of_part}
use Rattle.meaning.specs.Values.{Variables, Evaluated, Value, Fails, EvaluatedAll, Values, FailsAll, evaluate}
use Rattle.meaning.specs.Values.{evaluate_all, index_in, is_true}
use Rattle.meaning.specs.Labels.{Faulted, End, Ended, Aborted, Alone, Stores, Exits, Waits}
use Rattle.meaning.specs.Labels as L
use Rattle.meaning.specs.Processes.{Frame, Caller, Process, Suspended, Joining, Returning, Failing}
use Rattle.meaning.specs.Processes.{Dying, goes_on, begins, opening_frame, with_local}
use Rattle.meaning.specs.Processes.{with_result, hands_over, all_monitors}
use Rattle.meaning.specs.Offering.{Offer, Rests, Does, MakesOne, ClaimsOne, NotifiesSome, NotifiesAll, Nothing, Puts}
use Rattle.meaning.specs.Offering.{Writes}

-- a process that faults, dying with the monitors that it holds
abbrev pub dies : Fault → Frame → List Caller → Process
dies fault f callers = Dying (Faulted fault) (all_monitors f callers)

-- a fault comes in place of the action that would fault
abbrev pub faults : Fault → Frame → List Caller → Offer
faults fault f callers = Does (Alone (L.Fails fault)) Nothing (dies fault f callers)

-- what comes of a value, or the fault in its place
abbrev pub with_value : Evaluated → Frame → List Caller → (ℤ → Offer) → Offer
with_value (Value z) f callers go = go z
with_value (Fails fault) f callers go = faults fault f callers

-- the same of several values
abbrev pub with_values : EvaluatedAll → Frame → List Caller → (List ℤ → Offer) → Offer
with_values (Values zs) f callers go = go zs
with_values (FailsAll fault) f callers go = faults fault f callers

-- the index of an element, which is tested before anything to its right is evaluated
abbrev pub with_index : Option ℕ → Frame → List Caller → (ℕ → Offer) → Offer
with_index None f callers go = faults IndexOutOfRange f callers
with_index (Some i) f callers go = go i

-- at the end of a body, or at a RETURN: an ENTRY procedure gives up its monitor with the result, every other hands the
-- result over
abbrev pub answers : Role → ℤ → List Caller → Offer
answers (Entry m) z callers = Does (Exits m) Nothing (Returning z callers)
answers (Internal m) z callers = Does (Alone L.Return) Nothing (hands_over z callers)
answers External z callers = Does (Alone L.Return) Nothing (hands_over z callers)
answers (Recover m) z callers = Rests
answers Main z callers = Rests

-- the first where the test is TRUE, else the second
abbrev pub chosen_block : Bool → Block → Block → Block
chosen_block true b c = b
chosen_block false b c = c

-- what comes of a JOIN: the result, or the ABORTED part, or a fault where there is none
abbrev pub joined_part : Part → Frame → List Caller → Process
joined_part NoPart f callers = Failing JoinedAborted None f callers
joined_part (SomePart b) f callers = goes_on None (record f { rest = followed_by b f.rest }) callers

-- where a process goes on behind a JOIN, by how the process that it joined ended
abbrev pub after_join : Option ℕ → Part → Frame → List Caller → End → Process
after_join into part f callers (Ended z) = goes_on None (with_result into z f) callers
after_join into part f callers (Aborted cause) = joined_part part f callers

-- a handle that is empty can't be claimed
abbrev pub claims : ℤ → Option ℕ → Part → Frame → List Caller → Offer
claims (pos zero) into part f callers = faults HandleNotJoinable f callers
claims (pos (suc n)) into part f callers = ClaimsOne (suc n) (Joining (suc n) into part f callers)
    (dies HandleNotJoinable f callers)
claims (negsuc n) into part f callers = faults HandleNotJoinable f callers

-- an assignment, by where its value goes
abbrev pub assigns : Program → Variables → Frame → List Caller → Target → Expression → Offer
assigns p v f callers (ToLocal slot) e =
    with_value (evaluate p v f.locals e) f callers (λ z. Does (Alone L.Assign) Nothing
    (goes_on None (with_local f slot z) callers))
assigns p v f callers (ToMember m) e =
    with_value (evaluate p v f.locals e) f callers (λ z. Does (Stores m.monitor) (Puts m.monitor m.number 0 z)
    (goes_on None f callers))
assigns p v f callers (ToElement a i) e =
    with_value (evaluate p v f.locals i) f callers (λ n. with_index (index_in (array_size p a) n) f callers (λ k.
    with_value (evaluate p v f.locals e) f callers (λ z. Does (Stores a.monitor) (Puts a.monitor a.number k z)
    (goes_on None f callers))))

-- the value of a RETURN: a RETURN without an expression, and a body that ends without one, answer 0 or FALSE
abbrev pub return_value : Program → Variables → Frame → Option Expression → Evaluated
return_value p v f None = Value (pos 0)
return_value p v f (Some e) = evaluate p v f.locals e

-- the next statement, in a frame that has what comes after it as its rest
abbrev pub statement_offer : Program → Variables → Frame → List Caller → Statement → Offer
statement_offer p v f callers (Assign target e) = assigns p v f callers target e
statement_offer p v f callers (If e b part) =
    with_value (evaluate p v f.locals e) f callers (λ z.
    Does (Alone L.Test) Nothing (goes_on None (record f {
      rest = followed_by
          (chosen_block (is_true z) b (block_of_part part)) f.rest;
    }) callers))
statement_offer p v f callers (While e b) =
    with_value (evaluate p v f.locals e) f callers (λ z.
    Does (Alone L.Test) Nothing (goes_on None (record f {
      rest = chosen_block (is_true z)
          (followed_by b (Then (While e b) f.rest)) f.rest;
    }) callers))
statement_offer p v f callers (Call q es into) =
    with_values (evaluate_all p v f.locals es) f callers (λ zs.
    Does (Alone L.Call) Nothing (begins (opening_frame p q zs) (record { into = into; frame = f } ∷ callers)))
statement_offer p v f callers (Fork q es into) =
    with_values (evaluate_all p v f.locals es) f callers (λ zs.
    MakesOne (begins (opening_frame p q zs) []) (λ child. goes_on None (with_local f into (pos child)) callers)
    (dies ProcessTableFull f callers))
statement_offer p v f callers (Join e into part) = with_value (evaluate p v f.locals e) f callers
    (λ z. claims z into part f callers)
statement_offer p v f callers (Return value) = with_value (return_value p v f value) f callers
    (λ z. answers f.role z callers)
statement_offer p v f callers (Wait c) = Does (Waits c) Nothing (Suspended c f callers)
statement_offer p v f callers (Notify c) = NotifiesSome c (goes_on None f callers)
statement_offer p v f callers (Broadcast c) = NotifiesAll c (goes_on None f callers)
statement_offer p v f callers (Print e) =
    with_value (evaluate p v f.locals e) f callers (λ z. Does (Alone (L.Print z)) (Writes z) (goes_on None f callers))
statement_offer p v f callers Abort = faults AbortStatement f callers

-- what is left of a body: its next statement, or at its end the answer to the caller
abbrev pub rest_offer : Program → Variables → Frame → List Caller → Block → Offer
rest_offer p v f callers Done = answers f.role (pos 0) callers
rest_offer p v f callers (Then s rest) = statement_offer p v (record f { rest = rest }) callers s
