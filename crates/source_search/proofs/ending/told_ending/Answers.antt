use Rattle.std.proofs.Common.{◌≡◌, ◌∙◌, false, inl, inr, sym}
use Rattle.std.proofs.lemmas.Result.{IfOk-weaker}
use Rattle.program.specs.Views.{program_of}
use Rattle.source_search.specs.Ending.{EachMayEnd, HasUnended}
use Rattle.source_search.specs.Found.{is_any}
use Rattle.source_search.proofs.ending.told_ending.Goals as goal

pub returns-then-not-asked : goal.returns-then-not-asked
returns-then-not-asked c = λ told. c.if-not-asked.true

pub returns-then-not-complete : goal.returns-then-not-complete
returns-then-not-complete c = λ told. inr c.if-not-complete.true

pub returns-then-is_any : goal.returns-then-is_any
returns-then-is_any c = λ told. inl (sym c.is_any.ensures ∙ c.if-is_any.true)

pub returns-in-None : goal.returns-in-None
returns-in-None c = λ told.
    let p = program_of c.args.checked.now.tree in
    let none : is_any c.args.outside ≡ false = sym c.is_any.ensures ∙ c.if-is_any.false in
    let each : EachMayEnd p c.args.outside =
    rw c.in-None.is at (told c.if-not-asked.false c.if-not-complete.false none) in
    each

pub returns-in-Some : goal.returns-in-Some
returns-in-Some c = λ told.
    let p = program_of c.args.checked.now.tree in
    let none : is_any c.args.outside ≡ false = sym c.is_any.ensures ∙ c.if-is_any.false in
    let unended : HasUnended p c.args.outside =
    rw c.in-Some.is at (told c.if-not-asked.false c.if-not-complete.false none) in
    IfOk-weaker c.lost_at.result _ _ (λ e is. is c.args.asked c.args.complete) (c.lost_at.ensures unended)
