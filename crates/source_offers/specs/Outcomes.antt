-- What the code answers for an expression, as the meaning has it.
use Rattle.std.specs.Prelude.{ℕ, ℤ, ◌≡◌, Result, Ok, Err, Some, None, Vec}
use Rattle.std.specs.Global.{Global}
use Rattle.words.specs.declared.outcome.Fault.{Fault}
use Rattle.words.specs.declared.outcome.Fault.TheVariants.{IndexOutOfRange}
use Rattle.program.specs.declared.kinds.Member.{Member}
use Rattle.meaning.specs.Values.{Evaluated, Value, Fails, EvaluatedAll, Values, FailsAll, index_in}
use Rattle.source_offers.specs.declared.variables.Place.{Place}

-- one value
abbrev pub evaluation_of : Result ℤ Fault → Evaluated
evaluation_of (Ok z) = Value z
evaluation_of (Err fault) = Fails fault

-- several values
abbrev pub evaluated_all : Result (Vec ℤ Global) Fault → EvaluatedAll
evaluated_all (Ok v) = Values v.items
evaluated_all (Err fault) = FailsAll fault

-- the answer for an index: the element of the array, or the fault
abbrev pub element_of : ℕ → Member → ℤ → Result Place Fault → Type 0
element_of size array z (Ok place) =
    (index_in size z ≡ Some place.index) × (place.monitor ≡ array.monitor) × (place.member ≡ array.number)
element_of size array z (Err fault) = (index_in size z ≡ None) × (fault ≡ IndexOutOfRange)
