-- Whether what a process offers is internal, as the code knows it before anything is done.
use Rattle.std.specs.Prelude.{if◌then◌else◌}
use Rattle.proof_commutation.specs.Deferring.{is_internal}
use Rattle.meaning.specs.Offers.{Offer, Does, MakesOne, ClaimsOne}
use Rattle.meaning.specs.Values.{EvaluatedAll, Values, FailsAll}
use Rattle.source_offers.specs.declared.ahead.Ahead.{Ahead}
use Rattle.source_offers.specs.declared.ahead.Ahead.TheVariants.{Internal, Visible, Makes, Claims}

-- whether an offer is internal; of a fork and a claim that depends on the table
abbrev pub ahead_of : Offer → Ahead
ahead_of (Does label effect after) = if is_internal label then Internal else Visible
ahead_of (MakesOne child after full) = Makes
ahead_of (ClaimsOne child after refused) = Claims child
ahead_of other = Visible

-- the same of a FORK, by its arguments
abbrev pub fork_ahead : EvaluatedAll → Ahead
fork_ahead (Values zs) = Makes
fork_ahead (FailsAll fault) = Internal
