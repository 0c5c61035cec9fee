-- The internal action that a process can take next: one that no other process sees.
use Rattle.std.specs.Prelude.{ℕ, ◌≡◌, Option, Some, None, nat_le, if◌then◌else◌}
use Rattle.program.specs.Trees.{Program}
use Rattle.meaning.specs.Labels.{Kind, Label, FindsFull, FindsClaimed, kind_of}
use Rattle.meaning.specs.Offers.{Offer, Does, MakesOne, ClaimsOne, offer}
use Rattle.meaning.specs.Processes.{Process}
use Rattle.meaning.specs.Runs.{IsStep}
use Rattle.meaning.specs.States.{SourceState}
use Rattle.meaning.specs.Table.{Table}
use Rattle.proof_commutation.specs.Deferring.{is_internal}

-- a label's action, where it is internal
abbrev pub if_internal : Label → Option Kind
if_internal label = if is_internal label then Some (kind_of label) else None

-- of a process with this offer. Where no process can be made any more, or the child was claimed before, that is the
-- fault
abbrev pub internal_kind : Offer → Table → Option Kind
internal_kind (Does label effect after) T = if_internal label
internal_kind (MakesOne child after full) T = if nat_le T.most T.made then Some (kind_of FindsFull) else None
internal_kind (ClaimsOne child after refused) T = if T.claimed child then Some (kind_of (FindsClaimed child)) else None
internal_kind other T = None

-- the internal action that a process can take, if there is such a process
abbrev pub internal_from : Program → SourceState → Option Process → Option Kind
internal_from p s None = None
internal_from p s (Some q) = internal_kind (offer p s.variable q) s.table

-- the same, by the process's number
abbrev pub next_internal : Program → SourceState → ℕ → Option Kind
next_internal p s n = internal_from p s (s.process n)

-- it was taken; or there is none, and the second state is the first
abbrev pub IsInternalTaken : Program → ℕ → Option Kind → SourceState → SourceState → Type 0
IsInternalTaken p n None s s' = (next_internal p s n ≡ None) × (s' ≡ s)
IsInternalTaken p n (Some kind) s s' =
    (next_internal p s n ≡ Some kind) × IsStep p s (record { process = n; kind = kind }) s'
