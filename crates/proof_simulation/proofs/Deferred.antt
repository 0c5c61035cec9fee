-- Which actions of a process may wait.
use Rattle.std.proofs.Common.{◌≡◌, ℕ, true, Option, Some, List, [], ◌∷◌, inl, refl, sym, subst, ◌∙◌}
use Rattle.program.specs.Trees.{Program, Return, Block, Done, Then}
use Rattle.program.specs.WellFormed.{WellFormed}
use Rattle.program.specs.declared.kinds.Role.{Role}
use Rattle.program.specs.declared.kinds.Role.TheVariants.{Recover, Main}
use Rattle.machine.specs.States.{State}
use Rattle.locals.specs.Threads.{Thread}
use Rattle.meaning.specs.Labels.{End, Kind, Label, Alone}
use Rattle.meaning.specs.Labels as L
use Rattle.meaning.specs.Table.{Allows, HeldBy}
use Rattle.meaning.specs.Processes.{Frame, Caller, Process, Over, goes_on_by, holds}
use Rattle.meaning.specs.Offers.{Offer, Nothing, offer, TakesUp}
use Rattle.meaning.specs.States.{SourceState}
use Rattle.proof_commutation.specs.Deferring.{is_internal, MayDefer}
use Rattle.protocol.specs.World.{mem}
use Rattle.protocol.proofs.Good.{Good}
use Rattle.protocol.proofs.Rest.{matches}
use Rattle.proof_thread.specs.Following.{Build, Stands, runs, enters, returns, fails, own_of}
use Rattle.proof_thread.specs.Completing.{IsOwn, IsInternal}
use Rattle.proof_templates.specs.Inside.{IsSteady}
use Rattle.proof_simulation.specs.Corresponding.{Corresponds}
use Rattle.proof_simulation.proofs.Standings.{first_in}
use Rattle.proof_simulation.proofs.Worlds.{reached_good}

-- an action that no other process learns of is the process's own
pub own_kind : (kind : Kind) → IsInternal kind → IsOwn kind
own_kind L.Assign h = tt
own_kind L.Test h = tt
own_kind L.Call h = tt
own_kind L.Return h = tt
own_kind (L.Fails fault) h = tt
own_kind kind h = absurd h

pub internal_kind : (kind : Kind) → IsInternal kind → is_internal (Alone kind) ≡ true
internal_kind L.Assign h = refl
internal_kind L.Test h = refl
internal_kind L.Call h = refl
internal_kind L.Return h = refl
internal_kind (L.Fails fault) h = refl
internal_kind kind h = absurd h

-- a process that goes on isn't over
goes_on_open : (role : Role) (rest : Block) (entered : Option ℕ) (f : Frame) (cs : List Caller) (end : End)
    → goes_on_by role rest entered f cs ≡ Over end → ⊥
goes_on_open (Recover m) Done entered f [] end h = cc
goes_on_open (Recover m) Done entered f (c ∷ cs) end h = cc
goes_on_open (Recover m) (Then s rest) entered f cs end h = cc
goes_on_open Main Done entered f cs end h = cc
goes_on_open Main (Then (Return value) rest) entered f cs end h = cc
goes_on_open role rest entered f cs end h = cc

-- nor is one for which a thread stands
pub stands_open : (b : Build) (t : ℕ) (x : Thread) (q : Process) → Stands b t x q → (end : End) → q ≡ Over end → ⊥
stands_open b t x q (runs entered f cs place l fs walk at is) end h =
    goes_on_open f.role f.rest entered f cs end (sym is ∙ h)
stands_open b t x q (enters m f cs place l fs walk at is) end h = cc
stands_open b t x q (returns z cs place shown l fs walk at is) end h = cc
stands_open b t x q (fails m f cs walk is) end h = cc

module _ (p : Program) (w : WellFormed p) (steps : ℕ) (s : State) (c : SourceState) (k : Corresponds p w steps s c)
    (t : ℕ) where
  inv : Good k.world c.table
  inv = reached_good p.version k.world c.table k.reached

  -- a thread holds the monitors of its robust list
  pub holder : (m : ℕ) → mem m (k.world.at t).list ≡ true → c.table.hold m ≡ HeldBy t
  holder m h = (matches k.world c.table inv).has m t (inl h)

  -- what a steady process offers is the same whatever becomes of the monitors that it doesn't hold
  pub may_defer : (q r : Process) (label : Label) → (k.world.at t).list ≡ holds q → IsSteady p q c.variable
      → is_internal label ≡ true → TakesUp (offer p c.variable q) label Nothing r → Allows t label c.table c.table
      → ((end : End) → r ≡ Over end → ⊥) → MayDefer p t c.variable c.table q label r
  may_defer q r label list steady internal takes allows still = record {
    internal = internal;
    takes = λ v' same. subst (λ (o : Offer). TakesUp o label Nothing r)
        (sym (steady.same v' (λ m own n i. same m (held m own) n i))) takes;
    allows = allows;
    goes_on = still;
  }
    where
      held : (m : ℕ) → own_of q ≡ Some m → c.table.hold m ≡ HeldBy t
      held m own = let first = steady.first m own in
          holder m (first_in m first.0 (k.world.at t).list (list ∙ first.1))
