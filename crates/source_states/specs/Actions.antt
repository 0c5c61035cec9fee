-- The actions of the code, as actions of the meaning.
use Rattle.meaning.specs.Labels.{Action, Kind, Assign, Test, Call, Return, Print, Fork, Claim, Join, Fails, Enter}
use Rattle.meaning.specs.Labels.{Exit, Wait, Resume, Notify, Broadcast, Abandon, Finish, Stray, Kill}
use Rattle.source_states.specs.declared.action.Action.{Action as ActionOf}
use Rattle.source_states.specs.declared.action.ActionKind.{ActionKind}
use Rattle.source_states.specs.declared.action.ActionKind.TheVariants as Code

-- what an action does
abbrev pub kind_of : ActionKind → Kind
kind_of Code.Assign = Assign
kind_of Code.Test = Test
kind_of Code.Call = Call
kind_of Code.Return = Return
kind_of (Code.Print z) = Print z
kind_of (Code.Fork child) = Fork child
kind_of (Code.Claim child) = Claim child
kind_of (Code.Join child) = Join child
kind_of (Code.Fails fault) = Fails fault
kind_of (Code.Enter m) = Enter m
kind_of (Code.Exit m) = Exit m
kind_of (Code.Wait c) = Wait c
kind_of (Code.Resume m) = Resume m
kind_of (Code.Notify c resumed) = Notify c resumed.items
kind_of (Code.Broadcast c resumed) = Broadcast c resumed.items
kind_of (Code.Abandon m) = Abandon m
kind_of Code.Finish = Finish
kind_of (Code.Stray c) = Stray c
kind_of (Code.Kill resumed last) = Kill resumed.items last

-- an action, with its process
abbrev pub action_of : ActionOf → Action
action_of a = record { process = a.process; kind = kind_of a.kind }
