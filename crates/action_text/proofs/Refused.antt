-- Why a text tells no run.
use Rattle.std.proofs.Common.{◌+◌, ℕ, List, inl, inr, length, map, refl, subst, sym}
use Rattle.std.proofs.lemmas.Bool.{cases_lt}
use Rattle.std.proofs.lemmas.List.{take_all}
use Rattle.program.specs.Names.{CheckedProgram, said_by}
use Rattle.program.specs.Trees.{Program}
use Rattle.meaning.specs.Runs.{IsRun}
use Rattle.meaning.specs.States.{SourceState}
use Rattle.source_states.specs.Actions.{action_of}
use Rattle.source_states.specs.declared.action.Action.{Action as ActionOf}
use Rattle.sourcemeaning.specs.Running.{IsRunLength}
use Rattle.action_text.specs.Following.{IsFirstRefused, IsRefusedText, OfReading, StopsAfter}
use Rattle.action_text.specs.Reading.{IsActionsText, RefusesText}
use Rattle.action_text.specs.declared.following.FollowFault.{FollowFault}
use Rattle.action_text.specs.declared.following.FollowFault.TheVariants as fault
use Rattle.action_text.specs.declared.reading.ReadActionsFault.{ReadActionsFault}
use Rattle.action_text.specs.declared.reading.ReadActionsFault.TheVariants as read

-- of actions that are no run the first refused one is there
pub refused_there : (p : Program) (actions : List ActionOf) (count : ℕ) → IsRunLength p actions count
    → ((s : SourceState) → IsRun p (map action_of actions) s → ⊥) → IsFirstRefused p actions (count + 1)
refused_there p actions count is none = elim (cases_lt count (length actions)) [
  | inl less ↦ (count, is, less, refl)
  | inr past ↦
      let all = take_all count actions past in
      absurd (none is.end (subst (λ (xs : List ActionOf). IsRun p (map action_of xs) is.end) all is.run))
]

module _ (c : CheckedProgram) (text : List ℕ) where
  -- a text that isn't read
  pub unread_text : (e : ReadActionsFault) (f : FollowFault) → RefusesText c.names text e → OfReading e f
      → IsRefusedText c text f
  unread_text (read.Line number) f known gives = subst (IsRefusedText c text) (sym gives) known
  unread_text read.Memory f known gives = subst (IsRefusedText c text) (sym gives) tt

  -- actions that are no run
  pub stops_so : (actions : List ActionOf) (f : FollowFault) → IsActionsText c.names text (map action_of actions)
      → StopsAfter (said_by c) actions f → IsRefusedText c text f
  stops_so actions (fault.Line number) reads stops = absurd stops
  stops_so actions (fault.Action number) reads stops = record { actions = actions; reads = reads; stops = stops }
  stops_so actions fault.Memory reads stops = tt
