-- What a stray wake-up is in the source.
use Rattle.std.specs.Prelude.{ℕ, ◌==◌, ◌&&◌, List, [], ◌∷◌, Option, Some, None, if◌then◌else◌}
use Rattle.words.specs.Updates.{put}
use Rattle.program.specs.declared.kinds.Member.{Member}
use Rattle.program.specs.Trees.{Program}
use Rattle.lowering.specs.Layout.{member_address}
use Rattle.meaning.specs.Labels.{Kind, Stray}
use Rattle.meaning.specs.States.{SourceState}
use Rattle.protocol.specs.Cells.{SequenceOf}
use Rattle.proof_templates.specs.Layout.{valid}

-- the condition that a process waits on, if its word has this address
abbrev pub stray_condition : Program → (address : ℕ) → Option Member → Option Member
stray_condition p a None = None
stray_condition p a (Some c) = if valid p (SequenceOf c) && (member_address p c == a) then Some c else None

-- the action of a process that waited on it
abbrev pub stray_kinds : Option Member → List Kind
stray_kinds None = []
stray_kinds (Some c) = Stray c ∷ []

-- and the state behind it
abbrev pub after_stray : ℕ → Option Member → SourceState → SourceState
after_stray t None a = a
after_stray t (Some c) a = record a { table = record a.table { waits = put a.table.waits t None } }
