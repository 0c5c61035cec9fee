use Rattle.std.proofs.Common.{Some, refl}
use Rattle.program.specs.Views.{program_of}
use Rattle.source_search.specs.declared.living.Aim.TheVariants.{Act}
use Rattle.source_search.proofs.Lively.{key_live}
use Rattle.source_search.proofs.kept.Kept.rests_in.Goals as goal

pub returns-then-is_noted : goal.returns-then-is_noted
returns-then-is_noted c =
    key_live (program_of c.args.checked.now.tree) (Act (Some c.args.process)) c.args.self.now.parts
    c.args.self.now.states.items c.args.packed.now c.requires.live (c.is_noted.ensures c.if-is_noted.true)
    c.args.process refl
