use Rattle.std.proofs.Common.{All, arith, subst, sym}
use Rattle.program.specs.Views.{program_of}
use Rattle.source_search.specs.Known.{AreKnown}
use Rattle.source_search.specs.Packed.{IsWithin}
use Rattle.source_search.proofs.Lively.{none_live}
use Rattle.source_search.proofs.kept.Kept.find_live.Goals as goal

pub spread-requires-clause-sound : goal.spread-requires-clause-sound
spread-requires-clause-sound c =
    subst (All (IsWithin c.begin.new.self.parts)) (sym c.begin.ensures.states) (λ k d l. absurd (omega (arith, l)))

pub spread-requires-clause-within : goal.spread-requires-clause-within
spread-requires-clause-within c =
    subst (λ parts. All (IsWithin parts) c.args.states.now) (sym c.begin.ensures.parts) c.requires.within

pub spread-requires-clause-known : goal.spread-requires-clause-known
spread-requires-clause-known c =
    subst (λ parts. AreKnown (program_of c.args.checked.now.tree) parts c.args.memo.now) (sym c.begin.ensures.parts)
    c.requires.known

pub spread-requires-clause-live : goal.spread-requires-clause-live
spread-requires-clause-live c =
    none_live (program_of c.args.checked.now.tree) c.args.aim c.begin.new.self.parts c.begin.new.self.states.items
    c.begin.ensures.states
