use Rattle.std.proofs.Common.{sym, ◌∙◌}
use Rattle.program.specs.Views.{program_of}
use Rattle.source_search.proofs.Remembered.{fit_known}
use Rattle.source_search.proofs.search.Findings.look_at.Goals as goal

pub look_turns-requires-clause-known : goal.look_turns-requires-clause-known
look_turns-requires-clause-known c = fit_known (program_of c.args.checked.now.tree) c.args.kept.now.parts c.args.memo.now
    (c.requires.known (sym c.interleaves.ensures ∙ c.if-interleaves.false)) c.fit.new.self c.in_ok-fit.ensures
