use Rattle.std.proofs.Common.{sym}
use Rattle.scanner.proofs.LineLaws.{line_place}
use Rattle.scanner.proofs.source.Source.take.Goals as goal

-- the column goes on by the count
pub returns-clause-place : goal.returns-clause-place
returns-clause-place c = sym (line_place c.args.self.now.place c.args.self.now.rest.now c.args.count
    c.requires.line.within c.requires.line.no_feed)
