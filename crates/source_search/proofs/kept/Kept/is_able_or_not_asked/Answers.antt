use Rattle.std.proofs.Common.{subst, sym}
use Rattle.source_search.specs.Living.{IsAsked}
use Rattle.source_search.proofs.kept.Kept.is_able_or_not_asked.Goals as goal

pub returns-then-not-is_asked : goal.returns-then-not-is_asked
returns-then-not-is_asked c = λ e asked.
    absurd ((rw c.if-not-is_asked.true at c.is_asked.ensures)
    (subst (IsAsked c.args.who) (sym c.requires.number) asked))
