use Rattle.scanner.proofs.Readings.{tokens_unique, tokens_join, tokens_span, tokens_end}
use Rattle.scanner.proofs.laws.token_laws.Goals as goal

pub returns-clause-one : goal.returns-clause-one
returns-clause-one c = tokens_unique

pub returns-clause-joined : goal.returns-clause-joined
returns-clause-joined c = tokens_join

pub returns-clause-places : goal.returns-clause-places
returns-clause-places c = tokens_span

pub returns-clause-ends : goal.returns-clause-ends
returns-clause-ends c = tokens_end
