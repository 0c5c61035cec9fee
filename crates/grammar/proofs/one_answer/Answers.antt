use Rattle.grammar.proofs.Law.{accepts, spells, limits, refused}
use Rattle.grammar.proofs.one_answer.Goals as goal

pub returns : goal.returns
returns c = record { accepts = accepts; spells = spells; limits = limits; refuses = refused }
