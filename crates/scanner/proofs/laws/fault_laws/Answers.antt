use Rattle.scanner.proofs.Readings.{fault_unique, not_both}
use Rattle.scanner.proofs.laws.fault_laws.Goals as goal

pub returns-clause-one : goal.returns-clause-one
returns-clause-one c = fault_unique

pub returns-clause-no_tokens : goal.returns-clause-no_tokens
returns-clause-no_tokens c = not_both
