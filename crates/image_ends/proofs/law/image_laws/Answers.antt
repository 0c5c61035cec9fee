use Rattle.image_ends.proofs.Explaining.{all_over, none_aborted, all_over_in_pieces, none_aborted_in_pieces}
use Rattle.image_ends.proofs.law.image_laws.Goals as goal

pub returns-clause-never_hangs : goal.returns-clause-never_hangs
returns-clause-never_hangs c = λ p image may steps s refines nowhere run few calm rests.
    all_over p image may steps s refines run few calm nowhere rests

pub returns-clause-never_aborts : goal.returns-clause-never_aborts
returns-clause-never_aborts c = λ p image may steps s q cause refines nowhere run few calm e counted.
    none_aborted p image may steps s refines run few calm nowhere q cause e counted

pub returns-clause-pieces_never_hang : goal.returns-clause-pieces_never_hang
returns-clause-pieces_never_hang c = λ p image may buckets steps s refines nowhere some run few calm rests.
    all_over_in_pieces p image may buckets steps s refines some run few calm nowhere rests

pub returns-clause-pieces_never_abort : goal.returns-clause-pieces_never_abort
returns-clause-pieces_never_abort c = λ p image may buckets steps s q cause refines nowhere some run few calm e counted.
    none_aborted_in_pieces p image may buckets steps s refines some run few calm nowhere q cause e counted
