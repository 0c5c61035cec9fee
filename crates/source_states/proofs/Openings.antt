-- The state in which every run begins.
use Rattle.std.proofs.Common.{◌≡◌, ℕ, cond, ◌==◌, List, Some, None, [], ap, ◌∙◌}
use Rattle.std.specs.Ordering.{nat_cmp}
use Rattle.std.specs.Prelude.{option_map}
use Rattle.words.specs.Updates.{put}
use Rattle.sorted_map.specs.Maps.{Updates}
use Rattle.source_offers.specs.declared.process.Process.{Process as ProcessOf}
use Rattle.source_offers.specs.Stages.{process_of}
use Rattle.source_table.proofs.Tables.{put_in}
use Rattle.source_states.specs.States.{processes_in}

-- one process in a map that had none
pub one_process : (before after : List (ℕ × ProcessOf)) (q : ProcessOf) → before ≡ []
    → Updates nat_cmp before after 1 (Some q)
    → processes_in after ≡ (λ r. cond (r == 1) (Some (process_of q)) None)
one_process before after q none at =
    put_in (option_map process_of) before after 1 (Some q) at
    ∙ ap (λ es. put (processes_in es) 1 (Some (process_of q))) none
