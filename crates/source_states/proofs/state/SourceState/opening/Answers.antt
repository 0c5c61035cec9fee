use Rattle.std.proofs.Common.{◌≡◌, ◌==◌, ◌∙◌, ◌-◌, [], Some, None, ap, cond, length, sym, vec_len}
use Rattle.std.proofs.lemmas.List.{length-map}
use Rattle.program.specs.Trees.{as_version}
use Rattle.program.specs.Views.{procedure_of, program_of}
use Rattle.meaning.specs.Processes.{begins, opening_frame}
use Rattle.meaning.specs.States.{main_process}
use Rattle.source_offers.specs.Stages.{process_of}
use Rattle.source_states.proofs.Openings.{one_process}
use Rattle.source_states.proofs.state.SourceState.opening.Goals as goal

pub returns : goal.returns
returns c =
    let main : process_of c.in_ok-main.main ≡ main_process (as_version c.args.version (program_of c.args.checked.now.tree)) =
    let last : c.saturating_sub-last.result ≡ length (program_of c.args.checked.now.tree).procedures - 1 =
    c.saturating_sub-last.ensures
    ∙ ap (λ n. n - 1) (c.len.ensures ∙ ap (λ t. vec_len t.procedures) c.program-program.ensures.is
    ∙ c.args.checked.now.tree.procedures.ok.0 ∙ sym (length-map c.args.checked.now.tree.procedures.items procedure_of)) in
    c.in_ok-main.ensures
    ∙ (λ i. begins (opening_frame (program_of (c.program-program.ensures.is i)) (last i) []) []) in
    λ i. record {
      table = c.new.ensures i;
      variable = c.new-2.ensures i;
      process = (one_process c.new-processes.result c.insert.new.self c.in_ok-main.main c.new-processes.ensures
          c.in_ok-insert.ensures.ok ∙ ap (λ q r. cond (r == 1) (Some q) None) main) i;
      printed = c.new-3.ensures.items i;
    }
