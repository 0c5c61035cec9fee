use Rattle.std.proofs.Common.{◌∙◌, arith, refl}
use Rattle.program.specs.Names.{said_by}
use Rattle.program.specs.Trees.{as_version}
use Rattle.proof_simulation.specs.Progress.{opening_progress}
use Rattle.log_simulation.proofs.Progressing.{opens_so}
use Rattle.log_simulation.proofs.Versions.{by_same}
use Rattle.log_simulation.proofs.recorder.Recorder.new.Goals as goal

pub returns : goal.returns
returns c =
    let p = as_version c.args.layout.version (said_by c.args.checked.now) in
    let e = c.in_ok-new.ensures in
    record {
      of_program = record {
        program = by_same _ _ _ _ e.kept.0 e.kept.1;
        layout = e.kept.1 ∙ c.requires.layout;
        marks = c.requires.marks;
        places = c.in_ok-nothing.ensures.0;
        bits = c.in_ok-none_raised.ensures.0;
      };
      source = opening_progress p;
      comes = opens_so p;
      told = record {
        few = omega arith;
        counted = refl;
        matches = e.opens;
        deferred = c.in_ok-nothing.ensures.1;
        raised = c.in_ok-none_raised.ensures.1;
        bounded = λ t. omega arith;
      };
    }
