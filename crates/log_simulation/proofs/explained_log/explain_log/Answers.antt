use Rattle.std.proofs.Common.{[], refl, subst, sym}
use Rattle.isa.specs.Programs.{Program as Image}
use Rattle.piece_machine.specs.PieceViews.{parts}
use Rattle.program.specs.Names.{said_by}
use Rattle.program.specs.Trees.{as_version}
use Rattle.layout.proofs.Versions.{well_formed_as}
use Rattle.runner.specs.LogRuns.{steps_of}
use Rattle.runner.specs.Logs.{opening}
use Rattle.log_simulation.specs.Recording.{IsAlong, WalksTo}
use Rattle.log_simulation.specs.declared.walking.Walked.{Walked}
use Rattle.log_simulation.proofs.Stopping.{few_steps}
use Rattle.log_simulation.proofs.explained_log.explain_log.Goals as goal

pub returns-in-StopsAt : goal.returns-in-StopsAt
returns-in-StopsAt c =
    let v = c.args.layout.version in
    let p = as_version v (said_by c.args.checked.now) in
    let formed = well_formed_as v (said_by c.args.checked.now) c.checked_is_well_formed.ensures in
    let begins = subst (λ (i : Image). IsAlong p [] (opening i) c.in_ok-recorder.recorder)
    (sym c.requires.own) c.in_ok-recorder.ensures in
    subst (λ (w : Walked). WalksTo p c.args.log w c.walk.new.recorder) c.in-StopsAt.is
    (c.in_ok-number.ensures p formed c.requires.own begins)

pub returns-in_ok-actions-in-LeadsTo : goal.returns-in_ok-actions-in-LeadsTo
returns-in_ok-actions-in-LeadsTo c =
    let v = c.args.layout.version in
    let p = as_version v (said_by c.args.checked.now) in
    let formed = well_formed_as v (said_by c.args.checked.now) c.checked_is_well_formed.ensures in
    let log = c.args.log in
    let begins = subst (λ (i : Image). IsAlong p [] (opening i) c.in_ok-recorder.recorder)
    (sym c.requires.own) c.in_ok-recorder.ensures in
    let told = subst (λ (w : Walked). WalksTo p log w c.walk.new.recorder) c.in-LeadsTo.is
    (c.in_ok-number.ensures p formed c.requires.own begins) in
    record {
      recorded = record {
        machine = parts c.in-LeadsTo.last;
        legal = told.0.legal;
        short = few_steps p log (parts c.in-LeadsTo.last) c.walk.new.recorder told.0;
        explained = c.in_ok-actions-in-LeadsTo.ensures p (steps_of log) formed told.0.along
            told.0.whole;
      };
      last = refl;
      program = told.1;
    }
