use Rattle.std.proofs.Common.{subst}
use Rattle.mesamon.specs.Asked.{HasWorkers}
use Rattle.commandline.specs.CommandLine.{version_by}
use Rattle.compiler.specs.Accepts.{RefusesTextAs}
use Rattle.answers.specs.Asked.{IsReplayedAs, IsRunAs, log_beside}
use Rattle.answers.specs.Causes.{FailsExplanation, FailsFollowing, FailsImage, FailsReplay, FailsRun, FailsShrinking}
use Rattle.answers.specs.Done.{HasExecuted, HasExplained, HasRun}
use Rattle.answers.specs.Exploring.{HasExplored}
use Rattle.answers.specs.Retelling.{FailsRetelling}
use Rattle.answers.specs.Images.{HasFollowed, HasSearched, UnassemblesAs}
use Rattle.answers.specs.Shrinking.{HasShrunk}
use Rattle.answers.proofs.Told.{or_memory}
use Rattle.mesamon.proofs.Answered.{done_as, done_by, left_as, left_by}
use Rattle.mesamon.proofs.jobs.answer_of.Goals as goal

pub answer_compile-requires-after_bounds : goal.answer_compile-requires-after_bounds
answer_compile-requires-after_bounds g c κs within = subst HasWorkers c.in-Compile.is c.requires.workers

pub returns-in-Check-clause-done : goal.returns-in-Check-clause-done
returns-in-Check-clause-done g c = done_as _ _ _ _ _ c.in-Check.is c.answer_check.ensures.done

pub returns-in-Check-clause-left : goal.returns-in-Check-clause-left
returns-in-Check-clause-left g c =
    left_as _ _ _ _ _ _ _ _ c.in-Check.is (λ e h. h) (λ e h. absurd h) (λ f h. h)
    (or_memory c.answer_check.result _ (λ e. ⊥) (λ f. ⊥) c.answer_check.ensures.refused)

pub returns-in-Compile-clause-done : goal.returns-in-Compile-clause-done
returns-in-Compile-clause-done g c = done_as _ _ _ _ _ c.in-Compile.is c.answer_compile.ensures.done

pub returns-in-Compile-clause-left : goal.returns-in-Compile-clause-left
returns-in-Compile-clause-left g c =
    left_as _ _ _ _ _ _ _ _ c.in-Compile.is (λ e h. h) (λ e h. absurd h) (λ f h. h)
    (or_memory c.answer_compile.result _ (λ e. ⊥) (λ f. ⊥) c.answer_compile.ensures.refused)

pub returns-in-List-clause-done : goal.returns-in-List-clause-done
returns-in-List-clause-done g c = done_as _ _ _ _ _ c.in-List.is c.answer_list.ensures.done

pub returns-in-List-clause-left : goal.returns-in-List-clause-left
returns-in-List-clause-left g c =
    left_as _ _ _ _ _ _ _ _ c.in-List.is (λ e h. h) (λ e h. absurd h) (λ f h. h)
    c.answer_list.ensures.left

pub returns-in-Run-clause-done : goal.returns-in-Run-clause-done
returns-in-Run-clause-done g c =
    done_by _ _ _ _ _ _
    (λ e. HasRun (IsRunAs (version_by e) c.in-Run.options) c.in-Run.options.trace c.in-Run.options.log c.in-Run.page
    c.args.text.now.bytes.now)
    c.in-Run.is c.requires.exits (λ a h. h) c.answer_run.ensures.done

pub returns-in-Run-clause-left : goal.returns-in-Run-clause-left
returns-in-Run-clause-left g c =
    left_by _ (λ e. RefusesTextAs (version_by e) c.args.text.now.bytes.now) (λ e. ⊥)
    (λ e. λ f. ⊥)
    _ _ _ _ _ c.in-Run.is c.requires.exits (λ x h. h) (λ x h. absurd h) (λ f h. h)
    (or_memory c.answer_run.result _ (λ e. ⊥) (λ f. ⊥) c.answer_run.ensures.refused)

pub returns-in-Exec-clause-done : goal.returns-in-Exec-clause-done
returns-in-Exec-clause-done g c =
    done_by _ _ _ _ _ _
    (λ e. HasExecuted e c.in-Exec.form c.in-Exec.options c.args.text.now.bytes.now)
    c.in-Exec.is c.requires.exits (λ a h. h) c.answer_exec.ensures.done

pub returns-in-Exec-clause-left : goal.returns-in-Exec-clause-left
returns-in-Exec-clause-left g c =
    left_by _ (λ e. λ x. ⊥) (UnassemblesAs c.in-Exec.form c.args.text.now.bytes.now)
    (λ e. FailsRun e c.in-Exec.form c.in-Exec.options c.args.text.now.bytes.now)
    _ _ _ _ _ c.in-Exec.is c.requires.exits (λ x h. h) (λ x h. h) (λ f h. h)
    c.answer_exec.ensures.left

pub returns-in-Replay-clause-done : goal.returns-in-Replay-clause-done
returns-in-Replay-clause-done g c =
    done_by _ _ _ _ _ _
    (λ e. HasRun (IsReplayedAs (version_by e) c.in-Replay.by c.args.second.now) c.in-Replay.trace
    (log_beside c.in-Replay.by) c.in-Replay.page c.args.text.now.bytes.now)
    c.in-Replay.is c.requires.exits (λ a h. h) c.answer_replay.ensures.done

pub returns-in-Replay-clause-left : goal.returns-in-Replay-clause-left
returns-in-Replay-clause-left g c =
    left_by _ (λ e. RefusesTextAs (version_by e) c.args.text.now.bytes.now) (λ e. ⊥)
    (λ e. FailsReplay (version_by e) c.in-Replay.by c.args.text.now.bytes.now c.args.second.now)
    _ _ _ _ _ c.in-Replay.is c.requires.exits (λ x h. h) (λ x h. absurd h) (λ f h. h)
    c.answer_replay.ensures.left

pub returns-in-Explain-clause-done : goal.returns-in-Explain-clause-done
returns-in-Explain-clause-done g c =
    done_by _ _ _ _ _ _
    (λ e. HasExplained (version_by e) c.in-Explain.by c.args.second.now c.in-Explain.places c.in-Explain.chart
    c.in-Explain.timeline c.in-Explain.page c.args.text.now.bytes.now)
    c.in-Explain.is c.requires.exits (λ a h. h) c.answer_explain.ensures.done

pub returns-in-Explain-clause-left : goal.returns-in-Explain-clause-left
returns-in-Explain-clause-left g c =
    left_by _ (λ e. RefusesTextAs (version_by e) c.args.text.now.bytes.now) (λ e. ⊥)
    (λ e. FailsExplanation (version_by e) c.in-Explain.by c.args.text.now.bytes.now c.args.second.now)
    _ _ _ _ _ c.in-Explain.is c.requires.exits (λ x h. h) (λ x h. absurd h) (λ f h. h)
    c.answer_explain.ensures.left

pub returns-in-Retell-clause-done : goal.returns-in-Retell-clause-done
returns-in-Retell-clause-done g c = done_as _ _ _ _ _ c.in-Retell.is c.answer_retell.ensures.done

pub returns-in-Retell-clause-left : goal.returns-in-Retell-clause-left
returns-in-Retell-clause-left g c =
    left_by _ (λ e. RefusesTextAs (version_by e) c.args.text.now.bytes.now) (λ e. ⊥)
    (λ e. FailsRetelling c.args.text.now.bytes.now c.args.second.now)
    _ _ _ _ _ c.in-Retell.is c.requires.exits (λ x h. h) (λ x h. absurd h) (λ f h. h)
    c.answer_retell.ensures.left

pub returns-in-Emit-clause-done : goal.returns-in-Emit-clause-done
returns-in-Emit-clause-done g c = done_as _ _ _ _ _ c.in-Emit.is c.answer_emit.ensures.done

pub returns-in-Emit-clause-left : goal.returns-in-Emit-clause-left
returns-in-Emit-clause-left g c =
    left_as _ _ _ _ _ _ _ _ c.in-Emit.is (λ e h. h) (λ e h. absurd h) (λ f h. h)
    (or_memory c.answer_emit.result _ (λ e. ⊥) (λ f. ⊥) c.answer_emit.ensures.refused)

pub returns-in-Explore-clause-done : goal.returns-in-Explore-clause-done
returns-in-Explore-clause-done g c =
    done_by _ _ _ _ _ _
    (λ e. HasExplored (version_by e) (record { strays = c.in-Explore.strays; kills = c.in-Explore.kills })
    (record { ends = c.in-Explore.ends }) c.in-Explore.states c.in-Explore.places c.in-Explore.chart c.in-Explore.timeline c.in-Explore.page
    c.in-Explore.schedule c.in-Explore.actions c.args.text.now.bytes.now)
    c.in-Explore.is c.requires.exits (λ a h. h) c.answer_explore.ensures.done

pub returns-in-Explore-clause-left : goal.returns-in-Explore-clause-left
returns-in-Explore-clause-left g c =
    left_by _ (λ e. RefusesTextAs (version_by e) c.args.text.now.bytes.now) (λ e. ⊥)
    (λ e. λ f. ⊥)
    _ _ _ _ _ c.in-Explore.is c.requires.exits (λ x h. h) (λ x h. absurd h) (λ f h. h)
    (or_memory c.answer_explore.result _ (λ e. ⊥) (λ f. ⊥) c.answer_explore.ensures.refused)

pub returns-in-Assemble-clause-done : goal.returns-in-Assemble-clause-done
returns-in-Assemble-clause-done g c = done_as _ _ _ _ _ c.in-Assemble.is c.answer_assemble.ensures.done

pub returns-in-Assemble-clause-left : goal.returns-in-Assemble-clause-left
returns-in-Assemble-clause-left g c =
    left_as _ _ _ _ _ _ _ _ c.in-Assemble.is (λ e h. h) (λ e h. h) (λ f h. h)
    c.answer_assemble.ensures.left

pub returns-in-Search-clause-done : goal.returns-in-Search-clause-done
returns-in-Search-clause-done g c =
    done_by _ _ _ _ _ _
    (λ e. HasSearched e c.in-Search.form (record { strays = c.in-Search.strays; kills = c.in-Search.kills })
    c.in-Search.states c.in-Search.files c.args.text.now.bytes.now)
    c.in-Search.is c.requires.exits (λ a h. h) c.answer_search.ensures.done

pub returns-in-Search-clause-left : goal.returns-in-Search-clause-left
returns-in-Search-clause-left g c =
    left_by _ (λ e. λ x. ⊥) (UnassemblesAs c.in-Search.form c.args.text.now.bytes.now)
    (λ e. FailsImage e c.in-Search.form c.args.text.now.bytes.now)
    _ _ _ _ _ c.in-Search.is c.requires.exits (λ x h. h) (λ x h. h) (λ f h. h)
    c.answer_search.ensures.left

pub returns-in-Follow-clause-done : goal.returns-in-Follow-clause-done
returns-in-Follow-clause-done g c =
    done_by _ _ _ _ _ _
    (λ e. HasFollowed e c.in-Follow.form c.in-Follow.by c.in-Follow.trace c.args.text.now.bytes.now c.args.second.now)
    c.in-Follow.is c.requires.exits (λ a h. h) c.answer_follow.ensures.done

pub returns-in-Follow-clause-left : goal.returns-in-Follow-clause-left
returns-in-Follow-clause-left g c =
    left_by _ (λ e. λ x. ⊥) (UnassemblesAs c.in-Follow.form c.args.text.now.bytes.now)
    (λ e. FailsFollowing e c.in-Follow.form c.in-Follow.by c.args.text.now.bytes.now c.args.second.now)
    _ _ _ _ _ c.in-Follow.is c.requires.exits (λ x h. h) (λ x h. h) (λ f h. h)
    c.answer_follow.ensures.left

pub returns-in-Fmt-clause-done : goal.returns-in-Fmt-clause-done
returns-in-Fmt-clause-done g c = done_as _ _ _ _ _ c.in-Fmt.is c.answer_fmt.ensures.done

pub returns-in-Fmt-clause-left : goal.returns-in-Fmt-clause-left
returns-in-Fmt-clause-left g c =
    left_as _ _ _ _ _ _ _ _ c.in-Fmt.is (λ e h. h) (λ e h. absurd h) (λ f h. h)
    (or_memory c.answer_fmt.result _ (λ e. ⊥) (λ f. ⊥) c.answer_fmt.ensures.refused)

pub returns-in-Schedule-clause-done : goal.returns-in-Schedule-clause-done
returns-in-Schedule-clause-done g c = done_as _ _ _ _ _ c.in-Schedule.is c.answer_schedule.ensures.done

pub returns-in-Schedule-clause-left : goal.returns-in-Schedule-clause-left
returns-in-Schedule-clause-left g c =
    left_as _ _ _ _ _ _ _ _ c.in-Schedule.is (λ e h. h) (λ e h. absurd h) (λ f h. h)
    c.answer_schedule.ensures.left

pub returns-in-Shrink-clause-done : goal.returns-in-Shrink-clause-done
returns-in-Shrink-clause-done g c =
    done_by _ _ _ _ _ _
    (λ e. HasShrunk (version_by e) c.in-Shrink.out c.args.text.now.bytes.now c.args.second.now)
    c.in-Shrink.is c.requires.exits (λ a h. h) c.answer_shrink.ensures.done

pub returns-in-Shrink-clause-left : goal.returns-in-Shrink-clause-left
returns-in-Shrink-clause-left g c =
    left_by _ (λ e. RefusesTextAs (version_by e) c.args.text.now.bytes.now) (λ e. ⊥)
    (λ e. FailsShrinking (version_by e) c.args.text.now.bytes.now c.args.second.now)
    _ _ _ _ _ c.in-Shrink.is c.requires.exits (λ x h. h) (λ x h. absurd h) (λ f h. h)
    c.answer_shrink.ensures.left
