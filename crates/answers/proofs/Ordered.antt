-- Reports of runs in order and by seeds.
use Rattle.std.proofs.Common.{◌≡◌, ℕ, Option, Result, Ok, Err, IfOk, is_some, sym, subst}
use Rattle.isa.specs.Programs.{Program as Image}
use Rattle.commandline.specs.declared.options.Order.{Order}
use Rattle.commandline.specs.declared.options.Order.TheVariants as by
use Rattle.runner.specs.Logs.{nothing_outside, outside_of}
use Rattle.runner.specs.Orders.{IsInOrder}
use Rattle.runner.specs.Reports.{IsReport}
use Rattle.runner.specs.Seeds.{IsBySeed}
use Rattle.runner.specs.declared.report.Report.{Report}
use Rattle.answers.specs.Alone.{IsReportAlone}
use Rattle.answers.specs.Asked.{IsImageRunBy}
use Rattle.answers.specs.declared.explained_run.Alone.{Alone}
use Rattle.answers.specs.declared.explained_run.Alone.TheVariants as alone

-- a run of an image that is asked for in order
pub ran_in_order : {E : Type 0} (r : Result Report E) (order : Order) (limit : ℕ) (image : Image) → order ≡ by.InOrder
    → IfOk r (λ report. IsReport image nothing_outside limit report)
    → IfOk r (λ report. IsInOrder image limit report.log.items) → IfOk r (λ report. IsImageRunBy order limit image report)
ran_in_order (Ok x) order limit image is reported goes =
    subst (λ (o : Order). IsImageRunBy o limit image x) (sym is) (record { is_report = reported; order = goes })
ran_in_order (Err e) order limit image is reported goes = tt

-- one by a seed
pub ran_by_seed : {E : Type 0} (r : Result Report E) (order : Order) (strays : Option ℕ) (kills limit seed : ℕ)
    (image : Image) → order ≡ by.Seed seed strays kills
    → IfOk r (λ report. IsReport image (outside_of (is_some strays) kills) limit report)
    → IfOk r (λ report. IsBySeed image strays kills limit seed report.log.items)
    → IfOk r (λ report. IsImageRunBy order limit image report)
ran_by_seed (Ok x) order strays kills limit seed image is reported goes =
    subst (λ (o : Order). IsImageRunBy o limit image x) (sym is) (record { is_report = reported; seeded = goes })
ran_by_seed (Err e) order strays kills limit seed image is reported goes = tt

-- the same of a run on the calling thread
pub ran_alone_in_order : {E : Type 0} (r : Result Report E) (order : Alone) (limit : ℕ) (image : Image)
    → order ≡ alone.InOrder → IfOk r (λ report. IsReport image nothing_outside limit report)
    → IfOk r (λ report. IsInOrder image limit report.log.items) → IfOk r (λ report. IsReportAlone order limit image report)
ran_alone_in_order (Ok x) order limit image is reported goes =
    subst (λ (o : Alone). IsReportAlone o limit image x) (sym is) (record { is_report = reported; order = goes })
ran_alone_in_order (Err e) order limit image is reported goes = tt

pub ran_alone_by_seed : {E : Type 0} (r : Result Report E) (order : Alone) (strays : Option ℕ) (kills limit seed : ℕ)
    (image : Image) → order ≡ alone.Seed seed strays kills
    → IfOk r (λ report. IsReport image (outside_of (is_some strays) kills) limit report)
    → IfOk r (λ report. IsBySeed image strays kills limit seed report.log.items)
    → IfOk r (λ report. IsReportAlone order limit image report)
ran_alone_by_seed (Ok x) order strays kills limit seed image is reported goes =
    subst (λ (o : Alone). IsReportAlone o limit image x) (sym is) (record { is_report = reported; seeded = goes })
ran_alone_by_seed (Err e) order strays kills limit seed image is reported goes = tt
