-- What is told of a run whose threads can make no entry more.
use Rattle.std.proofs.Common.{◌≡◌, ◌≤◌, ℕ, true, List, Result, Ok, Err, IfOk, MatchResult, is_ok, ap, sym, ◌∙◌}
use Rattle.std.proofs.Common.{subst}
use Rattle.isa.specs.Programs.{Program}
use Rattle.machine.specs.declared.event.Entry.{Entry}
use Rattle.machine.specs.ConcreteSteps.{can_move}
use Rattle.machine.specs.Views.{concrete}
use Rattle.piece_machine.specs.PieceConcrete.{PieceConcrete}
use Rattle.piece_machine.specs.PieceDetermined.{IsFit}
use Rattle.piece_machine.specs.PieceViews.{PieceView as MachineView, parts}
use Rattle.runner.specs.declared.report.Report.{Report}
use Rattle.runner.specs.declared.report.Verdict.{Verdict}
use Rattle.runner.specs.declared.report.Verdict.TheVariants.{Limit}
use Rattle.runner.specs.Logs.{HasOnly, Outside, Runs, cost, opening}
use Rattle.runner.specs.Reports.{IsReport, IsVerdict, PassesLimit}
use Rattle.runner.specs.Rounds.{Idle}
use Rattle.runner.specs.Views.{LogState}
use Rattle.runner.proofs.Waiting.{some_passes}

-- where a run ends for the limit, the next entry of some thread would pass it
limited_so : (p : Program) (limit : ℕ) (h : LogState) (verdict : Verdict) → IsFit p h.concrete → Idle p limit h
    → IsVerdict h.concrete.concrete verdict → verdict ≡ Limit
    → (t : ℕ) × (can_move h.concrete.concrete t ≡ true) × PassesLimit p limit h.log h.concrete t
limited_so p limit h verdict fit idle holds is =
    let some : IsVerdict h.concrete.concrete Limit = subst (λ (v : Verdict). IsVerdict h.concrete.concrete v) is holds in
    some_passes p limit h some.0 fit idle some.1

-- a report of the log and the machine that a run leaves
pub reported : {E : Type 0} → (p : Program) (may : Outside) (limit : ℕ) (h : LogState) (log : List Entry)
    (last : MachineView) (r : Result Report E) → Runs p (opening p) h.log h.concrete → HasOnly may h.log
    → cost h.log ≤ limit → Idle p limit h → log ≡ h.log → parts last ≡ h.concrete → last.view.program ≡ p
    → IfOk r (λ report. report.log.items ≡ log) → IfOk r (λ report. report.last ≡ last)
    → IfOk r (λ report. report.output.items ≡ last.view.output)
    → IfOk r (λ report. IsVerdict (concrete last.view) report.verdict)
    → IfOk r (λ report. IsFit last.view.program (parts last))
    → IfOk r (λ report. IsReport p may limit report)
reported p may limit h log last (Err e) legal own within idle is there program logged same output verdict fit = logged
reported p may limit h log last (Ok r) legal own within idle is there program logged same output verdict fit =
    let back : h ≡ record { log = r.log.items; concrete = parts r.last } =
    sym (λ i. record { log = (logged ∙ is) i; concrete = (ap parts same ∙ there) i }) in
    let now : Idle p limit (record { log = r.log.items; concrete = parts r.last }) =
    subst (λ (x : LogState). Idle p limit x) back idle in
    let said : IsVerdict (concrete r.last.view) r.verdict =
    subst (λ (v : MachineView). IsVerdict (concrete v.view) r.verdict) (sym same) verdict in
    record {
      legal = subst (λ (x : LogState). Runs p (opening p) x.log x.concrete) back legal;
      own = subst (λ (x : LogState). HasOnly may x.log) back own;
      program = ap (λ (v : MachineView). v.view.program) same ∙ program;
      within = subst (λ (x : LogState). cost x.log ≤ limit) back within;
      output = output ∙ ap (λ (v : MachineView). v.view.output) (sym same);
      verdict = said;
      over = now;
      limited = limited_so p limit (record { log = r.log.items; concrete = parts r.last }) r.verdict
          (subst (λ (x : LogState). IsFit p x.concrete) back
          (subst (λ (x : PieceConcrete). IsFit p x) there (subst (λ (q : Program). IsFit q (parts last)) program fit)))
          now said;
    }

-- what is said of a value is said of it where the error is another
pub passed_on : {T E F : Type 0} → (P : T → Type 0) (Q : E → Type 0) (r : Result T E) (s : Result T F)
    → MatchResult r (λ x. s ≡ Ok x) Q → is_ok s ≡ is_ok r → IfOk r P → IfOk s P
passed_on P Q (Ok x) s is alike h = subst (λ q. IfOk q P) (sym is) h
passed_on P Q (Err e) (Ok x) is alike h = absurd cc
passed_on P Q (Err e) (Err f) is alike h = h
