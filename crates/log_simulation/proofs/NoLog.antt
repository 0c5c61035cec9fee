-- A log that stops to be legal somewhere is none.
use Rattle.std.proofs.Common.{◌≡◌, ◌+◌, ℕ, List, sym, arith, subst, take, drop}
use Rattle.std.proofs.lemmas.List.{take-append-drop}
use Rattle.std.proofs.lemmas.List.Sums.{sum_by-take-drop}
use Rattle.isa.specs.Programs.{Program as Image}
use Rattle.machine.specs.declared.event.Entry.{Entry}
use Rattle.runner.specs.Logs.{cost, event_cost, opening}
use Rattle.runner.proofs.Once.{runs_split}
use Rattle.log_simulation.specs.Explanations.{IsNoLog, LeadsTo, StopsAt}

pub stops_none : (image : Image) (log : List Entry) (number : ℕ) → StopsAt image log number → IsNoLog image log
stops_none image log number s k leads =
    let cut = runs_split image (opening image) k (take number log) (drop number log)
    (subst (λ es. LeadsTo image es k) (sym (take-append-drop number log)) leads) in
    let over = s.stops cut.0 cut.1 in
    let all : cost (take number log) + cost (drop number log) ≡ cost log =
    sum_by-take-drop (λ (e : Entry). e.local + event_cost e.event) log number in
    omega (arith, over, all)
