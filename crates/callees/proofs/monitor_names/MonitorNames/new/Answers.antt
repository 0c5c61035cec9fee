use Rattle.std.proofs.Common.{map, sym, subst}
use Rattle.syntax.specs.View.{name_of, member_of, monitor_procedure_of}
use Rattle.types.specs.Standings.{HasMembers}
use Rattle.types.specs.Tables.{IsTable}
use Rattle.callees.proofs.Growing.{map_twice}
use Rattle.callees.proofs.monitor_names.MonitorNames.new.Goals as goal

pub returns-clause-names : goal.returns-clause-names
returns-clause-names c = (
  subst (λ xs. HasMembers (map member_of xs) c.in_ok-members.members) c.deref.ensures.value c.in_ok-members.ensures,
  subst (λ ns. IsTable ns c.in_ok-procedures.procedures)
      (sym (map_twice (λ q. q.procedure.name) monitor_procedure_of c.args.monitor.now.procedures.items))
      (subst (λ xs. IsTable (map (λ q. name_of q.procedure.name) xs) c.in_ok-procedures.procedures)
      c.deref-2.ensures.value c.in_ok-procedures.ensures),
)
