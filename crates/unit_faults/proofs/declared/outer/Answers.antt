use Rattle.std.proofs.Common.{◌∙◌, map, subst}
use Rattle.std.proofs.lemmas.Result.{IfOk-weaker}
use Rattle.scanner.specs.declared.refusal.RefusalKind.TheVariants.{Redeclared}
use Rattle.syntax.specs.View.{monitor_of}
use Rattle.syntax.specs.Whole.{unit_of}
use Rattle.types.specs.Judgement.{IsRepeated}
use Rattle.types.specs.Names.{outer_names}
use Rattle.unit_faults.specs.Collected.{Collects, OfKind, InOne}
use Rattle.unit_faults.specs.Parts.{InScope, InCounts, InMembers}
use Rattle.unit_faults.proofs.Collecting.{collects_sum}
use Rattle.unit_faults.proofs.Uses.{repeated_of}
use Rattle.unit_faults.proofs.Views.{outer_seen}
use Rattle.unit_faults.proofs.declared.outer.Goals as goal

pub returns : goal.returns
returns c =
    let u = c.args.unit.now in
    let t = unit_of u in
    let names = repeated_of _ _ (outer_names t) c.args.least c.in_ok-once.once (c.deref.ensures.value
    ∙ c.in_ok-names.ensures) (outer_seen u.monitors.items u.procedures.items) c.in_ok-once.ensures in
    let inside = subst (λ ms. Collects (InOne InScope (map monitor_of ms)) c.in_ok-once.once c.in_ok-inside.inside)
    c.deref-2.ensures.value c.in_ok-inside.ensures in
    IfOk-weaker c.members.result _ _
    (λ r h. collects_sum _ (InMembers t) c.args.least c.in_ok-few.few r
    (collects_sum _ (InCounts t) c.args.least c.in_ok-inside.inside c.in_ok-few.few
    (collects_sum (OfKind Redeclared (IsRepeated (outer_names t))) (InOne InScope t.monitors) c.args.least
    c.in_ok-once.once c.in_ok-inside.inside names inside)
    c.in_ok-few.ensures) h) c.members.ensures
