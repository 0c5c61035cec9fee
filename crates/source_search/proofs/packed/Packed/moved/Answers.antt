use Rattle.std.proofs.Common.{◌∙◌, refl, subst, suc}
use Rattle.source_search.specs.Known.{IsPutWith}
use Rattle.source_search.proofs.Merged.{put_with}
use Rattle.source_search.proofs.packed.Packed.moved.Goals as goal

pub returns : goal.returns
returns c = record {
  table = refl;
  variables = refl;
  processes = subst (λ ids. IsPutWith ids (suc c.args.place) c.args.outcome c.put_child.new.processes.items)
      (c.in_ok-processes.ensures.items ∙ c.as_slice.ensures.value)
      (put_with c.in_ok-processes.processes.items c.put_own.new.processes.items c.put_child.new.processes.items
      c.args.place c.args.outcome (c.put_own.ensures c.if-not-put_own.false)
      (c.in_ok-put_child.ensures c.if-not-branch.false));
}
