use Rattle.std.proofs.Common.{◌∙◌, ◌≡◌, ap, map, subst}
use Rattle.std.specs.Prelude.{filter, flat_map}
use Rattle.scanner.specs.declared.refusal.RefusalKind.TheVariants.{Limit}
use Rattle.syntax.specs.View.{member_of}
use Rattle.syntax.specs.Whole.{unit_of}
use Rattle.types.specs.Judgement.{IsPast, IsPastWords, IsNoSize, condition_names, is_condition}
use Rattle.types.specs.Limits.{most_conditions}
use Rattle.types.specs.Names.{all_members}
use Rattle.unit_faults.specs.Collected.{Collects, OfKind}
use Rattle.unit_faults.specs.Members.{IsPastWordsOf, IsNoSizeOf, condition_names_of}
use Rattle.unit_faults.proofs.Collecting.{collects_sum}
use Rattle.unit_faults.proofs.Uses.{past_of}
use Rattle.unit_faults.proofs.Views.{members_seen, conditions_seen}
use Rattle.unit_faults.proofs.declared.members.Goals as goal

pub returns : goal.returns
returns c =
    let u = c.args.unit.now in
    let ms = c.in_ok-members.members.items in
    let all : map member_of ms ≡ all_members (unit_of u) =
    ap (map member_of) (c.in_ok-members.ensures ∙ ap (flat_map (λ m. m.members.items)) c.deref.ensures.value)
    ∙ members_seen u.monitors.items in
    collects_sum _ (OfKind Limit (IsNoSize (unit_of u))) c.args.least c.past_words-small.result c.sizes.result
    (collects_sum (OfKind Limit (IsPast most_conditions (condition_names (unit_of u)))) (OfKind Limit (IsPastWords
    (unit_of u)))
    c.args.least c.past-few.result c.past_words-small.result
    (past_of most_conditions _ _ (condition_names (unit_of u)) c.args.least c.past-few.result
    (c.deref-3.ensures.value ∙ c.in_ok-conditions.ensures
    ∙ ap (λ xs. map (λ x. x.name) (filter (λ x. is_condition x.kind) xs)) c.deref-2.ensures.value)
    (conditions_seen ms ∙ ap condition_names_of all) c.past-few.ensures)
    (subst (λ xs. Collects (OfKind Limit (IsPastWordsOf xs)) c.past-few.result c.past_words-small.result)
    (ap (map member_of) c.deref-4.ensures.value ∙ all) c.past_words-small.ensures))
    (subst (λ xs. Collects (OfKind Limit (IsNoSizeOf xs)) c.past_words-small.result c.sizes.result)
    (ap (map member_of) c.deref-5.ensures.value ∙ all) c.sizes.ensures)
