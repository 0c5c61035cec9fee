use Rattle.std.proofs.Common.{◌∙◌, ◌++◌, ◌∷◌, sym}
use Rattle.std.proofs.lemmas.List.{append_assoc}
use Rattle.action_text.proofs.Members.{past_dotted}
use Rattle.action_text.proofs.Numbers.{cancel}
use Rattle.action_text.proofs.conditions.past_name.Goals as goal

pub returns-in_default-past_byte : goal.returns-in_default-past_byte
returns-in_default-past_byte c = λ rest same.
    c.in_default-past_byte.ensures (c.args.member.now ++ rest)
    (cancel c.args.name.now c.in-Some.behind.now (46 ∷ (c.args.member.now ++ rest))
    (sym c.in-Some.ensures ∙ same ∙ append_assoc c.args.name.now (46 ∷ c.args.member.now) rest))

pub returns : goal.returns
returns c =
    past_dotted (λ r. r.now) c.past_word-rest.result c.args.text.now c.args.name.now c.args.member.now c.in-Some.behind.now
    c.in-Some-past_byte.behind.now c.in-Some.ensures c.in-Some-past_byte.ensures c.past_word-rest.ensures
