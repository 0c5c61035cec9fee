use Rattle.std.proofs.Common.{◌≡◌, ◌∙◌, ◌++◌, [], subst, sym}
use Rattle.std.proofs.lemmas.List.{append-nil}
use Rattle.program.specs.Names.{naming_of}
use Rattle.program.specs.declared.kinds.Member.{Member}
use Rattle.actionlines.specs.Lines.{condition_name}
use Rattle.action_text.specs.ActionText.{numbers_text}
use Rattle.action_text.specs.Sized.{HasMember, IsNumber}
use Rattle.action_text.proofs.Members.{same_member, whole_there}
use Rattle.action_text.proofs.Numbers.{cancel}
use Rattle.action_text.proofs.conditions.notified_at.Goals as goal

pub returns-in_default : goal.returns-in_default
returns-in_default c = λ k ns m n h.
    c.in_default.ensures (subst IsNumber m h.0.0.1) (subst IsNumber n h.0.1)

pub returns-in_default-past_condition : goal.returns-in_default-past_condition
returns-in_default-past_condition c = λ k ns m n h.
    let names = naming_of c.args.names.now in
    let same = same_member k c.in-Some.condition (m ∙ sym c.in-Some.ensures.0) (n ∙ sym c.in-Some.ensures.1) in
    c.in_default-past_condition.ensures (numbers_text ns) (subst (HasMember names) same h.0)
    (subst (λ (d : Member). c.args.text.now ≡ condition_name names d ++ numbers_text ns) same h.3)

pub returns-then-not-is_whole : goal.returns-then-not-is_whole
returns-then-not-is_whole c = λ k ns m n h.
    let names = naming_of c.args.names.now in
    let same = same_member k c.in-Some.condition (m ∙ sym c.in-Some.ensures.0) (n ∙ sym c.in-Some.ensures.1) in
    let behind = cancel (condition_name names c.in-Some.condition) c.in-Some-past_condition.behind.now (numbers_text ns)
    (sym c.in-Some-past_condition.ensures.1
    ∙ subst (λ (d : Member). c.args.text.now ≡ condition_name names d ++ numbers_text ns) same h.3) in
    let both = c.in_ok-counted.ensures.reads ns [] h.1 tt (behind ∙ sym (append-nil (numbers_text ns))) in
    c.if-not-is_whole.ensures (both.1, λ e. both.0 ∙ h.2 e)

pub returns : goal.returns
returns c =
    whole_there (naming_of c.args.names.now) c.in-Some.condition c.args.alone c.args.text.now
    c.in-Some-past_condition.behind.now c.in_ok-counted.counted c.in-Some-past_condition.ensures.0
    c.in-Some-past_condition.ensures.1 c.in_ok-counted.ensures.read c.in_ok-counted.ensures.small c.if-not-is_whole.ensures
