use Rattle.std.proofs.Common.{◌≡◌, ◌∙◌, ◌++◌, [], ◌∷◌, ap, rules, subst, sym}
use Rattle.std.specs.List.{All}
use Rattle.action_text.specs.ActionText.{numbers_text}
use Rattle.action_text.specs.Sized.{IsNumber}
use Rattle.action_text.proofs.Numbers.{Behind, seen_all, seen_more, small_more, whole_more}
use Rattle.action_text.proofs.counting.numbers_of.Goals as goal

pub numbers-preserved : goal.numbers-preserved
numbers-preserved c =
    let l = c.numbers in
    let old = l.numbers.items in
    let after = c.in-Some.after.now in
    let n = c.in-Some.number in
    let small : IsNumber c.in-Some.number = search rules in
    let grows : c.push.new.self.items ≡ old ++ n ∷ [] =
    c.in_ok-push.ensures.items ∙ ap (λ k. old ++ k ∷ []) c.from.ensures in
    record {
      whole = whole_more c.args.text.now old l.rest.now after n l.invariant.whole c.in-Some.ensures.read
          ∙ ap (λ xs. numbers_text xs ++ after) (sym grows);
      small = subst (All IsNumber) (sym grows) (small_more old n l.invariant.small small);
      behind = λ ns rest few none is.
          subst (λ xs. Behind xs after ns rest) (sym grows)
          (seen_more old l.rest.now after ns rest n small none c.in-Some.ensures.read c.in-Some.ensures.reads
          (l.invariant.behind ns rest few none is));
    }

pub returns-clause-reads : goal.returns-clause-reads
returns-clause-reads c = λ ns rest small none is.
    seen_all c.numbers.numbers.items c.numbers.rest.now ns rest none c.in_default.ensures.reads
    (c.numbers.invariant.behind ns rest small none is)
