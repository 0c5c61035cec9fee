use Rattle.std.proofs.Common.{◌≡◌, ◌∙◌, ◌+◌, ◌++◌, ◌∷◌, [], All, ap, get_or, map, refl, subst, rules, sym, take}
use Rattle.std.proofs.lemmas.List.{map-append, take_all}
use Rattle.image_states.specs.Choosing.{HasEachSet, lists_in}
use Rattle.image_states.specs.Room.{AreThreads}
use Rattle.image_states.proofs.Subsets.{first_set, one_more, threads_first, threads_more}
use Rattle.image_states.proofs.each_set.sets.Goals as goal

pub loop-number-init : goal.loop-number-init
loop-number-init c =
    let is : lists_in c.push.new.self.items ≡ [] ∷ [] = search rules in
    record {
      each = subst (HasEachSet (take 0 c.args.numbers.now)) (sym is) (first_set c.args.numbers.now);
      threads = λ many all. subst (All (AreThreads many)) (sym is) (threads_first many);
    }

pub loop-number-preserved : goal.loop-number-preserved
loop-number-preserved c =
    let n = get_or c.args.numbers.now c.loop-number.number-index 0 in
    let all : lists_in c.append.new.self.items ≡ lists_in c.loop-number.lists.items ++ lists_in c.in_ok-more.more.items =
    ap lists_in c.in_ok-append.ensures.items ∙ map-append _ c.loop-number.lists.items c.in_ok-more.more.items in
    let more : lists_in c.in_ok-more.more.items ≡ map (λ list. list ++ n ∷ []) (lists_in c.loop-number.lists.items) =
    c.in_ok-more.ensures ∙ ap (λ lists. map (λ list. list ++ n ∷ []) (lists_in lists)) c.as_slice.ensures.value in
    record {
      each = subst (HasEachSet (take (c.loop-number.number-index + 1) c.args.numbers.now)) (sym all)
          (one_more c.args.numbers.now c.loop-number.number-index n
          (lists_in c.loop-number.lists.items) (lists_in c.in_ok-more.more.items) c.loop-number-test.true refl
          more c.loop-number.invariant.each);
      threads = λ many are. subst (All (AreThreads many)) (sym all)
          (threads_more many (lists_in c.loop-number.lists.items) (lists_in c.in_ok-more.more.items) n more
          (c.loop-number.invariant.threads many are) (are c.loop-number.number-index 0 c.loop-number-test.true));
    }

pub returns-clause-each : goal.returns-clause-each
returns-clause-each c =
    subst (λ numbers. HasEachSet numbers (lists_in c.loop-number.lists.items))
    (take_all c.loop-number.number-index c.args.numbers.now c.loop-number-test.false) c.loop-number.invariant.each

pub returns-clause-threads : goal.returns-clause-threads
returns-clause-threads c = c.loop-number.invariant.threads
