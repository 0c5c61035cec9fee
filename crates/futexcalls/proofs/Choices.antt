-- The front of a list is a choice of the sleepers on its address.
use Rattle.std.proofs.Common.{◌≡◌, ℕ, zero, suc, cond, eqb, Option, Some, None, List, [], ◌∷◌, take, slice_get, refl}
use Rattle.std.proofs.Common.{◌∙◌, arith}
use Rattle.std.proofs.lemmas.Bool.{cond-true, cond-false, eq-eqb, ne_eqb}
use Rattle.std.proofs.lemmas.List.{length-take, take_all}
use Rattle.buckets.specs.Places.{with_place, Agree}
use Rattle.buckets.specs.Sleepers.{Sleepers, queue, place_of, IsSound}
use Rattle.buckets.proofs.Takes.{names-take}
use Rattle.buckets.proofs.Moves.{IsDistinct-take}
use Rattle.futexcalls.specs.Answers.{word_of}
use Rattle.futexcalls.specs.FutexCalls.{IsChoice, Wakes, Requeues}

pub choice-front : (q : ℕ → List ℕ) (s : ℕ → Option ℕ) (a n : ℕ) → Agree q s → IsChoice s a n (take n (q a))
choice-front q s a n ok = record {
  distinct = IsDistinct-take n (q a) (ok.distinct a);
  slept = λ t h. ok.sleeps t a (names-take n t (q a) h);
  few = omega (arith, length-take n (q a));
  all = λ l t h. rw (take_all n (q a) (omega (arith, length-take n (q a)))) (ok.stands t a h);
}

pub wakes-front : (s s' : Sleepers) (a n : ℕ) (front : List ℕ) → IsSound s → front ≡ take n (queue s a) → place_of s'
    ≡ with_place (place_of s) front None → Wakes (place_of s) a n front (place_of s')
wakes-front s s' a n front ok f p = record {
  choice = rw f (choice-front (queue s) (place_of s) a n ok.agree);
  awake = p;
}

pub requeues-front : (word : ℕ → ℕ) (s s1 s2 : Sleepers) (a b n m expected : ℕ) (woken moved : List ℕ) → word a
    ≡ expected → IsSound s → IsSound s1 → woken ≡ take n (queue s a) → place_of s1 ≡ with_place (place_of s) woken
    None → moved ≡ cond (eqb a b) [] (take m (queue s1 a)) → place_of s2 ≡ with_place (place_of s1) moved (Some b)
    → Requeues word (place_of s) a b n m expected woken moved (place_of s2)
requeues-front word s s1 s2 a b n m expected woken moved equal ok ok1 front p1 rest p2 = record {
  equal = equal;
  wakes = record { choice = rw front (choice-front (queue s) (place_of s) a n ok.agree); awake = refl };
  moves = rw (← p1) (record {
    choice = λ ne. rw (rest ∙ cond-false _ _ _ (ne_eqb a b ne)) (choice-front (queue s1) (place_of s1) a m ok1.agree);
    none = λ e. rest ∙ cond-true _ _ _ (eq-eqb a b e);
    goes = p2;
  });
}

-- what a load answered is the word
pub word-got : (words : List ℕ) (a v : ℕ) → slice_get words a ≡ Some v → word_of words a ≡ v
word-got [] a v h = absurd cc
word-got (w ∷ ws) zero v h = cc
word-got (w ∷ ws) (suc a) v h = word-got ws a v h
