-- What a call leaves of the lists of all addresses.
use Rattle.std.proofs.Common.{◌≡◌, ◌≢◌, ℕ, ◌+◌, ◌<◌, ◌≤◌, true, cond, eqb, Option, Some, None, List, [], ◌∷◌, ◌++◌}
use Rattle.std.proofs.Common.{length, take, drop, get_or, refl, sym, ap, ◌∙◌, arith, inl, inr}
use Rattle.std.specs.Prelude.{ℤ}
use Rattle.std.specs.List.{All}
use Rattle.std.proofs.Math.Path.{fun_ext}
use Rattle.std.proofs.lemmas.Bool.{cases_eq, eq-eqb, ne_eqb, cond-true, cond-false}
use Rattle.buckets.specs.Places.{names, with_place}
use Rattle.buckets.specs.Sleepers.{Sleepers, queue, place_of, thread_count, IsSound}
use Rattle.buckets.proofs.Takes.{names-take}
use Rattle.buckets.proofs.Moves.{drop-take_length}
use Rattle.buckets.proofs.Outcomes.{names-get_or}
use Rattle.futexcalls.specs.FutexCalls.{Requeues}
use Rattle.machine.specs.ThreadSets.{IsThread}
use Rattle.robustexit.specs.RobustExit.{put}
use Rattle.machine.specs.States.{Common}
use Rattle.futexcalls.specs.Answers.{word_of}
use Rattle.machine.specs.declared.event.Event.{Event}
use Rattle.machine.specs.declared.event.EventName.TheVariants as name
use Rattle.machine.specs.ConcreteServing.{wake_front, sleep_on, move_front, moves_of, front, within, requeue_to}
use Rattle.machine.specs.ConcreteServing.{gives, event_of}
use Rattle.words.specs.Limits.{most_threads}
use Rattle.machine.specs.Views.{common_of}
use Rattle.machine.proofs.Placing.{by_place, put-here, put-there}
use Rattle.machine.proofs.Sleeping.{names-drop}
use Rattle.machine.proofs.Words.{inside}

-- one list changed
pub one_list : (s s' : Sleepers) (a : ℕ) (xs : List ℕ) → queue s' a ≡ xs
    → ((b : ℕ) → b ≢ a → queue s' b ≡ queue s b) → queue s' ≡ put (queue s) a xs
one_list s s' a xs here others =
    fun_ext (λ b. by_place (queue s) a xs b (queue s' b) (λ e. ap (queue s') e ∙ here) (others b))

-- no list changed
pub no_list : (s s' : Sleepers) (a : ℕ) → queue s' a ≡ queue s a → ((b : ℕ) → b ≢ a → queue s' b ≡ queue s b)
    → queue s' ≡ queue s
no_list s s' a here others =
    fun_ext (λ b. elim (cases_eq b a) [
      | inl e ↦ ap (queue s') e ∙ here
          ∙ ap (queue s) (sym e)
      | inr ne ↦ others b ne
    ])

pub common_is : (ws : List ℕ) (s s' : Sleepers) (o : List ℤ) (q : ℕ → List ℕ) (p : ℕ → Option ℕ) → queue s' ≡ q
    → place_of s' ≡ p → thread_count s' ≡ thread_count s
    → common_of ws s' o ≡ record { most = thread_count s; words = ws; queue = q; asleep = p; output = o }
common_is ws s s' o q p queues places most = λ i.
    record { most = most i; words = ws; queue = queues i; asleep = places i; output = o }

pub slept_is : (ws : List ℕ) (s s' : Sleepers) (o : List ℤ) (t a : ℕ) → queue s' a ≡ queue s a ++ t ∷ []
    → ((b : ℕ) → b ≢ a → queue s' b ≡ queue s b) → place_of s' ≡ with_place (place_of s) (t ∷ []) (Some a)
    → thread_count s' ≡ thread_count s → sleep_on (common_of ws s o) t a ≡ common_of ws s' o
slept_is ws s s' o t a last others places most =
    sym (common_is ws s s' o _ _ (one_list s s' a (queue s a ++ t ∷ []) last others) places most)

pub woke_is : (ws : List ℕ) (s s' : Sleepers) (o : List ℤ) (a n : ℕ) (woken : List ℕ) → woken ≡ take n (queue s a)
    → queue s' a ≡ drop n (queue s a) → ((b : ℕ) → b ≢ a → queue s' b ≡ queue s b)
    → place_of s' ≡ with_place (place_of s) woken None → thread_count s' ≡ thread_count s
    → wake_front (common_of ws s o) a n ≡ common_of ws s' o
woke_is ws s s' o a n woken front rest others places most =
    sym (common_is ws s s' o _ _ (one_list s s' a (drop n (queue s a)) rest others)
    (places ∙ ap (λ xs. with_place (place_of s) xs None) front) most)

-- the lists after a requeue
requeue_list : (s s' : Sleepers) (a b n m : ℕ) (moved : List ℕ)
    → moved ≡ (cond (eqb a b) [] (take m (drop n (queue s a))))
    → queue s' a ≡ drop (length moved) (drop n (queue s a)) → (a ≢ b → queue s' b ≡ queue s b ++ moved)
    → ((d : ℕ) → d ≢ a → d ≢ b → queue s' d ≡ queue s d) → a ≢ b → (d : ℕ)
    → queue s' d ≡ put (put (put (queue s) a (drop n (queue s a))) a (drop m (drop n (queue s a)))) b
    (queue s b ++ take m (drop n (queue s a))) d
requeue_list s s' a b n m moved is rest last others ne d =
    let some : moved ≡ take m (drop n (queue s a)) = is ∙ cond-false _ _ _ (ne_eqb a b ne) in
    by_place (put (put (queue s) a (drop n (queue s a))) a (drop m (drop n (queue s a)))) b _ d (queue s' d)
    (λ e. ap (queue s') e ∙ last ne ∙ ap (λ xs. queue s b ++ xs) some)
    (λ nb. by_place (put (queue s) a (drop n (queue s a))) a _ d (queue s' d)
    (λ e. ap (queue s') e ∙ rest ∙ ap (λ xs. drop (length xs) (drop n (queue s a))) some
    ∙ sym (drop-take_length m (drop n (queue s a))))
    (λ na. others d na nb ∙ sym (put-there (queue s) a (drop n (queue s a)) d na)))

pub requeued_is : (word : ℕ → ℕ) (ws : List ℕ) (s s' : Sleepers) (o : List ℤ) (a b n m expected : ℕ)
    (woken moved : List ℕ) → Requeues word (place_of s) a b n m expected woken moved (place_of s')
    → woken ≡ take n (queue s a) → moved ≡ (cond (eqb a b) [] (take m (drop n (queue s a))))
    → queue s' a ≡ drop (length moved) (drop n (queue s a)) → (a ≢ b → queue s' b ≡ queue s b ++ moved)
    → ((d : ℕ) → d ≢ a → d ≢ b → queue s' d ≡ queue s d) → thread_count s' ≡ thread_count s
    → (move_front (wake_front (common_of ws s o) a n) a b m ≡ common_of ws s' o)
    × (moves_of (wake_front (common_of ws s o) a n) a b m ≡ moved)
requeued_is word ws s s' o a b n m expected woken moved call front is rest last others most =
    let q : ℕ → List ℕ = put (queue s) a (drop n (queue s a)) in
    let here : q a ≡ drop n (queue s a) = put-here (queue s) a (drop n (queue s a)) a refl in
    let c : Common = wake_front (common_of ws s o) a n in
    let places : place_of s' ≡ with_place (with_place (place_of s) (take n (queue s a)) None) moved (Some b) =
    call.moves.goes ∙ ap (λ xs. with_place (with_place (place_of s) xs None) moved (Some b)) front in
    elim (cases_eq a b) [
      | inl e ↦
          let none : moved ≡ [] = is ∙ cond-true _ _ _ (eq-eqb a b e) in
          let queues : queue s' ≡ q =
          one_list s s' a (drop n (queue s a)) (rest ∙ ap (λ xs. drop (length xs) (drop n (queue s a))) none)
          (λ d na. others d na (λ db. na (db ∙ sym e))) in
          let still : place_of s' ≡ with_place (place_of s) (take n (queue s a)) None = places
          ∙ ap (λ xs. with_place (with_place (place_of s) (take n (queue s a)) None) xs (Some b)) none in (
            cond-true _ _ _ (eq-eqb a b e) ∙ sym (common_is ws s s' o q _ queues still most),
            cond-true _ _ _ (eq-eqb a b e) ∙ sym none,
          )
      | inr ne ↦
          let some : moved ≡ take m (drop n (queue s a)) = is ∙ cond-false _ _ _ (ne_eqb a b ne) in
          let was : q b ≡ queue s b = put-there (queue s) a (drop n (queue s a)) b (λ e. ne (sym e)) in
          let queues : queue s' ≡ put (put q a (drop m (q a))) b (q b ++ take m (q a)) =
          fun_ext (requeue_list s s' a b n m moved is rest last others ne)
          ∙ (λ i. put (put q a (drop m (sym here i))) b (sym was i ++ take m (sym here i))) in
          let went : place_of s' ≡ with_place c.asleep (take m (q a)) (Some b) = places
          ∙ ap (λ xs. with_place c.asleep xs (Some b)) (some ∙ ap (take m) (sym here)) in (
            cond-false _ _ _ (ne_eqb a b ne) ∙ sym (common_is ws s s' o _ _ queues went most),
            cond-false _ _ _ (ne_eqb a b ne) ∙ ap (take m) here ∙ sym some,
          )
    ]

-- whoever sleeps is a thread
pub sleepers_threads : (s : Sleepers) (a n : ℕ) → IsSound s → thread_count s ≤ most_threads → All IsThread (take n (queue s a))
sleepers_threads s a n ok count k d l =
    let t : ℕ = get_or (take n (queue s a)) k d in
    let r = ok.in_range t a
    (ok.agree.sleeps t a (names-take n t (queue s a) (names-get_or (take n (queue s a)) k d l))) in
    (r.0, omega (arith, r.1, count))

pub woken_threads : (s : Sleepers) (a n : ℕ) (xs : List ℕ) → IsSound s → thread_count s ≤ most_threads
    → xs ≡ take n (queue s a) → All IsThread xs
woken_threads s a n xs ok count is = rw is (sleepers_threads s a n ok count)

pub moved_threads : (s : Sleepers) (a b n m : ℕ) (xs : List ℕ) → IsSound s → thread_count s ≤ most_threads
    → xs ≡ (cond (eqb a b) [] (take m (drop n (queue s a)))) → All IsThread xs
moved_threads s a b n m xs ok count is k d l =
    let t : ℕ = get_or xs k d in
    let r = ok.in_range t a (ok.agree.sleeps t a (named t (names-get_or xs k d l))) in
    (r.0, omega (arith, r.1, count)) where
      named : (u : ℕ) → names xs u ≡ true → names (queue s a) u ≡ true
      named u h = elim (cases_eq a b) [
        | inl e ↦ absurd (let none : xs ≡ [] = is ∙ cond-true _ _ _ (eq-eqb a b e) in
            let out : names [] u ≡ true = rw none at h in cc)
        | inr ne ↦ names-drop n u (queue s a)
            (names-take m u (drop n (queue s a)) (rw (is ∙ cond-false _ _ _ (ne_eqb a b ne)) at h))
      ]

pub requeue_gives : (ws : List ℕ) (s s' : Sleepers) (o : List ℤ) (a b n m expected : ℕ) (woken moved : List ℕ)
    (count : ℕ) (event : Event) → a < length ws → b < length ws
    → Requeues (word_of ws) (place_of s) a b n m expected woken moved (place_of s')
    → woken ≡ take n (queue s a) → moved ≡ (cond (eqb a b) [] (take m (drop n (queue s a))))
    → queue s' a ≡ drop (length moved) (drop n (queue s a)) → (a ≢ b → queue s' b ≡ queue s b ++ moved)
    → ((d : ℕ) → d ≢ a → d ≢ b → queue s' d ≡ queue s d) → thread_count s' ≡ thread_count s → count ≡ length woken + length moved
    → event ≡ event_of name.Requeue count woken moved
    → within (common_of ws s o) a (within (common_of ws s o) b (requeue_to (common_of ws s o) a b n m expected))
    ≡ gives count (common_of ws s' o) event
requeue_gives ws s s' o a b n m expected woken moved count event la lb call front is rest last others most counted told =
    let c : Common = common_of ws s o in
    let r = requeued_is (word_of ws) ws s s' o a b n m expected woken moved call front is rest last others most in
    inside c a _ la ∙ inside c b _ lb ∙ cond-true _ _ _ (eq-eqb _ _ call.equal)
    ∙ (λ i. gives (length (sym front i) + length (r.1 i)) (r.0 i)
    (event_of name.Requeue (length (sym front i) + length (r.1 i)) (sym front i) (r.1 i)))
    ∙ (λ i. gives (sym counted i) (common_of ws s' o) (event_of name.Requeue (sym counted i) woken moved))
    ∙ (λ i. gives count (common_of ws s' o) (sym told i))

pub known : (s : Sleepers) → IsSound s → thread_count s ≤ most_threads → (u a : ℕ) → place_of s u ≡ Some a → IsThread u
known s ok count u a at = let r = ok.in_range u a at in (r.0, omega (arith, r.1, count))
