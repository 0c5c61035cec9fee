-- What each call does to the lists, in the words of its contract.
use Rattle.std.proofs.Common.{◌≡◌, ◌≢◌, ℕ, zero, suc, ◌+◌, ◌<◌, ◌≤◌, ◌%◌, true, not, eqb, Option, Some, None, List}
use Rattle.std.proofs.Common.{[], ◌∷◌, ◌++◌, length, get_or, take, drop, set, replicate, refl, sym, ap, ◌∙◌, arith, inl}
use Rattle.std.proofs.Common.{inr}
use Rattle.std.specs.List.{filter}
use Rattle.std.specs.Option.{option_map}
use Rattle.std.proofs.Math.Path.{fun_ext}
use Rattle.std.proofs.lemmas.Bool.{cases_eq, or_left, or_right, eq-eqb, ne_eqb, false_from_ne_true}
use Rattle.std.proofs.lemmas.List.{append-nil, get_or-set_same, get_or-set_other, length-set, length-replicate}
use Rattle.words.specs.declared.mem.Addr.{Addr}
use Rattle.words.specs.Limits.{most_threads}
use Rattle.buckets.specs.declared.sleeper.Sleeper.{Sleeper}
use Rattle.buckets.specs.BucketCount.{IsBucketCount}
use Rattle.buckets.specs.Places.{names, with_place}
use Rattle.buckets.specs.Sleepers.{Sleepers, queue, place_of, thread_count, bucket_count, holder_of, IsSound}
use Rattle.buckets.specs.Lists.{concatenation, IsConsistent}
use Rattle.buckets.proofs.Queues.{on, on-here, on-elsewhere}
use Rattle.buckets.proofs.Rows.{mod_lt, sound, on-concatenation}
use Rattle.buckets.proofs.Changes.{Replaces, replaced, on-replaced}
use Rattle.buckets.proofs.Arrivals.{enters, on-push}
use Rattle.buckets.proofs.Drops.{others, drops, on-others, filter-absent}

-- what contracts see of a table of places, the lists of the buckets and their holders
abbrev pub shown : List (Option Addr) → List (List Sleeper) → List (Option ℕ) → Sleepers
shown places rows holders = record { places = places; waiting = concatenation rows; holders = holders }

pub record Entered (s s' : Sleepers) (t a : ℕ) : Type 0 where
  pub last : queue s' a ≡ queue s a ++ t ∷ []
  pub others : (b : ℕ) → b ≢ a → queue s' b ≡ queue s b
  pub places : place_of s' ≡ with_place (place_of s) (t ∷ []) (Some a)
  pub holders : s'.holders ≡ s.holders
  pub threads : thread_count s' ≡ thread_count s
  pub sound : IsSound s × IsSound s'

pub record Taken (s s' : Sleepers) (front : List ℕ) (a n : ℕ) : Type 0 where
  pub taken : front ≡ take n (queue s a)
  pub rest : queue s' a ≡ drop n (queue s a)
  pub others : (b : ℕ) → b ≢ a → queue s' b ≡ queue s b
  pub places : place_of s' ≡ with_place (place_of s) front None
  pub holders : s'.holders ≡ s.holders
  pub threads : thread_count s' ≡ thread_count s
  pub sound : IsSound s × IsSound s'

pub record Dropped (s s' : Sleepers) (t : ℕ) : Type 0 where
  pub queues : (b : ℕ) → queue s' b ≡ filter (λ u. not (eqb u t)) (queue s b)
  pub places : place_of s' ≡ with_place (place_of s) (t ∷ []) None
  pub holders : s'.holders ≡ s.holders
  pub threads : thread_count s' ≡ thread_count s
  pub sound : IsSound s × IsSound s'

place-set : (places : List (Option Addr)) (t u : ℕ) (p : Option Addr) → t < length places → option_map (λ x. x.0)
    (get_or (set places t p) u None) ≡ with_place (λ w. option_map (λ x. x.0) (get_or places w None)) (t ∷ [])
    (option_map (λ x. x.0) p) u
place-set places t u p l = elim (cases_eq u t) [
  | inl e ↦ rw (e, get_or-set_same places t p None l, eq-eqb t t refl) refl
  | inr ne ↦ rw (get_or-set_other places t u p None ne, ne_eqb u t ne) refl
]

-- the sleepers on an address, in the list of its bucket
pub on-bucket : (places : List (Option Addr)) (rows : List (List Sleeper)) → IsConsistent places rows → (b k : ℕ)
    → b % length rows ≡ k → on b (get_or rows k []) ≡ on b (concatenation rows)
on-bucket places rows i b k e = rw (← e) (sym (on-concatenation places rows i b))

pub no_entry : (o : Option Addr) → option_map (λ x. x.0) o ≡ None → o ≡ None
no_entry None h = refl
no_entry (Some x) h = absurd cc

pub enqueued : (places : List (Option Addr)) (rows : List (List Sleeper)) (holders : List (Option ℕ)) (s : Sleeper)
    (k : ℕ)
    → IsConsistent places rows → length holders ≡ length rows → 1 ≤ s.thread → s.thread < length places → get_or places
    s.thread None ≡ None → k ≡ s.address.0 % length rows
    → IsConsistent (set places s.thread (Some s.address)) (set rows k (get_or rows k [] ++ s ∷ [])) × Entered
    (shown places rows holders)
    (shown (set places s.thread (Some s.address)) (set rows k (get_or rows k [] ++ s ∷ [])) holders) s.thread
    s.address.0
unfolding queue place_of thread_count
enqueued places rows holders s k i held one inside free is =
    let l : k < length rows = omega (arith, is, mod_lt s.address.0 (length rows) i.some) in
    let row' = get_or rows k [] ++ s ∷ [] in
    let r : Replaces places (set places s.thread (Some s.address)) (length rows) k row' = rw is
    (enters places rows s i one inside free) in
    let i' : IsConsistent (set places s.thread (Some s.address)) (set rows k row') = replaced places _ rows k row' i l r in (
      i',
      record {
        last = on-replaced places _ rows k row' i i' l s.address.0 _ (λ e. on-push s.address.0 s _
            ∙ rw (on-here s.address.0 s [] refl) (ap (λ x. x ++ s.thread ∷ []) (on-bucket places rows i s.address.0 k e)))
            (λ ne. absurd (ne (sym is)));
        others = λ b ne. on-replaced places _ rows k row' i i' l b _ (λ e. on-push b s _
            ∙ rw (on-elsewhere b s [] (λ q. ne (sym q)), append-nil) (on-bucket places rows i b k e)) (λ _. refl);
        places = fun_ext (λ u. place-set places s.thread u (Some s.address) inside);
        holders = refl;
        threads = omega (arith, length-set places s.thread (Some s.address));
        sound = (sound places rows holders i held, sound _ _ holders i' (held ∙ sym (length-set rows k row')));
      },
    )

pub dropped : (places : List (Option Addr)) (rows : List (List Sleeper)) (holders : List (Option ℕ)) (t k : ℕ)
    (a : Addr)
    → IsConsistent places rows → length holders ≡ length rows → t < length places → get_or places t None ≡ Some a → k
    ≡ a.0 % length rows → IsConsistent (set places t None)
    (set rows k (others t (get_or rows k []))) × Dropped (shown places rows holders)
    (shown (set places t None) (set rows k (others t (get_or rows k []))) holders) t
unfolding queue place_of thread_count
dropped places rows holders t k a i held inside sleeps is =
    let l : k < length rows = omega (arith, is, mod_lt a.0 (length rows) i.some) in
    let row' = others t (get_or rows k []) in
    let r : Replaces places (set places t None) (length rows) k row' = rw is (drops places rows t a i inside sleeps) in
    let i' : IsConsistent (set places t None) (set rows k row') = replaced places _ rows k row' i l r in
    let here : (b : ℕ) → names (on b (concatenation rows)) t ≡ true → a.0 ≡ b = λ b h. let
    at = (sound places rows holders i held).agree.sleeps t b h in let at' : Some a.0 ≡ Some b = rw sleeps
    at at in cc in (
      i',
      record {
        queues = λ b. on-replaced places _ rows k row' i i' l b _
            (λ e. on-others b t _ ∙ ap (filter (λ u. not (eqb u t))) (on-bucket places rows i b k e))
            (λ ne. sym (filter-absent t _ (false_from_ne_true _
            (λ h. ne (ap (λ x. x % length rows) (sym (here b h)) ∙ sym is)))));
        places = fun_ext (λ u. place-set places t u None inside);
        holders = refl;
        threads = omega (arith, length-set places t None);
        sound = (sound places rows holders i held, sound _ _ holders i' (held ∙ sym (length-set rows k row')));
      },
    )

-- a thread that sleeps nowhere stands in no list
pub not_there : (places : List (Option Addr)) (rows : List (List Sleeper)) (holders : List (Option ℕ)) (t : ℕ)
    → IsConsistent places rows → length holders ≡ length rows → get_or places t None ≡ None
    → Dropped (shown places rows holders) (shown places rows holders) t
unfolding queue place_of thread_count
not_there places rows holders t i held awake =
    let s = sound places rows holders i held in
    record {
      queues = λ b. sym (filter-absent t _ (false_from_ne_true _ (λ h. let at = s.agree.sleeps t b h in let at' :
          option_map (λ (x : Addr). x.0) None ≡ Some b = rw awake at at in cc)));
      places = fun_ext (λ u. elim (cases_eq u t) [
        | inl e ↦ rw (e, eq-eqb t t refl, awake) refl
        | inr ne ↦ rw
            (ne_eqb u t ne) refl
      ]);
      holders = refl;
      threads = refl;
      sound = (s, s);
    }

pub names-get_or : (xs : List ℕ) (k d : ℕ) → k < length xs → names xs (get_or xs k d) ≡ true
names-get_or [] k d l = absurd (omega arith)
names-get_or (x ∷ xs) zero d l = or_left (eqb x x) _ (eq-eqb x x refl)
names-get_or (x ∷ xs) (suc k) d l = or_right (eqb (get_or xs k d) x) _ (names-get_or xs k d (omega arith))

-- a table in which everybody is awake, and lists of nobody
abbrev pub nobody_at : Option Addr
nobody_at = None

pub awake_all : (m : ℕ) (t : ℕ) → get_or (replicate m nobody_at) t None ≡ None
awake_all zero t = refl
awake_all (suc m) zero = refl
awake_all (suc m) (suc t) = awake_all m t

empty_joined : (n : ℕ) → concatenation (replicate n []) ≡ []
empty_joined zero = refl
empty_joined (suc n) = empty_joined n

empty_row : (n k : ℕ) → get_or {A = List Sleeper} (replicate n []) k [] ≡ []
empty_row zero k = refl
empty_row (suc n) zero = refl
empty_row (suc n) (suc k) = empty_row n k

pub opened : (threads n : ℕ) → threads ≤ most_threads → 1 ≤ n → IsConsistent (replicate (threads + 1) nobody_at)
    (replicate n [])
opened threads n few some =
    let long : length (replicate (threads + 1) nobody_at) ≡ threads + 1 = length-replicate (threads + 1) nobody_at in
    record {
      threads = omega arith;
      few = omega arith;
      no_zero = awake_all (threads + 1) 0;
      some = rw (length-replicate {A = List Sleeper} n []) some;
      stand = λ k l. rw (empty_row n k) tt;
      found = λ t a h. absurd (let no = awake_all (threads + 1) t in cc);
    }

pub record Opened (s : Sleepers) (most n : ℕ) : Type 0 where
  pub empty : (a : ℕ) → queue s a ≡ []
  pub awake : (t : ℕ) → place_of s t ≡ None
  pub threads : thread_count s ≡ most
  pub count : bucket_count s ≡ n
  pub free : (k : ℕ) → holder_of s k ≡ None
  pub sound : IsSound s

-- a table in which nobody holds a bucket
abbrev pub no_holder : Option ℕ
no_holder = None

free_all : (n : ℕ) (k : ℕ) → get_or (replicate n no_holder) k None ≡ None
free_all zero k = refl
free_all (suc n) zero = refl
free_all (suc n) (suc k) = free_all n k

pub opens : (threads n : ℕ) → threads ≤ most_threads → 1 ≤ n → Opened
    (shown (replicate (threads + 1) nobody_at) (replicate n []) (replicate n no_holder)) threads n
unfolding queue place_of thread_count bucket_count holder_of
opens threads n few some = record {
  empty = λ a. rw (empty_joined n) refl;
  awake = λ t. rw (awake_all (threads + 1) t) refl;
  threads = rw (length-replicate (threads + 1) nobody_at) (omega arith);
  count = length-replicate n no_holder;
  free = λ k. free_all n k;
  sound = sound _ _ _ (opened threads n few some)
      (length-replicate n no_holder ∙ sym (length-replicate {A = List Sleeper} n []));
}

pub some_bucket : (n : ℕ) → IsBucketCount n → 1 ≤ n
some_bucket zero h = absurd cc
some_bucket (suc n) h = omega arith
