-- The source goes on with the machine: a stretch of a thread holds an action of its process.
use Rattle.std.proofs.Common.{◌≡◌, ℕ, ◌+◌, ◌<◌, ◌≤◌, ◌==◌, ◌&&◌, not, Bool, true, false, List, [], ◌∷◌, ◌++◌, length}
use Rattle.std.proofs.Common.{refl, ap, sym, ◌∙◌, subst, arith, cond, inl, inr, ◌⊎◌, append_assoc}
use Rattle.std.specs.Prelude.{count_by, map}
use Rattle.std.specs.List.{flat_map, list_all}
use Rattle.std.proofs.lemmas.Bool.{eqb-true, eq-eqb}
use Rattle.std.proofs.lemmas.List.Sums.{sum_by-cons, sum_by-append}
use Rattle.machine.specs.Runs.{Step, is_own}
use Rattle.meaning.specs.Labels.{Kind, Action}
use Rattle.meaning.specs.Labels as L
use Rattle.proof_thread.specs.Completing.{IsOwn}
use Rattle.refinement.specs.Pace.{is_stretch, goes_on, is_action_of, is_own_kind, KeepsPace}
use Rattle.proof_simulation.proofs.Sourcing.{act}
use Rattle.proof_simulation.proofs.Moving.{IsSome, AreOwn}

-- steps with the actions that they stand for, from how many steps each thread has left to how many it has then
pub data Trail (most : ℕ) : (ℕ → ℕ) → List Step → List Action → (ℕ → ℕ) → Type 0 where
  rests : {f : ℕ → ℕ} → Trail most f [] [] f
  goes : {f h : ℕ → ℕ} {ls : List Step} {as' : List Action} (g : ℕ → ℕ) (l : Step) (kinds : List Kind)
      → (l.pauses ≡ false → is_own l.doing ≡ true → AreOwn kinds × (IsSome kinds ⊎ (g l.thread < f l.thread)))
      → ((u : ℕ) → g u ≤ most)
      → Trail most g ls as' h → Trail most f (l ∷ ls) (map (act l.thread) kinds ++ as') h

-- a trail in two parts
record Parts (most : ℕ) (f : ℕ → ℕ) (xs ys : List Step) (as' : List Action) (h : ℕ → ℕ) : Type 0 where
  g : ℕ → ℕ
  front : List Action
  back : List Action
  is : as' ≡ front ++ back
  few : (u : ℕ) → g u ≤ most
  first : Trail most f xs front g
  second : Trail most g ys back h

split : (most : ℕ) (f : ℕ → ℕ) (xs ys zs : List Step) (as' : List Action) (h : ℕ → ℕ) → ((u : ℕ) → f u ≤ most)
    → xs ++ ys ≡ zs → Trail most f zs as' h → Parts most f xs ys as' h
split most f [] ys zs as' h few e trail = record {
  g = f;
  front = [];
  back = as';
  is = refl;
  few = few;
  first = rests;
  second = subst (λ (ls : List Step). Trail most f ls as' h) (sym e) trail;
}
split most f (x ∷ xs) ys [] as' h few e rests = absurd cc
split most f (x ∷ xs) ys zs as' h few e (goes {ls = ls} {as' = bs} g l kinds paced less more) =
    let same : x ≡ l = cc in
    let rest : xs ++ ys ≡ ls = cc in
    let r = split most g xs ys ls bs h less rest more in
    record {
      g = r.g;
      front = map (act l.thread) kinds ++ r.front;
      back = r.back;
      is = ap (λ (cs : List Action). map (act l.thread) kinds ++ cs) r.is
          ∙ sym (append_assoc (map (act l.thread) kinds) r.front r.back);
      few = r.few;
      first = subst (λ (y : Step). Trail most f (y ∷ xs) (map (act l.thread) kinds ++ r.front) r.g) (sym same)
          (goes g l kinds paced less r.first);
      second = r.second;
    }

pub count_by-cons : {A : Type 0} (p : A → Bool) (x : A) (xs : List A)
    → count_by p (x ∷ xs) ≡ cond (p x) 1 0 + count_by p xs
count_by-cons p x xs = sum_by-cons (λ y. cond (p y) 1 0) x xs

pub count_by-append : {A : Type 0} (p : A → Bool) (xs ys : List A)
    → count_by p (xs ++ ys) ≡ count_by p xs + count_by p ys
count_by-append p xs ys = sum_by-append (λ y. cond (p y) 1 0) xs ys

first_holds : (a b : Bool) → (a && b) ≡ true → a ≡ true
first_holds true b h = refl
first_holds false b h = absurd cc

second_holds : (a b : Bool) → (a && b) ≡ true → b ≡ true
second_holds true b h = h
second_holds false b h = absurd cc

not_true : (b : Bool) → not b ≡ true → b ≡ false
not_true true h = absurd cc
not_true false h = refl

counted : (b : Bool) → b ≡ true → ◌≡◌ {A = ℕ} (cond b 1 0) 1
counted true e = refl
counted false e = absurd cc

pub own_kind : (k : Kind) → IsOwn k → is_own_kind k ≡ true
own_kind (L.Stray c) h = absurd h
own_kind (L.Kill r last) h = absurd h
own_kind k h = refl

pub own_action : (u t : ℕ) (k : Kind) → IsOwn k → is_action_of t (act u k) ≡ (u == t)
own_action u t k h = ap (λ b. (u == t) && b) (own_kind k h) ∙ and_true (u == t)
  where
    and_true : (b : Bool) → (b && true) ≡ b
    and_true true = refl
    and_true false = refl

-- actions of a thread's step are its process's
some_counted : (t : ℕ) (kinds : List Kind) (as' : List Action) → AreOwn kinds → IsSome kinds
    → 1 ≤ count_by (is_action_of t) (map (act t) kinds ++ as')
some_counted t [] as' own h = absurd h
some_counted t (k ∷ ks) as' own h =
    let a = count_by-cons (is_action_of t) (act t k) (map (act t) ks ++ as') in
    let one = counted (is_action_of t (act t k)) (own_action t t k own.0 ∙ eq-eqb t t refl) in
    omega (arith, a, one)

-- so many steps of one thread, without a pause, hold an action or take as many from what was left
stretch_acts : (most t : ℕ) (f : ℕ → ℕ) (xs : List Step) (as' : List Action) (h : ℕ → ℕ)
    → list_all (goes_on t) xs ≡ true → Trail most f xs as' h
    → (1 ≤ count_by (is_action_of t) as') ⊎ (length xs + h t ≤ f t)
stretch_acts most t f [] as' h all rests = inr (omega arith)
stretch_acts most t f (x ∷ xs) as' h all (goes {as' = bs} g l kinds paced less more) =
    let this = first_holds (goes_on t l) (list_all (goes_on t) xs) all in
    let mine = eqb-true l.thread t (first_holds (l.thread == t) (not l.pauses && is_own l.doing) this) in
    let going = second_holds (l.thread == t) (not l.pauses && is_own l.doing) this in
    let awake = not_true l.pauses (first_holds (not l.pauses) (is_own l.doing) going) in
    let so = paced awake (second_holds (not l.pauses) (is_own l.doing) going) in
    both mine so.0 so.1 (stretch_acts most t g xs bs h (second_holds (goes_on t l) (list_all (goes_on t) xs) all)
    more)
  where
    both : l.thread ≡ t → AreOwn kinds → IsSome kinds ⊎ (g l.thread < f l.thread)
        → (1 ≤ count_by (is_action_of t) bs) ⊎ (length xs + h t ≤ g t)
        → (1 ≤ count_by (is_action_of t) (map (act l.thread) kinds ++ bs)) ⊎ (length (l ∷ xs) + h t ≤ f t)
    both mine own (inl some) r = inl (subst (λ u. 1 ≤ count_by (is_action_of t) (map (act u) kinds ++ bs)) (sym mine)
        (some_counted t kinds bs own some))
    both mine own (inr fewer) (inl r) =
        let c = count_by-append (is_action_of t) (map (act l.thread) kinds) bs in inl (omega (arith, c, r))
    both mine own (inr fewer) (inr r) =
        let now : g t < f t = subst (λ u. g u < f u) mine fewer in inr (omega (arith, now, r))

pub keeps_pace : (most k : ℕ) (f h : ℕ → ℕ) (steps : List Step) (as' : List Action) → most < k
    → ((u : ℕ) → f u ≤ most) → Trail most f steps as' h → KeepsPace k steps as'
keeps_pace most k f h steps as' big few trail t [] cut = omega arith
keeps_pace most k f h steps as' big few trail t (part ∷ parts) cut =
    let rest = flat_map (λ (p : List Step). p) parts in
    let r = split most f part rest steps as' h few cut trail in
    let later = keeps_pace most k r.g h rest r.back big r.few r.second t parts refl in
    let counts = count_by-cons (is_stretch k t) part parts in
    let total = count_by-append (is_action_of t) r.front r.back in
    let whole = ap (count_by (is_action_of t)) r.is in
    let here = by_test (is_stretch k t part) refl r in
    omega (arith, later, counts, total, whole, here)
  where
    by_test : (b : Bool) → is_stretch k t part ≡ b → (r : Parts most f part (flat_map
        (λ (p : List Step). p) parts) as' h)
        → cond b 1 0 ≤ count_by (is_action_of t) r.front
    by_test false e r = omega arith
    by_test true e r =
        let size = eqb-true (length part) k (first_holds (length part == k) (list_all (goes_on t) part) e) in
        let all = second_holds (length part == k) (list_all (goes_on t) part) e in
        by_case (stretch_acts most t f part r.front r.g all r.first)
      where
        by_case : (1 ≤ count_by (is_action_of t) r.front) ⊎ (length part + r.g t ≤ f t)
            → 1 ≤ count_by (is_action_of t) r.front
        by_case (inl one) = one
        by_case (inr less) =
            let size = eqb-true (length part) k (first_holds (length part == k) (list_all (goes_on t) part) e) in
            absurd (omega (arith, less, size, few t, big))
