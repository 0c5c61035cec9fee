-- What always holds of what threads share, and how each change of it keeps that.
use Rattle.std.proofs.Common.{◌≡◌, ℕ, ◌≤◌, true, false, eqb, Some, None, List, [], ◌∷◌, ◌++◌, length, drop, sym}
use Rattle.std.proofs.Common.{ap, ◌∙◌, arith, inl, inr, length-set}
use Rattle.std.specs.Prelude.{ℤ}
use Rattle.std.specs.List.{IsDistinct}
use Rattle.std.proofs.lemmas.Bool.{cases_eq, cases_Bool, or_cases, eqb-true, cond-true, cond-false, eq-eqb, ne_eqb}
use Rattle.words.specs.Versions.{most_of}
use Rattle.isa.specs.Programs.{Program, memory_size}
use Rattle.locals.specs.Threads.{Thread}
use Rattle.buckets.specs.Places.{names, with_place, Agree}
use Rattle.buckets.proofs.Takes.{names-take}
use Rattle.buckets.proofs.Moves.{IsDistinct-take, with_place-again}
use Rattle.robustexit.specs.RobustExit.{put}
use Rattle.machine.specs.States.{Common, ConcreteState}
use Rattle.machine.specs.ConcreteServing.{set_word, wake_front, sleep_on, move_front, front}
use Rattle.machine.specs.Views.{IsWellFormed}
use Rattle.machine.proofs.Placing.{put-there}
use Rattle.machine.proofs.Sleeping.{placed, unplaced, agree-woken, agree-arrived}

-- of the memory of a program and so many threads
pub record Holds (p : Program) (n : ℕ) (c : Common) : Type 0 where
  pub most : c.most ≡ most_of p.version
  pub sized : length c.words ≡ memory_size p
  pub agree : Agree c.queue c.asleep
  pub made : (t a : ℕ) → c.asleep t ≡ Some a → (1 ≤ t) × (t ≤ n)

pub holds-concrete : (p : Program) (k : ConcreteState) → IsWellFormed p k
    → Holds p (length k.threads) k.common
holds-concrete p k concrete =
    record { most = concrete.most; sized = concrete.sized; agree = concrete.agree; made = concrete.made }

pub holds-more : (p : Program) (n m : ℕ) (c : Common) → n ≤ m → Holds p n c → Holds p m c
holds-more p n m c le h =
    record {
      most = h.most;
      sized = h.sized;
      agree = h.agree;
      made = λ t a e. let r = h.made t a e in (r.0, omega (arith, r.1));
    }

pub holds-set : (p : Program) (n : ℕ) (c : Common) (a v : ℕ) → Holds p n c → Holds p n (set_word c a v)
holds-set p n c a v h = record { most = h.most; sized = length-set c.words a v ∙ h.sized; agree = h.agree; made = h.made }

pub holds-printed : (p : Program) (n : ℕ) (c : Common) (output : List ℤ) → Holds p n c
    → Holds p n (record c { output = output })
holds-printed p n c output h = record { most = h.most; sized = h.sized; agree = h.agree; made = h.made }

pub holds-woke : (p : Program) (n : ℕ) (c : Common) (a m : ℕ) → Holds p n c → Holds p n (wake_front c a m)
holds-woke p n c a m h = record {
  most = h.most;
  sized = h.sized;
  agree = agree-woken c.queue c.asleep a m h.agree;
  made = λ t b e. elim (cases_Bool (names (front c a m) t)) [
    | inl y ↦ absurd (let none = placed c.asleep (front c a m) None t y in cc)
    | inr out ↦ h.made t b (sym (unplaced c.asleep (front c a m) None t out) ∙ e)
  ];
}

-- threads that were made, of which none sleeps, come to an address
pub holds-arrived : (p : Program) (n : ℕ) (c : Common) (b : ℕ) (xs : List ℕ) → IsDistinct eqb xs
    → ((t : ℕ) → names xs t ≡ true → (c.asleep t ≡ None) × ((1 ≤ t) × (t ≤ n))) → Holds p n c
    → Holds p n (record c { queue = put c.queue b (c.queue b ++ xs); asleep = with_place c.asleep xs (Some b) })
holds-arrived p n c b xs d free h = record {
  most = h.most;
  sized = h.sized;
  agree = agree-arrived c.queue c.asleep b xs d (λ t y. (free t y).0) h.agree;
  made = λ t a e. elim (cases_Bool (names xs t)) [
    | inl y ↦ (free t y).1
    | inr out ↦ h.made t a (sym (unplaced c.asleep xs (Some b) t out) ∙ e)
  ];
}

pub holds-slept : (p : Program) (n : ℕ) (c : Common) (t a : ℕ) → 1 ≤ t → t ≤ n → c.asleep t ≡ None → Holds p n c
    → Holds p n (sleep_on c t a)
unfolding IsDistinct
holds-slept p n c t a some few free h =
    holds-arrived p n c a (t ∷ []) (one t) (λ u y. let e : t ≡ u = sym (eqb-true u t (only u y)) in
    (ap c.asleep (sym e) ∙ free, (omega (arith, e), omega (arith, e)))) h where
      one : (u : ℕ) → IsDistinct eqb (u ∷ [])
      one u = (tt, tt)

      only : (u : ℕ) → names (t ∷ []) u ≡ true → eqb u t ≡ true
      only u y = elim (or_cases (eqb u t) false y) [ inl e ↦ e | inr f ↦ absurd cc ]

-- the front of a goes to the end of b
pub holds-moved : (p : Program) (n : ℕ) (c : Common) (a b m : ℕ) → Holds p n c → Holds p n (move_front c a b m)
holds-moved p n c a b m h = elim (cases_eq a b) [
  | inl e ↦ let is : move_front c a b m ≡ c = cond-true _ _ _ (eq-eqb a b e) in rw is h
  | inr ne ↦
      let woke : Common = wake_front c a m in
      let xs : List ℕ = front c a m in
      let late : Holds p n (record woke {
        queue = put woke.queue b (woke.queue b ++ xs);
        asleep =
            with_place woke.asleep xs (Some b);
      }) =
      holds-arrived p n woke b xs (IsDistinct-take m (c.queue a) (h.agree.distinct a))
      (λ t y. (placed c.asleep xs None t y, h.made t a (h.agree.sleeps t a (names-take m t (c.queue a) y))))
      (holds-woke p n c a m h) in
      let was : woke.queue b ≡ c.queue b = put-there c.queue a (drop m (c.queue a)) b (λ q. ne (sym q)) in
      let places : with_place woke.asleep xs (Some b) ≡ with_place c.asleep xs (Some b) =
      with_place-again c.asleep xs None (Some b) in
      let is : move_front c a b m
      ≡ record woke {
        queue = put woke.queue b (woke.queue b ++ xs);
        asleep =
            with_place woke.asleep xs (Some b);
      } =
      cond-false _ _ _ (ne_eqb a b ne)
      ∙ (λ i. record c { queue = put woke.queue b (sym was i ++ xs); asleep = sym places i }) in
      rw is late
]

-- a state of the machine after a step of thread t, with a thread more where it made one
pub keeps : (p : Program) (k : ConcreteState) (c : Common) (threads : List Thread) → IsWellFormed p k
    → length k.threads ≤ length threads → length threads ≤ c.most → Holds p (length threads) c
    → IsWellFormed p (record { common = c; threads = threads })
keeps p k c threads concrete more few h =
    record {
      most = h.most;
      fits = omega (arith, h.most, concrete.most, concrete.fits);
      sized = h.sized;
      some = omega (arith, concrete.some);
      few = few;
      agree = h.agree;
      made = h.made;
    }
