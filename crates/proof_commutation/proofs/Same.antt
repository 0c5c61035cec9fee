-- Each process does the same, in the same order, in a run that is reordered.
use Rattle.std.proofs.Common.{◌≡◌, ◌≢◌, ℕ, zero, suc, ◌≤◌, ◌<◌, ◌==◌, Bool, true, false, List, [], ◌∷◌, ◌++◌, refl}
use Rattle.std.proofs.Common.{sym, ap, ◌∙◌, subst, arith, inl, inr, if◌then◌else◌, map, append-nil, append_assoc}
use Rattle.std.proofs.lemmas.Bool.{cases_eq, eq-eqb, ne_eqb, cond-true, cond-false}
use Rattle.words.specs.Updates.{put}
use Rattle.meaning.specs.Labels.{Action, Kind}
use Rattle.proof_commutation.specs.Placed.{Marked, action_of, actions_of, actions_up_to, placed_behind, kinds_of}
use Rattle.words.proofs.Updates.{put_same, put_other}

kinds_here : (t : ℕ) (a : Action) (actions : List Action) → a.process ≡ t
    → kinds_of t (a ∷ actions) ≡ a.kind ∷ kinds_of t actions
kinds_here t a actions e = cond-true (a.process == t) (a.kind ∷ kinds_of t actions) (kinds_of t actions)
    (eq-eqb a.process t e)

kinds_else : (t : ℕ) (a : Action) (actions : List Action) → a.process ≢ t
    → kinds_of t (a ∷ actions) ≡ kinds_of t actions
kinds_else t a actions o = cond-false (a.process == t) (a.kind ∷ kinds_of t actions) (kinds_of t actions)
    (ne_eqb a.process t o)

kinds_both : (t : ℕ) (xs ys : List Action) → kinds_of t (xs ++ ys) ≡ kinds_of t xs ++ kinds_of t ys
kinds_both t [] ys = refl
kinds_both t (x ∷ xs) ys = elim (cases_eq x.process t) [
  | inl e ↦ kinds_here t x (xs ++ ys) e ∙ ap (λ l. x.kind ∷ l) (kinds_both t xs ys)
      ∙ ap (λ l. l ++ kinds_of t ys) (sym (kinds_here t x xs e))
  | inr o ↦ kinds_else t x (xs ++ ys) o ∙ kinds_both t xs ys
      ∙ ap (λ l. l ++ kinds_of t ys) (sym (kinds_else t x xs o))
]

kinds_own : (t : ℕ) (ks : List Kind) → kinds_of t (actions_of t ks) ≡ ks
kinds_own t [] = refl
kinds_own t (k ∷ ks) = kinds_here t (record { process = t; kind = k }) (actions_of t ks) refl
    ∙ ap (λ l. k ∷ l) (kinds_own t ks)

kinds_other : (t u : ℕ) (ks : List Kind) → u ≢ t → kinds_of t (actions_of u ks) ≡ []
kinds_other t u [] o = refl
kinds_other t u (k ∷ ks) o = kinds_else t (record { process = u; kind = k }) (actions_of u ks) o ∙ kinds_other t u ks o

kinds_above : (n t : ℕ) (w : ℕ → List Kind) → n < t → kinds_of t (actions_up_to n w) ≡ []
kinds_above zero t w past = refl
kinds_above (suc n) t w past =
    kinds_both t (actions_up_to n w) (actions_of (suc n) (w (suc n)))
    ∙ ap (λ l. l ++ kinds_of t (actions_of (suc n) (w (suc n)))) (kinds_above n t w (omega (arith, past)))
    ∙ kinds_other t (suc n) (w (suc n)) (λ e. omega (arith, e, past))

kinds_below : (n t : ℕ) (w : ℕ → List Kind) → 0 < t → t ≤ n → kinds_of t (actions_up_to n w) ≡ w t
kinds_below zero t w low high = absurd (omega (arith, low, high))
kinds_below (suc n) t w low high =
    kinds_both t (actions_up_to n w) (actions_of (suc n) (w (suc n))) ∙ elim (cases_eq (suc n) t) [
      | inl e ↦ ap (λ l. l ++ kinds_of t (actions_of (suc n) (w (suc n)))) (kinds_above n t w (omega (arith, e)))
          ∙ subst (λ u. kinds_of u (actions_of (suc n) (w (suc n))) ≡ w u) e (kinds_own (suc n) (w (suc n)))
      | inr o ↦ ap (λ l. kinds_of t (actions_up_to n w) ++ l) (kinds_other t (suc n) (w (suc n)) o)
          ∙ append-nil (kinds_of t (actions_up_to n w)) ∙ kinds_below n t w low (omega (arith, o, high))
    ]

module _ (n t : ℕ) (low : 0 < t) (high : t ≤ n) where
  either : (mark : Bool) (xs ys : List Action) (ks : List Kind) → kinds_of t xs ≡ ks → kinds_of t ys ≡ ks
      → kinds_of t (if mark then xs else ys) ≡ ks
  either true xs ys ks x y = x
  either false xs ys ks x y = y

  abbrev rest : List Marked → List Kind
  rest xs = kinds_of t (map action_of xs)

  kinds_so_far : (w : ℕ → List Kind) (x : Marked) (xs : List Marked)
      → put w x.process (w x.process ++ x.kind ∷ []) t ++ rest xs ≡ w t ++ rest (x ∷ xs)
  kinds_so_far w x xs = elim (cases_eq x.process t) [
    | inl e ↦ ap (λ l. l ++ rest xs)
        (subst (λ u. put w x.process (w x.process ++ x.kind ∷ []) u ≡ w u ++ x.kind ∷ []) e
        (put_same w x.process (w x.process ++ x.kind ∷ [])))
        ∙ append_assoc (w t) (x.kind ∷ []) (rest xs)
        ∙ ap (λ l. w t ++ l) (sym (kinds_here t (action_of x) (map action_of xs) e))
    | inr o ↦ ap (λ l. l ++ rest xs) (put_other w x.process (w x.process ++ x.kind ∷ []) t (λ e. o (sym e)))
        ∙ ap (λ l. w t ++ l) (sym (kinds_else t (action_of x) (map action_of xs) o))
  ]

  -- where x comes now, behind what is deferred of its process, and later actions as these
  came : (w : ℕ → List Kind) (x : Marked) (xs : List Marked) (ys : List Action)
      → kinds_of t ys ≡ put w x.process [] t ++ rest xs
      → kinds_of t (actions_of x.process (w x.process) ++ action_of x ∷ ys) ≡ w t ++ rest (x ∷ xs)
  came w x xs ys is =
      kinds_both t (actions_of x.process (w x.process)) (action_of x ∷ ys) ∙ elim (cases_eq x.process t) [
        | inl e ↦
            ap (λ l. l ++ kinds_of t (action_of x ∷ ys))
            (subst (λ u. kinds_of u (actions_of x.process (w x.process)) ≡ w u) e (kinds_own x.process (w x.process)))
            ∙ ap (λ l. w t ++ l) (kinds_here t (action_of x) ys e
            ∙ ap (λ l. x.kind ∷ l) (is ∙ ap (λ l. l ++ rest xs)
            (subst (λ u. put w x.process [] u ≡ []) e (put_same w x.process [])))
            ∙ sym (kinds_here t (action_of x) (map action_of xs) e))
        | inr o ↦
            ap (λ l. l ++ kinds_of t (action_of x ∷ ys)) (kinds_other t x.process (w x.process) o)
            ∙ kinds_else t (action_of x) ys o ∙ is
            ∙ ap (λ l. l ++ rest xs) (put_other w x.process [] t (λ e. o (sym e)))
            ∙ ap (λ l. w t ++ l) (sym (kinds_else t (action_of x) (map action_of xs) o))
      ]

  pub same_kinds : (w : ℕ → List Kind) (xs : List Marked) → kinds_of t (placed_behind n w xs) ≡ w t ++ rest xs
  same_kinds w [] = kinds_below n t w low high ∙ sym (append-nil (w t))
  same_kinds w (x ∷ xs) =
      either x.deferred (placed_behind n (put w x.process (w x.process ++ x.kind ∷ [])) xs)
      (actions_of x.process (w x.process) ++ action_of x ∷ placed_behind n (put w x.process []) xs)
      (w t ++ rest (x ∷ xs))
      (same_kinds (put w x.process (w x.process ++ x.kind ∷ [])) xs ∙ kinds_so_far w x xs)
      (came w x xs (placed_behind n (put w x.process []) xs) (same_kinds (put w x.process []) xs))
