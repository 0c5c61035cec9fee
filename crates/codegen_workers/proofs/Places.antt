-- Places fill up as workers hand in their pieces.
use Rattle.std.proofs.Common.{◌≡◌, ◌<◌, ◌+◌, ◌%◌, ℕ, zero, suc, Bool, true, false, List, [], ◌∷◌, ◌++◌, Option, Some}
use Rattle.std.proofs.Common.{None, length, replicate, refl, sym, ap, subst, ◌∙◌, ◌⊎◌, inl, inr, arith, append_assoc}
use Rattle.std.proofs.Common.{length-append}
use Rattle.std.specs.Prelude.{cond, ◌||◌, filter, nat_eq, nat_lt, slice_get}
use Rattle.std.proofs.Math.Nat.{mod-lt}
use Rattle.std.proofs.lemmas.Bool.{cases_Bool, cases_order, eq-eqb, eqb-true, le-ltb, lt-ltb, ne_eqb}
use Rattle.std.proofs.lemmas.List.{set_at}
use Rattle.program.specs.Trees.{Program, Procedure}
use Rattle.lowering.specs.declared.mark.Marked.{Marked}
use Rattle.lowering.specs.Pieces.{unlinked_code}
use Rattle.codegen.specs.Generated.{Piece, unlinked_from, unlinked_pieces}
use Rattle.linker.specs.Collecting.{added, collected, has_gap}
use Rattle.codegen_workers.specs.Arrivals.{all_added, handed_in, is_early, places_of, AreFree}
use Rattle.codegen_workers.specs.Shares.{share_of}

slice_get_at : {X : Type 0} (xs : List X) (y : X) (ys : List X) (n : ℕ) → length xs ≡ n
    → slice_get (xs ++ y ∷ ys) n ≡ Some y
slice_get_at [] y ys zero e = refl
slice_get_at [] y ys (suc n) e = absurd (omega (arith, e))
slice_get_at (x ∷ xs) y ys zero e = absurd (omega (arith, e))
slice_get_at (x ∷ xs) y ys (suc n) e = slice_get_at xs y ys n (omega (arith, e))

or_none : (b c : Bool) → c ≡ false → (b || c) ≡ b
or_none true c e = refl
or_none false c e = e

-- pieces that pass one test have come, and those that pass another come
module _ (p : Program) (came mine : ℕ → Bool) (apart : (n : ℕ) → mine n ≡ true → came n ≡ false) where
  abbrev mine_of : ℕ → List Procedure → List Piece
  mine_of n qs = filter (λ (x : Piece). mine x.number) (unlinked_from p n qs)

  abbrev either : ℕ → Bool
  either n = came n || mine n

  abbrev Arrive : List (Option (List Marked)) → ℕ → List Procedure → Type 0
  Arrive before n qs =
      let slots = before ++ places_of came p n qs in
      AreFree slots (mine_of n qs) × (all_added slots (mine_of n qs) ≡ before ++ places_of either p n qs)

  pub arrive : (before : List (Option (List Marked))) (n : ℕ) (qs : List Procedure) → length before ≡ n
      → Arrive before n qs
  arrive before n [] e = (tt, refl)
  arrive before n (q ∷ qs) e =
      by_case (cases_Bool (mine n)) (λ place. arrive (before ++ place ∷ []) (n + 1) qs
      (omega (arith, length-append before (place ∷ []), e)))
    where
      by_case : (mine n ≡ true) ⊎ (mine n ≡ false)
          → ((place : Option (List Marked)) → Arrive (before ++ place ∷ []) (n + 1) qs) → Arrive before n (q ∷ qs)
      by_case (inl m) further =
          let code = Some (unlinked_code p q) in
          let x : Piece = record { number = n; code = unlinked_code p q } in
          let rest = places_of came p (n + 1) qs in
          let slots = before ++ None ∷ rest in
          let others = mine_of (n + 1) qs in
          let moved : added slots x ≡ (before ++ code ∷ []) ++ rest =
          set_at before None rest code n e ∙ sym (append_assoc before (code ∷ []) rest) in
          let more = further code in
          rw (m, apart n m) (
            (slice_get_at before None rest n e, subst (λ s. AreFree s others) (sym moved) more.0),
            ap (λ s. all_added s others) moved ∙ more.1
                ∙ append_assoc before (code ∷ []) (places_of either p (n + 1) qs),
          )
      by_case (inr m) further =
          let place = cond (came n) (Some (unlinked_code p q)) None in
          let rest = places_of came p (n + 1) qs in
          let others = mine_of (n + 1) qs in
          let moved : before ++ place ∷ rest ≡ (before ++ place ∷ []) ++ rest =
          sym (append_assoc before (place ∷ []) rest) in
          let more = further place in
          rw (m, or_none (came n) false refl) (
            subst (λ s. AreFree s others) (sym moved) more.0,
            ap (λ s. all_added s others) moved ∙ more.1
                ∙ append_assoc before (place ∷ []) (places_of either p (n + 1) qs),
          )

same_places : (p : Program) (f g : ℕ → Bool) (n : ℕ) (qs : List Procedure) → ((k : ℕ) → f k ≡ g k)
    → places_of f p n qs ≡ places_of g p n qs
same_places p f g n [] e = refl
same_places p f g n (q ∷ qs) e =
    ap (λ b. cond b (Some (unlinked_code p q)) None ∷ places_of f p (n + 1) qs) (e n)
    ∙ ap (λ l. cond (g n) (Some (unlinked_code p q)) None ∷ l) (same_places p f g (n + 1) qs e)

lt_or_eq : (a k : ℕ) → (nat_lt a k || nat_eq a k) ≡ nat_lt a (k + 1)
lt_or_eq a k = by_case (cases_order a k)
  where
    by_case : (a ≡ k) ⊎ ((a < k) ⊎ (k < a)) → (nat_lt a k || nat_eq a k) ≡ nat_lt a (k + 1)
    by_case (inl e) = rw (le-ltb a k (omega arith), eq-eqb a k e, lt-ltb a (k + 1) (omega arith)) refl
    by_case (inr (inl lt)) = rw (lt-ltb a k lt, lt-ltb a (k + 1) (omega arith)) refl
    by_case (inr (inr gt)) =
        rw (le-ltb a k (omega arith), ne_eqb a k (λ e. absurd (omega arith)), le-ltb a (k + 1) (omega arith)) refl

-- the pieces of the next worker have free places, and fill them
pub share_arrives : (p : Program) (workers k : ℕ) → AreFree (handed_in p workers k) (share_of p workers k)
    × (all_added (handed_in p workers k) (share_of p workers k) ≡ handed_in p workers (k + 1))
share_arrives p workers k =
    let mine : ℕ → Bool = λ n. nat_eq (n % workers) k in
    let come = arrive p (is_early workers k) mine
    (λ n m. let e = eqb-true (n % workers) k m in le-ltb (n % workers) k (omega (arith, e)))
    [] 0 p.procedures refl in (
      come.0,
      come.1
          ∙ same_places p (λ n. is_early workers k n || mine n) (is_early workers (k + 1)) 0 p.procedures
          (λ n. lt_or_eq (n % workers) k),
    )

none_from : (p : Program) (workers n : ℕ) (qs : List Procedure)
    → places_of (is_early workers 0) p n qs ≡ replicate (length qs) None
none_from p workers n [] = refl
none_from p workers n (q ∷ qs) =
    ap (λ b. cond b (Some (unlinked_code p q)) None ∷ places_of (is_early workers 0) p (n + 1) qs)
    (le-ltb (n % workers) 0 (omega arith))
    ∙ ap (λ l. None ∷ l) (none_from p workers (n + 1) qs)

-- at first nothing has come
pub none_handed_in : (p : Program) (workers : ℕ) → handed_in p workers 0 ≡ replicate (length p.procedures) None
none_handed_in p workers = none_from p workers 0 p.procedures

-- at last nothing is missing
module _ (p : Program) (f : ℕ → Bool) (all : (n : ℕ) → f n ≡ true) where
  no_gap : (n : ℕ) (qs : List Procedure) → has_gap (places_of f p n qs) ≡ false
  no_gap n [] = refl
  no_gap n (q ∷ qs) = rw (all n) (no_gap (n + 1) qs)

  whole : (n : ℕ) (qs : List Procedure) → collected n (places_of f p n qs) ≡ unlinked_from p n qs
  whole n [] = refl
  whole n (q ∷ qs) =
      rw (all n) (ap (λ l. record { number = n; code = unlinked_code p q } ∷ l) (whole (n + 1) qs))

pub all_handed_in : (p : Program) (workers : ℕ) → 0 < workers
    → (has_gap (handed_in p workers workers) ≡ false)
    × (collected 0 (handed_in p workers workers) ≡ unlinked_pieces p)
all_handed_in p workers some =
    let early : (n : ℕ) → is_early workers workers n ≡ true = λ n. lt-ltb (n % workers) workers (mod-lt n some) in (
      no_gap p (is_early workers workers) early 0 p.procedures,
      whole p (is_early workers workers) early 0 p.procedures,
    )
