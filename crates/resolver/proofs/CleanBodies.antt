-- Where no fault is among several, none is among each.
use Rattle.std.proofs.Common.{◌≡◌, ◌<◌, ◌≤◌, ◌+◌, ℕ, zero, suc, List, [], ◌∷◌, ◌++◌, Bool, true, false, not, ◌&&◌}
use Rattle.std.proofs.Common.{length, drop, get_or, drop-cons, refl, ap, ◌∙◌, sym, arith}
use Rattle.std.specs.Prelude.{flat_map}
use Rattle.std.specs.List.{Contains}
use Rattle.std.proofs.Math.Bool.{and_assoc}
use Rattle.std.proofs.lemmas.List.{at_drop_all}
use Rattle.scanner.specs.declared.token.Place.{Place}
use Rattle.scanner.specs.declared.refusal.Refusal.{Refusal}
use Rattle.scanner.specs.declared.refusal.RefusalKind.{RefusalKind}
use Rattle.syntax.specs.Tree.{UnitTree}
use Rattle.types.specs.Faults.{where_true, unknown}
use Rattle.types.specs.Judgement.{IsInBody}
use Rattle.types.specs.Pieces.{pieces}
use Rattle.resolver.specs.Clean.{is_clean}
use Rattle.resolver.specs.Sites.{piece_faults, body_faults}

pub clean_both : (a b : List Refusal) → is_clean (a ++ b) ≡ (is_clean a && is_clean b)
clean_both [] b = refl
clean_both (x ∷ a) b = refl

and_true : (y : Bool) → (y && true) ≡ y
and_true true = refl
and_true false = refl

-- what four flags say together
pub four : {a b c d m n o p x y z : Bool} → x ≡ (a && b) → y ≡ (x && c) → z ≡ (y && d) → a ≡ m → b ≡ n → c ≡ o
    → d ≡ p → z ≡ (((m && n) && o) && p)
four {a} {b} {c} {d} {m} {n} {o} {p} e f g h i j k =
    g ∙ ap (λ w. w && d) (f ∙ ap (λ w. w && c) (e ∙ ap (λ w. w && b) h ∙ ap (λ w. m && w) i)
    ∙ ap (λ w. (m && n) && w) j) ∙ ap (λ w. ((m && n) && o) && w) k

-- a fault that stands where a test holds, and others
pub clean_behind : (r : Bool) (kind : RefusalKind) (place : Place) (fs : List Refusal)
    → is_clean (where_true r kind place ++ fs) ≡ (not r && is_clean fs)
clean_behind true kind place fs = refl
clean_behind false kind place fs = refl

-- a callee that means nothing is a fault
pub unknown_behind : (r : Bool) (kind : RefusalKind) (place p : Place) (a b : List Refusal)
    → is_clean (where_true r kind place ++ ((unknown p ++ a) ++ b)) ≡ false
unknown_behind true kind place p a b = refl
unknown_behind false kind place p a b = refl

-- those of a FORK, of its name, its arguments and what takes its process
pub fork_clean : (r h m : Bool) (j k n : RefusalKind) (p q : Place) (a b c : List Refusal)
    → is_clean (where_true r j p ++ ((((where_true h k q ++ where_true m n q) ++ a) ++ b) ++ c))
    ≡ ((((not r && not h) && not m) && is_clean (a ++ b)) && is_clean c)
fork_clean true h m j k n p q a b c = refl
fork_clean false true m j k n p q a b c = refl
fork_clean false false true j k n p q a b c = refl
fork_clean false false false j k n p q a b c = clean_both (a ++ b) c

-- those of a CALL
pub call_clean : (r h o m e : Bool) (j k l n i : RefusalKind) (p q : Place) (a b c : List Refusal)
    → is_clean (where_true r j p ++ ((((((where_true h k q ++ where_true o l q) ++ where_true m n q)
    ++ where_true e i q) ++ a) ++ b) ++ c))
    ≡ ((((((not r && not h) && not o) && not m) && not e) && is_clean (a ++ b)) && is_clean c)
call_clean true h o m e j k l n i p q a b c = refl
call_clean false true o m e j k l n i p q a b c = refl
call_clean false false true m e j k l n i p q a b c = refl
call_clean false false false true e j k l n i p q a b c = refl
call_clean false false false false true j k l n i p q a b c = refl
call_clean false false false false false j k l n i p q a b c = clean_both (a ++ b) c

-- those of a JOIN
pub join_clean : (r : Bool) (kind : RefusalKind) (place : Place) (a b c : List Refusal)
    → is_clean (((where_true r kind place ++ a) ++ b) ++ c)
    ≡ (((not r && is_clean a) && is_clean b) && is_clean c)
join_clean true kind place a b c = refl
join_clean false kind place a b c = clean_both (a ++ b) c ∙ ap (λ y. y && is_clean c) (clean_both a b)

-- one more of a list
pub clean_more : {X : Type 0} (rest : List X → List Refusal) (one : X → List Refusal)
    → ((x : X) (xs : List X) → rest (x ∷ xs) ≡ one x ++ rest xs) → (xs : List X) (i : ℕ) (x : X) (y z all : Bool)
    → i < length xs → x ≡ get_or xs i x → z ≡ is_clean (one x) → all ≡ (y && is_clean (rest (drop i xs)))
    → all ≡ ((y && z) && is_clean (rest (drop (i + 1) xs)))
clean_more rest one step xs i x y z all lt is same e =
    let cut : drop i xs ≡ x ∷ drop (suc i) xs = drop-cons xs i x lt ∙ ap (λ w. w ∷ drop (suc i) xs) (sym is) in
    let next : i + 1 ≡ suc i = omega arith in
    let left = is_clean (rest (drop (suc i) xs)) in
    e ∙ ap (λ l. y && is_clean (rest l)) cut ∙ ap (λ l. y && is_clean l) (step x (drop (suc i) xs))
    ∙ ap (λ b. y && b) (clean_both (one x) (rest (drop (suc i) xs))) ∙ ap (λ b. y && (b && left)) (sym same)
    ∙ sym (and_assoc y z left) ∙ ap (λ j. (y && z) && is_clean (rest (drop j xs))) (sym next)

-- none is left
pub clean_end : {X : Type 0} (rest : List X → List Refusal) → rest [] ≡ [] → (xs : List X) (i : ℕ) (y all : Bool)
    → length xs ≤ i → all ≡ (y && is_clean (rest (drop i xs))) → y ≡ all
clean_end rest none xs i y all h e =
    sym (e ∙ at_drop_all (λ l. y && is_clean (rest l)) xs i h ∙ ap (λ l. y && is_clean l) none ∙ and_true y)

left_holds : (a b : Bool) → (a && b) ≡ true → a ≡ true
left_holds true b h = refl
left_holds false b h = h

right_holds : (a b : Bool) → (a && b) ≡ true → b ≡ true
right_holds true b h = h
right_holds false b h = let w : false ≡ true = h in cc

no_fault : (fs : List Refusal) → is_clean fs ≡ true → (e : Refusal) → Contains fs e → ⊥
no_fault [] c e (k, h, p) = omega (arith, h)
no_fault (x ∷ fs) c e w = let f : false ≡ true = c in cc

one_clean : {X : Type 0} (f : X → List Refusal) (xs : List X) (x : X) → Contains xs x
    → is_clean (flat_map f xs) ≡ true → is_clean (f x) ≡ true
one_clean f [] x (k, h, p) c = absurd (omega (arith, h))
one_clean f (y ∷ ys) x (zero, h, p) c =
    ap (λ z. is_clean (f z)) (sym p)
    ∙ left_holds (is_clean (f y)) (is_clean (flat_map f ys)) (sym (clean_both (f y) (flat_map f ys)) ∙ c)
one_clean f (y ∷ ys) x (suc k, h, p) c =
    one_clean f ys x (k, omega (arith, h), p)
    (right_holds (is_clean (f y)) (is_clean (flat_map f ys)) (sym (clean_both (f y) (flat_map f ys)) ∙ c))

-- where bodies are clean no fault is in one
pub clean_bodies : (u : UnitTree) → is_clean (body_faults u) ≡ true → (e : Refusal) → IsInBody u e → ⊥
clean_bodies u c e (q, here, w) = no_fault (piece_faults u q) (one_clean (piece_faults u) (pieces u) q here c) e w
