-- The least fault, part by part.
use Rattle.std.proofs.Common.{◌≡◌, ◌<◌, ◌+◌, ℕ, suc, List, [], ◌∷◌, ◌++◌, Option, length, drop, drop-cons, get_or}
use Rattle.std.proofs.Common.{◌≤◌, arith, append_assoc, append-nil, ap, ◌∙◌, sym, subst, refl}
use Rattle.std.proofs.lemmas.List.{at_drop_all}
use Rattle.scanner.specs.declared.token.Place.{Place}
use Rattle.scanner.specs.declared.refusal.Refusal.{Refusal}
use Rattle.scanner.specs.declared.refusal.RefusalKind.{RefusalKind}
use Rattle.program.specs.declared.kinds.ValueType.{ValueType}
use Rattle.syntax.specs.declared.expression.Comparator.{Comparator}
use Rattle.syntax.specs.Lexeme.{NameTree}
use Rattle.syntax.specs.Tree.{IndexTree, NoIndex, Reads}
use Rattle.types.specs.Scope.{Scope, Meaning, meaning}
use Rattle.types.specs.Typing.{factor_type, type_of_use}
use Rattle.body_faults.specs.Operands.{factor_operand}
use Rattle.types.specs.Faults.{Gathers, faults_of}
use Rattle.types.specs.ExpressionFaults.{wants, use_faults, comparison_faults, factor_faults}
use Rattle.types.proofs.Gathered.{gathers_none, gathers_both}

-- a level at which no operator stands has no fault of its own
pub lone : (fs : List Refusal) (a b : Option Refusal) → Gathers fs a b → Gathers (fs ++ []) a b
lone fs a b g = gathers_both fs [] a b b g (gathers_none b)

pub lone2 : (fs : List Refusal) (a b : Option Refusal) → Gathers fs a b → Gathers ((fs ++ []) ++ []) a b
lone2 fs a b g = lone (fs ++ []) a b (lone fs a b g)

pub lone3 : (fs : List Refusal) (a b : Option Refusal) → Gathers fs a b → Gathers (((fs ++ []) ++ []) ++ []) a b
lone3 fs a b g = lone ((fs ++ []) ++ []) a b (lone2 fs a b g)

pub lone4 : (fs : List Refusal) (a b : Option Refusal) → Gathers fs a b
    → Gathers ((((fs ++ []) ++ []) ++ []) ++ []) a b
lone4 fs a b g = lone (((fs ++ []) ++ []) ++ []) a b (lone3 fs a b g)

pub lone5 : (fs : List Refusal) (a b : Option Refusal) → Gathers fs a b
    → Gathers (((((fs ++ []) ++ []) ++ []) ++ []) ++ []) a b
lone5 fs a b g = lone ((((fs ++ []) ++ []) ++ []) ++ []) a b (lone4 fs a b g)

-- nor does it come between an operand's own faults and that of its type
pub behind3 : (fs ws : List Refusal) (a b : Option Refusal) → Gathers (fs ++ ws) a b
    → Gathers ((((fs ++ []) ++ []) ++ []) ++ ws) a b
behind3 fs ws a b g = subst (λ xs. Gathers (xs ++ ws) a b)
    (sym (append-nil ((fs ++ []) ++ []) ∙ append-nil (fs ++ []) ∙ append-nil fs)) g

pub behind4 : (fs ws : List Refusal) (a b : Option Refusal) → Gathers (fs ++ ws) a b
    → Gathers (((((fs ++ []) ++ []) ++ []) ++ []) ++ ws) a b
behind4 fs ws a b g = subst (λ xs. Gathers (xs ++ ws) a b) (sym (append-nil (((fs ++ []) ++ []) ++ [])))
    (behind3 fs ws a b g)

-- an operand's own faults, and that of its type
pub gathers_operand : (fs : List Refusal) (w : ValueType) (k m : Option ValueType) (p q : Place)
    (a b c : Option Refusal) → k ≡ m → p ≡ q → Gathers fs a b → Gathers (wants w k p) b c
    → Gathers (fs ++ wants w m q) a c
gathers_operand fs w k m p q a b c e h g r = gathers_both fs (wants w m q) a b c g
    (subst (λ x. Gathers (wants w m x) b c) h (subst (λ x. Gathers (wants w x p) b c) e r))

pub gathers_use : (index : IndexTree) (m n : Meaning) (k : Option RefusalKind) (p : Place) (a b : Option Refusal)
    → m ≡ n → use_faults m index p ≡ faults_of k p → Gathers (faults_of k p) a b → Gathers (use_faults n index p) a b
gathers_use index m n k p a b e h g = subst (λ x. Gathers (use_faults x index p) a b) e
    (subst (λ xs. Gathers xs a b) (sym h) g)

-- a name's own fault, and that of its type
pub gathers_name : (s : Scope) (w : ValueType) (name : NameTree) (m : Meaning) (t : Option ValueType)
    (j k : Option RefusalKind) (a b c : Option Refusal) → m ≡ meaning s name → t ≡ type_of_use m NoIndex
    → ((p : Place) → use_faults m NoIndex p ≡ faults_of j p) → ((p : Place) → wants w t p ≡ faults_of k p)
    → Gathers (faults_of j name.place) a b → Gathers (faults_of k name.place) b c
    → Gathers (factor_operand s w (Reads name NoIndex)) a c
gathers_name s w name m t j k a b c e f g h x y =
    gathers_operand (factor_faults s (Reads name NoIndex)) w t (factor_type s (Reads name NoIndex)) name.place
    name.place a b c (f ∙ ap (λ n. type_of_use n NoIndex) e) refl
    (lone _ a b (gathers_use NoIndex m (meaning s name) j name.place a b e (g name.place) x))
    (subst (λ xs. Gathers xs b c) (sym (h name.place)) y)

pub gathers_comparison : (fs gs : List Refusal) (sign : Comparator) (l m r n : Option ValueType) (o p q t : Place)
    (j k : Option RefusalKind) (a b c d e : Option Refusal) → l ≡ m → r ≡ n → o ≡ p → q ≡ t
    → comparison_faults sign l r o q ≡ faults_of j o ++ faults_of k q → Gathers fs a b → Gathers gs b c
    → Gathers (faults_of j o) c d → Gathers (faults_of k q) d e
    → Gathers (fs ++ (gs ++ comparison_faults sign m n p t)) a e
gathers_comparison fs gs sign l m r n o p q t j k a b c d e e1 e2 e3 e4 split g1 g2 g3 g4 =
    let moved : comparison_faults sign l r o q ≡ comparison_faults sign m n p t =
    ap (λ x. comparison_faults sign x r o q) e1 ∙ ap (λ x. comparison_faults sign m x o q) e2
    ∙ ap (λ x. comparison_faults sign m n x q) e3 ∙ ap (λ x. comparison_faults sign m n p x) e4 in
    gathers_both fs (gs ++ comparison_faults sign m n p t) a b e g1
    (gathers_both gs (comparison_faults sign m n p t) b c e g2
    (subst (λ xs. Gathers xs c e) (sym split ∙ moved) (gathers_both (faults_of j o) (faults_of k q) c d e g3 g4)))

pub chained : (f v g w r : List Refusal) → (f ++ v) ++ ((g ++ w) ++ r) ≡ f ++ (v ++ g ++ w ++ r)
chained f v g w r = append_assoc f v ((g ++ w) ++ r)
    ∙ ap (λ xs. f ++ xs) (ap (λ xs. v ++ xs) (append_assoc g w r)
    ∙ sym (append_assoc (v ++ g) w r ∙ append_assoc v g (w ++ r)))

-- two operands, and further ones
pub gathers_chain : (f v g w r : List Refusal) (a b c d : Option Refusal) → Gathers (f ++ v) a b
    → Gathers (g ++ w) b c → Gathers r c d → Gathers (f ++ (v ++ g ++ w ++ r)) a d
gathers_chain f v g w r a b c d x y z = subst (λ xs. Gathers xs a d) (chained f v g w r)
    (gathers_both (f ++ v) ((g ++ w) ++ r) a b d x (gathers_both (g ++ w) r b c d y z))

-- a further one, and those behind it
pub gathers_next : {X : Type 0} (faults : List X → List Refusal) (one : X → List Refusal)
    → ((x : X) (xs : List X) → faults (x ∷ xs) ≡ one x ++ faults xs) → (xs : List X) (i : ℕ) (x : X)
    (a b c : Option Refusal) → i < length xs → x ≡ get_or xs i x → Gathers (one x) a b
    → Gathers (faults (drop (i + 1) xs)) b c → Gathers (faults (drop i xs)) a c
gathers_next faults one step xs i x a b c lt is g k =
    let cut : drop i xs ≡ x ∷ drop (suc i) xs = drop-cons xs i x lt ∙ ap (λ y. y ∷ drop (suc i) xs) (sym is) in
    let same : i + 1 ≡ suc i = omega arith in
    subst (λ ys. Gathers ys a c) (sym (ap faults cut ∙ step x (drop (suc i) xs)))
    (gathers_both (one x) (faults (drop (suc i) xs)) a b c g
    (subst (λ j. Gathers (faults (drop j xs)) b c) same k))

-- none is left
pub gathers_past : {X : Type 0} (faults : List X → List Refusal) → faults [] ≡ [] → (xs : List X) (i : ℕ)
    (a : Option Refusal) → length xs ≤ i → Gathers (faults (drop i xs)) a a
gathers_past faults e xs i a h = subst (λ ys. Gathers ys a a) (sym (at_drop_all faults xs i h ∙ e)) (gathers_none a)
