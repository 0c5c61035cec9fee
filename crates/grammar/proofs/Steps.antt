-- One step of the machine.
use Rattle.std.proofs.Common.{◌≡◌, ◌≤◌, ◌<◌, ℕ, Bool, true, false, List, [], ◌∷◌, ◌++◌, nat_lt, cond, refl, ap, sym}
use Rattle.std.proofs.Common.{◌∙◌, arith}
use Rattle.std.proofs.lemmas.Bool.Decides.{nat_tests}
use Rattle.scanner.specs.declared.refusal.RefusalKind.TheVariants.{Expected, Limit}
use Rattle.syntax.specs.Tree.{FactorTree}
use Rattle.syntax.specs.Lexeme.{Finish}
use Rattle.grammar.specs.Machine.{Symbol, AFactor, Tree, Trees, Push, Start, Skip, Reject, Begins, Step, Onto, Over}
use Rattle.grammar.specs.Machine.{Stuck, Item, Outcome, Read, Refused, split, head_and_rest, on_step, step, reply}
use Rattle.grammar.specs.Machine.{factor_begin}
use Rattle.grammar.specs.Machine.{reads, onwards, on_read, nestings, refusal_at}
use Rattle.grammar.specs.Reading.{lexeme_at, rest_after}

pub on_reads : {A B C : Type 0} (f : B → C) (g : A → B) (o : Outcome A)
    → on_read f (on_read g o) ≡ on_read (λ x. f (g x)) o
on_reads f g (Read x) = refl
on_reads f g (Refused e) = refl

not_over : (a b : ℕ) → b ≤ a → nat_lt a b ≡ false
not_over a b h = grind (arith, nat_tests)

is_over : (a b : ℕ) → a < b → nat_lt a b ≡ true
is_over a b h = grind (arith, nat_tests)

pub pushed : (most : ℕ) (ts : List Item) (s : Symbol) (κ ρ : List Symbol) (f : Trees ρ → Tree s)
    → reply s (lexeme_at ts) ≡ Push ρ f → nestings (ρ ++ κ) ≤ most → reads most ts (s ∷ κ) ≡ on_read
    (λ y. (f (split ρ κ y).0, (split ρ κ y).1)) (reads most (rest_after ts) (ρ ++ κ))
pushed most [] s κ ρ f h le = refl
pushed most (t ∷ ts) s κ ρ f h le = rw (h, not_over most (nestings (ρ ++ κ)) le) refl

pub limited : (most : ℕ) (ts : List Item) (s : Symbol) (κ ρ : List Symbol) (f : Trees ρ → Tree s)
    → (lexeme_at ts ≡ Finish → ⊥) → reply s (lexeme_at ts) ≡ Push ρ f → most < nestings (ρ ++ κ)
    → reads most ts (s ∷ κ) ≡ Refused (refusal_at Limit ts)
limited most [] s κ ρ f other h lt = absurd (other refl)
limited most (t ∷ ts) s κ ρ f other h lt = rw (h, is_over most (nestings (ρ ++ κ)) lt) refl

pub rejected : (most : ℕ) (ts : List Item) (s : Symbol) (κ : List Symbol) → reply s (lexeme_at ts) ≡ Reject
    → reads most ts (s ∷ κ) ≡ Refused (refusal_at Expected ts)
rejected most [] s κ h = refl
rejected most (t ∷ ts) s κ h = rw h refl

chosen : {A B : Type 0} (b : Bool) (f : A → B) (x y : Outcome A) → cond b (on_read f x) (on_read f y) ≡ on_read f
    (cond b x y)
chosen true f x y = refl
chosen false f x y = refl

later : {A B : Type 0} (most : ℕ) (g : A → B) (st : Step A) (go : (σ : List Symbol) → Outcome (Trees σ))
    (ts : List Item) → onwards most (on_step g st) go ts ≡ on_read g (onwards most st go ts)
later most g (Onto σ f) go ts =
    ap (λ o. cond (nat_lt most (nestings σ)) (Refused (refusal_at Limit ts)) o) (sym (on_reads g f (go σ)))
    ∙ chosen (nat_lt most (nestings σ)) g (Refused (refusal_at Limit ts)) (on_read f (go σ))
later most g (Over x) go ts = refl
later most g Stuck go ts = refl

pub skipped : (most : ℕ) (ts : List Item) (s : Symbol) (κ : List Symbol) (x : Tree s) → reply s (lexeme_at ts) ≡ Skip x
    → reads most ts (s ∷ κ) ≡ on_read (λ y. (x, y)) (reads most ts κ)
skipped most [] s κ x h = refl
skipped most (t ∷ ts) s κ x h = rw h (later most (λ y. (x, y)) (step κ t.lexeme) (reads most ts) (t ∷ ts))

-- where a factor begins, a symbol that may begin with one is that factor and what may follow it
pub begun_on : (most : ℕ) (ts : List Item) (s : Symbol) (κ ρ τ : List Symbol) (f : Trees ρ → FactorTree)
    (g : FactorTree → Trees τ → Tree s) → factor_begin (lexeme_at ts) ≡ Begins ρ f
    → reply s (lexeme_at ts) ≡ Start ρ f τ g → reads most ts (s ∷ κ) ≡ on_read (λ y. head_and_rest τ κ g y.0 y.1)
    (reads most ts (AFactor ∷ (τ ++ κ)))
begun_on most [] s κ ρ τ f g b h = refl
begun_on most (t ∷ ts) s κ ρ τ f g b h = rw (h, b)
    (later most (λ y. head_and_rest τ κ g y.0 y.1) (Onto (ρ ++ (τ ++ κ))
    (λ y. (f (split ρ (τ ++ κ) y).0, (split ρ (τ ++ κ) y).1))) (reads most ts) (t ∷ ts))
