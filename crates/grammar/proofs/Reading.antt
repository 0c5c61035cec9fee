-- What is read is spelled so, and depends on the lexemes alone.
use Rattle.std.proofs.Common.{◌≡◌, ◌≤◌, ℕ, List, [], ◌∷◌, nat_lt, refl, ap, sym, subst, ◌∙◌}
use Rattle.scanner.specs.declared.refusal.RefusalKind.TheVariants.{Limit}
use Rattle.syntax.specs.Lexeme.{Lexeme, Finish}
use Rattle.syntax.specs.Tree.{UnitTree}
use Rattle.syntax.specs.Spelling.{unit_text}
use Rattle.syntax.specs.Nesting.{unit_nesting}
use Rattle.grammar.specs.Machine.{Symbol, Trees, Step, Onto, Over, Stuck, Item, Read, step, reads, onwards, nestings}
use Rattle.grammar.specs.Machine.{refusal_at, unit, unit_trees}
use Rattle.grammar.proofs.Sound.{trees_text, Undone, undone}
use Rattle.grammar.proofs.Halts.{item_lexemes, Last, read_on}
use Rattle.grammar.proofs.Complete.{plains}
use Rattle.grammar.proofs.Whole.{unit_reads}

step_spelled : (m : ℕ) (σ : List Symbol) (k : Lexeme) (st : Step (Trees σ)) (t : Item) (ts : List Item) (x : Trees σ)
    → Undone σ k st → (k ≡ Finish → item_lexemes ts ≡ [])
    → ((τ : List Symbol) (y : Trees τ) → reads m ts τ ≡ Read y → item_lexemes ts ≡ trees_text τ y (Finish ∷ []))
    → onwards m st (reads m ts) (t ∷ ts) ≡ Read x → k ∷ item_lexemes ts ≡ trees_text σ x (Finish ∷ [])
step_spelled m σ k (Onto τ f) t ts x u last next h =
    let z = read_on (nat_lt m (nestings τ)) f (reads m ts τ) (refusal_at Limit (t ∷ ts)) x h in
    let made : f z.1 ≡ x = z.3 in
    ap (λ l. k ∷ l) (next τ z.1 z.2) ∙ sym (u z.1 (Finish ∷ [])) ∙ ap (λ y. trees_text σ y (Finish ∷ [])) made
step_spelled m σ k (Over y) t ts x u last next h =
    let made : y ≡ x = cc in
    ap (λ l. k ∷ l) (last u.0) ∙ ap (λ j. j ∷ []) u.0 ∙ sym (u.1 (Finish ∷ [])) ∙ ap
    (λ w. trees_text σ w (Finish ∷ [])) made
step_spelled m σ k Stuck t ts x u last next h = cc

nothing : (m : ℕ) (τ : List Symbol) (y : Trees τ) → reads m [] τ ≡ Read y
    → item_lexemes [] ≡ trees_text τ y (Finish ∷ [])
nothing m τ y h = absurd (cc)

pub spelled : (m : ℕ) (ts : List Item) (σ : List Symbol) (x : Trees σ) → Last ts → reads m ts σ ≡ Read x
    → item_lexemes ts ≡ trees_text σ x (Finish ∷ [])
spelled m [] σ x last h = absurd last
spelled m (t ∷ []) σ x last h = step_spelled m σ t.lexeme (step σ t.lexeme) t [] x (undone σ t.lexeme) (λ e. refl)
    (nothing m) h
spelled m (t ∷ u ∷ ts) σ x last h = step_spelled m σ t.lexeme (step σ t.lexeme) t (u ∷ ts) x (undone σ t.lexeme)
    (λ e. absurd (last.0 e)) (λ τ y. spelled m (u ∷ ts) τ y last.1) h

step_same : (m : ℕ) (σ : List Symbol) (st : Step (Trees σ)) (t u : Item) (ts us : List Item) (x : Trees σ)
    → ((τ : List Symbol) (y : Trees τ) → reads m ts τ ≡ Read y → reads m us τ ≡ Read y)
    → onwards m st (reads m ts) (t ∷ ts) ≡ Read x → onwards m st (reads m us) (u ∷ us) ≡ Read x
step_same m σ (Onto τ f) t u ts us x next h =
    let z = read_on (nat_lt m (nestings τ)) f (reads m ts τ) (refusal_at Limit (t ∷ ts)) x h in
    rw (z.0, next τ z.1 z.2) (ap Read z.3)
step_same m σ (Over y) t u ts us x next h = h
step_same m σ Stuck t u ts us x next h = cc

-- the lexemes alone decide what is read
pub same_lexemes : (m : ℕ) (ts us : List Item) (σ : List Symbol) (x : Trees σ) → item_lexemes ts ≡ item_lexemes us
    → reads m ts σ ≡ Read x → reads m us σ ≡ Read x
same_lexemes m [] us σ x e h = absurd (cc)
same_lexemes m (t ∷ ts) [] σ x e h = absurd (cc)
same_lexemes m (t ∷ ts) (u ∷ us) σ x e h =
    let k : t.lexeme ≡ u.lexeme = cc in
    let P : Lexeme → Type 0 = λ c. onwards m (step σ c) (reads m us) (u ∷ us) ≡ Read x in
    subst P k (step_same m σ (step σ t.lexeme) t u ts us x (λ τ y. same_lexemes m ts us τ y (cc)) h)

pub lexemes_plains : (ks : List Lexeme) → item_lexemes (plains ks) ≡ ks
lexemes_plains [] = refl
lexemes_plains (k ∷ ks) = ap (λ l. k ∷ l) (lexemes_plains ks)

-- the items of a unit are read as that unit
pub accepted : (m : ℕ) (ts : List Item) (u : UnitTree) → unit_nesting u ≤ m → item_lexemes ts ≡ unit_text u
    → reads m ts unit ≡ Read (unit_trees u)
accepted m ts u le e = same_lexemes m (plains (unit_text u)) ts unit _ (lexemes_plains (unit_text u) ∙ sym e)
    (unit_reads m u le)
