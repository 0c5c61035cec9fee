-- Where the machine stops, and what stands before that.
use Rattle.std.proofs.Common.{◌≡◌, ◌≤◌, ◌<◌, ℕ, Bool, true, false, List, [], ◌∷◌, ◌++◌, nat_lt, cond, refl, ap, sym}
use Rattle.std.proofs.Common.{subst, ◌∙◌, arith}
use Rattle.std.proofs.lemmas.Bool.Decides.{nat_tests}
use Rattle.scanner.specs.declared.refusal.Refusal.{Refusal}
use Rattle.scanner.specs.declared.refusal.RefusalKind.{RefusalKind}
use Rattle.scanner.specs.declared.refusal.RefusalKind.TheVariants.{Expected, Limit}
use Rattle.syntax.specs.Lexeme.{Lexeme, Finish}
use Rattle.grammar.specs.Machine.{Symbol, AWord, Trees, Reply, Push, Start, Skip, Reject, Step, Onto, Over, Stuck}
use Rattle.grammar.specs.Machine.{Item, Outcome, Read, Refused, step_by, step, reply, reads, onwards, on_read}
use Rattle.grammar.specs.Machine.{nestings, refusal_at}

abbrev pub item_lexemes : List Item → List Lexeme
item_lexemes [] = []
item_lexemes (t ∷ ts) = t.lexeme ∷ item_lexemes ts

-- the end stands last and nowhere else
abbrev pub Last : List Item → Type 0
Last [] = ⊥
Last (t ∷ []) = t.lexeme ≡ Finish
Last (t ∷ u ∷ ts) = (t.lexeme ≡ Finish → ⊥) × Last (u ∷ ts)

-- no symbol goes on at the end
abbrev Quiet : {A : Type 0} → Reply A → Type 0
Quiet (Push ρ f) = ⊥
Quiet (Start ρ f τ g) = ⊥
Quiet (Skip x) = Unit {0}
Quiet Reject = Unit {0}

quiet : (s : Symbol) → Quiet (reply s Finish)
quiet (AWord w) = tt
quiet _ = tt

abbrev pub NotOnto : {A : Type 0} → Step A → Type 0
NotOnto (Onto τ f) = ⊥
NotOnto (Over x) = Unit {0}
NotOnto Stuck = Unit {0}

by_quiet : {A : Type 0} (σ : List Symbol) (r : Reply A) (st : Step (Trees σ)) → Quiet r → NotOnto st
    → NotOnto (step_by σ r st)
by_quiet σ (Push ρ f) st h i = h
by_quiet σ (Start ρ f τ g) st h i = h
by_quiet σ (Skip x) (Onto τ f) h i = i
by_quiet σ (Skip x) (Over z) h i = tt
by_quiet σ (Skip x) Stuck h i = tt
by_quiet σ Reject st h i = tt

ended : (σ : List Symbol) → NotOnto (step σ Finish)
ended [] = tt
ended (s ∷ σ) = by_quiet σ (reply s Finish) (step σ Finish) (quiet s) (ended σ)

pub no_onto : (σ τ : List Symbol) (k : Lexeme) (f : Trees τ → Trees σ) → k ≡ Finish → step σ k ≡ Onto τ f → ⊥
no_onto σ τ k f e h =
    let P : Lexeme → Type 0 = λ j. NotOnto (step σ j) in
    let n : NotOnto (step σ k) = subst P (sym e) (ended σ) in
    let Q : Step (Trees σ) → Type 0 = NotOnto in
    subst Q h n

pub data Halts (m : ℕ) : List Symbol → List Lexeme → Lexeme → RefusalKind → Type 0 where
  stuck : {σ : List Symbol} {k : Lexeme} → step σ k ≡ Stuck → Halts m σ [] k Expected
  full : {σ τ : List Symbol} {k : Lexeme} {f : Trees τ → Trees σ} → step σ k ≡ Onto τ f → m < nestings τ
      → Halts m σ [] k Limit
  goes : {σ τ : List Symbol} {j k : Lexeme} {front : List Lexeme} {kind : RefusalKind} {f : Trees τ → Trees σ}
      → step σ j ≡ Onto τ f → nestings τ ≤ m → Halts m τ front k kind → Halts m σ (j ∷ front) k kind

-- the machine halts at one of the items
pub data Stops (m : ℕ) (σ : List Symbol) (e : Refusal) : List Item → Type 0 where
  at : {kind : RefusalKind} (front : List Item) (t : Item) (back : List Item) → e ≡ refusal_at kind (t ∷ back)
      → Halts m σ (item_lexemes front) t.lexeme kind → Stops m σ e (front ++ t ∷ back)

on_refused : {A B : Type 0} (f : A → B) (o : Outcome A) (e : Refusal) → on_read f o ≡ Refused e → o ≡ Refused e
on_refused f (Read x) e h = cc
on_refused f (Refused r) e h = cc

later_stop : {m : ℕ} {σ τ : List Symbol} {e : Refusal} {f : Trees τ → Trees σ} (t : Item) (ts : List Item)
    → step σ t.lexeme ≡ Onto τ f → nestings τ ≤ m → Stops m τ e ts → Stops m σ e (t ∷ ts)
later_stop t _ h le (at front u back p halt) = at (t ∷ front) u back p (goes h le halt)

over : (a b : ℕ) → nat_lt a b ≡ true → a < b
over a b h = grind (arith, nat_tests)

pub within : (a b : ℕ) → nat_lt a b ≡ false → b ≤ a
within a b h = grind (arith, nat_tests)

by_test : {m : ℕ} {σ τ : List Symbol} {e : Refusal} {f : Trees τ → Trees σ} (t : Item) (ts : List Item) (b : Bool)
    → nat_lt m (nestings τ) ≡ b → step σ t.lexeme ≡ Onto τ f → (reads m ts τ ≡ Refused e → Stops m τ e ts)
    → cond b (Refused (refusal_at Limit (t ∷ ts))) (on_read f (reads m ts τ)) ≡ Refused e → Stops m σ e (t ∷ ts)
by_test {m = m} {τ = τ} {e = e} {f = f} t ts true lt h next r = at [] t ts (cc) (full h (over m (nestings τ) lt))
by_test {m = m} {τ = τ} {e = e} {f = f} t ts false lt h next r =
    later_stop t ts h (within m (nestings τ) lt) (next (on_refused f (reads m ts τ) e r))

by_step : {m : ℕ} {σ : List Symbol} {e : Refusal} (t : Item) (ts : List Item) (st : Step (Trees σ))
    → step σ t.lexeme ≡ st → ((τ : List Symbol) (f : Trees τ → Trees σ) → step σ t.lexeme ≡ Onto τ f
    → reads m ts τ ≡ Refused e → Stops m τ e ts) → onwards m st (reads m ts) (t ∷ ts) ≡ Refused e
    → Stops m σ e (t ∷ ts)
by_step {m = m} t ts (Onto τ f) h next r = by_test t ts (nat_lt m (nestings τ)) refl h (next τ f h) r
by_step t ts (Over x) h next r = absurd (cc)
by_step t ts Stuck h next r = at [] t ts (cc) (stuck h)

pub stops : (m : ℕ) (ts : List Item) (σ : List Symbol) (e : Refusal) → Last ts → reads m ts σ ≡ Refused e
    → Stops m σ e ts
stops m [] σ e last h = absurd last
stops m (t ∷ []) σ e last h = by_step t [] (step σ t.lexeme) refl (λ τ f p q. absurd (no_onto σ τ t.lexeme f last p)) h
stops m (t ∷ u ∷ ts) σ e last h = by_step t (u ∷ ts) (step σ t.lexeme) refl (λ τ f p. stops m (u ∷ ts) τ e last.1) h

pub read_on : {A B : Type 0} (b : Bool) (f : A → B) (o : Outcome A) (r : Refusal) (x : B)
    → cond b (Refused r) (on_read f o) ≡ Read x → (b ≡ false) × (y : A) × (o ≡ Read y) × (f y ≡ x)
read_on true f o r x h = absurd (cc)
read_on false f (Read y) r x h = (refl, y, refl, cc)
read_on false f (Refused e) r x h = absurd (cc)

-- with that lexeme nothing is read
pub never : {m : ℕ} {σ : List Symbol} {front : List Lexeme} {k : Lexeme} {kind : RefusalKind} → Halts m σ front k kind
    → (n : ℕ) → (kind ≡ Limit → n ≤ m) → (us : List Item) (x : Trees σ) (more : List Lexeme)
    → item_lexemes us ≡ front ++ k ∷ more → reads n us σ ≡ Read x → ⊥
never (stuck h) n top [] x more e r = cc
never (stuck {σ = σ} {k = k} h) n top (u ∷ us) x more e r =
    let q : step σ u.lexeme ≡ Stuck = ap (step σ) (cc) ∙ h in
    let z = rw q at r in cc
never (full h lt) n top [] x more e r = cc
never {m = m} (full {σ = σ} {τ = τ} {k = k} {f = f} h lt) n top (u ∷ us) x more e r =
    let q : step σ u.lexeme ≡ Onto τ f = ap (step σ) (cc) ∙ h in
    let z = read_on (nat_lt n (nestings τ)) f (reads n us τ) (refusal_at Limit (u ∷ us)) x (rw q at r) in
    let below : nestings τ ≤ n = within n (nestings τ) z.0 in
    let l : n ≤ m = top refl in omega arith
never (goes h le next) n top [] x more e r = cc
never (goes {σ = σ} {τ = τ} {j = j} {k = k} {front = front} {f = f} h le next) n top (u ∷ us) x more e r =
    let q : step σ u.lexeme ≡ Onto τ f = ap (step σ) (cc) ∙ h in
    let z = read_on (nat_lt n (nestings τ)) f (reads n us τ) (refusal_at Limit (u ∷ us)) x (rw q at r) in
    never next n top us z.1 more (cc) z.2
