-- The list of those who wait on a condition and don't sleep on its word, one by one.
use Rattle.std.proofs.Common.{◌≡◌, ◌≢◌, ℕ, zero, suc, ◌+◌, ◌==◌, ◌&&◌, not, Bool, true, false, List, [], ◌∷◌, ◌++◌}
use Rattle.std.proofs.Common.{Option, Some, None, refl, ap, sym, ◌∙◌, arith}
use Rattle.std.proofs.lemmas.Bool.{eq-eqb, ne_eqb}
use Rattle.machine.specs.States.{State}
use Rattle.program.specs.Trees.{Program}
use Rattle.program.specs.declared.kinds.Member.{Member}
use Rattle.lowering.specs.Layout.{Layout, layout_of, address_at, member_address}
use Rattle.meaning.specs.Table.{Table}
use Rattle.protocol.specs.Carries.{waits_on, chosen_from, with_number}
use Rattle.protocol.specs.World.{same_member}
use Rattle.protocol.proofs.Sleeps.{same-same, same-other}
use Rattle.proof_simulation.specs.Ordering.{sleeps_on, awake_waiters}
use Rattle.log_simulation.specs.Waiting.{sleeps_at, is_awake}

-- one number more
pub chosen_more : (test : ℕ → Bool) (n k : ℕ) → chosen_from test (n + 1) k
    ≡ chosen_from test n k ++ with_number (test (k + n)) (k + n) []
chosen_more test zero k = by_first (test k) ∙ ap (λ i. with_number (test i) i []) here
  where
    here : k ≡ k + 0
    here = omega arith

    by_first : (b : Bool) → with_number b k [] ≡ with_number b k []
    by_first b = refl
chosen_more test (suc n) k =
    ap (λ i. chosen_from test i k) one ∙ ap (λ l. with_number (test k) k l) (chosen_more test n (suc k))
    ∙ before (test k) (chosen_from test n (suc k)) (with_number (test (suc k + n)) (suc k + n) [])
    ∙ ap (λ i. with_number (test k) k (chosen_from test n (suc k)) ++ with_number (test i) i []) there
  where
    one : suc n + 1 ≡ suc (n + 1)
    one = omega arith

    there : suc k + n ≡ k + suc n
    there = omega arith

    before : (b : Bool) (l m : List ℕ) → with_number b k (l ++ m) ≡ with_number b k l ++ m
    before true l m = refl
    before false l m = refl

-- the word of a condition lies where the layout has it
pub awake_here : (p : Program) (l : Layout) (s : State) (T : Table) (c : Member) → l ≡ layout_of p
    → chosen_from (is_awake (address_at l c) s T c) s.made 1 ≡ awake_waiters p s T c
awake_here p l s T c is =
    ap (λ (f : ℕ → Bool). chosen_from f s.made 1) (λ i u. each u i)
  where
    same : (a : ℕ) → a ≡ member_address p c → (o : Option ℕ) → sleeps_at a o ≡ sleeps_on p c o
    same a e None = refl
    same a e (Some b) = ap (λ x. b == x) e

    each : (u : ℕ) → is_awake (address_at l c) s T c u ≡ (waits_on c (T.waits u) && not (sleeps_on p c (s.asleep u)))
    each u = ap (λ b. waits_on c (T.waits u) && not b)
        (same (address_at l c) (ap (λ x. address_at x c) is) (s.asleep u))

-- a process waits on the condition, or not
pub waits_here : (c : Member) (o : Option Member) → o ≡ Some c → waits_on c o ≡ true
waits_here c None e = absurd cc
waits_here c (Some d) e = let is : d ≡ c = cc in ap (λ x. same_member x c) is ∙ same-same c

pub waits_not : (c : Member) (o : Option Member) → o ≢ Some c → waits_on c o ≡ false
waits_not c None other = refl
waits_not c (Some d) other = same-other d c (λ e. other (ap Some e))

pub sleeps_here : (a : ℕ) (o : Option ℕ) → o ≡ Some a → sleeps_at a o ≡ true
sleeps_here a None e = absurd cc
sleeps_here a (Some b) e = let is : b ≡ a = cc in eq-eqb b a is

pub sleeps_not : (a : ℕ) (o : Option ℕ) → o ≢ Some a → sleeps_at a o ≡ false
sleeps_not a None other = refl
sleeps_not a (Some b) other = ne_eqb b a (λ e. other (ap Some e))

-- the next number is put behind those before it, where the test holds of it
pub next_chosen : (test : ℕ → Bool) (n t : ℕ) (items : List ℕ) → t ≡ n + 1 → items ≡ chosen_from test n 1
    → test t ≡ true → items ++ t ∷ [] ≡ chosen_from test (n + 1) 1
next_chosen test n t items is before holds =
    let there : t ≡ 1 + n = is ∙ omega arith in
    ap (λ l. l ++ t ∷ []) before
    ∙ ap (λ i. chosen_from test n 1 ++ i ∷ []) there
    ∙ ap (λ b. chosen_from test n 1 ++ with_number b (1 + n) []) (sym (ap test (sym there) ∙ holds))
    ∙ sym (chosen_more test n 1)

pub none_chosen : (test : ℕ → Bool) (n t : ℕ) (items : List ℕ) → t ≡ n + 1 → items ≡ chosen_from test n 1
    → test t ≡ false → items ≡ chosen_from test (n + 1) 1
none_chosen test n t items is before fails =
    let there : t ≡ 1 + n = is ∙ omega arith in
    before ∙ nothing (chosen_from test n 1)
    ∙ ap (λ b. chosen_from test n 1 ++ with_number b (1 + n) []) (sym (ap test (sym there) ∙ fails))
    ∙ sym (chosen_more test n 1)
  where
    nothing : (l : List ℕ) → l ≡ l ++ []
    nothing [] = refl
    nothing (x ∷ xs) = ap (λ l. x ∷ l) (nothing xs)
