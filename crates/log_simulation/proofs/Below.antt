-- Whether a test holds of a number below another, number by number.
use Rattle.std.proofs.Common.{◌≡◌, ℕ, zero, suc, ◌+◌, ◌<◌, ◌||◌, Bool, true, false, ap, sym, ◌∙◌, subst}
use Rattle.std.proofs.Common.{arith, inl, inr, if◌then◌else◌, Option, Some}
use Rattle.std.proofs.lemmas.Bool.{cases_eq, eq-eqb, ne_eqb, or_left, or_right}
use Rattle.program.specs.Trees.{Program}
use Rattle.lowering.specs.Layout.{link_word}
use Rattle.proof_simulation.specs.Kills.{linked_monitor}
use Rattle.proof_simulation.specs.Ordering.{any_below}

pub found_below : (k : ℕ) (test : ℕ → Bool) (n : ℕ) → n < k → test n ≡ true → true ≡ any_below k test
found_below zero test n l h = absurd (omega (arith, l))
found_below (suc k) test n l h = elim (cases_eq n k) [
  | inl e ↦ sym (or_left (test k) (any_below k test) (subst (λ i. test i ≡ true) e h))
  | inr o ↦ sym (or_right (test k) (any_below k test) (sym (found_below k test n (omega (arith, l, o)) h)))
]

pub none_more : (test : ℕ → Bool) (n : ℕ) → any_below n test ≡ false → test n ≡ false → any_below (n + 1) test ≡ false
none_more test n before here =
    let one : n + 1 ≡ suc n = omega arith in
    ap (λ i. any_below i test) one ∙ both (test n) (any_below n test) here before
  where
    both : (a b : Bool) → a ≡ false → b ≡ false → (a || b) ≡ false
    both true b h g = absurd cc
    both false b h g = g

pub none_at_end : (test : ℕ → Bool) (n k : ℕ) → any_below n test ≡ false → n ≡ k → false ≡ any_below k test
none_at_end test n k before same = sym (sym (ap (λ i. any_below i test) same) ∙ before)

-- the monitor whose link word has an address, monitor by monitor
pub linked_here : (p : Program) (a n : ℕ) → link_word p n ≡ a → Some n ≡ linked_monitor p a (n + 1)
linked_here p a n is =
    let one : suc n ≡ n + 1 = omega arith in
    sym (ap (λ (b : Bool). if b then Some n else linked_monitor p a n) (eq-eqb (link_word p n) a is))
    ∙ ap (linked_monitor p a) one

pub linked_not : (p : Program) (a n : ℕ) (o : Option ℕ) → (link_word p n ≡ a → ⊥) → o ≡ linked_monitor p a n
    → o ≡ linked_monitor p a (n + 1)
linked_not p a n o other before =
    let one : suc n ≡ n + 1 = omega arith in
    before ∙ sym (ap (λ (b : Bool). if b then Some n else linked_monitor p a n) (ne_eqb (link_word p n) a other))
    ∙ ap (linked_monitor p a) one
