-- An effect of a process's own, which makes no process.
use Rattle.std.proofs.Common.{◌≡◌, ◌==◌, ℕ, Bool, true, false, Option, Some, cond, refl, ap, sym, ◌∙◌}
use Rattle.std.proofs.lemmas.Bool.{eqb-true}
use Rattle.words.specs.Updates.{put}
use Rattle.meaning.specs.Processes.{Process}
use Rattle.meaning.specs.States.{processes_after}
use Rattle.source_offers.specs.declared.offers.Effect.{Effect as EffectOf}
use Rattle.source_offers.specs.declared.offers.Effect.TheVariants.{Nothing as Nothing', Puts as Puts'}
use Rattle.source_offers.specs.declared.offers.Effect.TheVariants.{Writes as Writes'}
use Rattle.source_offers.specs.Offered.{effect_of}

makes_none : (e : EffectOf) (f : ℕ → Option Process) → processes_after (effect_of e) f ≡ f
makes_none Nothing' f = refl
makes_none (Puts' place z) f = refl
makes_none (Writes' z) f = refl

put_here : {X : Type 0} (f : ℕ → X) (n : ℕ) (v : X) → f n ≡ v → f ≡ put f n v
put_here f n v h = λ i j. at j (j == n) refl i
  where
    at : (j : ℕ) (b : Bool) → (j == n) ≡ b → f j ≡ cond (j == n) v (f j)
    at j true e = ap f (eqb-true j n e) ∙ h ∙ sym (ap (λ b. cond b v (f j)) e)
    at j false e = sym (ap (λ b. cond b v (f j)) e)

-- a process that stands already where it is after an action
pub stands_already : (e : EffectOf) (f g : ℕ → Option Process) (n : ℕ) (q : Process) → g ≡ f → f n ≡ Some q
    → g ≡ put (processes_after (effect_of e) f) n (Some q)
stands_already e f g n q same stands =
    same ∙ put_here f n (Some q) stands ∙ ap (λ (h : ℕ → Option Process). put h n (Some q)) (sym (makes_none e f))
