-- The bucket of the one word on which the step would wake.
use Rattle.std.proofs.Common.{◌≡◌, ℕ, ◌%◌, List, length, Option, Some, None, is_some, sym, ap, ◌∙◌}
use Rattle.std.specs.Prelude.{MatchBool}
use Rattle.buckets.specs.Sleepers.{Sleepers, bucket_count, holder_of}
use Rattle.futexcalls.specs.Answers.{word_of}
use Rattle.robustexit.specs.declared.phase.ExitPhase.{ExitPhase}
use Rattle.robustexit.specs.Waking.{WakesOn}
use Rattle.robustexit.specs.declared.rule.ExitRule.{ExitRule}
use Rattle.machine.specs.ConcretePieces.{IsHeldUp}
use Rattle.machine.proofs.common.Common.is_held_up.Goals as goal

one : (a b : ℕ) → Some a ≡ Some b → a ≡ b
one a b h = cc

held_is : (words : List ℕ) (s : Sleepers) (rule : ExitRule) (t : ℕ) (phase : ExitPhase) (a : ℕ) (o : Option ℕ)
    → WakesOn rule (length words) t phase (word_of words) a
    → ((d : ℕ) → WakesOn rule (length words) t phase (word_of words) d → Some a ≡ Some d)
    → o ≡ holder_of s (a % bucket_count s)
    → MatchBool (is_some o) (IsHeldUp rule words s t phase) (IsHeldUp rule words s t phase → ⊥)
held_is words s rule t phase a (Some u) wakes only holder = (a, u, wakes, sym holder)
held_is words s rule t phase a None wakes only holder = λ h.
    let e : None ≡ Some h.1 = holder ∙ ap (λ d. holder_of s (d % bucket_count s)) (one a h.0 (only h.0 h.2)) ∙ h.3 in
    cc

pub returns-in-Some : goal.returns-in-Some
returns-in-Some c =
    let s = c.self.inside.buckets in
    rw (← c.self.view_is, c.is_some.ensures)
    (held_is c.self.inside.words s c.args.rule c.args.t c.args.phase c.in-Some.word.0 c.holder.result c.in-Some.ensures.wakes
    c.in-Some.ensures.only (c.holder.ensures.value ∙ ap (holder_of s) c.number-bucket.ensures.value))
