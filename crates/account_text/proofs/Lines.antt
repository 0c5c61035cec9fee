-- Texts that grow by lines.
use Rattle.std.proofs.Common.{◌≡◌, ℕ, suc, ◌+◌, Bool, List, [], ◌++◌, codes, if◌then◌else◌, sym, ap, ◌∙◌, arith}
use Rattle.std.specs.Fmt.{decimal}
use Rattle.std.proofs.lemmas.List.{append_assoc}
use Rattle.words.specs.Process.{process_word}
use Rattle.words.specs.Outcomes.{cause_number, outcome_of}
use Rattle.words.specs.declared.outcome.Cause.{Cause}
use Rattle.words.specs.declared.outcome.Outcome.{Outcome}
use Rattle.words.specs.declared.outcome.Outcome.TheVariants.{Aborted}
use Rattle.machine.specs.States.{ConcreteState, state_of}
use Rattle.log_text.specs.LogLines.{line_feed}
use Rattle.account_text.specs.Accounts.{aborted_line, asleep_line, thread_lines, threads_lines}

-- the lines of one thread more
pub threads_more : (k : ConcreteState) (stuck : Bool) (t : ℕ) (old before ended after : List ℕ) (o : Outcome)
    → before ≡ old ++ threads_lines k stuck t → o ≡ outcome_of ((state_of k).word (process_word (t + 1) 5))
    → ended ≡ before ++ aborted_line (t + 1) o
    → after ≡ ended ++ (if stuck then asleep_line (t + 1) ((state_of k).asleep (t + 1)) else [])
    → after ≡ old ++ threads_lines k stuck (t + 1)
threads_more k stuck t old before ended after o so told end sleep =
    let one : suc t ≡ t + 1 = omega arith in
    let here : after ≡ old ++ (threads_lines k stuck t ++ thread_lines k stuck (t + 1)) =
    rw (sleep, end, so, told) (append_assoc (old ++ threads_lines k stuck t) _ _
    ∙ append_assoc old (threads_lines k stuck t) _) in
    here ∙ ap (λ n. old ++ (threads_lines k stuck t ++ thread_lines k stuck n)) (sym one)
    ∙ ap (λ n. old ++ threads_lines k stuck n) one

regroup : (a b c d : List ℕ) → a ++ (b ++ (c ++ d)) ≡ ((a ++ b) ++ c) ++ d
regroup a b c d = sym (append_assoc (a ++ b) c d ∙ append_assoc a b (c ++ d))

-- the line of a process that has aborted
pub ended_line : (t : ℕ) (cause : Cause) (n : ℕ) (o : Outcome) (old new : List ℕ) → o ≡ Aborted cause
    → n ≡ cause_number cause → new ≡ old
    ++ (codes "process " ++ (decimal t ++ (codes " aborted: fault " ++ (decimal n ++ line_feed))))
    → new ≡ old ++ aborted_line t o
ended_line t cause n o old new e number h =
    rw (e, ← number) (h ∙ ap (λ z. old ++ (codes "process " ++ z)) (regroup (decimal t) (codes " aborted: fault ")
    (decimal n) line_feed))
