use Rattle.std.proofs.Common.{◌++◌, ◌∙◌, ap, inl, inr, sym}
use Rattle.std.proofs.lemmas.List.{append_cancel_left}
use Rattle.std.proofs.lemmas.Option.{IfSome_then}
use Rattle.words.specs.Limits.{most_threads}
use Rattle.machine.specs.ThreadSets.{set_of}
use Rattle.log_text.specs.LogLines.{members, numbers_text}
use Rattle.log_text.proofs.Entries.{empty_text, none_set, row_set, row_text, set_cases, still}
use Rattle.log_text.proofs.Members.{set_of_members}
use Rattle.log_text.proofs.Rising.{members_rise}
use Rattle.log_text.proofs.sets.set_after.Goals as goal

pub returns-in-Some-clause-small : goal.returns-in-Some-clause-small
returns-in-Some-clause-small c =
    IfSome_then c.threads_of.result c.threads_of.ensures.read (λ p row. row_set c.in-Some.threads.now p.1.now p.0 row)

pub returns-in-None-clause-small : goal.returns-in-None-clause-small
returns-in-None-clause-small c = none_set c.new.result c.new.ensures

pub returns-in-Some-clause-read : goal.returns-in-Some-clause-read
returns-in-Some-clause-read c =
    IfSome_then c.threads_of.result c.threads_of.ensures.read
    (λ p row. row_text c.args.word.now c.args.text.now c.in-Some.threads.now p.1.now p.0 c.in-Some.ensures row)

pub returns-in-Some-clause-reads : goal.returns-in-Some-clause-reads
returns-in-Some-clause-reads c = λ set rest small after is.
    elim (set_cases c.args.word.now c.args.text.now (members set most_threads) rest is) [
      | inl none ↦ absurd (after.other c.in-Some.threads.now (sym none.1 ∙ c.in-Some.ensures))
      | inr some ↦
          still c.threads_of.result _ _ (c.threads_of.ensures.reads (members set most_threads) rest (members_rise set) some.0
          after.number (append_cancel_left c.args.word.now c.in-Some.threads.now (numbers_text (members set most_threads) ++ rest)
          (sym c.in-Some.ensures ∙ some.1))) (λ p h. (h.0 ∙ set_of_members set small, h.1))
    ]

pub returns-in-None-clause-read : goal.returns-in-None-clause-read
returns-in-None-clause-read c = empty_text c.args.word.now c.args.text.now c.new.result c.new.ensures

pub returns-in-None-clause-reads : goal.returns-in-None-clause-reads
returns-in-None-clause-reads c = λ set rest small after is.
    elim (set_cases c.args.word.now c.args.text.now (members set most_threads) rest is) [
      | inl none ↦ (c.new.ensures ∙ ap set_of (sym none.0) ∙ set_of_members set small, none.1)
      | inr some ↦ absurd (c.in-None.ensures (numbers_text (members set most_threads) ++ rest) some.1)
    ]
