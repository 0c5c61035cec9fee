use Rattle.assembler.proofs.Shown.{at_empty, both_are, first_is, last_is, no_space, none_some, only_one}
use Rattle.assembler.proofs.listing.operands_of.Goals as goal

pub returns-then-is_empty : goal.returns-then-is_empty
returns-then-is_empty c = λ ns few words is. at_empty ns c.args.text.now c.if-is_empty.ensures is

pub returns-in_err-words : goal.returns-in_err-words
returns-in_err-words c = λ ns few words is.
    absurd (no_space ns c.args.text.now c.if-is_empty.ensures c.in_err-words.ensures is)

pub returns-in_err-first : goal.returns-in_err-first
returns-in_err-first c = λ ns few words is.
    let cut = c.cut-halves.ensures in
    let f = first_is ns _ _ _ _ _ c.if-is_empty.ensures c.in_ok-words.ensures cut.whole cut.front cut.rest words is
    c.in_err-first.ensures in
    absurd (none_some f.n f.read)

pub returns-then-is_empty-2 : goal.returns-then-is_empty-2
returns-then-is_empty-2 c = λ ns few words is.
    let cut = c.cut-halves.ensures in
    let f = first_is ns _ _ _ _ _ c.if-is_empty.ensures c.in_ok-words.ensures cut.whole cut.front cut.rest words is
    c.in_ok-first.ensures in
    only_one ns _ c.in_ok-first.first c.if-is_empty-2.ensures f

pub returns-in_err-more : goal.returns-in_err-more
returns-in_err-more c = λ ns few words is.
    let cut = c.cut-halves.ensures in
    let f = first_is ns _ _ _ _ _ c.if-is_empty.ensures c.in_ok-words.ensures cut.whole cut.front cut.rest words is
    c.in_ok-first.ensures in
    absurd (no_space f.ms _ c.if-is_empty-2.ensures c.in_err-more.ensures f.behind)

pub returns-in_err-second : goal.returns-in_err-second
returns-in_err-second c = λ ns few words is.
    let cut = c.cut-halves.ensures in
    let f = first_is ns _ _ _ _ _ c.if-is_empty.ensures c.in_ok-words.ensures cut.whole cut.front cut.rest words is
    c.in_ok-first.ensures in
    let l = last_is ns _ _ _ _ f few c.in_ok-more.ensures c.in_err-second.ensures in
    absurd (none_some l.0 l.1)

pub returns : goal.returns
returns c = λ ns few words is.
    let cut = c.cut-halves.ensures in
    let f = first_is ns _ _ _ _ _ c.if-is_empty.ensures c.in_ok-words.ensures cut.whole cut.front cut.rest words is
    c.in_ok-first.ensures in
    let l = last_is ns _ _ _ _ f few c.in_ok-more.ensures c.in_ok-second.ensures in
    both_are ns _ c.in_ok-first.first c.in_ok-second.second l.0 f l.1 l.2
