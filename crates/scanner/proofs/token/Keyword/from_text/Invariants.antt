use Rattle.std.proofs.Common.{◌≢◌, ℕ, ◌<◌, get_or}
use Rattle.scanner.specs.Lexemes.{keyword_text}
use Rattle.scanner.specs.declared.token.Keyword.{Keyword as Word}
use Rattle.scanner.proofs.token.Keyword.from_text.Given as goal

-- none of the keywords so far is written so
abbrev pub invariant-loop-keyword : goal.invariant-loop-keyword
invariant-loop-keyword l = (i : ℕ) (d : Word) → i < l.keyword-index → l.text ≢ keyword_text
    (get_or l.keyword-items i d)
