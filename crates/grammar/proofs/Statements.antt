-- Statements are read as their trees.
use Rattle.std.proofs.Common.{◌≡◌, ◌≤◌, ℕ, ◌+◌, List, [], ◌∷◌, Option, Some, None, refl, arith, max}
use Rattle.scanner.specs.declared.token.Keyword.TheVariants as K
use Rattle.scanner.specs.declared.token.Sign.TheVariants as S
use Rattle.scanner.specs.declared.token.Place.{Place}
use Rattle.syntax.specs.Lexeme.{NameTree, Lexeme, Word, WordAt, Mark, MarkAt, Named}
use Rattle.syntax.specs.Tree.{ExpressionTree, AnyOf, AllOf, Relates, Total, Product, CalleeTree, Assign, If, While}
use Rattle.syntax.specs.Tree.{Call, Fork, Join, Return, Wait, Notify, Broadcast, Print, Abort, StatementTrees}
use Rattle.syntax.specs.Tree.{NoStatements, Then, PartTree, NoPart, Part}
use Rattle.syntax.specs.Spelling.{conjunctions_text, relations_text, comparison_text, summands_text, multipliers_text}
use Rattle.syntax.specs.Spelling.{factor_text, index_text, arguments_text, more_arguments_text, dotted_text}
use Rattle.syntax.specs.Spelling.{callee_text, into_text, value_text, statements_text, else_text, aborted_text}
use Rattle.syntax.specs.Nesting.{conjunctions_nesting, relations_nesting, comparison_nesting, summands_nesting}
use Rattle.syntax.specs.Nesting.{multipliers_nesting, factor_nesting, index_nesting, arguments_nesting, value_nesting}
use Rattle.syntax.specs.Nesting.{statements_nesting, else_nesting, aborted_nesting}
use Rattle.grammar.specs.Machine.{Symbol, AWord, AMark, AnOpening, AName, AnIndex, Arguments, MoreArguments}
use Rattle.grammar.specs.Machine.{ADottedName, AnInto, AValue, Statements, AnElse, AnAborted, Closed, Skip, expression}
use Rattle.grammar.specs.Machine.{callee, expression_in, behind_expression, callee_in, behind_callee, reply_statements}
use Rattle.grammar.specs.Machine.{reply_into, reads, on_read, nestings}
use Rattle.grammar.specs.Reading.{lexeme_at}
use Rattle.grammar.proofs.Steps.{on_reads, pushed, skipped}
use Rattle.grammar.proofs.Starts.{factor_starts, arguments_begin, value_begins}
use Rattle.grammar.proofs.Complete.{plains, word_reads, mark_reads, opening_reads, name_reads, closed_reads}
use Rattle.grammar.proofs.Complete.{EndsExpression, ends_at_close_paren, ends_at_semicolon, ends_at_comma}
use Rattle.grammar.proofs.Complete.{ends_at_then, ends_at_do, ends_at_into, ends_at_aborted, index_reads}
use Rattle.grammar.proofs.Complete.{expression_parts, factor_reads, multipliers_read, summands_read, comparison_reads}
use Rattle.grammar.proofs.Complete.{relations_read, conjunctions_read}

in_front : (a b n m : ℕ) → max a b + n ≤ m → a + n ≤ m
in_front a b n m h = omega arith

under : (a n m : ℕ) → a + 1 + n ≤ m → a + (n + 1) ≤ m
under a n m h = omega arith

-- no expression goes on behind further arguments
after_arguments : (es : List ExpressionTree) (ks : List Lexeme) → EndsExpression
    (lexeme_at (plains (more_arguments_text es (Mark S.CloseParen ∷ ks))))
after_arguments [] ks = ends_at_close_paren
after_arguments (e ∷ es) ks = ends_at_comma

more_arguments_read : (m : ℕ) (es : List ExpressionTree) (ks : List Lexeme) (κ : List Symbol)
    → arguments_nesting es + nestings κ ≤ m → reads m (plains (more_arguments_text es (Mark S.CloseParen ∷ ks)))
    (MoreArguments ∷ κ) ≡ on_read (λ y. (es, y)) (reads m (plains (Mark S.CloseParen ∷ ks)) κ)
more_arguments_read m [] ks κ le = skipped m (plains (Mark S.CloseParen ∷ ks)) MoreArguments κ [] refl
more_arguments_read m ((AnyOf (AllOf (Relates (Total (Product f fs) ts) c) rs) cs) ∷ es) ks κ le =
    let more = more_arguments_text es (Mark S.CloseParen ∷ ks) in
    rw (
      pushed m
          (plains (Mark S.Comma ∷ factor_text f
          (multipliers_text fs (summands_text ts
          (comparison_text c (relations_text rs (conjunctions_text cs (more)))))))) MoreArguments κ
          (expression (MoreArguments ∷ [])) (λ t. expression_in t ∷ (behind_expression t).0) refl (omega arith),
      expression_parts m f fs ts c rs cs (more) (MoreArguments ∷ κ) (factor_reads m f) (multipliers_read m fs)
          (summands_read m ts) (comparison_reads m c) (relations_read m rs) (conjunctions_read m cs)
          (in_front _ _ _ _ le) (after_arguments es ks),
      more_arguments_read m es ks κ (omega arith),
    ) (simp on_reads)

arguments_read : (m : ℕ) (es : List ExpressionTree) (ks : List Lexeme) (κ : List Symbol)
    → arguments_nesting es + nestings κ ≤ m → reads m (plains (arguments_text es (Mark S.CloseParen ∷ ks)))
    (Arguments ∷ κ) ≡ on_read (λ y. (es, y)) (reads m (plains (Mark S.CloseParen ∷ ks)) κ)
arguments_read m [] ks κ le = skipped m (plains (Mark S.CloseParen ∷ ks)) Arguments κ [] refl
arguments_read m ((AnyOf (AllOf (Relates (Total (Product f fs) ts) c) rs) cs) ∷ es) ks κ le =
    let more = more_arguments_text es (Mark S.CloseParen ∷ ks) in
    rw (
      arguments_begin m
          (plains
          (factor_text f (multipliers_text fs
          (summands_text ts (comparison_text c (relations_text rs (conjunctions_text cs (more)))))))) κ
          (factor_starts f (multipliers_text fs
          (summands_text ts (comparison_text c (relations_text rs (conjunctions_text cs more)))))),
      expression_parts m f fs ts c rs cs (more) (MoreArguments ∷ κ) (factor_reads m f) (multipliers_read m fs)
          (summands_read m ts) (comparison_reads m c) (relations_read m rs) (conjunctions_read m cs)
          (in_front _ _ _ _ le) (after_arguments es ks),
      more_arguments_read m es ks κ (omega arith),
    ) (simp on_reads)

dotted_reads : (m : ℕ) (x : Option NameTree) (place : Place) (ks : List Lexeme) (κ : List Symbol) → nestings κ ≤ m
    → reads m (plains (dotted_text x (MarkAt S.OpenParen place ∷ ks))) (ADottedName ∷ κ) ≡ on_read (λ y. (x, y))
    (reads m (plains (MarkAt S.OpenParen place ∷ ks)) κ)
dotted_reads m None place ks κ le = skipped m (plains (MarkAt S.OpenParen place ∷ ks)) ADottedName κ None refl
dotted_reads m (Some name) place ks κ le =
    rw (
      pushed m (plains (Mark S.Dot ∷ Named name ∷ MarkAt S.OpenParen place ∷ ks)) ADottedName κ (AName ∷ [])
          (λ t. Some t.0) refl le,
      name_reads m name (MarkAt S.OpenParen place ∷ ks) κ le,
    ) (simp on_reads)

callee_reads : (m : ℕ) (x : CalleeTree) (ks : List Lexeme) (κ : List Symbol)
    → arguments_nesting x.arguments + nestings κ ≤ m → reads m (plains (callee_text x ks)) (callee κ) ≡ on_read
    (λ y. (x.name, (x.dotted, (x.open_place, (x.arguments, (tt, y)))))) (reads m (plains ks) κ)
callee_reads m x ks κ le =
    let closing = Mark S.CloseParen ∷ ks in
    rw (
      name_reads m x.name (dotted_text x.dotted (MarkAt S.OpenParen x.open_place ∷ arguments_text x.arguments closing))
          (ADottedName ∷ AnOpening ∷ Arguments ∷ AMark S.CloseParen ∷ κ) (omega arith),
      dotted_reads m x.dotted x.open_place (arguments_text x.arguments closing)
          (AnOpening ∷ Arguments ∷ AMark S.CloseParen ∷ κ) (omega arith),
      opening_reads m x.open_place (arguments_text x.arguments closing) (Arguments ∷ AMark S.CloseParen ∷ κ)
          (omega arith),
      arguments_read m x.arguments ks (AMark S.CloseParen ∷ κ) le,
      mark_reads m S.CloseParen ks κ (omega arith),
    ) (simp on_reads)

into_reads : (m : ℕ) (x : Option NameTree) (ks : List Lexeme) (κ : List Symbol) → nestings κ ≤ m
    → reply_into (lexeme_at (plains ks)) ≡ Skip None → reads m (plains (into_text x ks)) (AnInto ∷ κ) ≡ on_read
    (λ y. (x, y)) (reads m (plains ks) κ)
into_reads m None ks κ le h = skipped m (plains ks) AnInto κ None h
into_reads m (Some name) ks κ le h =
    rw (
      pushed m (plains (Word K.Into ∷ Named name ∷ ks)) AnInto κ (AName ∷ []) (λ t. Some t.0) refl le,
      name_reads m
          name ks κ le,
    ) (simp on_reads)

after_process : (x : Option NameTree) (part : PartTree) (ks : List Lexeme)
    → EndsExpression (lexeme_at (plains (into_text x (aborted_text part (Mark S.Semicolon ∷ ks)))))
after_process (Some name) part ks = ends_at_into
after_process None NoPart ks = ends_at_semicolon
after_process None (Part ss) ks = ends_at_aborted

after_joined : (part : PartTree) (ks : List Lexeme)
    → reply_into (lexeme_at (plains (aborted_text part (Mark S.Semicolon ∷ ks)))) ≡ Skip None
after_joined NoPart ks = refl
after_joined (Part ss) ks = refl

value_reads : (m : ℕ) (x : Option ExpressionTree) (ks : List Lexeme) (κ : List Symbol)
    → value_nesting x + nestings κ ≤ m → reads m (plains (value_text x (Mark S.Semicolon ∷ ks))) (AValue ∷ κ) ≡ on_read
    (λ y. (x, y)) (reads m (plains (Mark S.Semicolon ∷ ks)) κ)
value_reads m None ks κ le = skipped m (plains (Mark S.Semicolon ∷ ks)) AValue κ None refl
value_reads m (Some (AnyOf (AllOf (Relates (Total (Product f fs) ts) c) rs) cs)) ks κ le =
    let more = Mark S.Semicolon ∷ ks in
    rw (
      value_begins m
          (plains
          (factor_text f (multipliers_text fs
          (summands_text ts (comparison_text c (relations_text rs (conjunctions_text cs (more)))))))) κ
          (factor_starts f (multipliers_text fs
          (summands_text ts (comparison_text c (relations_text rs (conjunctions_text cs more)))))),
      expression_parts m f fs ts c rs cs (more) (κ) (factor_reads m f) (multipliers_read m fs) (summands_read m ts)
          (comparison_reads m c) (relations_read m rs) (conjunctions_read m cs) le ends_at_semicolon,
    ) (simp on_reads)

after_then : (part : PartTree) (ks : List Lexeme)
    → reply_statements (lexeme_at (plains (else_text part (Word K.Endif ∷ ks)))) ≡ Skip NoStatements
after_then NoPart ks = refl
after_then (Part ss) ks = refl

-- bounds on the parts of a nesting
split2 : (a b n m : ℕ) → max a b + n ≤ m → (a + n ≤ m) × (b + n ≤ m)
split2 a b n m h = (omega arith, omega arith)

-- of an IF, and what stands behind it
split_if : (e ss part rest n m : ℕ) → max (max e (max ss part) + 1) rest + n ≤ m
    → (e + (n + 1) ≤ m) × (ss + (n + 1) ≤ m) × (part + (n + 1) ≤ m) × (rest + n ≤ m)
split_if e ss part rest n m h = (omega arith, omega arith, omega arith, omega arith)

split_while : (e ss rest n m : ℕ) → max (max e ss + 1) rest + n ≤ m
    → (e + (n + 1) ≤ m) × (ss + (n + 1) ≤ m) × (rest + n ≤ m)
split_while e ss rest n m h = (omega arith, omega arith, omega arith)

split3 : (a b rest n m : ℕ) → max (max a b) rest + n ≤ m → (a + n ≤ m) × (b + n ≤ m) × (rest + n ≤ m)
split3 a b rest n m h = (omega arith, omega arith, omega arith)

low : (a n m : ℕ) → a + n ≤ m → n ≤ m
low a n m h = omega arith

-- a statement that takes a name alone
named_reads : (m : ℕ) (x : NameTree) (ss : StatementTrees) (ks : List Lexeme) (κ : List Symbol) → nestings κ ≤ m
    → reads m (plains (statements_text ss ks)) (Statements ∷ κ) ≡ on_read (λ y. (ss, y)) (reads m (plains ks) κ)
    → reads m (plains (Named x ∷ Mark S.Semicolon ∷ statements_text ss ks))
    (AName ∷ AMark S.Semicolon ∷ Statements ∷ κ) ≡ on_read (λ y. (x, (tt, (ss, y)))) (reads m (plains ks) κ)
named_reads m x ss ks κ le h =
    rw (
      name_reads m x (Mark S.Semicolon ∷ statements_text ss ks) (AMark S.Semicolon ∷ Statements ∷ κ) le,
      mark_reads m S.Semicolon (statements_text ss ks) (Statements ∷ κ) le,
      h,
    ) (simp on_reads)

mutual
  pub statements_read : (m : ℕ) (ss : StatementTrees) (ks : List Lexeme) (κ : List Symbol)
      → statements_nesting ss + nestings κ ≤ m → reply_statements (lexeme_at (plains ks)) ≡ Skip NoStatements
      → reads m (plains (statements_text ss ks)) (Statements ∷ κ) ≡ on_read (λ y. (ss, y)) (reads m (plains ks) κ)
  statements_read m NoStatements ks κ le h = skipped m (plains ks) Statements κ NoStatements h
  statements_read m (Then (Assign v (AnyOf (AllOf (Relates (Total (Product f fs) ts) c) rs) cs)) ss) ks κ le h =
      let b =
      split3 (index_nesting v.index) (max
      (max (max (max (max (factor_nesting f) (multipliers_nesting fs)) (summands_nesting ts))
      (comparison_nesting c)) (relations_nesting rs)) (conjunctions_nesting cs)) (statements_nesting ss)
      (nestings κ) m le in
      let more = statements_text ss ks in
      let value =
      factor_text f
      (multipliers_text fs (summands_text ts
      (comparison_text c (relations_text rs (conjunctions_text cs (Mark S.Semicolon ∷ more)))))) in
      rw (
        pushed m (plains (Named v.name ∷ index_text v.index (Mark S.Assign ∷ value))) Statements κ
            (AnIndex ∷ AMark S.Assign ∷ expression (AMark S.Semicolon ∷ Statements ∷ []))
            (λ t. Then (Assign (record { name = v.name; index = t.0 }) (expression_in t.1.1))
            (behind_expression t.1.1).1.0) refl (low _ _ _ le),
        index_reads m v.index (Mark S.Assign ∷ value)
            (AMark S.Assign ∷ expression (AMark S.Semicolon ∷ Statements ∷ κ)) b.0 (record { no_index = refl }),
        mark_reads m S.Assign value (expression (AMark S.Semicolon ∷ Statements ∷ κ)) (low _ _ _ le),
        expression_parts m f fs ts c rs cs (Mark S.Semicolon ∷ more) (AMark S.Semicolon ∷ Statements ∷ κ)
            (factor_reads m f) (multipliers_read m fs) (summands_read m ts) (comparison_reads m c)
            (relations_read m rs) (conjunctions_read m cs) b.1 ends_at_semicolon,
        mark_reads m S.Semicolon more (Statements ∷ κ) (low _ _ _ le),
        statements_read m ss ks κ b.2 h,
      ) (simp on_reads)
  statements_read m (Then (If place (AnyOf (AllOf (Relates (Total (Product f fs) ts) c) rs) cs) a part) ss) ks κ le h =
      let b =
      split_if
      (max (max (max (max (max (factor_nesting f) (multipliers_nesting fs)) (summands_nesting ts))
      (comparison_nesting c)) (relations_nesting rs)) (conjunctions_nesting cs)) (statements_nesting a)
      (else_nesting part) (statements_nesting ss) (nestings κ) m le in
      let n = low _ _ _ b.0 in
      let more = statements_text ss ks in
      let closing = Word K.Endif ∷ Mark S.Semicolon ∷ more in
      let then_text = statements_text a (else_text part closing) in
      rw (
        pushed m
            (plains (WordAt K.If place ∷ factor_text f
            (multipliers_text fs (summands_text ts
            (comparison_text c (relations_text rs (conjunctions_text cs (Word K.Then ∷ then_text)))))))) Statements κ
            (expression (AWord K.Then ∷ Statements ∷ AnElse ∷ AWord K.Endif ∷ Closed ∷ AMark
            S.Semicolon ∷ Statements ∷ []))
            (λ t. let u = behind_expression t in Then (If place (expression_in t) u.1.0 u.1.1.0) u.1.1.1.1.1.1.0) refl
            n,
        expression_parts m f fs ts c rs cs (Word K.Then ∷ then_text)
            (AWord K.Then ∷ Statements ∷ AnElse ∷ AWord K.Endif ∷ Closed ∷ AMark S.Semicolon ∷ Statements ∷ κ)
            (factor_reads m f) (multipliers_read m fs) (summands_read m ts) (comparison_reads m c)
            (relations_read m rs) (conjunctions_read m cs) b.0 ends_at_then,
        word_reads m K.Then then_text (Statements ∷ AnElse ∷ AWord K.Endif ∷ Closed ∷ AMark
            S.Semicolon ∷ Statements ∷ κ) n,
        statements_read m a (else_text part closing)
            (AnElse ∷ AWord K.Endif ∷ Closed ∷ AMark S.Semicolon ∷ Statements ∷ κ) b.1
            (after_then part (Mark S.Semicolon ∷ more)),
        else_reads m part (Mark S.Semicolon ∷ more) (AWord K.Endif ∷ Closed ∷ AMark S.Semicolon ∷ Statements ∷ κ) b.2,
        word_reads m K.Endif (Mark S.Semicolon ∷ more) (Closed ∷ AMark S.Semicolon ∷ Statements ∷ κ) n,
        closed_reads m (Mark S.Semicolon ∷ more) (AMark S.Semicolon ∷ Statements ∷ κ),
        mark_reads m S.Semicolon more (Statements ∷ κ) (low _ _ _ le),
        statements_read m ss ks κ b.3 h,
      ) (simp on_reads)
  statements_read m (Then (While place (AnyOf (AllOf (Relates (Total (Product f fs) ts) c) rs) cs) a) ss) ks κ le h =
      let b =
      split_while
      (max (max (max (max (max (factor_nesting f) (multipliers_nesting fs)) (summands_nesting ts))
      (comparison_nesting c)) (relations_nesting rs)) (conjunctions_nesting cs)) (statements_nesting a)
      (statements_nesting ss) (nestings κ) m le in
      let n = low _ _ _ b.0 in
      let more = statements_text ss ks in
      let closing = Word K.Endloop ∷ Mark S.Semicolon ∷ more in
      rw (
        pushed m
            (plains (WordAt K.While place ∷ factor_text f
            (multipliers_text fs (summands_text ts
            (comparison_text c (relations_text rs (conjunctions_text cs (Word K.Do ∷ statements_text a closing))))))))
            Statements κ (expression (AWord K.Do ∷ Statements ∷ AWord K.Endloop ∷ Closed ∷ AMark
            S.Semicolon ∷ Statements ∷ []))
            (λ t. let u = behind_expression t in Then (While place (expression_in t) u.1.0) u.1.1.1.1.1.0) refl n,
        expression_parts m f fs ts c rs cs (Word K.Do ∷ statements_text a closing)
            (AWord K.Do ∷ Statements ∷ AWord K.Endloop ∷ Closed ∷ AMark S.Semicolon ∷ Statements ∷ κ)
            (factor_reads m f) (multipliers_read m fs) (summands_read m ts) (comparison_reads m c)
            (relations_read m rs) (conjunctions_read m cs) b.0 ends_at_do,
        word_reads m K.Do (statements_text a closing)
            (Statements ∷ AWord K.Endloop ∷ Closed ∷ AMark S.Semicolon ∷ Statements ∷ κ) n,
        statements_read m a closing (AWord K.Endloop ∷ Closed ∷ AMark S.Semicolon ∷ Statements ∷ κ) b.1 refl,
        word_reads m K.Endloop (Mark S.Semicolon ∷ more) (Closed ∷ AMark S.Semicolon ∷ Statements ∷ κ) n,
        closed_reads m (Mark S.Semicolon ∷ more) (AMark S.Semicolon ∷ Statements ∷ κ),
        mark_reads m S.Semicolon more (Statements ∷ κ) (low _ _ _ le),
        statements_read m ss ks κ b.2 h,
      ) (simp on_reads)
  statements_read m (Then (Call place x into) ss) ks κ le h =
      let b = split2 (arguments_nesting x.arguments) (statements_nesting ss) (nestings κ) m le in
      let more = statements_text ss ks in
      let closing = into_text into (Mark S.Semicolon ∷ more) in
      rw (
        pushed m (plains (WordAt K.Call place ∷ callee_text x closing)) Statements κ
            (callee (AnInto ∷ AMark S.Semicolon ∷ Statements ∷ []))
            (λ t. let u = behind_callee t in Then (Call place (callee_in t) u.0) u.1.1.0) refl (low _ _ _ le),
        callee_reads m x closing (AnInto ∷ AMark S.Semicolon ∷ Statements ∷ κ) b.0,
        into_reads m into (Mark S.Semicolon ∷ more) (AMark S.Semicolon ∷ Statements ∷ κ) (low _ _ _ le) refl,
        mark_reads m S.Semicolon more (Statements ∷ κ) (low _ _ _ le),
        statements_read m ss ks κ b.1 h,
      ) (simp on_reads)
  statements_read m (Then (Fork place x into) ss) ks κ le h =
      let b = split2 (arguments_nesting x.arguments) (statements_nesting ss) (nestings κ) m le in
      let more = statements_text ss ks in
      rw (
        pushed m (plains (WordAt K.Fork place ∷ callee_text x (Word K.Into ∷ Named into ∷ Mark S.Semicolon ∷ more)))
            Statements κ (callee (AWord K.Into ∷ AName ∷ AMark S.Semicolon ∷ Statements ∷ []))
            (λ t. let u = behind_callee t in Then (Fork place (callee_in t) u.1.0) u.1.1.1.0) refl (low _ _ _ le),
        callee_reads m x (Word K.Into ∷ Named into ∷ Mark S.Semicolon ∷ more)
            (AWord K.Into ∷ AName ∷ AMark S.Semicolon ∷ Statements ∷ κ) b.0,
        word_reads m K.Into (Named into ∷ Mark S.Semicolon ∷ more) (AName ∷ AMark S.Semicolon ∷ Statements ∷ κ)
            (low _ _ _ le),
        named_reads m into ss ks κ (low _ _ _ le) (statements_read m ss ks κ b.1 h),
      ) (simp on_reads)
  statements_read m (Then (Join place (AnyOf (AllOf (Relates (Total (Product f fs) ts) c) rs) cs) into part) ss) ks κ
      le h =
      let b =
      split3
      (max (max (max (max (max (factor_nesting f) (multipliers_nesting fs)) (summands_nesting ts))
      (comparison_nesting c)) (relations_nesting rs)) (conjunctions_nesting cs)) (aborted_nesting part)
      (statements_nesting ss) (nestings κ) m le in
      let more = statements_text ss ks in
      let closing = aborted_text part (Mark S.Semicolon ∷ more) in
      rw (
        pushed m
            (plains (WordAt K.Join place ∷ factor_text f
            (multipliers_text fs (summands_text ts
            (comparison_text c (relations_text rs (conjunctions_text cs (into_text into closing)))))))) Statements κ
            (expression (AnInto ∷ AnAborted ∷ AMark S.Semicolon ∷ Statements ∷ []))
            (λ t. let u = behind_expression t in Then (Join place (expression_in t) u.0 u.1.0) u.1.1.1.0) refl
            (low _ _ _ le),
        expression_parts m f fs ts c rs cs (into_text into closing)
            (AnInto ∷ AnAborted ∷ AMark S.Semicolon ∷ Statements ∷ κ) (factor_reads m f) (multipliers_read m fs)
            (summands_read m ts) (comparison_reads m c) (relations_read m rs) (conjunctions_read m cs) b.0
            (after_process into part more),
        into_reads m into closing (AnAborted ∷ AMark S.Semicolon ∷ Statements ∷ κ) (low _ _ _ le)
            (after_joined part more),
        aborted_reads m part more (AMark S.Semicolon ∷ Statements ∷ κ) b.1,
        mark_reads m S.Semicolon more (Statements ∷ κ) (low _ _ _ le),
        statements_read m ss ks κ b.2 h,
      ) (simp on_reads)
  statements_read m (Then (Return place value) ss) ks κ le h =
      let b = split2 (value_nesting value) (statements_nesting ss) (nestings κ) m le in
      let more = statements_text ss ks in
      rw (
        pushed m (plains (WordAt K.Return place ∷ value_text value (Mark S.Semicolon ∷ more))) Statements κ
            (AValue ∷ AMark S.Semicolon ∷ Statements ∷ []) (λ t. Then (Return place t.0) t.1.1.0) refl (low _ _ _ le),
        value_reads m value more (AMark S.Semicolon ∷ Statements ∷ κ) b.0,
        mark_reads m S.Semicolon more (Statements ∷ κ) (low _ _ _ le),
        statements_read m ss ks κ b.1 h,
      ) (simp on_reads)
  statements_read m (Then (Wait place x) ss) ks κ le h =
      let b = split2 0 (statements_nesting ss) (nestings κ) m le in
      rw (
        pushed m (plains (WordAt K.Wait place ∷ Named x ∷ Mark S.Semicolon ∷ statements_text ss ks)) Statements κ
            (AName ∷ AMark S.Semicolon ∷ Statements ∷ []) (λ t. Then (Wait place t.0) t.1.1.0) refl (low _ _ _ le),
        named_reads m x ss ks κ (low _ _ _ le) (statements_read m ss ks κ b.1 h),
      ) (simp on_reads)
  statements_read m (Then (Notify place x) ss) ks κ le h =
      let b = split2 0 (statements_nesting ss) (nestings κ) m le in
      rw (
        pushed m (plains (WordAt K.Notify place ∷ Named x ∷ Mark S.Semicolon ∷ statements_text ss ks)) Statements κ
            (AName ∷ AMark S.Semicolon ∷ Statements ∷ []) (λ t. Then (Notify place t.0) t.1.1.0) refl (low _ _ _ le),
        named_reads m x ss ks κ (low _ _ _ le) (statements_read m ss ks κ b.1 h),
      ) (simp on_reads)
  statements_read m (Then (Broadcast place x) ss) ks κ le h =
      let b = split2 0 (statements_nesting ss) (nestings κ) m le in
      rw (
        pushed m (plains (WordAt K.Broadcast place ∷ Named x ∷ Mark S.Semicolon ∷ statements_text ss ks)) Statements κ
            (AName ∷ AMark S.Semicolon ∷ Statements ∷ []) (λ t. Then (Broadcast place t.0) t.1.1.0) refl
            (low _ _ _ le),
        named_reads m x ss ks κ (low _ _ _ le) (statements_read m ss ks κ b.1 h),
      ) (simp on_reads)
  statements_read m (Then (Print place (AnyOf (AllOf (Relates (Total (Product f fs) ts) c) rs) cs)) ss) ks κ le h =
      let b =
      split2
      (max (max (max (max (max (factor_nesting f) (multipliers_nesting fs)) (summands_nesting ts))
      (comparison_nesting c)) (relations_nesting rs)) (conjunctions_nesting cs)) (statements_nesting ss)
      (nestings κ) m le in
      let more = statements_text ss ks in
      rw (
        pushed m
            (plains (WordAt K.Print place ∷ factor_text f
            (multipliers_text fs (summands_text ts
            (comparison_text c (relations_text rs (conjunctions_text cs (Mark S.Semicolon ∷ more)))))))) Statements κ
            (expression (AMark S.Semicolon ∷ Statements ∷ []))
            (λ t. Then (Print place (expression_in t)) (behind_expression t).1.0) refl (low _ _ _ le),
        expression_parts m f fs ts c rs cs (Mark S.Semicolon ∷ more) (AMark S.Semicolon ∷ Statements ∷ κ)
            (factor_reads m f) (multipliers_read m fs) (summands_read m ts) (comparison_reads m c)
            (relations_read m rs) (conjunctions_read m cs) b.0 ends_at_semicolon,
        mark_reads m S.Semicolon more (Statements ∷ κ) (low _ _ _ le),
        statements_read m ss ks κ b.1 h,
      ) (simp on_reads)
  statements_read m (Then (Abort place) ss) ks κ le h =
      let b = split2 0 (statements_nesting ss) (nestings κ) m le in
      rw (
        pushed m (plains (WordAt K.Abort place ∷ Mark S.Semicolon ∷ statements_text ss ks)) Statements κ
            (AMark S.Semicolon ∷ Statements ∷ []) (λ t. Then (Abort place) t.1.0) refl (low _ _ _ le),
        mark_reads m S.Semicolon (statements_text ss ks) (Statements ∷ κ) (low _ _ _ le),
        statements_read m ss ks κ b.1 h,
      ) (simp on_reads)

  else_reads : (m : ℕ) (part : PartTree) (ks : List Lexeme) (κ : List Symbol) → else_nesting part + nestings κ ≤ m
      → reads m (plains (else_text part (Word K.Endif ∷ ks))) (AnElse ∷ κ) ≡ on_read (λ y. (part, y))
      (reads m (plains (Word K.Endif ∷ ks)) κ)
  else_reads m NoPart ks κ le = skipped m (plains (Word K.Endif ∷ ks)) AnElse κ NoPart refl
  else_reads m (Part ss) ks κ le =
      rw (
        pushed m (plains (Word K.Else ∷ statements_text ss (Word K.Endif ∷ ks))) AnElse κ (Statements ∷ [])
            (λ t. Part t.0) refl (low _ _ _ le),
        statements_read m ss (Word K.Endif ∷ ks) κ le refl,
      ) (simp on_reads)

  aborted_reads : (m : ℕ) (part : PartTree) (ks : List Lexeme) (κ : List Symbol)
      → aborted_nesting part + nestings κ ≤ m → reads m (plains (aborted_text part (Mark S.Semicolon ∷ ks)))
      (AnAborted ∷ κ) ≡ on_read (λ y. (part, y)) (reads m (plains (Mark S.Semicolon ∷ ks)) κ)
  aborted_reads m NoPart ks κ le = skipped m (plains (Mark S.Semicolon ∷ ks)) AnAborted κ NoPart refl
  aborted_reads m (Part ss) ks κ le =
      let b = under _ _ _ le in
      rw (
        pushed m (plains (Word K.Aborted ∷ statements_text ss (Word K.End ∷ Mark S.Semicolon ∷ ks))) AnAborted κ
            (Statements ∷ AWord K.End ∷ Closed ∷ []) (λ t. Part t.0) refl (low _ _ _ b),
        statements_read m ss (Word K.End ∷ Mark S.Semicolon ∷ ks) (AWord K.End ∷ Closed ∷ κ) b refl,
        word_reads m K.End (Mark S.Semicolon ∷ ks) (Closed ∷ κ) (low _ _ _ b),
        closed_reads m (Mark S.Semicolon ∷ ks) κ,
      ) (simp on_reads)
