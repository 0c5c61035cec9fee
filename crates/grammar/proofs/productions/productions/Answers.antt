use Rattle.std.proofs.Common.{refl}
use Rattle.scanner.specs.declared.token.Keyword.TheVariants as K
use Rattle.scanner.specs.declared.token.Sign.TheVariants as S
use Rattle.syntax.specs.Lexeme.{Word, WordAt, Mark, MarkAt, Named}
use Rattle.syntax.specs.Spelling.{sum_sign, product_sign}
use Rattle.grammar.proofs.Parts.{alone, lead, one, next, conjunction_is, conjunctions_is, relation_is, relations_is}
use Rattle.grammar.proofs.Parts.{sum_is, comparison_is, term_is, summands_is, factor_is, multipliers_is, index_is}
use Rattle.grammar.proofs.Parts.{expression_is, more_arguments_are, callee_has, callee_is, into_is, statement_is}
use Rattle.grammar.proofs.Parts.{statements_are, else_is, aborted_is, member_has, monitor_has, procedure_has}
use Rattle.grammar.proofs.Parts.{parameters_have, recover_has, body_has, unit_has}
use Rattle.grammar.proofs.productions.productions.Goals as goal

pub returns : goal.returns
returns c = record {
  unit = unit_has;
  monitor = λ m. alone (monitor_has m);
  member =
      λ m. alone (member_has m);
  access_procedure = λ p. refl;
  entry = refl;
  internal = refl;
  procedure =
      λ p. alone (procedure_has p);
  no_parameters = refl;
  some_parameters =
      λ p ps. alone (parameters_have p ps);
  one_parameter = λ p. refl;
  no_result = refl;
  some_result =
      λ t. refl;
  no_recover = refl;
  some_recover = λ r. alone (recover_has r);
  body = λ b. alone (body_has b);
  local =
      λ l. refl;
  integer_member = refl;
  boolean_member = refl;
  process_member = refl;
  condition_member =
      refl;
  array_member = λ n. refl;
  integer_local = refl;
  boolean_local = refl;
  process_local = refl;
  integer_result =
      refl;
  boolean_result = refl;
  no_statements = refl;
  some_statements =
      λ s ss. alone (next (statement_is s) (statements_are ss));
  assign_statement =
      λ v e. alone (next (next (lead (Named v.name) (index_is v.index)) (lead (Mark S.Assign) (expression_is e)))
      (one (Mark S.Semicolon)));
  if_statement =
      λ place e ss part. alone
      (next (next (next (lead (WordAt K.If place) (expression_is e)) (lead (Word K.Then) (statements_are ss)))
      (else_is part)) (lead (Word K.Endif) (one (Mark S.Semicolon))));
  no_else = refl;
  some_else =
      λ ss. refl;
  while_statement = λ place e ss. alone
      (next (next (lead (WordAt K.While place) (expression_is e)) (lead (Word K.Do) (statements_are ss)))
      (lead (Word K.Endloop) (one (Mark S.Semicolon))));
  call_statement =
      λ place c name. alone (next (next (lead (WordAt K.Call place) (callee_is c)) (into_is name))
      (one (Mark S.Semicolon)));
  no_into = refl;
  some_into = λ name. refl;
  fork_statement =
      λ place c name. alone (next (lead (WordAt K.Fork place) (callee_is c))
      (lead (Word K.Into) (lead (Named name) (one (Mark S.Semicolon)))));
  join_statement =
      λ place e name part. alone (next (next (next (lead (WordAt K.Join place) (expression_is e)) (into_is name))
      (aborted_is part)) (one (Mark S.Semicolon)));
  no_aborted = refl;
  some_aborted =
      λ ss. alone (next (lead (Word K.Aborted) (statements_are ss)) (one (Word K.End)));
  return_nothing =
      λ place. refl;
  return_value = λ place e. alone
      (next (lead (WordAt K.Return place) (expression_is e)) (one (Mark S.Semicolon)));
  wait_statement =
      λ place name. refl;
  notify_statement = λ place name. refl;
  broadcast_statement =
      λ place name. refl;
  print_statement = λ place e. alone
      (next (lead (WordAt K.Print place) (expression_is e)) (one (Mark S.Semicolon)));
  abort_statement =
      λ place. refl;
  callee = λ c. alone (callee_has c);
  not_dotted = refl;
  some_dotted = λ name. refl;
  no_arguments =
      refl;
  some_arguments = λ e es. alone (next (expression_is e) (more_arguments_are es));
  expression =
      λ c cs. alone (next (conjunction_is c) (conjunctions_is cs));
  no_more_conjunctions = refl;
  some_more_conjunctions =
      λ c cs. alone (next (lead (Word K.Or) (conjunction_is c)) (conjunctions_is cs));
  conjunction =
      λ r rs. alone (next (relation_is r) (relations_is rs));
  no_more_relations = refl;
  some_more_relations =
      λ r rs. alone (next (lead (Word K.And) (relation_is r)) (relations_is rs));
  relation =
      λ s c. alone (next (sum_is s) (comparison_is c));
  no_comparison = refl;
  some_comparison = λ sign s. refl;
  equal =
      refl;
  not_equal = refl;
  less = refl;
  less_equal = refl;
  greater = refl;
  greater_equal = refl;
  sum_of_terms =
      λ t ts. alone (next (term_is t) (summands_is ts));
  no_more_terms = refl;
  some_more_terms =
      λ sign place t ts. alone (next (lead (sum_sign sign place) (term_is t)) (summands_is ts));
  plus_sign =
      λ place. refl;
  minus_sign = λ place. refl;
  term =
      λ f fs. alone (next (factor_is f) (multipliers_is fs));
  no_more_factors = refl;
  some_more_factors =
      λ sign f fs. alone (next (lead (product_sign sign) (factor_is f)) (multipliers_is fs));
  times = refl;
  divide =
      refl;
  modulo = refl;
  number = λ n. refl;
  truth = λ t. refl;
  true_word = λ place. refl;
  false_word =
      λ place. refl;
  variable = λ name i. refl;
  group =
      λ place e. alone (next (lead (MarkAt S.OpenParen place) (expression_is e)) (one (Mark S.CloseParen)));
  minus =
      λ place f. refl;
  negation = λ place f. refl;
  no_index = refl;
  some_index =
      λ e. alone (next (lead (Mark S.OpenBracket) (expression_is e)) (one (Mark S.CloseBracket)));
}
