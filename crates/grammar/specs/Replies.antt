-- What each symbol is replaced by at each lexeme.
use Rattle.syntax.specs.Lexeme.{Lexeme}
use Rattle.grammar.specs.Symbols.{Symbol, AWord, AMark, AWordAt, AnOpening, AName, ANumber, AFactor, AnIndex}
use Rattle.grammar.specs.Symbols.{Multipliers, Summands, AComparison, Relations, Conjunctions, Arguments}
use Rattle.grammar.specs.Symbols.{MoreArguments, ADottedName, AnInto, AValue, Statements, AnElse, AnAborted}
use Rattle.grammar.specs.Symbols.{ALocalType, AMemberType, AResultType, AReturns, Locals, Members, Parameters}
use Rattle.grammar.specs.Symbols.{MoreParameters, Procedures, MonitorProcedures, ARecover, Monitors, Closed, Tree}
use Rattle.grammar.specs.Symbols.{Reply, Skip}
use Rattle.grammar.specs.ExpressionReplies.{reply_word, reply_mark, reply_word_at, reply_opening, reply_name}
use Rattle.grammar.specs.ExpressionReplies.{reply_number, reply_factor, reply_index, reply_multipliers}
use Rattle.grammar.specs.ExpressionReplies.{reply_summands, reply_comparison, reply_relations, reply_conjunctions}
use Rattle.grammar.specs.StatementReplies.{reply_arguments, reply_more_arguments, reply_dotted, reply_into}
use Rattle.grammar.specs.StatementReplies.{reply_value, reply_statements, reply_else, reply_aborted}
use Rattle.grammar.specs.DeclarationReplies.{reply_local_type, reply_member_type, reply_result_type, reply_returns}
use Rattle.grammar.specs.DeclarationReplies.{reply_locals, reply_members, reply_parameters, reply_more_parameters}
use Rattle.grammar.specs.DeclarationReplies.{reply_procedures, reply_monitor_procedures, reply_recover}
use Rattle.grammar.specs.DeclarationReplies.{reply_monitors}

-- what each symbol is replaced by at a lexeme
abbrev pub reply : (s : Symbol) → Lexeme → Reply (Tree s)
reply (AWord w) k = reply_word w k
reply (AMark s) k = reply_mark s k
reply (AWordAt w) k = reply_word_at w k
reply AnOpening k = reply_opening k
reply AName k = reply_name k
reply ANumber k = reply_number k
reply AFactor k = reply_factor k
reply AnIndex k = reply_index k
reply Multipliers k = reply_multipliers k
reply Summands k = reply_summands k
reply AComparison k = reply_comparison k
reply Relations k = reply_relations k
reply Conjunctions k = reply_conjunctions k
reply Arguments k = reply_arguments k
reply MoreArguments k = reply_more_arguments k
reply ADottedName k = reply_dotted k
reply AnInto k = reply_into k
reply AValue k = reply_value k
reply Statements k = reply_statements k
reply AnElse k = reply_else k
reply AnAborted k = reply_aborted k
reply ALocalType k = reply_local_type k
reply AMemberType k = reply_member_type k
reply AResultType k = reply_result_type k
reply AReturns k = reply_returns k
reply Locals k = reply_locals k
reply Members k = reply_members k
reply Parameters k = reply_parameters k
reply MoreParameters k = reply_more_parameters k
reply Procedures k = reply_procedures k
reply MonitorProcedures k = reply_monitor_procedures k
reply ARecover k = reply_recover k
reply Monitors k = reply_monitors k
reply Closed k = Skip tt
