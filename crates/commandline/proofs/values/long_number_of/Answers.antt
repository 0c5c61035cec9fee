use Rattle.std.proofs.Common.{Option, IfSome, sym, subst}
use Rattle.std.specs.Str.Parse.{ParsesUnsigned, ExplainsUnsignedError, HasUnsignedDigitsIfOk}
use Rattle.clap.specs.Words.{Text, found_of}
use Rattle.clap.proofs.WalkLemmas.{one_text-rows}
use Rattle.commandline.specs.CommandLine.{IsNumberOf}
use Rattle.commandline.proofs.Numbers.{no_number, number_read}
use Rattle.commandline.proofs.values.long_number_of.Goals as goal

pub returns-clause-number : goal.returns-clause-number
returns-clause-number c =
    let found = found_of c.args.matches.now in
    subst (λ (o : Option Text). IfSome c.get_one.result (IsNumberOf o 64)) (one_text-rows found c.args.id.now)
    (number_read _ (λ t r. ParsesUnsigned 64 10 t r × ExplainsUnsignedError 10 t r × HasUnsignedDigitsIfOk t r) 64
    (λ u x g. g.0) _ c.get_one.result c.get_one.ensures.none c.get_one.ensures.value)

pub returns-clause-none : goal.returns-clause-none
returns-clause-none c = λ none n is.
    let found = found_of c.args.matches.now in
    no_number _ (λ t r. ParsesUnsigned 64 10 t r × ExplainsUnsignedError 10 t r × HasUnsignedDigitsIfOk t r) 64
    (λ u x g. g.0) _ c.get_one.result c.get_one.ensures.value none n
    (subst (λ (o : Option Text). IsNumberOf o 64 n) (sym (one_text-rows found c.args.id.now)) is)
