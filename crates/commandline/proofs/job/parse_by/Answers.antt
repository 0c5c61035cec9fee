use Rattle.std.proofs.Common.{◌≡◌, ap, ◌∙◌, map, true, refl, subst, sym, List, Ok, Option, rules}
use Rattle.clap.specs.Words.{App, FailsBy, HasMatchesOf, Row, Text, fault_of, is_simple, is_simple_and_free}
use Rattle.clap.specs.Words.{subcommand_of, subcommand_rows_of, takes}
use Rattle.clap.specs.declared.parser.matches.ArgMatches.{ArgMatches}
use Rattle.clap.proofs.OnLiterals.{clap_on_literals}
use Rattle.commandline.specs.CommandLine.{AreInOrder, IsAskedBy, command_line}
use Rattle.commandline.specs.declared.job.Job.{Job}
use Rattle.commandline.proofs.job.parse_by.Goals as goal

simple_line : is_simple command_line ≡ true
unfolding clap_on_literals
simple_line = refl

free_line : is_simple_and_free command_line ≡ true
unfolding clap_on_literals
free_line = refl

-- where no kind of error comes, there is no fault
in_order : (a : App) (words : List Text) (m : ArgMatches) → a ≡ command_line
    → (is_simple_and_free a ≡ true → FailsBy (fault_of a words) (Ok m)) → AreInOrder words
in_order a words m same fails =
    ap (λ (x : App). fault_of x words) (sym same) ∙ fails (ap is_simple_and_free same ∙ free_line)

-- the matches hold what the words name
same_command : (a b : App) (words : List Text) (m : ArgMatches) → a ≡ b → is_simple b ≡ true
    → HasMatchesOf a words m → subcommand_rows_of m ≡ subcommand_of b words
same_command a b words m same simple has =
    (has (ap is_simple same ∙ simple)).1 ∙ ap (λ (x : App). subcommand_of x words) same

asked_by : (p q : Option (Text × List Row)) (job : Job) → p ≡ q → IsAskedBy p job → IsAskedBy q job
asked_by p q job same asks = subst (λ (o : Option (Text × List Row)). IsAskedBy o job) same asks

pub returns-in_err-matches-clause-only : goal.returns-in_err-matches-clause-only
returns-in_err-matches-clause-only c = λ job taken asks.
    let want = c.in_err-matches.ensures.passes (ap (λ (a : App). takes a (map (λ w. w.now) c.args.words.now))
    c.requires ∙ taken) in
    search rules

pub returns-in-Some-clause-job : goal.returns-in-Some-clause-job
returns-in-Some-clause-job c =
    asked_by _ _ c.in-Some.job (same_command _ command_line _ c.in_ok-matches.matches c.requires
    simple_line c.in_ok-matches.ensures.ok.2) c.in-Some.ensures.job

pub returns-in-Some-clause-taken : goal.returns-in-Some-clause-taken
returns-in-Some-clause-taken c =
    in_order _ (map (λ w. w.now) c.args.words.now) c.in_ok-matches.matches c.requires c.in_ok-matches.ensures.kinds

pub returns-clause-only : goal.returns-clause-only
returns-clause-only c = λ job taken asks. absurd (c.in-None.ensures.none refl job
    (asked_by _ _ job (sym (same_command _ command_line _ c.in_ok-matches.matches c.requires
    simple_line c.in_ok-matches.ensures.ok.2)) asks))
