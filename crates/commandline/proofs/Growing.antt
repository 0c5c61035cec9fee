-- Commands that grow by the entries of a table, one after another.
use Rattle.std.proofs.Common.{◌≡◌, ◌∙◌, ◌<◌, ◌≤◌, ◌+◌, ℕ, IfOk, List, Result, Ok, Err, ap, drop, get_or, length, sym}
use Rattle.std.proofs.lemmas.List.{drop_all, drop_more}
use Rattle.clap.specs.Words.{App, Rule, app_of, with_rule, with_subcommand}
use Rattle.clap.specs.declared.builder.command.Command.{Command}
use Rattle.commandline.specs.CommandLine.{app_for, rule_for, with_arguments, with_subcommands}
use Rattle.commandline.specs.declared.arguments.Argument.{Argument}
use Rattle.commandline.specs.declared.builder.Subcommand.{Subcommand}

pub argument_added : (old new whole : App) (rule : Rule) (xs : List Argument) (i : ℕ) (d : Argument) → i < length xs
    → new ≡ with_rule old rule → rule ≡ rule_for (get_or xs i d) → with_arguments old (drop i xs) ≡ whole
    → with_arguments new (drop (i + 1) xs) ≡ whole
argument_added old new whole rule xs i d lt added same leads =
    ap (λ app. with_arguments app (drop (i + 1) xs)) (added ∙ ap (with_rule old) same)
    ∙ ap (with_arguments old) (sym (drop_more xs i d lt)) ∙ leads

pub arguments_added : (app whole : App) (xs : List Argument) (i : ℕ) → length xs ≤ i
    → with_arguments app (drop i xs) ≡ whole → app ≡ whole
arguments_added app whole xs i past leads = ap (with_arguments app) (sym (drop_all i xs past)) ∙ leads

pub subcommand_added : (old new whole sub : App) (xs : List Subcommand) (i : ℕ) (d : Subcommand) → i < length xs
    → new ≡ with_subcommand old sub.top → sub ≡ app_for (get_or xs i d)
    → with_subcommands old (drop i xs) ≡ whole → with_subcommands new (drop (i + 1) xs) ≡ whole
subcommand_added old new whole sub xs i d lt added same leads =
    ap (λ app. with_subcommands app (drop (i + 1) xs)) (added ∙ ap (λ (s : App). with_subcommand old s.top) same)
    ∙ ap (with_subcommands old) (sym (drop_more xs i d lt)) ∙ leads

pub subcommands_added : (app whole : App) (xs : List Subcommand) (i : ℕ) → length xs ≤ i
    → with_subcommands app (drop i xs) ≡ whole → app ≡ whole
subcommands_added app whole xs i past leads = ap (with_subcommands app) (sym (drop_all i xs past)) ∙ leads

pub from_top : {E : Type 0} (r : Result Command E) (a b whole : App) (xs : List Subcommand) → a ≡ b
    → with_subcommands b xs ≡ whole → IfOk r (λ c. app_of c ≡ with_subcommands a xs)
    → IfOk r (λ c. app_of c ≡ whole)
from_top (Ok c) a b whole xs same is h = h ∙ ap (λ app. with_subcommands app xs) same ∙ is
from_top (Err e) a b whole xs same is h = tt
