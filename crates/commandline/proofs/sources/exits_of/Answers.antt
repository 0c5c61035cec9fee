use Rattle.std.proofs.Common.{◌≡◌, Option, IfSome, None, Some, codes, rules, subst, sym}
use Rattle.clap.proofs.WalkLemmas.{first_value-rows}
use Rattle.clap.specs.Words.{Text, first_of, found_of}
use Rattle.clap.specs.Walk.{rows_of}
use Rattle.commandline.specs.CommandLine.{IsExits}
use Rattle.commandline.proofs.sources.exits_of.Goals as goal

pub returns-in-Some-clause-exits : goal.returns-in-Some-clause-exits
returns-in-Some-clause-exits c =
    let found = found_of c.args.matches.now in
    let value = first_value-rows found (codes "exits") in
    let named : first_of (codes "exits") (rows_of found) ≡ Some c.in-Some.rule.now = search rules in
    subst (λ (o : Option Text). IfSome c.exits_named.result (IsExits o)) (sym named) c.exits_named.ensures.exits

pub returns-in-Some-clause-none : goal.returns-in-Some-clause-none
returns-in-Some-clause-none c =
    let found = found_of c.args.matches.now in
    let value = first_value-rows found (codes "exits") in
    let named : first_of (codes "exits") (rows_of found) ≡ Some c.in-Some.rule.now = search rules in
    λ none e h. c.exits_named.ensures.none none e (subst (λ (o : Option Text). IsExits o e) named h)

pub returns-in-None-clause-exits : goal.returns-in-None-clause-exits
returns-in-None-clause-exits c =
    let found = found_of c.args.matches.now in
    let value = first_value-rows found (codes "exits") in
    let named : first_of (codes "exits") (rows_of found) ≡ None = search rules in
    rw named tt
