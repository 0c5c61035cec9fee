-- The definitions on words that are known.
use Rattle.std.proofs.Common.{◌≡◌, refl, true, List, [], ◌∷◌, Option, Some, None, option_map, codes}
use Rattle.clap.specs.Words.{Text, one_of, subcommand_of, takes}
use Rattle.clap.proofs.OnLiterals.{clap_on_literals}
use Rattle.commandline.specs.CommandLine.{command_line}

abbrev five_steps : List Text
five_steps = codes "run" ∷ codes "--trace" ∷ codes "--steps=5" ∷ codes "a.mesa" ∷ []

abbrev plain_run : List Text
plain_run = codes "run" ∷ codes "a.mesa" ∷ []

abbrev plain_compile : List Text
plain_compile = codes "compile" ∷ codes "a.mesa" ∷ codes "a.image" ∷ []

abbrev plain_list : List Text
plain_list = codes "list" ∷ codes "a.image" ∷ []

abbrev plain_explain : List Text
plain_explain = codes "explain" ∷ codes "a.mesa" ∷ []

abbrev charted : List Text
charted = codes "explain" ∷ codes "--chart" ∷ codes "a.svg" ∷ codes "a.mesa" ∷ []

abbrev timed : List Text
timed = codes "explore" ∷ codes "--timeline" ∷ codes "a.json" ∷ codes "a.mesa" ∷ []

-- the command's name, and the text of an argument
abbrev told : Text → List Text → Option (Text × Option Text)
told id words = option_map (λ p. (p.0, one_of id p.1)) (subcommand_of command_line words)

steps_told : told (codes "steps") five_steps ≡ Some (codes "run", Some (codes "5"))
unfolding clap_on_literals
steps_told = refl

file_told : told (codes "FILE") five_steps ≡ Some (codes "run", Some (codes "a.mesa"))
unfolding clap_on_literals
file_told = refl

trace_told : told (codes "trace") five_steps ≡ Some (codes "run", Some (codes "true"))
unfolding clap_on_literals
trace_told = refl

steps_left_out : told (codes "steps") plain_run ≡ Some (codes "run", Some (codes "1000000"))
unfolding clap_on_literals
steps_left_out = refl

kills_left_out : told (codes "kills") plain_run ≡ Some (codes "run", Some (codes "0"))
unfolding clap_on_literals
kills_left_out = refl

trace_left_out : told (codes "trace") plain_run ≡ Some (codes "run", Some (codes "false"))
unfolding clap_on_literals
trace_left_out = refl

out_told : told (codes "OUT") plain_compile ≡ Some (codes "compile", Some (codes "a.image"))
unfolding clap_on_literals
out_told = refl

version_left_out : told (codes "image") plain_compile ≡ Some (codes "compile", Some (codes "2"))
unfolding clap_on_literals
version_left_out = refl

image_told : told (codes "IMAGE") plain_list ≡ Some (codes "list", Some (codes "a.image"))
unfolding clap_on_literals
image_told = refl

explained_file_told : told (codes "FILE") plain_explain ≡ Some (codes "explain", Some (codes "a.mesa"))
unfolding clap_on_literals
explained_file_told = refl

chart_told : told (codes "chart") charted ≡ Some (codes "explain", Some (codes "a.svg"))
unfolding clap_on_literals
chart_told = refl

timeline_told : told (codes "timeline") timed ≡ Some (codes "explore", Some (codes "a.json"))
unfolding clap_on_literals
timeline_told = refl

chart_left_out : told (codes "chart") plain_explain ≡ Some (codes "explain", None)
unfolding clap_on_literals
chart_left_out = refl

taken : takes command_line five_steps ≡ true
unfolding clap_on_literals
taken = refl
