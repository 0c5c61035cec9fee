-- How many workers a job of compiling that was asked for has.
use Rattle.std.proofs.Common.{◌≡◌, ◌≤◌, ℕ, Bool, List, Option, Some, None, Bor, inl, inr, subst}
use Rattle.clap.specs.Words.{Row, Text, subcommand_of}
use Rattle.words.specs.declared.version.ImageVersion.{ImageVersion}
use Rattle.commandline.specs.CommandLine.{AsksFor, IsAskedBy, IsCompileOf, command_line}
use Rattle.commandline.specs.declared.job.Job.{Job}
use Rattle.commandline.specs.declared.job.Job.TheVariants.{Compile}

of_rows : (rows : List Row) (file out : Bor (List ℕ)) (workers : ℕ) (version : ImageVersion) (hints : Bool)
    → IsCompileOf rows (Compile file out workers version hints) → (1 ≤ workers) × (workers ≤ 64)
of_rows rows file out workers version hints (source, image, reads, named, flag) = (reads.1, reads.2)

of_command : (asked : Option (Text × List Row)) (file out : Bor (List ℕ)) (workers : ℕ) (version : ImageVersion) (hints : Bool)
    → IsAskedBy asked (Compile file out workers version hints) → (1 ≤ workers) × (workers ≤ 64)
of_command None file out workers version hints h = absurd h
of_command (Some (name, rows)) file out workers version hints (inl (called, h)) = absurd h
of_command (Some (name, rows)) file out workers version hints (inr (inl (called, h))) = of_rows rows file out workers version hints h
of_command (Some (name, rows)) file out workers version hints (inr (inr (inl (called, h)))) = absurd h
of_command (Some (name, rows)) file out workers version hints (inr (inr (inr (inl (called, h))))) = absurd h
of_command (Some (name, rows)) file out workers version hints (inr (inr (inr (inr (inl (called, h)))))) = absurd h
of_command (Some (name, rows)) file out workers version hints (inr (inr (inr (inr (inr (inl (called, h))))))) = absurd h
of_command (Some (name, rows)) file out workers version hints (inr (inr (inr (inr (inr (inr (inl (called, h)))))))) = absurd h
of_command (Some (name, rows)) file out workers version hints (inr (inr (inr (inr (inr (inr (inr (inl (called, h))))))))) =
    absurd h
of_command (Some (name, rows)) file out workers version hints
    (inr (inr (inr (inr (inr (inr (inr (inr (inl (called, h)))))))))) = absurd h
of_command (Some (name, rows)) file out workers version hints
    (inr (inr (inr (inr (inr (inr (inr (inr (inr (inl (called, h))))))))))) = absurd h
of_command (Some (name, rows)) file out workers version hints
    (inr (inr (inr (inr (inr (inr (inr (inr (inr (inr (inl (called, h)))))))))))) = absurd h
of_command (Some (name, rows)) file out workers version hints
    (inr (inr (inr (inr (inr (inr (inr (inr (inr (inr (inr (inl (called, h))))))))))))) = absurd h
of_command (Some (name, rows)) file out workers version hints
    (inr (inr (inr (inr (inr (inr (inr (inr (inr (inr (inr (inr (called, h))))))))))))) = absurd h

pub compiling_workers : (words : List Text) (job : Job) (file out : Bor (List ℕ)) (workers : ℕ) (version : ImageVersion) (hints : Bool)
    → AsksFor words job → job ≡ Compile file out workers version hints → (1 ≤ workers) × (workers ≤ 64)
compiling_workers words job file out workers version hints asks is =
    of_command (subcommand_of command_line words) file out workers version hints
    (subst (λ (j : Job). IsAskedBy (subcommand_of command_line words) j) is asks)
