use Rattle.std.proofs.Common.{◌+◌, ℕ, IfOk, subst}
use Rattle.devices.specs.Files.{IsOfFile}
use Rattle.mesamon.proofs.ReadFiles.{second_so}
use Rattle.mesamon.proofs.jobs.second_bytes.Goals as goal

pub returns-in-Text-clause-read : goal.returns-in-Text-clause-read
returns-in-Text-clause-read g c = second_so _ (λ v. v.items) _ _ _ c.in-Text.is c.bytes_of.ensures.read

pub returns-in-All-clause-read : goal.returns-in-All-clause-read
returns-in-All-clause-read g c = second_so _ (λ v. v.items) _ _ _ c.in-All.is c.front_of.ensures.read

pub returns-in-Log-clause-read : goal.returns-in-Log-clause-read
returns-in-Log-clause-read g c =
    let read = subst (λ (n : ℕ). IfOk c.front_of-in-Log.result (λ v. IsOfFile g.R.File.Read.remaining (n + 1) v.items))
    c.log_bytes.ensures.value c.front_of-in-Log.ensures.read in
    second_so _ (λ v. v.items) _ _ _ c.in-Log.is read
