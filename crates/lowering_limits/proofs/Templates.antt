-- The templates fit.
use Rattle.std.proofs.Common.{◌≡◌, ◌<◌, ℕ, Option, Some, None, true, false, refl, ap, length}
use Rattle.std.specs.Prelude.{cond, IfSome}
use Rattle.std.proofs.lemmas.Bool.{lt-ltb}
use Rattle.program.specs.declared.kinds.Member.{Member}
use Rattle.isa.specs.Limits.{most_locals}
use Rattle.isa.specs.declared.instr.Instr.{Instr}
use Rattle.lowering.specs.Locks.{recovery, enter_code, exit_code, exit_length}
use Rattle.lowering.specs.Conditions.{wait_code, wait_length}
use Rattle.lowering.specs.Processes.{join_code}
use Rattle.lowering_limits.proofs.Fine.{fits, all_fit}
use Rattle.words.specs.declared.version.ImageVersion.{ImageVersion}
use Rattle.words.specs.declared.version.ImageVersion.TheVariants.{One, Two, Linux}

pub exit_fits : (v : ImageVersion) (total m e : ℕ) → all_fit total (exit_length v) (exit_code v m e) ≡ true
exit_fits One total m e = refl
exit_fits Two total m e = refl
exit_fits Linux total m e = refl

pub exit_long : (v : ImageVersion) (m e : ℕ) → length (exit_code v m e) ≡ exit_length v
exit_long One m e = refl
exit_long Two m e = refl
exit_long Linux m e = refl

pub wait_long : (v : ImageVersion) (c : Member) (e s : ℕ) (r : Instr) → length (wait_code v c e s r) ≡ wait_length v
wait_long One c e s r = refl
wait_long Two c e s r = refl
wait_long Linux c e s r = refl

-- with what comes last
pub enter_fits : (total m e : ℕ) (r : Instr) → fits total 61 r ≡ true → all_fit total 61 (enter_code m e r) ≡ true
enter_fits total m e r h = ap (λ b. cond b true false) h

pub wait_fits : (v : ImageVersion) (total : ℕ) (m : Member) (e s : ℕ) (r : Instr) → fits total (wait_length v) r ≡ true
    → all_fit total (wait_length v) (wait_code v m e s r) ≡ true
wait_fits One total m e s r h = ap (λ b. cond b true false) h
wait_fits Two total m e s r h = ap (λ b. cond b true false) h
wait_fits Linux total m e s r h = ap (λ b. cond b true false) h

pub recovery_fits : (total end : ℕ) (place : Option ℕ) → IfSome place (λ n. n < total)
    → fits total end (recovery place) ≡ true
recovery_fits total end None h = refl
recovery_fits total end (Some n) h = lt-ltb n total h

pub join_fits : (total : ℕ) (into : Option ℕ) → IfSome into (λ slot. slot < most_locals)
    → all_fit total 30 (join_code into) ≡ true
join_fits total None h = refl
join_fits total (Some slot) h = ap (λ b. cond b true false) (lt-ltb slot most_locals h)
