-- Kept states in which a process was woken, and what follows from them.
use Rattle.std.proofs.Common.{◌≡◌, ◌<◌, ◌∙◌, ℕ, Bool, true, false, suc, [], All, None, Option, Some, ap, length, refl, subst, sym}
use Rattle.std.specs.Prelude.{IfSome, is_some}
use Rattle.program.specs.declared.kinds.Member.{Member}
use Rattle.meaning.specs.Runs.{IsStray}
use Rattle.meaning.specs.States.{SourceState}
use Rattle.proof_exploration.specs.Exploring.{awake}
use Rattle.proof_exploration.proofs.Turns.{awake_in, awake_none}
use Rattle.source_table.specs.Tables.{table_of}
use Rattle.source_search.specs.Packed.{IsGrown, IsWithin, processes_at, some_table, some_variables, table_in, unpacked}
use Rattle.source_search.specs.Packed.{variables_in}
use Rattle.source_search.specs.Spots.{IsAlone, IsSpotOf}
use Rattle.source_search.specs.Waking.{IsAwakeAt, IsWokenOf}
use Rattle.source_search.specs.declared.packed.Packed.{Packed as PackedOf}
use Rattle.source_search.specs.declared.parts.Parts.{Parts as PartsOf}
use Rattle.source_search.specs.declared.spot.Spot.{Spot as SpotOf}
use Rattle.source_search.proofs.Packing.{some_within, unpacked_still, within_still}

-- what holds of some value, of whichever it is
pub some_told : {A : Type 0} (o : Option A) (X : Type 0) → is_some o ≡ true → IfSome o (λ x. X) → X
some_told None X e is = absurd (let differ : false ≡ true = e in cc)
some_told (Some x) X e is = is

-- a process that is awake needs no stray wake-up
pub awake_already : (parts : PartsOf) (x : PackedOf) (place : ℕ) (spot : SpotOf) (strays : Bool) → IsSpotOf x place spot
    → IsAwakeAt parts spot strays → awake strays (suc place) (unpacked parts x) ≡ unpacked parts x
awake_already parts x place spot false is at = refl
awake_already parts x place spot true is at =
    awake_none (suc place) (unpacked parts x) (subst (λ n. (unpacked parts x).table.waits n ≡ None) is.process
    (subst (λ n. (some_table (table_in parts.tables.items n)).waits spot.process ≡ None) is.table (at refl)))

-- a kept state with the table of the one in which the process, alone, was woken
pub woken_of : (a b : PartsOf) → IsGrown a b → (x y : PackedOf) (place t : ℕ) (spot : SpotOf) (s s' : SourceState)
    (c : Member) → IsSpotOf x place spot → IsAlone a spot s → t ≡ spot.process → IsStray s t c s'
    → table_in b.tables.items y.table ≡ Some s'.table → y.variables ≡ x.variables
    → y.processes.items ≡ x.processes.items → IsWokenOf a b x (suc place) y
woken_of a b g x y place t spot s s' c is single number stray found variables processes = record {
  within = λ within. let still : IsWithin b x = within_still a b g x within in record {
    table = some_within table_of b.tables.items y.table s'.table found;
    variables = subst (λ n. n < length b.variables.items) (sym variables) still.variables;
    processes = subst (All (λ n. n < length b.processes.items)) (sym processes) still.processes;
  };
  same = λ within.
      let still : unpacked b x ≡ unpacked a x = unpacked_still a b g x within in λ i. record {
        table = (ap some_table found ∙ stray.allows.1 ∙ woken) i;
        variable = (ap (λ n. some_variables (variables_in b.variables.items n)) variables
            ∙ ap (λ (r : SourceState). r.variable) still) i;
        process = (ap (processes_at b.processes.items) processes ∙ ap (λ (r : SourceState). r.process) still) i;
        printed = [];
      };
}
  where
    table : s.table ≡ (unpacked a x).table
    table = ap (λ (r : SourceState). r.table) single.same
        ∙ ap (λ n. some_table (table_in a.tables.items n)) is.table

    woken : awake_in t s.table ≡ awake_in (suc place) (unpacked a x).table
    woken = ap (λ n. awake_in n s.table) (number ∙ is.process) ∙ ap (awake_in (suc place)) table
