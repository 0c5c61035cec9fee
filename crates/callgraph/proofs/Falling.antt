-- Levels that never rise along calls.
use Rattle.std.proofs.Common.{◌≡◌, ℕ, ◌<◌, ◌≤◌, List, ap, slice_index_or, arith, length, [], ◌∷◌}
use Rattle.callgraph.specs.declared.Call.{Call}
use Rattle.callgraph.specs.Calls.{IsCall, Leads, Directly, Through, Within}
use Rattle.callgraph.specs.Levels.{NeverRise}

-- where all that a procedure calls is below it, all that calls lead to from it is
below : (calls : List Call) (levels : List ℕ) (a c : ℕ) → NeverRise calls levels
    → ((b : ℕ) → IsCall calls a b → slice_index_or levels b 0 < slice_index_or levels a 0)
    → Leads calls a c → slice_index_or levels c 0 < slice_index_or levels a 0
below calls levels a _ never first (Directly b call) = first b call
below calls levels a _ never first (Through b c l call) =
    let far : slice_index_or levels b 0 < slice_index_or levels a 0 = below calls levels a b never first l in
    let on : slice_index_or levels c 0 ≤ slice_index_or levels b 0 = never b c call in
    omega (arith, far, on)

-- then calls don't lead back to it
pub never_back : (calls : List Call) (levels : List ℕ) (a : ℕ) → NeverRise calls levels
    → ((b : ℕ) → IsCall calls a b → slice_index_or levels b 0 < slice_index_or levels a 0)
    → Leads calls a a → ⊥
never_back calls levels a never first l =
    let far : slice_index_or levels a 0 < slice_index_or levels a 0 = below calls levels a a never first l in
    absurd (omega (arith, far))

-- no levels are of one level
pub none_rises : (calls : List Call) (levels : List ℕ) → length levels ≡ 0 → NeverRise calls levels
none_rises calls [] e a b call = omega arith
none_rises calls (x ∷ xs) e a b call = absurd (omega (arith, e))

pub caller_within : (calls : List Call) (count a b : ℕ) → Within calls count → IsCall calls a b → a < count
caller_within calls count a b w h = let l = w h.0 (record { caller = a; callee = b }) h.1 in
    let e : (slice_index_or calls h.0 (record { caller = a; callee = b })).caller ≡ a = ap (λ c. c.caller) h.2 in
    omega (arith, l.0, e)
