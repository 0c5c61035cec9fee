-- Cycles of calls and long chains, piece by piece.
use Rattle.std.proofs.Common.{◌≡◌, ◌⊎◌, inl, inr, ℕ, zero, suc, List, Option, length, Bool, true, false, ◌&&◌}
use Rattle.std.proofs.Common.{nat_eq, eq-eqb, refl, sym, ap, ◌∙◌, subst}
use Rattle.std.specs.Prelude.{IsTrue, IsFalse}
use Rattle.std.proofs.lemmas.List.Folds.{list_any_at}
use Rattle.scanner.specs.declared.refusal.Refusal.{Refusal}
use Rattle.scanner.specs.declared.refusal.RefusalKind.TheVariants.{Recursion, Limit}
use Rattle.callgraph.specs.declared.Call.{Call}
use Rattle.callgraph.specs.Calls.{has_chain, IsCall, Leads, Directly, Through}
use Rattle.callgraph.proofs.Fixed.{one_less}
use Rattle.syntax.specs.Tree.{UnitTree}
use Rattle.types.specs.Faults.{fault}
use Rattle.types.specs.Judgement.{is_named, all_calls}
use Rattle.types.specs.Limits.{most_in_chain}
use Rattle.types.specs.Pieces.{Piece, pieces}
use Rattle.unit_faults.specs.Collected.{Collects}
use Rattle.unit_faults.specs.Parts.{InCalls}
use Rattle.unit_faults.proofs.Collecting.{collects_none, collects_same}
use Rattle.unit_faults.proofs.Along.{Along}
use Rattle.unit_faults.proofs.Relations.{by_parts, taken_within}

same_number : (n : ℕ) → nat_eq n n ≡ true
same_number n = eq-eqb n n refl

-- a call before a chain
call_first : (calls : List Call) (n a b : ℕ) → IsCall calls a b → has_chain calls n b ≡ true
    → has_chain calls (suc n) a ≡ true
call_first calls n a b (i, l, e) h =
    list_any_at (λ c. nat_eq c.caller a && has_chain calls n c.callee) calls i (record { caller = a; callee = b }) l
    (ap (λ c. nat_eq c.caller a && has_chain calls n c.callee) e ∙ ap (λ t. t && has_chain calls n b) (same_number a)
    ∙ h)

leads_first : (calls : List Call) (a b : ℕ) → Leads calls a b → (k : ℕ) → has_chain calls k b ≡ true
    → has_chain calls (suc k) a ≡ true
leads_first calls a _ (Directly b c) k h = call_first calls k a b c h
leads_first calls a _ (Through b c w x) k h =
    leads_first calls a b w k (one_less calls k b (call_first calls k b c x h))

-- on a cycle begin chains of every length
circle : (calls : List Call) (n : ℕ) → Leads calls n n → (k : ℕ) → has_chain calls k n ≡ true
circle calls n w zero = refl
circle calls n w (suc k) = leads_first calls n n w k (circle calls n w k)

-- a chain of more procedures than are allowed begins here, and none of some length
abbrev pub IsLong : List Call → ℕ → Type 0
IsLong calls n = IsTrue (has_chain calls most_in_chain n) × (k : ℕ) × IsFalse (has_chain calls k n)

-- the faults of a piece
abbrev pub CallsAt : List Call → List Piece → Piece → Refusal → Type 0
CallsAt calls before q e = IsTrue (is_named q.role) × ((Leads calls (length before) (length before)
    × (e ≡ fault Recursion q.place)) ⊎ (IsLong calls (length before) × (e ≡ fault Limit q.place)))

pub unnamed_step : (calls : List Call) (before : List Piece) (q : Piece) (a : Option Refusal) → is_named q.role ≡ false
    → Collects (CallsAt calls before q) a a
unnamed_step calls before q a h = collects_none (CallsAt calls before q) a
    (λ e w. let v : true ≡ false = sym w.0 ∙ h in cc)

pub endless_step : (calls : List Call) (before : List Piece) (q : Piece) (n : ℕ) (a b : Option Refusal)
    → n ≡ length before → is_named q.role ≡ true → ((k : ℕ) → has_chain calls k n ≡ true)
    → Collects (λ e. Leads calls n n × (e ≡ fault Recursion q.place)) a b → Collects (CallsAt calls before q) a b
endless_step calls before q n a b same named every h =
    collects_same (λ e. Leads calls n n × (e ≡ fault Recursion q.place)) (CallsAt calls before q) a b
    (λ e w. (named, inl (subst (λ m. Leads calls m m) same w.0, w.1)))
    (λ e w. elim w.1 [
      | inl v ↦ (subst (λ m. Leads calls m m) (sym same) v.0, v.1)
      | inr v ↦
          let x : has_chain calls v.0.1 n ≡ false = subst (λ m. has_chain calls v.0.1 m ≡ false) (sym same) v.0.2 in
          absurd (let y : true ≡ false = sym (every v.0.1) ∙ x in cc)
    ]) h

pub ended_step : (calls : List Call) (before : List Piece) (q : Piece) (n k : ℕ) (long : Bool) (a b : Option Refusal)
    → n ≡ length before → is_named q.role ≡ true → has_chain calls k n ≡ false
    → long ≡ has_chain calls most_in_chain n
    → Collects (λ e. IsTrue long × (e ≡ fault Limit q.place)) a b → Collects (CallsAt calls before q) a b
ended_step calls before q n k long a b same named ends is h =
    collects_same (λ e. IsTrue long × (e ≡ fault Limit q.place)) (CallsAt calls before q) a b
    (λ e w. (
      named,
      inr (
        (
          ap (has_chain calls most_in_chain) (sym same) ∙ sym is ∙ w.0,
          k,
          ap (has_chain calls k) (sym same) ∙ ends,
        ),
        w.1,
      ),
    ))
    (λ e w. elim w.1 [
      | inl v ↦ absurd (let y : true ≡ false = sym (circle calls n (subst (λ m. Leads calls m m) (sym same) v.0) k)
          ∙ ends in cc)
      | inr v ↦ (is ∙ ap (has_chain calls most_in_chain) same ∙ v.0.0, v.1)
    ]) h

calls_to : (u : UnitTree) (e : Refusal) → Along (CallsAt (all_calls u)) (pieces u) e → InCalls u e
calls_to u e (i, q, g, (named, w)) =
    let at = taken_within (pieces u) i q g in
    elim w [
      | inl v ↦ inl (
        ap (λ x. x.kind) v.1,
        (
          i,
          (q, g, named, ap (λ x. x.place) (sym v.1)),
          subst (λ m. Leads (all_calls u) m m) at v.0,
        ),
      )
      | inr v ↦ inr (
        ap (λ x. x.kind) v.1,
        (
          i,
          (q, g, named, ap (λ x. x.place) (sym v.1)),
          ap (has_chain (all_calls u) most_in_chain) (sym at) ∙ v.0.0,
          v.0.1,
          ap (has_chain (all_calls u) v.0.1) (sym at) ∙ v.0.2,
        ),
      )
    ]

calls_from : (u : UnitTree) (e : Refusal) → InCalls u e → Along (CallsAt (all_calls u)) (pieces u) e
calls_from u e (inl (k, (i, (q, g, named, p), w))) =
    let at = taken_within (pieces u) i q g in
    (i, q, g, (named, inl (subst (λ m. Leads (all_calls u) m m) (sym at) w, by_parts e Recursion q.place k p)))
calls_from u e (inr (k, (i, (q, g, named, p), long, n, ends))) =
    let at = taken_within (pieces u) i q g in (
      i,
      q,
      g,
      (
        named,
        inr (
          (
            ap (has_chain (all_calls u) most_in_chain) at ∙ long,
            n,
            ap (has_chain (all_calls u) n) at ∙ ends,
          ),
          by_parts e Limit q.place k p,
        ),
      ),
    )

-- the faults of all pieces
pub calls_same : (u : UnitTree) (a b : Option Refusal) → Collects (Along (CallsAt (all_calls u)) (pieces u)) a b
    → Collects (InCalls u) a b
calls_same u a b h = collects_same (Along (CallsAt (all_calls u)) (pieces u)) (InCalls u) a b (calls_to u)
    (calls_from u) h
