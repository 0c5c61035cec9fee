-- What a unit without a fault has none of.
use Rattle.std.proofs.Common.{◌≡◌, ℕ, suc, ◌+◌, ◌<◌, ◌≤◌, List, [], length, slice_get, Some, refl, ap}
use Rattle.std.proofs.Common.{subst, arith, Contains, true, false, inl, inr, sum_by}
use Rattle.std.proofs.lemmas.List.{length-map}
use Rattle.std.proofs.lemmas.Option.{slice_get_within}
use Rattle.scanner.specs.declared.token.Place.{Place}
use Rattle.scanner.specs.declared.refusal.RefusalKind.{RefusalKind}
use Rattle.scanner.specs.declared.refusal.RefusalKind.TheVariants as K
use Rattle.callgraph.specs.Calls.{has_chain, Leads, IsCall}
use Rattle.program.specs.declared.kinds.Role.{Role}
use Rattle.program.specs.declared.kinds.Role.TheVariants.{Entry, Internal, Recover, External, Main}
use Rattle.syntax.specs.Tree.{MemberTree, UnitTree}
use Rattle.types.specs.Faults.{fault}
use Rattle.types.specs.Judgement.{IsFaulty, IsInBody, is_named, all_calls, kind_words}
use Rattle.types.specs.Limits.{most_member_words}
use Rattle.types.specs.Names.{monitor_names, all_procedure_names, parameter_names, body_scope, all_members}
use Rattle.types.specs.Pieces.{Piece, pieces}
use Rattle.types.specs.StatementFaults.{is_recover}
use Rattle.types.specs.CallFaults.{block_faults}
use Rattle.proof_well_formed.specs.Faultless.{IsFaultless}
use Rattle.proof_well_formed.proofs.Free.{Free, IsOfBody, free_of}
use Rattle.proof_well_formed.proofs.Lists.{contains_at}
use Rattle.proof_well_formed.proofs.Calls.{scope_at, called_by, call_of, block_calls_nothing}
use Rattle.proof_well_formed.proofs.Chains.{first_call, starts, ended}
use Rattle.proof_well_formed.proofs.Sizes.{not_past, not_past_sum, IsSized, sized}

in_body : (u : UnitTree) (kind : RefusalKind) (place : Place) → IsOfBody kind → IsInBody u (fault kind place)
    → IsFaulty u place kind
in_body u K.Unknown place k h = h
in_body u K.TypeMismatch place k h = h
in_body u K.WrongPlace place k h = h
in_body u K.DirectReentry place k h = h
in_body u _ place k h = absurd k

no_call : (callee : ℕ) (xs : List ℕ) → xs ≡ [] → Contains xs callee → ⊥
no_call callee xs e c = let h : length xs ≡ 0 = ap length e in omega (arith, h, c.1)

named_role : (r : Role) → is_recover r ≡ false → is_named r ≡ true
named_role (Entry m) e = refl
named_role (Internal m) e = refl
named_role (Recover m) e = cc
named_role External e = refl
named_role Main e = refl

module _ (u : UnitTree) (f : IsFaultless u) where
  pub free : (q : Piece) → Contains (pieces u) q → Free (block_faults (scope_at u q) q.body.statements)
  free q c = free_of (block_faults (scope_at u q) q.body.statements)
      (λ e h k. f e.place e.kind (in_body u e.kind e.place k (q, c, h)))

  pub few_monitors : length u.monitors ≤ 64
  few_monitors =
      let a : length (monitor_names u) ≤ 64 = not_past 64 (monitor_names u) (λ p h. f p K.Limit (inl h)) in
      let b : length (monitor_names u) ≡ length u.monitors = length-map u.monitors (λ m. m.name) in
      omega (arith, a, b)

  pub few_procedures : length (all_procedure_names u) ≤ 512
  few_procedures = not_past 512 (all_procedure_names u) (λ p h. f p K.Limit (inr (inr (inl h))))

  pub few_parameters : (q : Piece) → Contains (pieces u) q → length q.parameters ≤ 16
  few_parameters q c =
      let a : length (parameter_names q.parameters) ≤ 16 =
      not_past 16 (parameter_names q.parameters) (λ p h. f p K.Limit (inr (inr (inr (inl (q, c, h)))))) in
      let b : length (parameter_names q.parameters) ≡ length q.parameters =
      length-map q.parameters (λ p. p.name) in
      omega (arith, a, b)

  pub few_locals : (q : Piece) → Contains (pieces u) q → length (body_scope q.parameters q.body.locals) ≤ 64
  few_locals q c = not_past 64 (body_scope q.parameters q.body.locals)
      (λ p h. f p K.Limit (inr (inr (inr (inr (inl (q, c, h)))))))

  pub few_words : sum_by (λ y. kind_words y.kind) (all_members u) ≤ 1024
  few_words = not_past_sum (λ y. kind_words y.kind) most_member_words (all_members u)
      (λ i x e h. f x.name.place K.Limit (inr (inr (inr (inr (inr (inl (i, x, e, h, refl))))))))

  pub members_sized : (x : MemberTree) → Contains (all_members u) x → IsSized x.kind
  members_sized = sized u (λ p h. f p K.Limit (inr (inr (inr (inr (inr (inr (inl h))))))))

  -- a caller stands among the pieces, and is a procedure or MAIN
  caller_stands : (a b : ℕ) → IsCall (all_calls u) a b → (q : Piece) × (slice_get (pieces u) a ≡ Some q)
      × (is_named q.role ≡ true)
  caller_stands a b h =
      let p = call_of u 0 (pieces u) (record { caller = a; callee = b }) h in
      let q : Piece = p.1 in
      let e : a ≡ 0 + p.0 = p.3 in
      let g : p.0 ≡ a = omega (arith, e) in
      let at : slice_get (pieces u) a ≡ Some q = subst (λ n. slice_get (pieces u) n ≡ Some q) g p.2 in
      let silent : is_recover q.role ≡ true → ⊥ = λ r. no_call b (called_by u q)
      (block_calls_nothing (scope_at u q) r q.body.statements (free q (contains_at (pieces u) a q at))) p.4 in (
        q,
        at,
        named_role q.role (elim (is_recover q.role) as (λ t. (t ≡ true → ⊥) → t ≡ false) [
          | true ↦ λ s. absurd (s refl)
          | false ↦ λ _. refl
        ] silent),
      )

  no_cycle : (a : ℕ) → Leads (all_calls u) a a → ⊥
  no_cycle a l =
      let c = starts (all_calls u) a a l in
      let p = caller_stands a c.0 c.1 in
      f p.0.place K.Recursion (a, (p.0, p.1, p.2, refl), l)

  below : (a b : ℕ) → IsCall (all_calls u) a b → a < length (pieces u)
  below a b h = let p = caller_stands a b h in slice_get_within (pieces u) a p.0 p.1

  -- no chain of 15 calls begins anywhere
  pub no_long_chain : (a : ℕ) → has_chain (all_calls u) 15 a ≡ false
  no_long_chain a = elim (has_chain (all_calls u) 15 a) as (λ b. has_chain (all_calls u) 15 a ≡ b → b ≡ false) [
    | true ↦ λ e.
        let c = first_call (all_calls u) 14 a e in
        let p = caller_stands a c.0 c.1 in
        let short = ended (all_calls u) (length (pieces u)) below no_cycle a in
        absurd (f p.0.place K.Limit (inr (inr (inr (inr (inr (inr (inr
        (a, (p.0, p.1, p.2, refl), e, suc (length (pieces u)), short)))))))))
    | false ↦ λ e. refl
  ] refl
