-- What the pieces of a unit call.
use Rattle.std.proofs.Common.{◌≡◌, ℕ, zero, suc, ◌+◌, List, [], ◌∷◌, ◌++◌, map, slice_get, Option, Some}
use Rattle.std.proofs.Common.{refl, sym, ap, ◌∙◌, subst, arith, Contains, option_to_list, unwrap_or, true}
use Rattle.std.proofs.Common.{inl, inr, option_map}
use Rattle.std.proofs.lemmas.List.Elements.{Contains-append_left, Contains-append_right, Contains-append_cases}
use Rattle.std.proofs.lemmas.Option.{slice_get-map}
use Rattle.scanner.specs.declared.refusal.RefusalKind.TheVariants as K
use Rattle.callgraph.specs.declared.Call.{Call as CallOf}
use Rattle.program.specs.declared.kinds.ValueType.TheVariants.{Integer, Boolean, Process}
use Rattle.program.specs.Measures as P
use Rattle.syntax.specs.Lexeme.{NameTree}
use Rattle.syntax.specs.Tree.{CalleeTree, StatementTree, Assign, If, While, Call, Fork, Join, Return, Wait, Notify}
use Rattle.syntax.specs.Tree.{Broadcast, Print, Abort, StatementTrees, NoStatements, Then, PartTree, NoPart, Part}
use Rattle.syntax.specs.Tree.{UnitTree}
use Rattle.types.specs.Judgement.{calls_from}
use Rattle.types.specs.Pieces.{Piece}
use Rattle.types.specs.Scope.{Scope, callee}
use Rattle.types.specs.StatementFaults.{typed_faults, into_faults, called_piece, is_recover}
use Rattle.types.specs.CallFaults.{recover_faults, call_faults, statement_faults, block_faults, part_faults}
use Rattle.types.specs.CallFaults.{calls, block_calls, part_calls}
use Rattle.types.specs.Statements.{procedure, statement, block, part}
use Rattle.proof_well_formed.proofs.Free.{Free, parts, three, untrue, true_false}
use Rattle.proof_well_formed.proofs.Lists.{place_of, mapped, contains_at, some_same}
use Rattle.proof_well_formed.proofs.CallParts.{free_call}

call_same : (s : Scope) (c : CalleeTree) (name : Option NameTree) → Free (call_faults s c name (called_piece s c))
    → procedure s c ∷ [] ≡ option_to_list (callee s c)
call_same s c name f = let k = free_call s c name f in
    ap (λ z. unwrap_or z 0 ∷ []) k.called.found ∙ sym (ap option_to_list k.called.found)

both : {X : Type 0} (a b c d : List X) → a ≡ b → c ≡ d → a ++ c ≡ b ++ d
both a b c d e f = ap (λ x. x ++ c) e ∙ ap (λ x. b ++ x) f

module _ (s : Scope) where
  mutual
    -- a resolved statement without a fault calls what the statement calls
    calls_same : (x : StatementTree) → Free (statement_faults s x) → P.calls (statement s x) ≡ calls s x
    calls_same (Assign v e) f = refl
    calls_same (If place e ss rest) f =
        let p = three (typed_faults s Boolean e) (block_faults s ss) (part_faults s rest) f in
        both (P.block_calls (block s ss)) (block_calls s ss) (P.part_calls (part s rest)) (part_calls s rest)
        (block_calls_same ss p.1) (part_calls_same rest p.2)
    calls_same (While place e ss) f =
        let p = parts (typed_faults s Boolean e) (block_faults s ss) f in block_calls_same ss p.1
    calls_same (Call place c into) f =
        let p = parts (recover_faults s place) (call_faults s c into (called_piece s c)) f in
        call_same s c into p.1
    calls_same (Fork place c into) f = refl
    calls_same (Join place e into rest) f =
        let p = parts (recover_faults s place ++ typed_faults s Process e ++ into_faults s (Some Integer) into)
        (part_faults s rest) f in part_calls_same rest p.1
    calls_same (Return place e) f = refl
    calls_same (Wait place name) f = refl
    calls_same (Notify place name) f = refl
    calls_same (Broadcast place name) f = refl
    calls_same (Print place e) f = refl
    calls_same (Abort place) f = refl

    pub block_calls_same : (ss : StatementTrees) → Free (block_faults s ss)
        → P.block_calls (block s ss) ≡ block_calls s ss
    block_calls_same NoStatements f = refl
    block_calls_same (Then first rest) f =
        let p = parts (statement_faults s first) (block_faults s rest) f in
        both (P.calls (statement s first)) (calls s first) (P.block_calls (block s rest)) (block_calls s rest)
        (calls_same first p.0) (block_calls_same rest p.1)

    part_calls_same : (x : PartTree) → Free (part_faults s x) → P.part_calls (part s x) ≡ part_calls s x
    part_calls_same NoPart f = refl
    part_calls_same (Part ss) f = block_calls_same ss f

module _ (s : Scope) (r : is_recover s.piece.role ≡ true) where
  mutual
    -- a RECOVER part without a fault calls nothing
    calls_nothing : (x : StatementTree) → Free (statement_faults s x) → calls s x ≡ []
    calls_nothing (Assign v e) f = refl
    calls_nothing (If place e ss rest) f =
        let p = three (typed_faults s Boolean e) (block_faults s ss) (part_faults s rest) f in
        both (block_calls s ss) [] (part_calls s rest) [] (block_calls_nothing ss p.1) (part_calls_nothing rest p.2)
    calls_nothing (While place e ss) f =
        let p = parts (typed_faults s Boolean e) (block_faults s ss) f in block_calls_nothing ss p.1
    calls_nothing (Call place c into) f =
        let p = parts (recover_faults s place) (call_faults s c into (called_piece s c)) f in
        absurd (true_false (sym r ∙ untrue (is_recover s.piece.role) K.WrongPlace place tt p.0))
    calls_nothing (Fork place c into) f = refl
    calls_nothing (Join place e into rest) f =
        let p = parts (recover_faults s place ++ typed_faults s Process e ++ into_faults s (Some Integer) into)
        (part_faults s rest) f in part_calls_nothing rest p.1
    calls_nothing (Return place e) f = refl
    calls_nothing (Wait place name) f = refl
    calls_nothing (Notify place name) f = refl
    calls_nothing (Broadcast place name) f = refl
    calls_nothing (Print place e) f = refl
    calls_nothing (Abort place) f = refl

    pub block_calls_nothing : (ss : StatementTrees) → Free (block_faults s ss) → block_calls s ss ≡ []
    block_calls_nothing NoStatements f = refl
    block_calls_nothing (Then first rest) f =
        let p = parts (statement_faults s first) (block_faults s rest) f in
        both (calls s first) [] (block_calls s rest) [] (calls_nothing first p.0) (block_calls_nothing rest p.1)

    part_calls_nothing : (x : PartTree) → Free (part_faults s x) → part_calls s x ≡ []
    part_calls_nothing NoPart f = refl
    part_calls_nothing (Part ss) f = block_calls_nothing ss f

abbrev pub scope_at : UnitTree → Piece → Scope
scope_at u q = record { unit = u; piece = q }

-- what a piece calls
abbrev pub called_by : UnitTree → Piece → List ℕ
called_by u q = block_calls (scope_at u q) q.body.statements

abbrev pub a_call : ℕ → ℕ → CallOf
a_call n callee = record { caller = n; callee = callee }

calls_of_one : (n : ℕ) (xs : List ℕ) (callee : ℕ) → Contains xs callee → Contains (map (a_call n) xs) (a_call n callee)
calls_of_one n xs callee c = let p = place_of xs callee c in
    contains_at (map (a_call n) xs) p.0 (a_call n callee) (slice_get-map (a_call n) xs p.0
    ∙ ap (option_map (a_call n)) p.1)

-- each call of a piece is among the calls
pub call_in : (u : UnitTree) (n : ℕ) (qs : List Piece) (i : ℕ) (q : Piece) (callee m : ℕ) → m ≡ n + i
    → slice_get qs i ≡ Some q → Contains (called_by u q) callee → Contains (calls_from u n qs) (a_call m callee)
call_in u n [] i q callee m e h c = cc
call_in u n (z ∷ qs) zero q callee m e h c =
    let f : n ≡ m = omega (arith, e) in
    Contains-append_left (map (a_call n) (called_by u z)) (calls_from u (n + 1) qs) (a_call m callee)
    (subst (λ k. Contains (map (a_call n) (called_by u z)) (a_call k callee)) f
    (calls_of_one n (called_by u z) callee (subst (λ y. Contains (called_by u y) callee) (sym (some_same z q h))
    c)))
call_in u n (z ∷ qs) (suc i) q callee m e h c =
    Contains-append_right (map (a_call n) (called_by u z)) (calls_from u (n + 1) qs) (a_call m callee)
    (call_in u (n + 1) qs i q callee m (omega (arith, e)) h c)

-- a call among these is of a piece
abbrev pub IsOfPiece : UnitTree → ℕ → List Piece → CallOf → Type 0
IsOfPiece u n qs c = (i : ℕ) × (q : Piece) × (slice_get qs i ≡ Some q) × (c.caller ≡ n + i)
    × Contains (called_by u q) c.callee

one_of_calls : (n : ℕ) (xs : List ℕ) (c : CallOf) → Contains (map (a_call n) xs) c
    → (c.caller ≡ n) × Contains xs c.callee
one_of_calls n xs c h =
    let p = place_of (map (a_call n) xs) c h in
    let q = mapped (a_call n) xs p.0 c p.1 in
    (sym (ap (λ x. x.caller) q.2), subst (Contains xs) (ap (λ x. x.callee) q.2) (contains_at xs p.0 q.0 q.1))

pub call_of : (u : UnitTree) (n : ℕ) (qs : List Piece) (c : CallOf) → Contains (calls_from u n qs) c
    → IsOfPiece u n qs c
call_of u n [] c h = absurd (omega (arith, h.1))
call_of u n (z ∷ qs) c h =
    elim (Contains-append_cases (map (a_call n) (called_by u z)) (calls_from u (n + 1) qs) c h) [
      | inl g ↦ let p = one_of_calls n (called_by u z) c g in
          let e : c.caller ≡ n = p.0 in (0, z, refl, omega (arith, e), p.1)
      | inr g ↦ let p = call_of u (n + 1) qs c g in
          let e : c.caller ≡ n + 1 + p.0 = p.3 in (suc p.0, p.1, p.2, omega (arith, e), p.4)
    ]
