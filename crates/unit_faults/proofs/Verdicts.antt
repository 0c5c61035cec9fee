-- The faults of a unit, part by part, are its faults.
use Rattle.std.proofs.Common.{◌≡◌, inl, inr, List, Option, Some, None, refl, sym, subst}
use Rattle.std.specs.List.{Contains}
use Rattle.std.proofs.lemmas.Option.{none-some}
use Rattle.scanner.specs.declared.token.Place.{Place}
use Rattle.scanner.specs.declared.refusal.Refusal.{Refusal}
use Rattle.scanner.specs.declared.refusal.RefusalKind.{RefusalKind}
use Rattle.scanner.specs.declared.refusal.RefusalKind.TheVariants as K
use Rattle.syntax.specs.Lexeme.{NameTree}
use Rattle.syntax.specs.Tree.{UnitTree}
use Rattle.types.specs.Faults.{fault}
use Rattle.types.specs.Judgement.{IsFaulty, IsPastLimit, IsInBody, IsRepeated, IsScope, OfUnit, OfMonitor, OfPiece}
use Rattle.types.specs.Names.{outer_names, monitor_scope, body_scope}
use Rattle.types.specs.Pieces.{Piece, pieces}
use Rattle.unit_faults.specs.Collected.{Collects}
use Rattle.unit_faults.specs.Parts.{InOuter, InCounts, InMembers, InPiece, InCalls, InUnit}
use Rattle.types.specs.Verdicts.{IsVerdict}
use Rattle.unit_faults.proofs.BodyKinds.{IsOfBody, block}

kind_is : (u : UnitTree) (e : Refusal) (kind : RefusalKind) → e.kind ≡ kind → IsFaulty u e.place kind
    → IsFaulty u e.place e.kind
kind_is u e kind k w = subst (λ z. IsFaulty u e.place z) (sym k) w

past_limit : (u : UnitTree) (e : Refusal) → e.kind ≡ K.Limit → IsPastLimit u e.place → IsFaulty u e.place e.kind
past_limit u e k w = kind_is u e K.Limit k w

counts : (u : UnitTree) (e : Refusal) → InCounts u e → IsFaulty u e.place e.kind
counts u e (inl (k, w)) = past_limit u e k (inl w)
counts u e (inr (k, w)) = past_limit u e k (inr (inr (inl w)))

members : (u : UnitTree) (e : Refusal) → InMembers u e → IsFaulty u e.place e.kind
members u e (inl (inl (k, w))) = past_limit u e k (inr (inl w))
members u e (inl (inr (k, w))) = past_limit u e k (inr (inr (inr (inr (inr (inl w))))))
members u e (inr (k, w)) = past_limit u e k (inr (inr (inr (inr (inr (inr (inl w)))))))

outer : (u : UnitTree) (e : Refusal) → InOuter u e → IsFaulty u e.place e.kind
outer u e (inl (inl (inl (k, w)))) = kind_is u e K.Redeclared k (outer_names u, OfUnit, w)
outer u e (inl (inl (inr (t, c, (k, w))))) = kind_is u e K.Redeclared k (monitor_scope t, OfMonitor t c, w)
outer u e (inl (inr w)) = counts u e w
outer u e (inr w) = members u e w

piece : (u : UnitTree) (e : Refusal) (q : Piece) → Contains (pieces u) q → InPiece q e → IsFaulty u e.place e.kind
piece u e q c (inl (inl (k, w))) =
    kind_is u e K.Redeclared k (body_scope q.parameters q.body.locals, OfPiece q c, w)
piece u e q c (inl (inr (k, w))) = past_limit u e k (inr (inr (inr (inr (inl (q, c, w))))))
piece u e q c (inr (k, w)) = past_limit u e k (inr (inr (inr (inl (q, c, w)))))

called : (u : UnitTree) (e : Refusal) → InCalls u e → IsFaulty u e.place e.kind
called u e (inl (k, w)) = kind_is u e K.Recursion k w
called u e (inr (k, w)) = past_limit u e k (inr (inr (inr (inr (inr (inr (inr w)))))))

in_body : (u : UnitTree) (kind : RefusalKind) (place : Place) → IsOfBody kind → IsInBody u (fault kind place)
    → IsFaulty u place kind
in_body u K.Redeclared place h w = absurd h
in_body u K.Recursion place h w = absurd h
in_body u K.Limit place h w = absurd h
in_body u K.NotAscii place h w = w
in_body u K.BadToken place h w = w
in_body u K.Expected place h w = w
in_body u K.Unknown place h w = w
in_body u K.TypeMismatch place h w = w
in_body u K.WrongPlace place h w = w
in_body u K.DirectReentry place h w = w
in_body u K.Memory place h w = w
in_body u K.StrayPiece place h w = w

faulty : (u : UnitTree) (e : Refusal) → InUnit u e → IsFaulty u e.place e.kind
faulty u e (inl (inl (inl w))) = outer u e w
faulty u e (inl (inl (inr (q, c, w)))) = piece u e q c w
faulty u e (inl (inr w)) = called u e w
faulty u e (inr (q, c, w)) = in_body u e.kind e.place
    ((block (record { unit = u; piece = q }) q.body.statements).each e w) (q, c, w)

redeclared : (u : UnitTree) (place : Place) (names : List NameTree) → IsScope u names → IsRepeated names place
    → InUnit u (fault K.Redeclared place)
redeclared u place _ OfUnit w = inl (inl (inl (inl (inl (inl (refl, w))))))
redeclared u place _ (OfMonitor t c) w = inl (inl (inl (inl (inl (inr (t, c, (refl, w)))))))
redeclared u place _ (OfPiece q c) w = inl (inl (inr (q, c, inl (inl (refl, w)))))

limited : (u : UnitTree) (place : Place) → IsPastLimit u place → InUnit u (fault K.Limit place)
limited u place (inl w) = inl (inl (inl (inl (inr (inl (refl, w))))))
limited u place (inr (inl w)) = inl (inl (inl (inr (inl (inl (refl, w))))))
limited u place (inr (inr (inl w))) = inl (inl (inl (inl (inr (inr (refl, w))))))
limited u place (inr (inr (inr (inl (q, c, w))))) = inl (inl (inr (q, c, inr (refl, w))))
limited u place (inr (inr (inr (inr (inl (q, c, w)))))) = inl (inl (inr (q, c, inl (inr (refl, w)))))
limited u place (inr (inr (inr (inr (inr (inl w)))))) = inl (inl (inl (inr (inl (inr (refl, w))))))
limited u place (inr (inr (inr (inr (inr (inr (inl w))))))) = inl (inl (inl (inr (inr (refl, w)))))
limited u place (inr (inr (inr (inr (inr (inr (inr w))))))) = inl (inr (inr (refl, w)))

found : (u : UnitTree) (place : Place) (kind : RefusalKind) → IsFaulty u place kind → InUnit u (fault kind place)
found u place K.Redeclared (names, s, w) = redeclared u place names s w
found u place K.Recursion w = inl (inr (inl (refl, w)))
found u place K.Limit w = limited u place w
found u place K.NotAscii w = inr w
found u place K.BadToken w = inr w
found u place K.Expected w = inr w
found u place K.Unknown w = inr w
found u place K.TypeMismatch w = inr w
found u place K.WrongPlace w = inr w
found u place K.DirectReentry w = inr w
found u place K.Memory w = inr w
found u place K.StrayPiece w = inr w

-- the least of all is the refusal
pub verdict : (u : UnitTree) (r : Option Refusal) → Collects (InUnit u) None r → IsVerdict u r
verdict u None h = λ place kind w. h (fault kind place) (inr (found u place kind w))
verdict u (Some e) h = (
  elim h.0 [ inl q ↦ absurd (none-some e q) | inr w ↦ faulty u e w ],
  λ place kind w. h.1 (fault kind place) (inr (found u place kind w)),
)
