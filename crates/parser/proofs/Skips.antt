-- Where a symbol is over, and where a parameter begins.
use Rattle.std.proofs.Common.{◌≡◌, ◌≢◌, ℕ, List, [], ◌∷◌, None, refl, arith}
use Rattle.scanner.specs.declared.token.Keyword.TheVariants as K
use Rattle.scanner.specs.declared.token.Sign.TheVariants as S
use Rattle.scanner.specs.declared.token.Place.{Place}
use Rattle.syntax.specs.Lexeme.{NameTree, Lexeme, WordAt, Named}
use Rattle.grammar.specs.Machine.{Symbol, Tree, AName, AMark, ALocalType, Parameters, MoreParameters, Skip, Item}
use Rattle.grammar.specs.Machine.{reply, reply_locals, reply_members, reply_procedures, reply_recover, reply_monitors}
use Rattle.grammar.specs.Reading.{lexeme_at, Passes, Leads}
use Rattle.grammar.proofs.Steps.{on_reads, pushed}
use Rattle.grammar.proofs.Joins.{skip}

pub locals_over : (k : Lexeme) → ((place : Place) → k ≢ WordAt K.Var place) → reply_locals k ≡ Skip []
locals_over (WordAt K.Var place) h = absurd (h place refl)
locals_over _ h = refl

pub members_over : (k : Lexeme) → ((place : Place) → k ≢ WordAt K.Var place) → reply_members k ≡ Skip []
members_over (WordAt K.Var place) h = absurd (h place refl)
members_over _ h = refl

pub procedures_over : (k : Lexeme) → ((place : Place) → k ≢ WordAt K.Procedure place) → reply_procedures k ≡ Skip []
procedures_over (WordAt K.Procedure place) h = absurd (h place refl)
procedures_over _ h = refl

pub recover_over : (k : Lexeme) → ((place : Place) → k ≢ WordAt K.Recover place) → reply_recover k ≡ Skip None
recover_over (WordAt K.Recover place) h = absurd (h place refl)
recover_over _ h = refl

pub monitors_over : (k : Lexeme) → ((place : Place) → k ≢ WordAt K.Monitor place) → reply_monitors k ≡ Skip []
monitors_over (WordAt K.Monitor place) h = absurd (h place refl)
monitors_over _ h = refl

pub over : {d : ℕ} {s : Symbol} {x : Tree s} {a b : List Item} → reply s (lexeme_at a) ≡ Skip x → b ≡ a
    → Passes d (s ∷ []) (x, tt) a b
over h e = rw e (skip h)

pub named_parameters : {a : List Item} {n : NameTree} → lexeme_at a ≡ Named n
    → Leads 0 (Parameters ∷ []) (AName ∷ AMark S.Colon ∷ ALocalType ∷ MoreParameters ∷ [])
    (λ y. (record { name = y.0; kind = y.1.1.0 } ∷ y.1.1.1.0, tt)) a a
named_parameters {a} {n} e = record {
  leads = λ κ q. rw (
    pushed 64 a Parameters κ (AMark S.Colon ∷ ALocalType ∷ MoreParameters ∷ [])
        (λ t. record { name = n; kind = t.1.0 } ∷ t.1.1.0) (rw e refl) (omega arith),
    pushed 64 a AName (AMark S.Colon ∷ ALocalType ∷ MoreParameters ∷ κ) [] (λ _. n) (rw e refl) (omega arith),
  ) (simp on_reads);
}
