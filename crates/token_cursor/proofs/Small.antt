-- What a small step leads to.
use Rattle.std.proofs.Common.{Result, Ok, Err, IsErrAnd, IfErr, ◌≡◌, ◌≤◌, ◌<◌, ℕ, ◌+◌, List, [], ◌∷◌, length, nat_eq}
use Rattle.std.proofs.Common.{Bool, true, false, cond, refl, ap, sym, subst, ◌∙◌, arith}
use Rattle.scanner.specs.declared.token.Keyword.{Keyword}
use Rattle.scanner.specs.declared.token.Place.{Place}
use Rattle.scanner.specs.declared.refusal.Refusal.{Refusal}
use Rattle.scanner.specs.declared.refusal.RefusalKind.TheVariants.{Expected, Limit}
use Rattle.scanner.specs.Refusals.{out_of_memory}
use Rattle.scanner.specs.declared.token.Sign.{Sign}
use Rattle.syntax.specs.Lexeme.{Lexeme, Word, WordAt, Mark, Finish}
use Rattle.grammar.specs.Machine.{Symbol, AWord, AWordAt, AMark, Tree, Trees, Push, Reject, Item, reply, reply_word}
use Rattle.grammar.specs.Machine.{reply_word_at, reply_mark, word_code, sign_code, nestings, refusal_at}
use Rattle.grammar.specs.Reading.{lexeme_at, rest_after, Passes, Fails, Leads}
use Rattle.grammar.proofs.Codes.{word_reply, word_at_reply, mark_reply, same_word, same_sign}
use Rattle.grammar.proofs.Joins.{push, reject, limit, memory, done}
use Rattle.token_cursor.specs.Taking.{Takes, Rejects, Found, Absent}

pub shorter_after : (a : List Item) → (lexeme_at a ≡ Finish → ⊥) → length (rest_after a) < length a
shorter_after [] other = absurd (other refl)
shorter_after (t ∷ ts) other = omega arith

pub some_left : (a : List Item) → (lexeme_at a ≡ Finish → ⊥) → 0 < length a
some_left [] other = absurd (other refl)
some_left (t ∷ ts) other = omega arith

-- a symbol is replaced by others at the first item, which is passed
pub pushes : {d : ℕ} {s : Symbol} {ρ : List Symbol} {f : Trees ρ → Tree s} {a b : List Item}
    → reply s (lexeme_at a) ≡ Push ρ f → b ≡ rest_after a → nestings ρ + d ≤ 64
    → Leads d (s ∷ []) ρ (λ y. (f y, tt)) a b
pushes {d} {s} {ρ} {f} {a} {b} h e le =
    let P : List Item → Type 0 = λ l. Leads d (s ∷ []) ρ (λ y. (f y, tt)) a l in
    subst P (sym e) (push h le)

-- a symbol is read from one item
pub takes : {d : ℕ} {s : Symbol} {x : Tree s} {a b : List Item} → Takes s x a b → d ≤ 64
    → Passes d (s ∷ []) (x, tt) a b
takes {d} {s} {x} {a} {b} t le = done (pushes t.reply t.rest (omega arith))

pub rejects : {d : ℕ} {s : Symbol} {σ : List Symbol} {a : List Item} {e : Refusal} → Rejects s a e
    → Fails d (s ∷ σ) a e
rejects {d} {s} {σ} {a} {e} r =
    let P : Refusal → Type 0 = λ x. Fails d (s ∷ σ) a x in
    subst P (sym r.refusal) (reject r.reply)

pub rejected : {d : ℕ} {s : Symbol} {σ : List Symbol} {a : List Item} {e : Refusal} → reply s (lexeme_at a) ≡ Reject
    → e ≡ refusal_at Expected a → Fails d (s ∷ σ) a e
rejected h e = rejects (record { reply = h; refusal = e })

-- a nesting too many is opened
pub too_deep : {d : ℕ} {s : Symbol} {ρ : List Symbol} {f : Trees ρ → Tree s} {a : List Item} {e : Refusal}
    → (lexeme_at a ≡ Finish → ⊥) → reply s (lexeme_at a) ≡ Push ρ f → 64 < nestings ρ + d → e ≡ refusal_at Limit a
    → Fails d (s ∷ []) a e
too_deep {d} {s} {ρ} {f} {a} {e} other h lt p =
    let P : Refusal → Type 0 = λ x. Fails d (s ∷ []) a x in
    subst P (sym p) (limit other h lt)

-- memory ran out
pub no_memory : {d : ℕ} {σ : List Symbol} {a : List Item} {e : Refusal} → e ≡ out_of_memory → Fails d σ a e
no_memory p = memory (ap (λ r. r.kind) p)

-- the exit of a `?`
pub exit_fails : {T : Type 0} {d : ℕ} {σ : List Symbol} {a : List Item} {e : Refusal} (r : Result T Refusal)
    → IsErrAnd r (λ y. y ≡ e) → Fails d σ a e → IfErr r (λ y. Fails d σ a y)
exit_fails (Ok x) h f = absurd h
exit_fails {d = d} {σ = σ} {a = a} (Err y) h f =
    let P : Refusal → Type 0 = λ x. Fails d σ a x in
    subst P (sym h) f

pub exit_memory : {T : Type 0} (d : ℕ) (σ : List Symbol) (a : List Item) (r : Result T Refusal)
    → IsErrAnd r (λ y. y ≡ out_of_memory) → IfErr r (λ y. Fails d σ a y)
exit_memory d σ a (Ok x) h = absurd h
exit_memory d σ a (Err y) h = no_memory h

-- a keyword or a sign that was asked for
pub found_word : {w : Keyword} {a b : List Item} → Found (Word w) a b → Takes (AWord w) tt a b
found_word {w} f = record { reply = ap (reply_word w) f.first ∙ word_reply w; rest = f.rest; shorter = f.shorter }

pub found_mark : {s : Sign} {a b : List Item} → Found (Mark s) a b → Takes (AMark s) tt a b
found_mark {s} f = record { reply = ap (reply_mark s) f.first ∙ mark_reply s; rest = f.rest; shorter = f.shorter }

pub found_placed : {w : Keyword} {place : Place} {a b : List Item} → Found (WordAt w place) a b
    → Takes (AWordAt w) place a b
found_placed {w} {place} f = record {
  reply = ap (reply_word_at w) f.first ∙ word_at_reply w place;
  rest =
      f.rest;
  shorter = f.shorter;
}

chosen : {A : Type 0} (b : Bool) (x y : A) → (b ≡ true → ⊥) → cond b x y ≡ y
chosen true x y h = absurd (h refl)
chosen false x y h = refl

other_word : (w : Keyword) (k : Lexeme) → (k ≡ Word w → ⊥) → reply_word w k ≡ Reject
other_word w (Word v) h = chosen (nat_eq (word_code w) (word_code v)) (Push [] (λ _. tt)) Reject
    (λ e. h (ap Word (sym (same_word w v e))))
other_word w _ h = refl

other_mark : (s : Sign) (k : Lexeme) → (k ≡ Mark s → ⊥) → reply_mark s k ≡ Reject
other_mark s (Mark r) h = chosen (nat_eq (sign_code s) (sign_code r)) (Push [] (λ _. tt)) Reject
    (λ e. h (ap Mark (sym (same_sign s r e))))
other_mark s _ h = refl

other_placed : (w : Keyword) (k : Lexeme) → ((place : Place) → k ≡ WordAt w place → ⊥) → reply_word_at w k ≡ Reject
other_placed w (WordAt v place) h = chosen (nat_eq (word_code w) (word_code v)) (Push [] (λ _. place)) Reject
    (λ e. h place (ap (λ x. WordAt x place) (sym (same_word w v e))))
other_placed w _ h = refl

refused : {s : Symbol} {a b : List Item} {e : Refusal} → reply s (lexeme_at a) ≡ Reject → b ≡ a
    → e ≡ refusal_at Expected b → Rejects s a e
refused h q p = record { reply = h; refusal = p ∙ ap (refusal_at Expected) q }

pub absent_word : {w : Keyword} {a b : List Item} {e : Refusal} → Absent (Word w) a b → e ≡ refusal_at Expected b
    → Rejects (AWord w) a e
absent_word {w} {a} f p = refused (other_word w (lexeme_at a) f.first) f.same p

pub absent_mark : {s : Sign} {a b : List Item} {e : Refusal} → Absent (Mark s) a b → e ≡ refusal_at Expected b
    → Rejects (AMark s) a e
absent_mark {s} {a} f p = refused (other_mark s (lexeme_at a) f.first) f.same p

pub absent_placed : {w : Keyword} {a b : List Item} {e : Refusal}
    → ((place : Place) → lexeme_at a ≡ WordAt w place → ⊥) → b ≡ a → e ≡ refusal_at Expected b
    → Rejects (AWordAt w) a e
absent_placed {w} {a} f q p = refused (other_placed w (lexeme_at a) f) q p
