-- How the parts of a parser join.
use Rattle.std.proofs.Common.{◌≡◌, ◌≤◌, ◌<◌, inl, inr, ℕ, ◌+◌, List, [], ◌∷◌, ◌++◌, refl, ap, sym, ◌∙◌, arith}
use Rattle.scanner.specs.declared.refusal.Refusal.{Refusal}
use Rattle.scanner.specs.declared.refusal.RefusalKind.TheVariants.{Expected, Limit, Memory}
use Rattle.syntax.specs.Lexeme.{Finish}
use Rattle.grammar.specs.Machine.{Symbol, Tree, Trees, Closed, Push, Skip, Reject, Item, Outcome, Read, Refused, split}
use Rattle.grammar.specs.Machine.{reply, reads, on_read, nestings, refusal_at}
use Rattle.grammar.specs.Reading.{lexeme_at, rest_after, append_trees, Passes, Fails, Leads}
use Rattle.grammar.proofs.Steps.{on_reads, pushed, limited, rejected, skipped}
use Rattle.grammar.proofs.Deep.{nest_append}

same_reads : {A B : Type 0} (f g : A → B) (o : Outcome A) → ((x : A) → f x ≡ g x) → on_read f o ≡ on_read g o
same_reads f g (Read x) h = ap Read (h x)
same_reads f g (Refused e) h = refl

same_read : {A : Type 0} (f : A → A) (o : Outcome A) → ((x : A) → f x ≡ x) → o ≡ on_read f o
same_read f (Read x) h = ap Read (sym (h x))
same_read f (Refused e) h = refl

join_split : (σ κ : List Symbol) (y : Trees (σ ++ κ)) → append_trees σ κ (split σ κ y).0 (split σ κ y).1 ≡ y
join_split [] κ y = refl
join_split (s ∷ σ) κ y = ap (λ z. (y.0, z)) (join_split σ κ y.1)

behind : (ρ κ : List Symbol) (d d' : ℕ) → nestings κ ≡ d → d' ≡ nestings ρ + d → nestings (ρ ++ κ) ≡ d'
behind ρ κ d d' e q = omega (arith, nest_append ρ κ, e, q)

pub room : (ρ κ : List Symbol) (d : ℕ) → nestings ρ + d ≤ 64 → nestings κ ≡ d → nestings (ρ ++ κ) ≤ 64
room ρ κ d le e = omega (arith, nest_append ρ κ, e)

no_room : (ρ κ : List Symbol) (d : ℕ) → 64 < nestings ρ + d → nestings κ ≡ d → 64 < nestings (ρ ++ κ)
no_room ρ κ d lt e = omega (arith, nest_append ρ κ, e)

-- nothing is read yet
pub here : {d : ℕ} {σ : List Symbol} {a : List Item} → Leads d σ σ (λ y. y) a a
here {d} {σ} {a} = record {
  leads = λ κ e. same_read (λ y. append_trees σ κ (split σ κ y).0 (split σ κ y).1)
      (reads 64 a (σ ++ κ)) (join_split σ κ);
}

-- the first symbol is replaced by others at the first lexeme
pub push : {d : ℕ} {s : Symbol} {ρ : List Symbol} {f : Trees ρ → Tree s} {a : List Item}
    → reply s (lexeme_at a) ≡ Push ρ f → nestings ρ + d ≤ 64 → Leads d (s ∷ []) ρ (λ y. (f y, tt)) a (rest_after a)
push {d} {s} {ρ} {f} {a} h le = record { leads = λ κ e. pushed 64 a s κ ρ f h (room ρ κ d le e) }

-- the first symbol is over
pub skip : {d : ℕ} {s : Symbol} {x : Tree s} {a : List Item} → reply s (lexeme_at a) ≡ Skip x
    → Passes d (s ∷ []) (x, tt) a a
skip {d} {s} {x} {a} h = record { passes = λ κ e. skipped 64 a s κ x h }

-- the first lexeme can't stand there
pub reject : {d : ℕ} {s : Symbol} {σ : List Symbol} {a : List Item} → reply s (lexeme_at a) ≡ Reject
    → Fails d (s ∷ σ) a (refusal_at Expected a)
reject {d} {s} {σ} {a} h = record { fails = inr (record { refuses = λ κ e. rejected 64 a s (σ ++ κ) h }) }

-- the first lexeme opens a nesting too many
pub limit : {d : ℕ} {s : Symbol} {ρ : List Symbol} {f : Trees ρ → Tree s} {a : List Item} → (lexeme_at a ≡ Finish → ⊥)
    → reply s (lexeme_at a) ≡ Push ρ f → 64 < nestings ρ + d → Fails d (s ∷ []) a (refusal_at Limit a)
limit {d} {s} {ρ} {f} {a} other h lt = record {
  fails =
      inr (record { refuses = λ κ e. limited 64 a s κ ρ f other h (no_room ρ κ d lt e) });
}

pub memory : {d : ℕ} {σ : List Symbol} {a : List Item} {r : Refusal} → r.kind ≡ Memory → Fails d σ a r
memory h = record { fails = inl h }

-- nothing is expected any more
pub done : {d : ℕ} {σ : List Symbol} {g : Trees [] → Trees σ} {a b : List Item} → Leads d σ [] g a b
    → Passes d σ (g tt) a b
done l = record { passes = λ κ e. l.leads κ e }

-- the same trees
pub leads_as : {d : ℕ} {σ ρ : List Symbol} {g h : Trees ρ → Trees σ} {a b : List Item} → ((y : Trees ρ) → g y ≡ h y)
    → Leads d σ ρ g a b → Leads d σ ρ h a b
leads_as {d} {σ} {ρ} {g} {h} {a} {b} p l = record {
  leads =
      λ κ e. l.leads κ e ∙ same_reads (λ y. append_trees σ κ (g (split ρ κ y).0) (split ρ κ y).1)
      (λ y. append_trees σ κ (h (split ρ κ y).0) (split ρ κ y).1) (reads 64 b (ρ ++ κ))
      (λ y. ap (λ z. append_trees σ κ z (split ρ κ y).1) (p (split ρ κ y).0));
}

-- the end of a nesting
pub close : {d : ℕ} {σ ρ : List Symbol} {g : Trees (Closed ∷ ρ) → Trees σ} {a b : List Item}
    → Leads d σ (Closed ∷ ρ) g a b → Leads d σ ρ (λ y. g (tt, y)) a b
close {d} {σ} {ρ} {g} {a} {b} l = record {
  leads =
      λ κ e. rw (l.leads κ e, skipped 64 b Closed (ρ ++ κ) tt refl) (simp on_reads);
}

-- one thing leads to another
pub onto : {d : ℕ} {σ ρ : List Symbol} {s : Symbol} {g : Trees (s ∷ []) → Trees σ} {h : Trees ρ → Trees (s ∷ [])}
    {a b c : List Item} → Leads d (s ∷ []) ρ h b c → Leads d σ (s ∷ []) g a b → Leads d σ ρ (λ y. g (h y)) a c
onto {d} {σ} {ρ} {s} {g} {h} {a} {b} {c} m l = record { leads = λ κ e. rw (l.leads κ e, m.leads κ e) (simp on_reads) }

-- 1 symbols are read
pub then1 : {d d' : ℕ} {σ ρ : List Symbol} {s1 : Symbol} {g : Trees (s1 ∷ ρ) → Trees σ} {x : Trees (s1 ∷ [])}
    {a b c : List Item} → Passes d' (s1 ∷ []) x b c → Leads d σ (s1 ∷ ρ) g a b → d' ≡ nestings ρ + d
    → Leads d σ ρ (λ y. g (x.0, y)) a c
then1 {d} {d'} {σ} {ρ} {s1} {g} {x} {a} {b} {c} p l q =
    record { leads = λ κ e. rw (l.leads κ e, p.passes (ρ ++ κ) (behind ρ κ d d' e q)) (simp on_reads) }

pub fail1 : {d d' : ℕ} {σ ρ : List Symbol} {s1 : Symbol} {g : Trees (s1 ∷ ρ) → Trees σ} {a b : List Item} {r : Refusal}
    → Fails d' (s1 ∷ []) b r → Leads d σ (s1 ∷ ρ) g a b → d' ≡ nestings ρ + d → Fails d σ a r
fail1 {d} {d'} {σ} {ρ} {s1} {g} {a} {b} {r} p l q =
    record {
      fails =
          elim p.fails [
            | inl m ↦ inl m
            | inr f ↦ inr
                (record { refuses = λ κ e. rw (l.leads κ e, f.refuses (ρ ++ κ) (behind ρ κ d d' e q)) refl })
          ];
    }

-- 2 symbols are read
pub then2 : {d d' : ℕ} {σ ρ : List Symbol} {s1 s2 : Symbol} {g : Trees (s1 ∷ s2 ∷ ρ) → Trees σ}
    {x : Trees (s1 ∷ s2 ∷ [])} {a b c : List Item} → Passes d' (s1 ∷ s2 ∷ []) x b c → Leads d σ (s1 ∷ s2 ∷ ρ) g a b
    → d' ≡ nestings ρ + d → Leads d σ ρ (λ y. g (x.0, (x.1.0, y))) a c
then2 {d} {d'} {σ} {ρ} {s1} {s2} {g} {x} {a} {b} {c} p l q =
    record { leads = λ κ e. rw (l.leads κ e, p.passes (ρ ++ κ) (behind ρ κ d d' e q)) (simp on_reads) }

pub fail2 : {d d' : ℕ} {σ ρ : List Symbol} {s1 s2 : Symbol} {g : Trees (s1 ∷ s2 ∷ ρ) → Trees σ} {a b : List Item}
    {r : Refusal} → Fails d' (s1 ∷ s2 ∷ []) b r → Leads d σ (s1 ∷ s2 ∷ ρ) g a b → d' ≡ nestings ρ + d → Fails d σ a r
fail2 {d} {d'} {σ} {ρ} {s1} {s2} {g} {a} {b} {r} p l q =
    record {
      fails =
          elim p.fails [
            | inl m ↦ inl m
            | inr f ↦ inr
                (record { refuses = λ κ e. rw (l.leads κ e, f.refuses (ρ ++ κ) (behind ρ κ d d' e q)) refl })
          ];
    }

-- 3 symbols are read
pub then3 : {d d' : ℕ} {σ ρ : List Symbol} {s1 s2 s3 : Symbol} {g : Trees (s1 ∷ s2 ∷ s3 ∷ ρ) → Trees σ}
    {x : Trees (s1 ∷ s2 ∷ s3 ∷ [])} {a b c : List Item} → Passes d' (s1 ∷ s2 ∷ s3 ∷ []) x b c
    → Leads d σ (s1 ∷ s2 ∷ s3 ∷ ρ) g a b → d' ≡ nestings ρ + d → Leads d σ ρ (λ y. g (x.0, (x.1.0, (x.1.1.0, y)))) a c
then3 {d} {d'} {σ} {ρ} {s1} {s2} {s3} {g} {x} {a} {b} {c} p l q =
    record { leads = λ κ e. rw (l.leads κ e, p.passes (ρ ++ κ) (behind ρ κ d d' e q)) (simp on_reads) }

pub fail3 : {d d' : ℕ} {σ ρ : List Symbol} {s1 s2 s3 : Symbol} {g : Trees (s1 ∷ s2 ∷ s3 ∷ ρ) → Trees σ}
    {a b : List Item} {r : Refusal} → Fails d' (s1 ∷ s2 ∷ s3 ∷ []) b r → Leads d σ (s1 ∷ s2 ∷ s3 ∷ ρ) g a b
    → d' ≡ nestings ρ + d → Fails d σ a r
fail3 {d} {d'} {σ} {ρ} {s1} {s2} {s3} {g} {a} {b} {r} p l q =
    record {
      fails =
          elim p.fails [
            | inl m ↦ inl m
            | inr f ↦ inr
                (record { refuses = λ κ e. rw (l.leads κ e, f.refuses (ρ ++ κ) (behind ρ κ d d' e q)) refl })
          ];
    }

-- 4 symbols are read
pub then4 : {d d' : ℕ} {σ ρ : List Symbol} {s1 s2 s3 s4 : Symbol} {g : Trees (s1 ∷ s2 ∷ s3 ∷ s4 ∷ ρ) → Trees σ}
    {x : Trees (s1 ∷ s2 ∷ s3 ∷ s4 ∷ [])} {a b c : List Item} → Passes d' (s1 ∷ s2 ∷ s3 ∷ s4 ∷ []) x b c
    → Leads d σ (s1 ∷ s2 ∷ s3 ∷ s4 ∷ ρ) g a b → d' ≡ nestings ρ + d → Leads d σ ρ
    (λ y. g (x.0, (x.1.0, (x.1.1.0, (x.1.1.1.0, y))))) a c
then4 {d} {d'} {σ} {ρ} {s1} {s2} {s3} {s4} {g} {x} {a} {b} {c} p l q =
    record { leads = λ κ e. rw (l.leads κ e, p.passes (ρ ++ κ) (behind ρ κ d d' e q)) (simp on_reads) }

pub fail4 : {d d' : ℕ} {σ ρ : List Symbol} {s1 s2 s3 s4 : Symbol} {g : Trees (s1 ∷ s2 ∷ s3 ∷ s4 ∷ ρ) → Trees σ}
    {a b : List Item} {r : Refusal} → Fails d' (s1 ∷ s2 ∷ s3 ∷ s4 ∷ []) b r → Leads d σ (s1 ∷ s2 ∷ s3 ∷ s4 ∷ ρ) g a b
    → d' ≡ nestings ρ + d → Fails d σ a r
fail4 {d} {d'} {σ} {ρ} {s1} {s2} {s3} {s4} {g} {a} {b} {r} p l q =
    record {
      fails =
          elim p.fails [
            | inl m ↦ inl m
            | inr f ↦ inr
                (record { refuses = λ κ e. rw (l.leads κ e, f.refuses (ρ ++ κ) (behind ρ κ d d' e q)) refl })
          ];
    }

-- 5 symbols are read
pub then5 : {d d' : ℕ} {σ ρ : List Symbol} {s1 s2 s3 s4 s5 : Symbol} {g : Trees (s1 ∷ s2 ∷ s3 ∷ s4 ∷ s5 ∷ ρ) → Trees σ}
    {x : Trees (s1 ∷ s2 ∷ s3 ∷ s4 ∷ s5 ∷ [])} {a b c : List Item} → Passes d' (s1 ∷ s2 ∷ s3 ∷ s4 ∷ s5 ∷ []) x b c
    → Leads d σ (s1 ∷ s2 ∷ s3 ∷ s4 ∷ s5 ∷ ρ) g a b → d' ≡ nestings ρ + d
    → Leads d σ ρ (λ y. g (x.0, (x.1.0, (x.1.1.0, (x.1.1.1.0, (x.1.1.1.1.0, y)))))) a c
then5 {d} {d'} {σ} {ρ} {s1} {s2} {s3} {s4} {s5} {g} {x} {a} {b} {c} p l q =
    record { leads = λ κ e. rw (l.leads κ e, p.passes (ρ ++ κ) (behind ρ κ d d' e q)) (simp on_reads) }

pub fail5 : {d d' : ℕ} {σ ρ : List Symbol} {s1 s2 s3 s4 s5 : Symbol} {g : Trees (s1 ∷ s2 ∷ s3 ∷ s4 ∷ s5 ∷ ρ) → Trees σ}
    {a b : List Item} {r : Refusal} → Fails d' (s1 ∷ s2 ∷ s3 ∷ s4 ∷ s5 ∷ []) b r
    → Leads d σ (s1 ∷ s2 ∷ s3 ∷ s4 ∷ s5 ∷ ρ) g a b → d' ≡ nestings ρ + d → Fails d σ a r
fail5 {d} {d'} {σ} {ρ} {s1} {s2} {s3} {s4} {s5} {g} {a} {b} {r} p l q =
    record {
      fails =
          elim p.fails [
            | inl m ↦ inl m
            | inr f ↦ inr
                (record { refuses = λ κ e. rw (l.leads κ e, f.refuses (ρ ++ κ) (behind ρ κ d d' e q)) refl })
          ];
    }

-- 6 symbols are read
pub then6 : {d d' : ℕ} {σ ρ : List Symbol} {s1 s2 s3 s4 s5 s6 : Symbol}
    {g : Trees (s1 ∷ s2 ∷ s3 ∷ s4 ∷ s5 ∷ s6 ∷ ρ) → Trees σ} {x : Trees (s1 ∷ s2 ∷ s3 ∷ s4 ∷ s5 ∷ s6 ∷ [])}
    {a b c : List Item} → Passes d' (s1 ∷ s2 ∷ s3 ∷ s4 ∷ s5 ∷ s6 ∷ []) x b c
    → Leads d σ (s1 ∷ s2 ∷ s3 ∷ s4 ∷ s5 ∷ s6 ∷ ρ) g a b → d' ≡ nestings ρ + d
    → Leads d σ ρ (λ y. g (x.0, (x.1.0, (x.1.1.0, (x.1.1.1.0, (x.1.1.1.1.0, (x.1.1.1.1.1.0, y))))))) a c
then6 {d} {d'} {σ} {ρ} {s1} {s2} {s3} {s4} {s5} {s6} {g} {x} {a} {b} {c} p l q =
    record { leads = λ κ e. rw (l.leads κ e, p.passes (ρ ++ κ) (behind ρ κ d d' e q)) (simp on_reads) }

pub fail6 : {d d' : ℕ} {σ ρ : List Symbol} {s1 s2 s3 s4 s5 s6 : Symbol}
    {g : Trees (s1 ∷ s2 ∷ s3 ∷ s4 ∷ s5 ∷ s6 ∷ ρ) → Trees σ} {a b : List Item} {r : Refusal}
    → Fails d' (s1 ∷ s2 ∷ s3 ∷ s4 ∷ s5 ∷ s6 ∷ []) b r → Leads d σ (s1 ∷ s2 ∷ s3 ∷ s4 ∷ s5 ∷ s6 ∷ ρ) g a b
    → d' ≡ nestings ρ + d → Fails d σ a r
fail6 {d} {d'} {σ} {ρ} {s1} {s2} {s3} {s4} {s5} {s6} {g} {a} {b} {r} p l q =
    record {
      fails =
          elim p.fails [
            | inl m ↦ inl m
            | inr f ↦ inr
                (record { refuses = λ κ e. rw (l.leads κ e, f.refuses (ρ ++ κ) (behind ρ κ d d' e q)) refl })
          ];
    }

-- 7 symbols are read
pub then7 : {d d' : ℕ} {σ ρ : List Symbol} {s1 s2 s3 s4 s5 s6 s7 : Symbol}
    {g : Trees (s1 ∷ s2 ∷ s3 ∷ s4 ∷ s5 ∷ s6 ∷ s7 ∷ ρ) → Trees σ} {x : Trees (s1 ∷ s2 ∷ s3 ∷ s4 ∷ s5 ∷ s6 ∷ s7 ∷ [])}
    {a b c : List Item} → Passes d' (s1 ∷ s2 ∷ s3 ∷ s4 ∷ s5 ∷ s6 ∷ s7 ∷ []) x b c
    → Leads d σ (s1 ∷ s2 ∷ s3 ∷ s4 ∷ s5 ∷ s6 ∷ s7 ∷ ρ) g a b → d' ≡ nestings ρ + d
    → Leads d σ ρ (λ y. g (x.0, (x.1.0, (x.1.1.0, (x.1.1.1.0, (x.1.1.1.1.0, (x.1.1.1.1.1.0, (x.1.1.1.1.1.1.0, y))))))))
    a c
then7 {d} {d'} {σ} {ρ} {s1} {s2} {s3} {s4} {s5} {s6} {s7} {g} {x} {a} {b} {c} p l q =
    record { leads = λ κ e. rw (l.leads κ e, p.passes (ρ ++ κ) (behind ρ κ d d' e q)) (simp on_reads) }

pub fail7 : {d d' : ℕ} {σ ρ : List Symbol} {s1 s2 s3 s4 s5 s6 s7 : Symbol}
    {g : Trees (s1 ∷ s2 ∷ s3 ∷ s4 ∷ s5 ∷ s6 ∷ s7 ∷ ρ) → Trees σ} {a b : List Item} {r : Refusal}
    → Fails d' (s1 ∷ s2 ∷ s3 ∷ s4 ∷ s5 ∷ s6 ∷ s7 ∷ []) b r → Leads d σ (s1 ∷ s2 ∷ s3 ∷ s4 ∷ s5 ∷ s6 ∷ s7 ∷ ρ) g a b
    → d' ≡ nestings ρ + d → Fails d σ a r
fail7 {d} {d'} {σ} {ρ} {s1} {s2} {s3} {s4} {s5} {s6} {s7} {g} {a} {b} {r} p l q =
    record {
      fails =
          elim p.fails [
            | inl m ↦ inl m
            | inr f ↦ inr
                (record { refuses = λ κ e. rw (l.leads κ e, f.refuses (ρ ++ κ) (behind ρ κ d d' e q)) refl })
          ];
    }

-- 8 symbols are read
pub then8 : {d d' : ℕ} {σ ρ : List Symbol} {s1 s2 s3 s4 s5 s6 s7 s8 : Symbol}
    {g : Trees (s1 ∷ s2 ∷ s3 ∷ s4 ∷ s5 ∷ s6 ∷ s7 ∷ s8 ∷ ρ) → Trees σ}
    {x : Trees (s1 ∷ s2 ∷ s3 ∷ s4 ∷ s5 ∷ s6 ∷ s7 ∷ s8 ∷ [])} {a b c : List Item}
    → Passes d' (s1 ∷ s2 ∷ s3 ∷ s4 ∷ s5 ∷ s6 ∷ s7 ∷ s8 ∷ []) x b c → Leads d σ
    (s1 ∷ s2 ∷ s3 ∷ s4 ∷ s5 ∷ s6 ∷ s7 ∷ s8 ∷ ρ) g a b → d' ≡ nestings ρ + d
    → Leads d σ ρ
    (λ y. g
    (x.0, (x.1.0, (x.1.1.0, (x.1.1.1.0, (x.1.1.1.1.0, (x.1.1.1.1.1.0, (x.1.1.1.1.1.1.0, (x.1.1.1.1.1.1.1.0, y)))))))))
    a c
then8 {d} {d'} {σ} {ρ} {s1} {s2} {s3} {s4} {s5} {s6} {s7} {s8} {g} {x} {a} {b} {c} p l q =
    record { leads = λ κ e. rw (l.leads κ e, p.passes (ρ ++ κ) (behind ρ κ d d' e q)) (simp on_reads) }

pub fail8 : {d d' : ℕ} {σ ρ : List Symbol} {s1 s2 s3 s4 s5 s6 s7 s8 : Symbol}
    {g : Trees (s1 ∷ s2 ∷ s3 ∷ s4 ∷ s5 ∷ s6 ∷ s7 ∷ s8 ∷ ρ) → Trees σ} {a b : List Item} {r : Refusal}
    → Fails d' (s1 ∷ s2 ∷ s3 ∷ s4 ∷ s5 ∷ s6 ∷ s7 ∷ s8 ∷ []) b r → Leads d σ (s1 ∷ s2 ∷ s3 ∷ s4 ∷ s5 ∷ s6 ∷ s7 ∷ s8 ∷ ρ)
    g a b → d' ≡ nestings ρ + d → Fails d σ a r
fail8 {d} {d'} {σ} {ρ} {s1} {s2} {s3} {s4} {s5} {s6} {s7} {s8} {g} {a} {b} {r} p l q =
    record {
      fails =
          elim p.fails [
            | inl m ↦ inl m
            | inr f ↦ inr
                (record { refuses = λ κ e. rw (l.leads κ e, f.refuses (ρ ++ κ) (behind ρ κ d d' e q)) refl })
          ];
    }

-- 9 symbols are read
pub then9 : {d d' : ℕ} {σ ρ : List Symbol} {s1 s2 s3 s4 s5 s6 s7 s8 s9 : Symbol}
    {g : Trees (s1 ∷ s2 ∷ s3 ∷ s4 ∷ s5 ∷ s6 ∷ s7 ∷ s8 ∷ s9 ∷ ρ) → Trees σ}
    {x : Trees (s1 ∷ s2 ∷ s3 ∷ s4 ∷ s5 ∷ s6 ∷ s7 ∷ s8 ∷ s9 ∷ [])} {a b c : List Item}
    → Passes d' (s1 ∷ s2 ∷ s3 ∷ s4 ∷ s5 ∷ s6 ∷ s7 ∷ s8 ∷ s9 ∷ []) x b c
    → Leads d σ (s1 ∷ s2 ∷ s3 ∷ s4 ∷ s5 ∷ s6 ∷ s7 ∷ s8 ∷ s9 ∷ ρ) g a b → d' ≡ nestings ρ + d
    → Leads d σ ρ
    (λ y. g (
      x.0,
      (
        x.1.0,
        (
          x.1.1.0,
          (
            x.1.1.1.0,
            (x.1.1.1.1.0, (x.1.1.1.1.1.0, (x.1.1.1.1.1.1.0, (x.1.1.1.1.1.1.1.0, (x.1.1.1.1.1.1.1.1.0, y))))),
          ),
        ),
      ),
    )) a
    c
then9 {d} {d'} {σ} {ρ} {s1} {s2} {s3} {s4} {s5} {s6} {s7} {s8} {s9} {g} {x} {a} {b} {c} p l q =
    record { leads = λ κ e. rw (l.leads κ e, p.passes (ρ ++ κ) (behind ρ κ d d' e q)) (simp on_reads) }

pub fail9 : {d d' : ℕ} {σ ρ : List Symbol} {s1 s2 s3 s4 s5 s6 s7 s8 s9 : Symbol}
    {g : Trees (s1 ∷ s2 ∷ s3 ∷ s4 ∷ s5 ∷ s6 ∷ s7 ∷ s8 ∷ s9 ∷ ρ) → Trees σ} {a b : List Item} {r : Refusal}
    → Fails d' (s1 ∷ s2 ∷ s3 ∷ s4 ∷ s5 ∷ s6 ∷ s7 ∷ s8 ∷ s9 ∷ []) b r → Leads d σ
    (s1 ∷ s2 ∷ s3 ∷ s4 ∷ s5 ∷ s6 ∷ s7 ∷ s8 ∷ s9 ∷ ρ) g a b → d' ≡ nestings ρ + d → Fails d σ a r
fail9 {d} {d'} {σ} {ρ} {s1} {s2} {s3} {s4} {s5} {s6} {s7} {s8} {s9} {g} {a} {b} {r} p l q =
    record {
      fails =
          elim p.fails [
            | inl m ↦ inl m
            | inr f ↦ inr
                (record { refuses = λ κ e. rw (l.leads κ e, f.refuses (ρ ++ κ) (behind ρ κ d d' e q)) refl })
          ];
    }

-- 10 symbols are read
pub then10 : {d d' : ℕ} {σ ρ : List Symbol} {s1 s2 s3 s4 s5 s6 s7 s8 s9 s10 : Symbol}
    {g : Trees (s1 ∷ s2 ∷ s3 ∷ s4 ∷ s5 ∷ s6 ∷ s7 ∷ s8 ∷ s9 ∷ s10 ∷ ρ) → Trees σ}
    {x : Trees (s1 ∷ s2 ∷ s3 ∷ s4 ∷ s5 ∷ s6 ∷ s7 ∷ s8 ∷ s9 ∷ s10 ∷ [])} {a b c : List Item}
    → Passes d' (s1 ∷ s2 ∷ s3 ∷ s4 ∷ s5 ∷ s6 ∷ s7 ∷ s8 ∷ s9 ∷ s10 ∷ []) x b c
    → Leads d σ (s1 ∷ s2 ∷ s3 ∷ s4 ∷ s5 ∷ s6 ∷ s7 ∷ s8 ∷ s9 ∷ s10 ∷ ρ) g a b → d' ≡ nestings ρ + d
    → Leads d σ ρ
    (λ y. g (
      x.0,
      (
        x.1.0,
        (
          x.1.1.0,
          (
            x.1.1.1.0,
            (
              x.1.1.1.1.0,
              (
                x.1.1.1.1.1.0,
                (
                  x.1.1.1.1.1.1.0,
                  (x.1.1.1.1.1.1.1.0, (x.1.1.1.1.1.1.1.1.0, (x.1.1.1.1.1.1.1.1.1.0, y))),
                ),
              ),
            ),
          ),
        ),
      ),
    )) a
    c
then10 {d} {d'} {σ} {ρ} {s1} {s2} {s3} {s4} {s5} {s6} {s7} {s8} {s9} {s10} {g} {x} {a} {b} {c} p l q =
    record { leads = λ κ e. rw (l.leads κ e, p.passes (ρ ++ κ) (behind ρ κ d d' e q)) (simp on_reads) }

pub fail10 : {d d' : ℕ} {σ ρ : List Symbol} {s1 s2 s3 s4 s5 s6 s7 s8 s9 s10 : Symbol}
    {g : Trees (s1 ∷ s2 ∷ s3 ∷ s4 ∷ s5 ∷ s6 ∷ s7 ∷ s8 ∷ s9 ∷ s10 ∷ ρ) → Trees σ} {a b : List Item} {r : Refusal}
    → Fails d' (s1 ∷ s2 ∷ s3 ∷ s4 ∷ s5 ∷ s6 ∷ s7 ∷ s8 ∷ s9 ∷ s10 ∷ []) b r
    → Leads d σ (s1 ∷ s2 ∷ s3 ∷ s4 ∷ s5 ∷ s6 ∷ s7 ∷ s8 ∷ s9 ∷ s10 ∷ ρ) g a b → d' ≡ nestings ρ + d → Fails d σ a r
fail10 {d} {d'} {σ} {ρ} {s1} {s2} {s3} {s4} {s5} {s6} {s7} {s8} {s9} {s10} {g} {a} {b} {r} p l q =
    record {
      fails =
          elim p.fails [
            | inl m ↦ inl m
            | inr f ↦ inr
                (record { refuses = λ κ e. rw (l.leads κ e, f.refuses (ρ ++ κ) (behind ρ κ d d' e q)) refl })
          ];
    }
