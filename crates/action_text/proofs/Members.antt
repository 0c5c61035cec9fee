-- Conditions by their names.
use Rattle.std.proofs.Common.{◌≡◌, ◌≢◌, ◌∙◌, ◌<◌, ◌≤◌, ℕ, List, [], ◌∷◌, ◌++◌, Bool, Option, Some, None, IfOk, IfSome, MatchOption, Result, Ok, Err}
use Rattle.std.proofs.Common.{ap, arith, codes, drop, length, slice_get, subst, sym}
use Rattle.std.proofs.lemmas.List.{append-nil, append_assoc}
use Rattle.std.proofs.lemmas.Option.{slice_get-get_or}
use Rattle.std.specs.Prelude.{get_or}
use Rattle.program.specs.Names.{MonitorNaming, Naming}
use Rattle.program.specs.declared.kinds.Member.{Member}
use Rattle.actionlines.specs.Lines.{condition_name, member_in, monitor_name}
use Rattle.action_text.specs.ActionText.{numbers_text}
use Rattle.action_text.specs.Reading.{IsCondition, IsWhole, NamesCondition}
use Rattle.action_text.specs.declared.counting.Counted.{Counted}
use Rattle.std.specs.List.{All}
use Rattle.action_text.specs.Sized.{HasMember, IsNumber}
use Rattle.action_text.proofs.Numbers.{cancel}

-- some monitor without members
abbrev nobody : MonitorNaming
nobody = record { name = []; members = [] }

-- a member that is there is below how many its monitor has
pub member_below : (names : Naming) (c : Member) (monitor count place : ℕ) → c.monitor ≡ monitor → HasMember names c
    → IfSome (slice_get names.monitors monitor) (λ m. count ≡ length m.members) → count ≤ place → c.number < place
member_below names c monitor count place same has counts past =
    let got : slice_get names.monitors c.monitor ≡ Some (get_or names.monitors c.monitor nobody) =
    slice_get-get_or names.monitors c.monitor nobody has.0.0 in
    let below : c.number < length (get_or names.monitors c.monitor nobody).members =
    subst (λ (o : Option MonitorNaming). IfSome o (λ m. c.number < length m.members)) got has.2 in
    let is : count ≡ length (get_or names.monitors c.monitor nobody).members =
    subst (λ (o : Option MonitorNaming). IfSome o (λ m. count ≡ length m.members)) got
    (subst (λ (k : ℕ). IfSome (slice_get names.monitors k) (λ m. count ≡ length m.members)) (sym same) counts) in
    omega (arith, below, is, past)

-- the name of a condition, of its two parts
pub called : (names : Naming) (c : Member) (name member : List ℕ) → name ≡ monitor_name names c.monitor
    → member ≡ member_in (slice_get names.monitors c.monitor) c.number → name ++ 46 ∷ member ≡ condition_name names c
called names c name member is is' =
    (λ i. is i ++ 46 ∷ is' i)
    ∙ sym (append_assoc (monitor_name names c.monitor) (codes ".") (member_in (slice_get names.monitors c.monitor) c.number))

-- and what stands behind it
pub past_called : (names : Naming) (c : Member) (name member text : List ℕ) (P : List ℕ → Type 0)
    → name ≡ monitor_name names c.monitor → member ≡ member_in (slice_get names.monitors c.monitor) c.number
    → ((rest : List ℕ) → text ≡ (name ++ 46 ∷ member) ++ rest → P rest)
    → (rest : List ℕ) → text ≡ condition_name names c ++ rest → P rest
past_called names c name member text P is is' on rest same =
    on rest (same ∙ ap (λ (z : List ℕ). z ++ rest) (sym (called names c name member is is')))

-- a condition behind a word
module _ (names : Naming) (word text behind : List ℕ) (alone : Bool) (is : text ≡ word ++ behind) where
  pub condition_so : (c : Member) (ns : List ℕ) → NamesCondition names alone behind c ns → IsCondition names word alone text c ns
  condition_so c ns h = (h.0, h.1, h.2, is ∙ ap (λ (z : List ℕ). word ++ z) h.3)

  pub condition_behind : (c : Member) (ns : List ℕ) → IsCondition names word alone text c ns → NamesCondition names alone behind c ns
  condition_behind c ns h =
      (h.0, h.1, h.2, cancel word behind (condition_name names c ++ numbers_text ns) (sym is ∙ h.3))

  pub conditions_behind : {N E : Type 0} (r : Result (Option N) E) (condition : N → Member) (resumed : N → List ℕ)
      → IfOk r (λ o. MatchOption o ((c : Member) (ns : List ℕ) → NamesCondition names alone behind c ns → ⊥)
      (λ n. NamesCondition names alone behind (condition n) (resumed n)))
      → IfOk r (λ o. MatchOption o ((c : Member) (ns : List ℕ) → IsCondition names word alone text c ns → ⊥)
      (λ n. IsCondition names word alone text (condition n) (resumed n)))
  conditions_behind (Ok None) condition resumed none = λ c ns h. none c ns (condition_behind c ns h)
  conditions_behind (Ok (Some n)) condition resumed h = condition_so (condition n) (resumed n) h
  conditions_behind (Err e) condition resumed h = tt

pub same_member : (c d : Member) → c.monitor ≡ d.monitor → c.number ≡ d.number → c ≡ d
same_member c d m n = λ i. record { monitor = m i; number = n i }

-- a condition that is named, and the numbers behind it
pub whole_there : (names : Naming) (c : Member) (alone : Bool) (text behind : List ℕ) (counted : Counted)
    → HasMember names c → text ≡ condition_name names c ++ behind
    → behind ≡ numbers_text counted.numbers.items ++ counted.rest.now → All IsNumber counted.numbers.items
    → IsWhole counted alone → NamesCondition names alone text c counted.numbers.items
whole_there names c alone text behind counted has is numbers small whole = (
  has,
  small,
  whole.1,
  is ∙ ap (λ (z : List ℕ). condition_name names c ++ z)
      (numbers ∙ ap (λ (z : List ℕ). numbers_text counted.numbers.items ++ z) whole.0
      ∙ append-nil (numbers_text counted.numbers.items)),
)

-- what stands behind two names with a dot between them
pub past_dotted : {X : Type 0} (now : X → List ℕ) (r : Option X) (text name member first second : List ℕ)
    → text ≡ name ++ first → first ≡ 46 ∷ second
    → MatchOption r ((rest : List ℕ) → second ≢ member ++ rest) (λ x. second ≡ member ++ now x)
    → MatchOption r ((rest : List ℕ) → text ≢ (name ++ 46 ∷ member) ++ rest)
    (λ x. text ≡ (name ++ 46 ∷ member) ++ now x)
past_dotted now None text name member first second is is' none = λ rest same.
    none rest
    (ap (drop 1) (sym is' ∙ cancel name first (46 ∷ (member ++ rest)) (sym is ∙ same ∙ append_assoc name (46 ∷ member) rest)))
past_dotted now (Some x) text name member first second is is' h =
    is ∙ ap (λ (z : List ℕ). name ++ z) (is' ∙ ap (λ (z : List ℕ). 46 ∷ z) h) ∙ sym (append_assoc name (46 ∷ member) (now x))
