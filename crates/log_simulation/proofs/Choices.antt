-- What a process can take next is what its offer tells.
use Rattle.std.proofs.Common.{◌≡◌, ℕ, Bool, true, false, List, [], Option, Some, None, refl, ap, option_map}
use Rattle.std.proofs.Common.{sym, ◌∙◌, subst, inl, inr}
use Rattle.std.proofs.lemmas.Bool.{false≢true, lt-ltb}
use Rattle.std.specs.Prelude.{if◌then◌else◌, nat_lt}
use Rattle.machine.specs.States.{State}
use Rattle.program.specs.declared.kinds.Member.{Member}
use Rattle.program.specs.Trees.{Program}
use Rattle.meaning.specs.Labels.{kind_of}
use Rattle.meaning.specs.Labels as L
use Rattle.meaning.specs.Table.{Table, Allows}
use Rattle.meaning.specs.Processes.{Process}
use Rattle.meaning.specs.Offers.{Effect, TakesUp, offer}
use Rattle.meaning.specs.Values.{Variables}
use Rattle.proof_commutation.specs.Deferring.{is_internal}
use Rattle.source_offers.specs.declared.offers.Offered.TheVariants.{Rests, Does, Makes, Claims, NotifiesSome}
use Rattle.source_offers.specs.declared.offers.Offered.TheVariants.{NotifiesAll}
use Rattle.source_offers.specs.declared.next_action.Offer.{Offer}
use Rattle.source_offers.specs.declared.next_action.Offer.TheVariants.{Own, Enters, Resumes, Joins}
use Rattle.source_offers.specs.declared.process.Process.{Process as ProcessOf}
use Rattle.source_offers.specs.NextAction.{offer_of}
use Rattle.proof_simulation.specs.Kills.{killed_resumed}
use Rattle.proof_simulation.specs.Next.{offer_of_process}
use Rattle.proof_simulation.specs.Ordering.{awake_waiters, Resumes as Resumes'}
use Rattle.log_simulation.specs.Choosing.{visible_kind}
use Rattle.log_simulation.specs.Choosing.{resumed_only}

chosen : {A : Type 0} (b : Bool) (x y : A) → b ≡ true → (if b then x else y) ≡ x
chosen true x y h = refl
chosen false x y h = absurd cc

module _ (p : Program) (q : ProcessOf) (t : ℕ) (T T' : Table) (label : L.Label) (effect : Effect)
    (after : Process) where
  pub visible_found : (s : State) (o : Offer) (resumed : List ℕ) → TakesUp (offer_of p o q) label effect after
      → Allows t label T T' → is_internal label ≡ false → Resumes' p s T label
      → ((c : Member) → resumed_only o ≡ Some c → resumed ≡ awake_waiters p s T c)
      → visible_kind o T.most T.made resumed ≡ Some (kind_of label)
  visible_found s (Own Rests) resumed takes allows visible who waiters = absurd takes
  visible_found s (Own (Does l e)) resumed takes allows visible who waiters = ap (λ i. Some (kind_of i)) (sym takes.0)
  visible_found s (Own (Makes child into)) resumed (inl made) allows visible who waiters =
      let here = subst (λ i. Allows t i T T') made.1 allows in
      chosen (nat_lt T.made T.most) _ _ (lt-ltb T.made T.most here.0)
      ∙ ap (λ n. Some (L.Fork n)) (sym here.1) ∙ ap (λ i. Some (kind_of i)) (sym made.1)
  visible_found s (Own (Makes child into)) resumed (inr full) allows visible who waiters =
      absurd (false≢true (sym visible ∙ ap is_internal full.0))
  visible_found s (Own (Claims child into aborted)) resumed (inl free) allows visible who waiters =
      ap (λ i. Some (kind_of i)) (sym free.0)
  visible_found s (Own (Claims child into aborted)) resumed (inr claimed) allows visible who waiters =
      absurd (false≢true (sym visible ∙ ap is_internal claimed.0))
  visible_found s (Own (NotifiesSome c)) resumed takes allows visible who waiters =
      let here : takes.0 ≡ awake_waiters p s T c = subst (λ i. Resumes' p s T i) takes.1 who in
      ap (λ l. Some (L.Notify c l)) (waiters c refl ∙ sym here) ∙ ap (λ i. Some (kind_of i)) (sym takes.1)
  visible_found s (Own (NotifiesAll c)) resumed takes allows visible who waiters =
      let here : takes.0 ≡ awake_waiters p s T c = subst (λ i. Resumes' p s T i) takes.1 who in
      ap (λ l. Some (L.Broadcast c l)) (waiters c refl ∙ sym here) ∙ ap (λ i. Some (kind_of i)) (sym takes.1)
  visible_found s (Enters m) resumed takes allows visible who waiters = ap (λ i. Some (kind_of i)) (sym takes.1)
  visible_found s (Resumes m) resumed takes allows visible who waiters = ap (λ i. Some (kind_of i)) (sym takes.1)
  visible_found s (Joins child into aborted) resumed takes allows visible who waiters =
      ap (λ i. Some (kind_of i)) (sym takes.1)

-- whom a killed process with this offer has resumed
pub killed_found : (p : Program) (s : State) (T : Table) (here : Variables) (o : Offer) (q : ProcessOf)
    (x : Option Process) (items : List ℕ) → Some (offer_of p o q) ≡ option_map (offer p here) x
    → ((c : Member) → resumed_only o ≡ Some c → items ≡ awake_waiters p s T c) → (resumed_only o ≡ None → items ≡ [])
    → items ≡ killed_resumed p s T true (offer_of_process p here x)
killed_found p s T here o q None items is some none = absurd cc
killed_found p s T here o q (Some r) items is some none =
    let same : offer_of p o q ≡ offer p here r = cc in
    by_offer o some none ∙ ap (killed_resumed p s T true) same
  where
    by_offer : (o : Offer) → ((c : Member) → resumed_only o ≡ Some c → items ≡ awake_waiters p s T c)
        → (resumed_only o ≡ None → items ≡ []) → items ≡ killed_resumed p s T true (offer_of p o q)
    by_offer (Own Rests) some none = none refl
    by_offer (Own (Does l e)) some none = none refl
    by_offer (Own (Makes child into)) some none = none refl
    by_offer (Own (Claims child into aborted)) some none = none refl
    by_offer (Own (NotifiesSome c)) some none = some c refl
    by_offer (Own (NotifiesAll c)) some none = some c refl
    by_offer (Enters m) some none = none refl
    by_offer (Resumes m) some none = none refl
    by_offer (Joins child into aborted) some none = none refl
