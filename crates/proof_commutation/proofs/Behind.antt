-- A state in which actions are still deferred, and the actions of either state.
use Rattle.std.proofs.Common.{◌≡◌, ◌≢◌, ℕ, ◌+◌, List, [], ◌∷◌, ◌++◌, ◌↔◌, Option, Some, None, refl, sym, ap, ◌∙◌, subst}
use Rattle.std.proofs.Common.{inl, inr}
use Rattle.words.specs.Updates.{put}
use Rattle.program.specs.Trees.{Program}
use Rattle.meaning.specs.Values.{Variables}
use Rattle.meaning.specs.Labels.{Action, End, Kind, Label, Forks, kind_of}
use Rattle.meaning.specs.Table.{Table, Hold, HeldBy, Allows}
use Rattle.meaning.specs.Processes.{Process, Over}
use Rattle.meaning.specs.Offers.{Effect, Nothing, Puts, Writes, Makes, Offer, Rests, Does, Takes, MakesOne, ClaimsOne}
use Rattle.meaning.specs.Offers.{JoinsOne, NotifiesSome, NotifiesAll, offer, TakesUp}
use Rattle.meaning.specs.States.{SourceState, variables_after, printed_after, processes_after}
use Rattle.meaning.specs.Runs.{IsAction, IsStep}
use Rattle.meaning.proofs.Offered.{IsPlain, IsQuiet, plain}
use Rattle.proof_commutation.specs.Deferring.{MayDefer, LeadsDeferredAt, IsBehind}
use Rattle.words.proofs.Updates.{at_put2}
use Rattle.proof_commutation.proofs.Deferred.{at_more, at_same, at_self, at_none, First, at_first, over_ahead}
use Rattle.proof_commutation.proofs.Deferred.{over_behind}
use Rattle.proof_commutation.proofs.Keeping.{grows, Stays, at_still}

abbrev pub act : ℕ → Kind → Action
act t k = record { process = t; kind = k }

module _ (p : Program) where
  pub begins : (c : SourceState) → IsBehind p (λ t. []) c c
  begins c = record {
    table = refl;
    variables = refl;
    printed = refl;
    processes = λ t. at_self p t c.variable c.table (c.process t);
  }

  -- one action more of process t is deferred
  pub defers_more : (deferred : ℕ → List Kind) (a c c' : SourceState) (t : ℕ) (q r : Process) (label : Label)
      → IsBehind p deferred a c → c.process t ≡ Some q → MayDefer p t c.variable c.table q label r
      → c'.table ≡ c.table → c'.variable ≡ c.variable → c'.printed ≡ c.printed
      → c'.process ≡ put c.process t (Some r)
      → IsBehind p (put deferred t (deferred t ++ kind_of label ∷ [])) a c'
  defers_more deferred a c c' t q r label b there may table variable printed process = record {
    table = b.table ∙ sym table;
    variables = b.variables ∙ sym variable;
    printed = b.printed ∙ sym printed;
    processes = λ u. subst (λ v. LeadsDeferredAt p u v c'.table (more u) (a.process u) (c'.process u)) (sym variable)
        (subst (λ T. LeadsDeferredAt p u c.variable T (more u) (a.process u) (c'.process u)) (sym table)
        (subst (λ f. LeadsDeferredAt p u c.variable c.table (more u) (a.process u) (f u)) (sym process) (at u)));
  }
    where
      more : ℕ → List Kind
      more = put deferred t (deferred t ++ kind_of label ∷ [])

      mine : LeadsDeferredAt p t c.variable c.table (deferred t ++ kind_of label ∷ []) (a.process t) (Some r)
      mine = at_more p t c.variable c.table (deferred t) (a.process t) q r label
          (subst (λ x. LeadsDeferredAt p t c.variable c.table (deferred t) (a.process t) x) there (b.processes t)) may

      at : (u : ℕ) → LeadsDeferredAt p u c.variable c.table (more u) (a.process u) (put c.process t (Some r) u)
      at u = at_put2 deferred c.process t (deferred t ++ kind_of label ∷ []) (Some r) u
          (λ ks x. LeadsDeferredAt p u c.variable c.table ks (a.process u) x)
          (λ e. subst (λ w. LeadsDeferredAt p w c.variable c.table (deferred t ++ kind_of label ∷ []) (a.process w)
          (Some r))
          (sym e) mine)
          (λ o. b.processes u)

  -- the first that is deferred of a process is possible behind
  pub takes : (deferred : ℕ → List Kind) (a c : SourceState) (t : ℕ) (k : Kind) (ks : List Kind)
      → IsBehind p deferred a c → deferred t ≡ k ∷ ks
      → (a' : SourceState) × IsStep p a (act t k) a' × IsBehind p (put deferred t ks) a' c
  takes deferred a c t k ks b is = (a', inl step, behind)
    where
      f : First p t c.variable c.table k ks (a.process t) (c.process t)
      f = at_first p t c.variable c.table k ks (a.process t) (c.process t)
          (subst (λ l. LeadsDeferredAt p t c.variable c.table l (a.process t) (c.process t)) is (b.processes t))

      a' : SourceState
      a' = record a { process = put a.process t (Some f.mid) }

      step : IsAction p a (act t k) a'
      step = record {
        before = f.before;
        after = f.mid;
        label = f.label;
        effect = Nothing;
        stands = f.stands;
        acts = f.may.takes a.variable (λ m held n i. ap (λ v. v m n i) (sym b.variables));
        named = f.named;
        allows = subst (λ T. Allows t f.label T T) (sym b.table) f.may.allows;
        variables = refl;
        printed = refl;
        processes = refl;
      }

      behind : IsBehind p (put deferred t ks) a' c
      behind = record {
        table = b.table;
        variables = b.variables;
        printed = b.printed;
        processes = λ u. at_put2 deferred a.process t ks (Some f.mid) u
            (λ l x. LeadsDeferredAt p u c.variable c.table l x (c.process u))
            (λ e. subst (λ w. LeadsDeferredAt p w c.variable c.table ks (Some f.mid) (c.process w)) (sym e)
            (subst (λ x. LeadsDeferredAt p t c.variable c.table ks (Some f.mid) x) (sym f.ahead) f.later))
            (λ o. b.processes u);
      }

  pub over : (deferred : ℕ → List Kind) (a c : SourceState) (q : ℕ) (end : End) → IsBehind p deferred a c
      → (a.process q ≡ Some (Over end)) ↔ (c.process q ≡ Some (Over end))
  over deferred a c q end b = (
    over_ahead p q c.variable c.table (deferred q) (a.process q) (c.process q) end (b.processes q),
    over_behind p q c.variable c.table (deferred q) (a.process q) (c.process q) end (b.processes q),
  )

-- a process is made with the next number
pub made_next : (t : ℕ) (o : Offer) (label : Label) (child : ℕ) (q r : Process) (T T' : Table) → IsPlain o
    → TakesUp o label (Makes child q) r → Allows t label T T' → child ≡ T.made + 1
made_next t Rests label child q r T T' is x a = absurd x
made_next t (Does l e s) label child q r T T' is x a = absurd (subst IsQuiet (sym x.1) is.1)
made_next t (Takes l free abandoned) label child q r T T' is x a = absurd (let e = x.2 in cc)
made_next t (MakesOne c s full) label child q r T T' is (inl x) a =
    let a' : Allows t (Forks x.0) T T' = subst (λ l. Allows t l T T') x.1 a in
    let e : Makes child q ≡ Makes x.0 c = x.2 in
    let n : child ≡ x.0 = cc in
    n ∙ a'.1
made_next t (MakesOne c s full) label child q r T T' is (inr x) a = absurd (let e = x.1 in cc)
made_next t (ClaimsOne c s refused) label child q r T T' is (inl x) a = absurd (let e = x.1 in cc)
made_next t (ClaimsOne c s refused) label child q r T T' is (inr x) a = absurd (let e = x.1 in cc)
made_next t (JoinsOne c s) label child q r T T' is x a = absurd (let e = x.2 in cc)
made_next t (NotifiesSome c s) label child q r T T' is x a = absurd (let e = x.2 in cc)
made_next t (NotifiesAll c s) label child q r T T' is x a = absurd (let e = x.2 in cc)

held_once : (u t : ℕ) (h : Hold) → u ≢ t → h ≡ HeldBy u → h ≡ HeldBy t → ⊥
held_once u t h o x y =
    let e : HeldBy u ≡ HeldBy t = sym x ∙ y in
    let same : u ≡ t = cc in
    o same

-- where the processes stand after an effect, the process that acts aside
others_after : (p : Program) (u : ℕ) (v : Variables) (T : Table) (ks : List Kind) (e : Effect)
    (f g : ℕ → Option Process) → ((child : ℕ) (q : Process) → e ≡ Makes child q → g child ≡ None)
    → LeadsDeferredAt p u v T ks (f u) (g u) → LeadsDeferredAt p u v T ks (processes_after e f u)
    (processes_after e g u)
others_after p u v T ks Nothing f g none w = w
others_after p u v T ks (Puts m n i z) f g none w = w
others_after p u v T ks (Writes z) f g none w = w
others_after p u v T ks (Makes child q) f g none w =
    at_put2 f g child (Some q) (Some q) u (λ x y. LeadsDeferredAt p u v T ks x y)
    (λ e. let empty : ks ≡ [] = at_none p u v T ks (f u)
    (subst (λ y. LeadsDeferredAt p u v T ks (f u) y) (ap g e ∙ none child q refl) w)
    in subst (λ l. LeadsDeferredAt p u v T l (Some q) (Some q)) (sym empty) refl)
    (λ o. w)

module _ (p : Program) (deferred : ℕ → List Kind) (a c c' : SourceState) (t : ℕ) (k : Kind)
    (b : IsBehind p deferred a c) (empty : deferred t ≡ []) (x : IsAction p c (act t k) c')
    (variables : (m n i : ℕ) → (c.table.hold m ≡ HeldBy t → ⊥) → c'.variable m n i ≡ c.variable m n i)
    (holders : (u m : ℕ) → u ≢ t → c.table.hold m ≡ HeldBy u → c'.table.hold m ≡ HeldBy u)
    (unmade : c.process (c.table.made + 1) ≡ None) where
  stays : (u : ℕ) → u ≢ t → Stays u c.variable c'.variable c.table c'.table
  stays u o = record {
    grows = grows t x.label c.table c'.table x.allows;
    held = λ m h. holders u m o h;
    same = λ m h n i. sym (variables m n i (λ y. held_once u t (c.table.hold m) o h y));
  }

  none : (child : ℕ) (q : Process) → x.effect ≡ Makes child q → c.process child ≡ None
  none child q e =
      let next : child ≡ c.table.made + 1 =
      made_next t (offer p c.variable x.before) x.label child q x.after c.table c'.table
      (plain p c.variable x.before)
      (subst (λ y. TakesUp (offer p c.variable x.before) x.label y x.after) e x.acts) x.allows in
      ap c.process next ∙ unmade

  abbrev a' : SourceState
  a' = record c' { process = put (processes_after x.effect a.process) t (Some x.after) }

  step : IsAction p a (act t k) a'
  step = record {
    before = x.before;
    after = x.after;
    label = x.label;
    effect = x.effect;
    stands = at_same p t c.variable c.table (a.process t) x.before
        (subst (λ y. LeadsDeferredAt p t c.variable c.table [] (a.process t) y) x.stands
        (subst (λ l. LeadsDeferredAt p t c.variable c.table l (a.process t) (c.process t)) empty (b.processes t)));
    acts = subst (λ v. TakesUp (offer p v x.before) x.label x.effect x.after) (sym b.variables) x.acts;
    named = x.named;
    allows = subst (λ T. Allows t x.label T c'.table) (sym b.table) x.allows;
    variables = x.variables ∙ ap (variables_after x.effect) (sym b.variables);
    printed = x.printed ∙ ap (printed_after x.effect) (sym b.printed);
    processes = refl;
  }

  at : (u : ℕ) → LeadsDeferredAt p u c'.variable c'.table (deferred u) (a'.process u)
      (put (processes_after x.effect c.process) t (Some x.after) u)
  at u = at_put2 (processes_after x.effect a.process) (processes_after x.effect c.process) t (Some x.after)
      (Some x.after) u (λ y z. LeadsDeferredAt p u c'.variable c'.table (deferred u) y z)
      (λ e. subst (λ l. LeadsDeferredAt p u c'.variable c'.table l (Some x.after) (Some x.after))
      (sym (ap deferred e ∙ empty)) refl)
      (λ o. others_after p u c'.variable c'.table (deferred u) x.effect a.process c.process none
      (at_still p u c.variable c'.variable c.table c'.table (stays u o) (deferred u) (a.process u) (c.process u)
      (b.processes u)))

  -- what a process does of which nothing is deferred is possible behind, and nothing else changes
  pub goes_on : (a' : SourceState) × IsStep p a (act t k) a' × IsBehind p deferred a' c'
  goes_on = (
    a',
    inl step,
    record {
      table = refl;
      variables = refl;
      printed = refl;
      processes = λ u. subst (λ f. LeadsDeferredAt p u c'.variable c'.table (deferred u) (a'.process u) (f u))
          (sym x.processes)
          (at u);
    },
  )
