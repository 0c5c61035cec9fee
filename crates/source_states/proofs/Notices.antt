-- A notify and a broadcast that leave no choice of whom they resume.
use Rattle.std.proofs.Common.{◌≡◌, ◌⊎◌, ◌↔◌, ◌≤◌, ◌<◌, ℕ, zero, suc, List, [], ◌∷◌, Option, Some, Contains, length}
use Rattle.std.proofs.Common.{Bool, true, false, refl, ap, sym, ◌∙◌, subst, inl, inr, arith}
use Rattle.std.proofs.lemmas.List.Kept.{AllPairs-from_increasing}
use Rattle.std.specs.List.{AllPairs}
use Rattle.std.specs.List.Sorted.{IsStrictlyIncreasing}
use Rattle.words.specs.Updates.{put}
use Rattle.program.specs.declared.kinds.Member.{Member}
use Rattle.program.specs.Trees.{Program}
use Rattle.meaning.specs.Labels.{Action, Broadcast, Broadcasts, Notifies, Notify, kind_of}
use Rattle.meaning.specs.Offers.{Nothing, NotifiesAll, NotifiesSome, Offer, TakesUp, offer}
use Rattle.meaning.specs.Processes.{Process}
use Rattle.meaning.specs.Runs.{IsAction}
use Rattle.meaning.specs.States.{SourceState}
use Rattle.meaning.specs.Table.{Allows, Table, without_waiters}
use Rattle.source_offers.specs.Foreseen.{IsForeseen}
use Rattle.source_offers.specs.declared.foreseeing.Foreseen.{Foreseen}
use Rattle.source_offers.specs.declared.foreseeing.Foreseen.TheVariants as Seen
use Rattle.source_table.specs.Decided.{IsDecided}
use Rattle.source_states.specs.Own.{AreToResume, AreWaiting, IsOwnTaken}
use Rattle.source_states.proofs.Steps.{some_once}

none : (q : ℕ) → Contains [] q → ⊥
none q (k, l, e) = omega (arith, l)

first_or : (x : ℕ) (xs : List ℕ) (q : ℕ) → Contains (x ∷ xs) q → (x ≡ q) ⊎ Contains xs q
first_or x xs q (zero, l, e) = inl e
first_or x xs q (suc k, l, e) = inr (k, omega (arith, l), e)

later : (x : ℕ) (xs : List ℕ) (q : ℕ) → Contains xs q → Contains (x ∷ xs) q
later x xs q (k, l, e) = (suc k, omega (arith, l), e)

module _ (x : ℕ) (xs : List ℕ) (rises : AllPairs (λ m n. m < n) (x ∷ xs)) where
  first_below : (q : ℕ) → Contains xs q → x < q
  first_below q (k, l, e) = subst (λ n. x < n) e (rises 0 (suc k) q (omega arith) (omega (arith, l)))

  later_rise : AllPairs (λ m n. m < n) xs
  later_rise i j d l m = rises (suc i) (suc j) d (omega (arith, l)) (omega (arith, m))

-- rising lists of the same numbers are the same
same_rising : (xs ys : List ℕ) → AllPairs (λ m n. m < n) xs → AllPairs (λ m n. m < n) ys
    → ((q : ℕ) → Contains xs q ↔ Contains ys q) → xs ≡ ys
same_rising [] [] rise rise' same = refl
same_rising [] (y ∷ ys) rise rise' same = absurd (none y ((same y).1 (0, omega arith, refl)))
same_rising (x ∷ xs) [] rise rise' same = absurd (none x ((same x).0 (0, omega arith, refl)))
same_rising (x ∷ xs) (y ∷ ys) rise rise' same =
    let rest = same_rising xs ys (later_rise x xs rise) (later_rise y ys rise') both in
    λ i. heads i ∷ rest i
  where
    heads : x ≡ y
    heads = meet (first_or y ys x ((same x).0 (0, omega arith, refl)))
        (first_or x xs y ((same y).1 (0, omega arith, refl)))
      where
        meet : (y ≡ x) ⊎ Contains ys x → (x ≡ y) ⊎ Contains xs y → x ≡ y
        meet (inl e) other = sym e
        meet (inr i) (inl e) = e
        meet (inr i) (inr j) =
            let less : y < x = first_below y ys rise' x i in
            let more : x < y = first_below x xs rise y j in
            absurd (omega (arith, less, more))

    behind : (m n : ℕ) (ns : List ℕ) → m ≡ n → (q : ℕ) → m < q → (n ≡ q) ⊎ Contains ns q → Contains ns q
    behind m n ns e q below (inl f) = absurd (let g : m ≡ q = e ∙ f in omega (arith, below, g))
    behind m n ns e q below (inr i) = i

    both : (q : ℕ) → Contains xs q ↔ Contains ys q
    both q = (
      λ i. behind x y ys heads q (first_below x xs rise q i) (first_or y ys q ((same q).0 (later x xs q i))),
      λ i. behind y x xs (sym heads) q (first_below y ys rise' q i)
          (first_or x xs q ((same q).1 (later y ys q i))),
    )

-- some of at most one number, where they aren't none, are all
all_of_one : (xs rs : List ℕ) → length xs ≤ 1 → ((q : ℕ) → Contains rs q → Contains xs q)
    → ((q : ℕ) → Contains xs q → rs ≡ [] → ⊥) → (q : ℕ) → Contains xs q → Contains rs q
all_of_one xs [] few among some q i = absurd (some q i refl)
all_of_one xs (r ∷ rs) few among some q i =
    (zero, omega arith, only xs r q few (among r (zero, omega arith, refl)) i)
  where
    only : (ys : List ℕ) (m n : ℕ) → length ys ≤ 1 → Contains ys m → Contains ys n → m ≡ n
    only [] m n few i j = absurd (none m i)
    only (y ∷ ys) m n few (zero, l, e) (zero, k, f) = sym e ∙ f
    only (y ∷ ys) m n few (suc a, l, e) j = absurd (omega (arith, l, few))
    only (y ∷ ys) m n few (zero, l, e) (suc b, k, f) = absurd (omega (arith, k, few))

module _ (n : ℕ) (c : Member) (t : Table) (waiting : List ℕ) (rising : IsStrictlyIncreasing waiting)
    (all : (q : ℕ) → Contains waiting q ↔ (t.waits q ≡ Some c)) where
  -- who waits may be resumed
  pub may_notify : Allows n (Notifies c waiting) t (record t { waits = without_waiters waiting t.waits })
  may_notify = (
    record {
      rising = rising;
      wait = λ q. (all q).0;
      some = λ q w e. none q (subst (λ xs. Contains xs q) e ((all q).1 w));
    },
    refl,
  )

  pub may_broadcast : Allows n (Broadcasts c waiting) t (record t { waits = without_waiters waiting t.waits })
  may_broadcast = (record { rising = rising; wait = λ q. (all q).0; all = λ q. (all q).1 }, refl)

  -- and no others
  notified_only : length waiting ≤ 1 → (rs : List ℕ) (t' : Table) → Allows n (Notifies c rs) t t' → rs ≡ waiting
  notified_only few rs t' (is, e) =
      same_rising rs waiting (AllPairs-from_increasing rs is.rising) (AllPairs-from_increasing waiting rising)
      (λ q. (
        λ i. (all q).1 (is.wait q i),
        λ i. all_of_one waiting rs few (λ x j. (all x).1 (is.wait x j)) (λ x j. is.some x ((all x).0 j)) q i,
      ))

  broadcast_only : (rs : List ℕ) (t' : Table) → Allows n (Broadcasts c rs) t t' → rs ≡ waiting
  broadcast_only rs t' (is, e) =
      same_rising rs waiting (AllPairs-from_increasing rs is.rising) (AllPairs-from_increasing waiting rising)
      (λ q. (λ i. (all q).1 (is.wait q i), λ i. is.all q ((all q).0 i)))

module _ (p : Program) (s : SourceState) (n : ℕ) (before after : Process) (c : Member) (waiting : List ℕ)
    (stands : s.process n ≡ Some before) (rising : IsStrictlyIncreasing waiting)
    (all : (q : ℕ) → Contains waiting q ↔ (s.table.waits q ≡ Some c)) (f : ℕ → Option Process) (t : Table)
    (is : f ≡ put s.process n (Some after)) where
  -- what the process that acts offered
  offered : (a : Action) (u : SourceState) (o : Offer) (r : IsAction p s a u) → a.process ≡ n
      → o ≡ offer p s.variable before → TakesUp o r.label r.effect r.after
  offered a u o r e offers =
      subst (λ x. TakesUp x r.label r.effect r.after)
      (ap (offer p s.variable) (some_once r.before before (sym r.stands ∙ ap s.process e ∙ stands)) ∙ sym offers) r.acts

  -- the process notified all that wait, who are one at most
  pub notified : NotifiesSome c after ≡ offer p s.variable before → length waiting ≤ 1
      → Allows n (Notifies c waiting) s.table t
      → IsOwnTaken p n (Some (Notify c waiting)) s (record s { table = t; process = f })
  notified offers few allows = (
    record {
      before = before;
      after = after;
      label = Notifies c waiting;
      effect = Nothing;
      stands = stands;
      acts = subst (λ o. TakesUp o (Notifies c waiting) Nothing after) offers (waiting, refl, refl, refl);
      named = refl;
      allows = allows;
      variables = refl;
      printed = refl;
      processes = is;
    },
    λ other u r.
        let takes : TakesUp (NotifiesSome c after) r.label r.effect r.after =
        offered (record { process = n; kind = other }) u (NotifiesSome c after) r refl offers in
        r.named ∙ ap kind_of takes.1
        ∙ ap (Notify c) (notified_only n c s.table waiting rising all few takes.0 u.table
        (subst (λ l. Allows n l s.table u.table) takes.1 r.allows)),
  )

  -- it broadcast to all that wait
  pub broadcast : NotifiesAll c after ≡ offer p s.variable before → Allows n (Broadcasts c waiting) s.table t
      → IsOwnTaken p n (Some (Broadcast c waiting)) s (record s { table = t; process = f })
  broadcast offers allows = (
    record {
      before = before;
      after = after;
      label = Broadcasts c waiting;
      effect = Nothing;
      stands = stands;
      acts = subst (λ o. TakesUp o (Broadcasts c waiting) Nothing after) offers (waiting, refl, refl, refl);
      named = refl;
      allows = allows;
      variables = refl;
      printed = refl;
      processes = is;
    },
    λ other u r.
        let takes : TakesUp (NotifiesAll c after) r.label r.effect r.after =
        offered (record { process = n; kind = other }) u (NotifiesAll c after) r refl offers in
        r.named ∙ ap kind_of takes.1
        ∙ ap (Broadcast c) (broadcast_only n c s.table waiting rising all takes.0 u.table
        (subst (λ l. Allows n l s.table u.table) takes.1 r.allows)),
  )

-- where nothing forbids what is decided, it was done
pub was_done : (b : Bool) (Leads : Table → Type 0) (t t' u : Table) → Leads u → IsDecided b Leads t t' → Leads t'
was_done true Leads t t' u may done = done
was_done false Leads t t' u may (never, e) = absurd (never u may)

module _ (t : Table) (waiting : List ℕ) where
  -- whom a notify resumes that was foreseen
  pub foreseen_some : (f : Foreseen) (c : Member) (after : Process) → IsForeseen f (NotifiesSome c after)
      → AreToResume f t waiting → (length waiting ≤ 1) × AreWaiting t c waiting
  foreseen_some Seen.Acts c after is are = absurd is
  foreseen_some (Seen.Notifies d) c after is are =
      let same : c ≡ d = let e = is.1 in cc in (are.0, subst (λ m. AreWaiting t m waiting) (sym same) are.1)
  foreseen_some (Seen.Broadcasts d) c after is are = absurd (let e = is.1 in cc)
  foreseen_some Seen.Unknown c after is are = absurd are

  pub foreseen_all : (f : Foreseen) (c : Member) (after : Process) → IsForeseen f (NotifiesAll c after)
      → AreToResume f t waiting → AreWaiting t c waiting
  foreseen_all Seen.Acts c after is are = absurd is
  foreseen_all (Seen.Notifies d) c after is are = absurd (let e = is.1 in cc)
  foreseen_all (Seen.Broadcasts d) c after is are =
      let same : c ≡ d = let e = is.1 in cc in subst (λ m. AreWaiting t m waiting) (sym same) are
  foreseen_all Seen.Unknown c after is are = absurd are
