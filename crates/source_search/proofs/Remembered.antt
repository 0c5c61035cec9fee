-- What is remembered of processes stays right while there are more parts.
use Rattle.std.proofs.Common.{◌≡◌, ◌<◌, ◌+◌, ◌↔◌, ◌++◌, ℕ, zero, suc, List, [], ◌∷◌, Option, Some, None, All, Contains}
use Rattle.std.proofs.Common.{length, slice_get, slice_set, get_or, take, refl, sym, ap, ◌∙◌, subst, arith, false, true, ◌⊎◌, inl, inr}
use Rattle.std.specs.Prelude.{IsSome, is_some, option_map}
use Rattle.std.proofs.lemmas.List.{get_or_default, map_more, map_push}
use Rattle.std.proofs.lemmas.List.Elements.{All-contains, All-push, All-weaker, Contains-get_or}
use Rattle.std.proofs.lemmas.Option.{get_or_from_slice_get, slice_get_within}
use Rattle.words.specs.Updates.{put}
use Rattle.words.proofs.Updates.{at_put, at_put2, put_same}
use Rattle.program.specs.Trees.{Program}
use Rattle.meaning.specs.Processes.{Process}
use Rattle.meaning.specs.Runs.{CanMove}
use Rattle.meaning.specs.States.{SourceState}
use Rattle.proof_exploration.specs.Exploring.{IsLike}
use Rattle.proof_exploration.specs.Searching.{IsCovered, IsKept}
use Rattle.proof_exploration.proofs.Alike.{like_self}
use Rattle.proof_exploration.proofs.Representing.{like_covered}
use Rattle.source_offers.specs.Stages.{process_of}
use Rattle.source_offers.specs.Stores.{variables_of}
use Rattle.source_table.specs.Tables.{table_of}
use Rattle.source_reaching.specs.Among.{AreCovered, AreEnds, among, or_else}
use Rattle.source_reaching.specs.Ends.{ends_in}
use Rattle.source_reaching.specs.declared.reaching.End.{End}
use Rattle.source_reaching.proofs.Ahead.{ahead_none, ahead_then, covered_to}
use Rattle.source_reaching.proofs.Among.{like_among}
use Rattle.source_reaching.proofs.Arriving.{ends_none}
use Rattle.source_reaching.proofs.Subsets.{contains_map}
use Rattle.source_states.specs.States.{state_of}
use Rattle.source_search.specs.Known.{AreAhead, AreKnown, AreOnly, AreOutcomes, AreWithin, HasMoved, IsChild, IsKnown}
use Rattle.source_search.specs.Known.{IsKnownAt, IsMovedTo, IsNumbered, IsOutcome, IsThere, behind, behind_all, outcomes_of}
use Rattle.source_search.specs.Known.{spot_at, with_child}
use Rattle.source_search.specs.Kept.{IsLonger, states_in}
use Rattle.source_search.specs.Packed.{IsGrown, IsPrefix, IsWithin, process_in, some_table, some_variables, table_in}
use Rattle.source_search.specs.Packed.{unpacked, variables_in}
use Rattle.source_search.specs.Spots.{IsAlone, IsSpotOf, IsSpotWithin, alone}
use Rattle.source_search.specs.Covered.{IsAheadBeside, IsCoveredSo, IsFollowedOwn}
use Rattle.source_search.specs.declared.memo.Known.{Known as KnownOf}
use Rattle.source_search.specs.declared.memo.Memo.{Memo as MemoOf}
use Rattle.source_search.specs.declared.memo.Outcome.{Outcome as OutcomeOf}
use Rattle.source_search.specs.declared.packed.Packed.{Packed as PackedOf}
use Rattle.source_search.specs.declared.parts.Parts.{Parts as PartsOf}
use Rattle.source_search.specs.declared.spot.Spot.{Spot as SpotOf}
use Rattle.source_search.proofs.Coverage.{ends_more, followed_own, moves_too}
use Rattle.source_search.proofs.Packing.{prefix_get, prefix_twice, prefix_within, some_within, unpacked_still}

some_below : {X : Type 0} {Y : Type 0} (v : X → Y) (xs : List X) (i : ℕ) → i < length xs
    → IsSome (option_map v (slice_get xs i))
some_below v [] i l = absurd (omega (arith, l))
some_below v (x ∷ xs) zero l = refl
some_below v (x ∷ xs) (suc i) l = some_below v xs i (omega (arith, l))

-- with more parts, the same state is of a spot
module _ (a b : PartsOf) (g : IsGrown a b) where
  pub spot_still : (spot : SpotOf) → IsSpotWithin a spot → IsSpotWithin b spot
  spot_still spot is = record {
    table = prefix_within a.tables.items b.tables.items spot.table g.tables is.table;
    variables = prefix_within a.variables.items b.variables.items spot.variables g.variables is.variables;
    part = prefix_within a.processes.items b.processes.items spot.part g.processes is.part;
  }

  pub alone_still : (spot : SpotOf) → IsSpotWithin a spot → alone b spot ≡ alone a spot
  alone_still spot is = λ i. record {
    table = ap (λ o. some_table (option_map table_of o))
        (prefix_get a.tables.items b.tables.items spot.table g.tables is.table) i;
    variable = ap (λ o. some_variables (option_map variables_of o))
        (prefix_get a.variables.items b.variables.items spot.variables g.variables is.variables) i;
    process = put (λ q. None) spot.process (ap (option_map process_of)
        (prefix_get a.processes.items b.processes.items spot.part g.processes is.part) i);
    printed = [];
  }

  pub there_still : (t : ℕ) (o : OutcomeOf) → IsThere a t o → IsThere b t o
  there_still t o is = record {
    spot = spot_still (spot_at t o) is.spot;
    child = prefix_within a.processes.items b.processes.items o.child g.processes is.child;
  }

  with_still : (child : ℕ) → child < length a.processes.items → (f f' : ℕ → Option Process) → f ≡ f' → (made : ℕ)
      → with_child b.processes.items child f made ≡ with_child a.processes.items child f' made
  with_still child less f f' e zero = e
  with_still child less f f' e (suc m) = λ i. put (e i) (suc m) (ap (option_map process_of)
      (prefix_get a.processes.items b.processes.items child g.processes less) i)

  pub behind_still : (t : ℕ) (o : OutcomeOf) → IsThere a t o → behind b t o ≡ behind a t o
  behind_still t o is = λ i. record {
    table = (alone_still (spot_at t o) is.spot i).table;
    variable = (alone_still (spot_at t o) is.spot i).variable;
    process = with_still o.child is.child (alone b (spot_at t o)).process (alone a (spot_at t o)).process
        (ap (λ (r : SourceState). r.process) (alone_still (spot_at t o) is.spot)) o.made i;
    printed = [];
  }

  pub within_more : (t : ℕ) (outcomes : List OutcomeOf) → AreWithin a t outcomes → AreWithin b t outcomes
  within_more t outcomes all = All-weaker (IsThere a t) (IsThere b t) (there_still t) outcomes all

  pub behind_all_still : (t : ℕ) (outcomes : List OutcomeOf) → AreWithin a t outcomes
      → behind_all b t outcomes ≡ behind_all a t outcomes
  behind_all_still t [] all = refl
  behind_all_still t (o ∷ outcomes) all = λ i.
      behind_still t o (all 0 o (omega arith)) i
      ∷ behind_all_still t outcomes (λ k d l. all (suc k) d (omega (arith, l))) i

  pub known_still : (p : Program) (k : KnownOf) → IsKnown p a k → IsKnown p b k
  known_still p k is = record {
    within = spot_still k.spot is.within;
    all = within_more k.spot.process (outcomes_of k) is.all;
    ends = subst (AreEnds p k.spot.process (alone b k.spot))
        (sym (behind_all_still k.spot.process (outcomes_of k) is.all))
        (subst (λ s. AreEnds p k.spot.process s (behind_all a k.spot.process (outcomes_of k)))
        (sym (alone_still k.spot is.within)) is.ends);
    moves = λ some. subst (λ s. CanMove p s k.spot.process) (sym (alone_still k.spot is.within)) (is.moves some);
  }

  pub all_still : (p : Program) (memo : MemoOf) → AreKnown p a memo → AreKnown p b memo
  all_still p memo all = All-weaker (λ (k : KnownOf). 0 < k.spot.process → IsKnown p a k)
      (λ (k : KnownOf). 0 < k.spot.process → IsKnown p b k) (λ k is some. known_still p k (is some)) memo.known.items all

-- where what is ahead of some states is covered, they are
ahead_both : (p : Program) (kept : List SourceState) (others : ℕ → Option Process) (s : SourceState)
    (ss : List SourceState) → (m : ℕ) × IsCovered p kept m (among others s) → (m : ℕ) × AreCovered p kept m others ss
    → (m : ℕ) × AreCovered p kept m others (s ∷ ss)
ahead_both p kept others s ss one rest = (rest.0 + one.0, both)
  where
    both : AreCovered p kept (rest.0 + one.0) others (s ∷ ss)
    both zero d l = covered_to p kept one.0 rest.0 (rest.0 + one.0) (among others s) (omega arith) one.1
    both (suc k) d l = covered_to p kept rest.0 one.0 (rest.0 + one.0) (among others (get_or ss k d)) (omega arith)
        (rest.1 k d (omega (arith, l)))

covered_ahead : (p : Program) (kept : List SourceState) (n : ℕ) (others : ℕ → Option Process) (ss rs : List SourceState)
    → AreAhead p ss rs → AreCovered p kept n others rs → (m : ℕ) × AreCovered p kept m others ss
covered_ahead p kept n others [] [] ahead all = (n, all)
covered_ahead p kept n others (s ∷ ss) (r ∷ rs) ahead all = ahead_both p kept others s ss
    (ahead.0 others kept n (all 0 r (omega arith)))
    (covered_ahead p kept n others ss rs ahead.1 (λ k d l. all (suc k) d (omega (arith, l))))
covered_ahead p kept n others [] (r ∷ rs) ahead all = absurd ahead
covered_ahead p kept n others (s ∷ ss) [] ahead all = absurd ahead

pub ends_ahead : (p : Program) (t : ℕ) (s : SourceState) (ends ends' : List SourceState) → AreAhead p ends ends'
    → AreEnds p t s ends → AreEnds p t s ends'
ends_ahead p t s ends ends' ahead are kind is others kept n all =
    let covered : (m : ℕ) × AreCovered p kept m others ends = covered_ahead p kept n others ends ends' ahead all in
    are kind is others kept covered.0 covered.1

pub ahead_push : (p : Program) (ss rs : List SourceState) (s r : SourceState) → AreAhead p ss rs → IsAheadBeside p s r
    → AreAhead p (ss ++ s ∷ []) (rs ++ r ∷ [])
ahead_push p [] [] s r all one = (one, tt)
ahead_push p (x ∷ ss) (y ∷ rs) s r all one = (all.0, ahead_push p ss rs s r all.1 one)
ahead_push p [] (y ∷ rs) s r all one = absurd all
ahead_push p (x ∷ ss) [] s r all one = absurd all

-- a state that is the same as another but for what was printed
pub like_ahead : (p : Program) (s r : SourceState) → IsLike r s → IsAheadBeside p s r
like_ahead p s r like others kept n is =
    (n, like_covered p kept n (among others r) (among others s) (like_among others r s like) is)

-- a kept state behind an outcome
module _ (parts : PartsOf) (x y : PackedOf) (place : ℕ) (o : OutcomeOf) (is : IsMovedTo x place o y)
    (there : IsThere parts (suc place) o) where
  pub moved_within : IsWithin parts x → IsWithin parts y
  moved_within within = record {
    table = subst (λ n. n < length parts.tables.items) (sym is.table) there.spot.table;
    variables = subst (λ n. n < length parts.variables.items) (sym is.variables) there.spot.variables;
    processes = is.processes.within (length parts.processes.items) there.spot.part there.child within.processes;
  }

  some_over : (n : ℕ) → n < length parts.processes.items → (r : Option Process)
      → process_in parts.processes.items n ≡ or_else (process_in parts.processes.items n) r
  some_over n less r =
      here (process_in parts.processes.items n) (some_below process_of parts.processes.items n less)
    where
      here : (q : Option Process) → IsSome q → q ≡ or_else q r
      here None is = absurd (let differ : false ≡ true = is in cc)
      here (Some q) is = refl

  abbrev old : ℕ → Option Process
  old = (unpacked parts x).process

  abbrev new : ℕ → Option Process
  new = (alone parts (spot_at (suc place) o)).process

  own_at : (q : ℕ) → put old (suc place) (process_in parts.processes.items o.part) q ≡ or_else (new q) (old q)
  own_at q = at_put2 old (λ r. None) (suc place) (process_in parts.processes.items o.part)
      (process_in parts.processes.items o.part) q (λ u v. u ≡ or_else v (old q))
      (λ e. some_over o.part there.spot.part (old q)) (λ ne. refl)

  moved_at : (made q : ℕ)
      → with_child parts.processes.items o.child (put old (suc place) (process_in parts.processes.items o.part)) made q
      ≡ or_else (with_child parts.processes.items o.child new made q) (old q)
  moved_at zero q = own_at q
  moved_at (suc m) q = at_put2 (put old (suc place) (process_in parts.processes.items o.part)) new (suc m)
      (process_in parts.processes.items o.child) (process_in parts.processes.items o.child) q
      (λ u v. u ≡ or_else v (old q)) (λ e. some_over o.child there.child (old q)) (λ ne. own_at q)

  pub moved_same : unpacked parts y ≡ among (unpacked parts x).process (behind parts (suc place) o)
  moved_same = λ i. record {
    table = some_table (table_in parts.tables.items (is.table i));
    variable = some_variables (variables_in parts.variables.items (is.variables i));
    process = λ q. (is.processes.at parts.processes.items q ∙ moved_at o.made q) i;
    printed = [];
  }

-- a state of a process behind an outcome that is kept
pub kept_moved : (parts : PartsOf) (xs : List PackedOf) (x : PackedOf) (place : ℕ) (o : OutcomeOf)
    → IsThere parts (suc place) o → HasMoved xs x place o
    → IsKept (states_in parts xs) (among (unpacked parts x).process (behind parts (suc place) o))
kept_moved parts xs x place o there (y, c, moved) = (
  unpacked parts y,
  contains_map (unpacked parts) xs y c,
  subst (IsLike (unpacked parts y)) (moved_same parts x y place o moved there) (like_self (unpacked parts y)),
)

pub has_moved : (xs : List PackedOf) (i : ℕ) (y x : PackedOf) (place : ℕ) (o : OutcomeOf) → slice_get xs i ≡ Some y
    → IsMovedTo x place o y → HasMoved xs x place o
has_moved xs i y x place o is moved = (
  y,
  subst (Contains xs) (get_or_from_slice_get xs i y y is) (Contains-get_or xs i y (slice_get_within xs i y is)),
  moved,
)

-- a state of one process, or of one and another that it made, in numbers
module _ (a e b d : PartsOf) (f : IsGrown a e) (g : IsGrown e b) (h : IsGrown b d) (t : ℕ) (o : OutcomeOf)
    (s : SourceState) (numbers : List ℕ) (q : Process) (all : (r : ℕ) → Contains numbers r ↔ IsSome (s.process r))
    (stands : s.process t ≡ Some q) (part : process_in a.processes.items o.part ≡ Some q)
    (table : table_in b.tables.items o.table ≡ Some s.table)
    (v : variables_in d.variables.items o.variables ≡ Some s.variable) where
  nobody : (r : ℕ) → (Contains numbers r → ⊥) → (x : Option Process) → s.process r ≡ x → None ≡ x
  nobody r not None is = refl
  nobody r not (Some y) is = absurd (not ((all r).1 (ap is_some is)))

  within_table : o.table < length b.tables.items
  within_table = some_within table_of b.tables.items o.table s.table table

  more : IsPrefix e.processes.items d.processes.items
  more = prefix_twice e.processes.items b.processes.items d.processes.items g.processes h.processes

  within_part : o.part < length e.processes.items
  within_part = prefix_within a.processes.items e.processes.items o.part f.processes
      (some_within process_of a.processes.items o.part q part)

  part_now : process_in d.processes.items o.part ≡ Some q
  part_now = ap (option_map process_of) (prefix_get e.processes.items d.processes.items o.part more within_part)
      ∙ ap (option_map process_of) (prefix_get a.processes.items e.processes.items o.part f.processes
      (some_within process_of a.processes.items o.part q part)) ∙ part

  within_child : (n : ℕ) → IsChild e.processes.items s.process o.child o.part n → o.child < length e.processes.items
  within_child zero same = subst (λ k. k < length e.processes.items) (sym same) within_part
  within_child (suc m) is = some_within process_of e.processes.items o.child is.0 is.2

  at : (n : ℕ) → AreOnly numbers t n → IsChild e.processes.items s.process o.child o.part n → (r : ℕ)
      → with_child d.processes.items o.child (put (λ k. None) t (process_in d.processes.items o.part)) n r ≡ s.process r
  at zero only child r = at_put (λ k. None) t (process_in d.processes.items o.part) r (λ x. x ≡ s.process r)
      (λ is. part_now ∙ sym stands ∙ ap s.process (sym is))
      (λ ne. nobody r (λ c. ne (only ((all t).1 (ap is_some stands)) r c)) (s.process r) refl)
  at (suc m) only child r =
      at_put (put (λ k. None) t (process_in d.processes.items o.part)) (suc m) (process_in d.processes.items o.child) r
      (λ x. x ≡ s.process r)
      (λ is. ap (option_map process_of) (prefix_get e.processes.items d.processes.items o.child more
      (within_child (suc m) child)) ∙ child.2 ∙ sym child.1 ∙ ap s.process (sym is))
      (λ other. at_put (λ k. None) t (process_in d.processes.items o.part) r (λ x. x ≡ s.process r)
      (λ is. part_now ∙ sym stands ∙ ap s.process (sym is))
      (λ ne. nobody r (λ c. other (only r c ne)) (s.process r) refl))

  pub numbered : (n : ℕ) → o.made ≡ n → AreOnly numbers t n → IsChild e.processes.items s.process o.child o.part n
      → IsNumbered d t s o
  numbered n is only child = record {
    there = record {
      spot = record {
        table = prefix_within b.tables.items d.tables.items o.table h.tables within_table;
        variables = some_within variables_of d.variables.items o.variables s.variable v;
        part = prefix_within e.processes.items d.processes.items o.part more within_part;
      };
      child = prefix_within e.processes.items d.processes.items o.child more (within_child n child);
    };
    like = record {
      table = ap some_table (ap (option_map table_of)
          (prefix_get b.tables.items d.tables.items o.table h.tables within_table) ∙ table);
      variable = ap some_variables v;
      process = λ i r. (ap (λ m. with_child d.processes.items o.child
          (put (λ k. None) t (process_in d.processes.items o.part)) m r) is ∙ at n only child r) i;
    };
  }

-- what it is an outcome of
pub numbered_outcome : (p : Program) (parts : PartsOf) (t : ℕ) (s s' : SourceState) (o : OutcomeOf)
    → IsAheadBeside p s s' → IsNumbered parts t s' o → IsOutcome p parts t s o
numbered_outcome p parts t s s' o ahead is = record {
  there = is.there;
  ahead = λ others. ahead_then p (among others s) (among others s') (among others (behind parts t o)) (ahead others)
      (like_ahead p s' (behind parts t o) is.like others);
}

-- of a copy of which nothing was printed, and from which a process was followed
pub copied_outcome : (p : Program) (parts : PartsOf) (t : ℕ) (s r s' : SourceState) (o : OutcomeOf)
    → r ≡ record s { printed = [] } → IsAheadBeside p r s' → IsNumbered parts t s' o → IsOutcome p parts t s o
copied_outcome p parts t s r s' o copied ahead is = numbered_outcome p parts t s s' o
    (λ others. ahead_then p (among others s) (among others r) (among others s') (like_ahead p s r like others)
    (ahead others)) is
  where
    like : IsLike r s
    like = record {
      table = ap (λ (x : SourceState). x.table) copied;
      variable = ap (λ (x : SourceState). x.variable) copied;
      process = ap (λ (x : SourceState). x.process) copied;
    }

-- of one that was not followed
pub plain_outcome : (p : Program) (parts : PartsOf) (t : ℕ) (s : SourceState) (o : OutcomeOf) → IsNumbered parts t s o
    → IsOutcome p parts t s o
plain_outcome p parts t s o is = numbered_outcome p parts t s s o (λ others. ahead_none p (among others s)) is

pub no_outcomes : (p : Program) (parts : PartsOf) (t : ℕ) (ends : List End)
    → AreOutcomes p parts t (ends_in (take 0 ends)) []
no_outcomes p parts t ends = record { within = λ k d l. absurd (omega (arith, l)); ahead = tt }

-- one outcome more
pub one_outcome : (p : Program) (a b : PartsOf) → IsGrown a b → (t : ℕ) (ends : List End) (k : ℕ) (e : End)
    (outcomes outcomes' : List OutcomeOf) (o : OutcomeOf) → k < length ends → e ≡ get_or ends k e
    → AreOutcomes p a t (ends_in (take k ends)) outcomes → IsOutcome p b t (state_of e.state) o
    → outcomes' ≡ outcomes ++ o ∷ [] → AreOutcomes p b t (ends_in (take (k + 1) ends)) outcomes'
one_outcome p a b g t ends k e outcomes outcomes' o less is so_far one push =
    subst (AreOutcomes p b t (ends_in (take (k + 1) ends))) (sym push) (record {
      within = All-push (IsThere b t) outcomes o (within_more a b g t outcomes so_far.within) one.there;
      ahead = subst (λ ss. AreAhead p ss (behind_all b t (outcomes ++ o ∷ [])))
          (sym (map_more (λ (x : End). state_of x.state) ends k e less
          ∙ ap (λ (x : End). ends_in (take k ends) ++ state_of x.state ∷ []) (sym is)))
          (subst (AreAhead p (ends_in (take k ends) ++ state_of e.state ∷ []))
          (sym (map_push (behind b t) outcomes o))
          (ahead_push p (ends_in (take k ends)) (behind_all b t outcomes) (state_of e.state) (behind b t o)
          (subst (AreAhead p (ends_in (take k ends))) (sym (behind_all_still a b g t outcomes so_far.within))
          so_far.ahead) one.ahead));
    })

-- one outcome, of one state
pub single_outcome : (p : Program) (parts : PartsOf) (t : ℕ) (ends : List End) (e : End) (o : OutcomeOf)
    → length ends ≡ 1 → e ≡ get_or ends 0 e → IsOutcome p parts t (state_of e.state) o
    → AreOutcomes p parts t (ends_in ends) (o ∷ [])
single_outcome p parts t [] e o one is at = absurd (omega (arith, one))
single_outcome p parts t (x ∷ []) e o one is at = record {
  within = All-push (IsThere parts t) [] o (λ k d l. absurd (omega (arith, l))) at.there;
  ahead = (subst (λ (y : End). IsAheadBeside p (state_of y.state) (behind parts t o)) is at.ahead, tt);
}
single_outcome p parts t (x ∷ y ∷ ends) e o one is at = absurd (omega (arith, one))

-- one outcome more is covered
pub outcome_covered : (p : Program) (a b : PartsOf) → IsGrown a b → (x : PackedOf) (t : ℕ) (outcomes : List OutcomeOf)
    (kept kept' : List SourceState) → IsLonger kept kept' → (k : ℕ) (d : OutcomeOf) → k < length outcomes
    → AreWithin a t outcomes → IsWithin a x
    → (n : ℕ) × AreCovered p kept n (unpacked a x).process (behind_all a t (take k outcomes))
    → IsCoveredSo p kept' (among (unpacked b x).process (behind b t (get_or outcomes k d)))
    → (n : ℕ) × AreCovered p kept' n (unpacked a x).process (behind_all a t (take (k + 1) outcomes))
outcome_covered p a b g x t outcomes kept kept' longer k d less there within all one =
    let o = get_or outcomes k d in
    ends_more p (behind a t) (unpacked a x).process outcomes kept kept' longer k o less
    (get_or_default outcomes k d o less) all
    (subst (λ s. IsCoveredSo p kept' (among (unpacked a x).process s)) (behind_still a b g t o (there k d less))
    (subst (λ r. IsCoveredSo p kept' (among r.process (behind b t o))) (unpacked_still a b g x within) one))

-- what is learnt of a process
pub learnt : (p : Program) (a b : PartsOf) → IsGrown a b → (spot : SpotOf) (ends : List SourceState)
    (k : KnownOf) → k.spot ≡ spot → AreOutcomes p b spot.process ends (outcomes_of k) → IsSpotWithin a spot
    → AreEnds p spot.process (alone a spot) ends → CanMove p (alone a spot) spot.process → IsKnownAt p b spot k
learnt p a b g spot ends k same are within leads can = record {
  same = same;
  known = record {
    within = subst (IsSpotWithin b) (sym same) (spot_still a b g spot within);
    all = subst (λ (x : SpotOf). AreWithin b x.process (outcomes_of k)) (sym same) are.within;
    ends = subst (λ (x : SpotOf). AreEnds p x.process (alone b x) (behind_all b x.process (outcomes_of k))) (sym same)
        (ends_ahead p spot.process (alone b spot) ends (behind_all b spot.process (outcomes_of k)) are.ahead
        (subst (λ s. AreEnds p spot.process s ends) (sym (alone_still a b g spot within)) leads));
    moves = λ some. subst (λ (x : SpotOf). CanMove p (alone b x) x.process) (sym same)
        (subst (λ s. CanMove p s spot.process) (sym (alone_still a b g spot within)) can);
  };
}

-- of one that can't move
pub rests_known : (p : Program) (parts : PartsOf) (spot : SpotOf) (k : KnownOf) → k.spot ≡ spot → outcomes_of k ≡ []
    → IsSpotWithin parts spot → (CanMove p (alone parts spot) spot.process → ⊥) → IsKnownAt p parts spot k
rests_known p parts spot k same none within never = record {
  same = same;
  known = record {
    within = subst (IsSpotWithin parts) (sym same) within;
    all = subst (AreWithin parts k.spot.process) (sym none) (λ j d l. absurd (omega (arith, l)));
    ends = subst (λ (x : SpotOf). AreEnds p x.process (alone parts x) (behind_all parts x.process (outcomes_of k)))
        (sym same) (ends_none p spot.process (alone parts spot) (behind_all parts spot.process (outcomes_of k)) never);
    moves = λ some. absurd (let few : length (outcomes_of k) ≡ 0 = ap length none in omega (arith, some, few));
  };
}

-- the spot of a process of a kept state
pub spot_within : (parts : PartsOf) (x : PackedOf) (place : ℕ) (spot : SpotOf) → IsWithin parts x → IsSpotOf x place spot
    → IsSpotWithin parts spot
spot_within parts x place spot within is = record {
  table = subst (λ n. n < length parts.tables.items) (sym is.table) within.table;
  variables = subst (λ n. n < length parts.variables.items) (sym is.variables) within.variables;
  part = subst (λ n. n < length parts.processes.items)
      (get_or_from_slice_get x.processes.items place spot.part spot.part is.part)
      (within.processes place spot.part (slice_get_within x.processes.items place spot.part is.part));
}

-- the state of a spot, in which the process is
pub spot_alone : (parts : PartsOf) (spot : SpotOf) → IsSpotWithin parts spot → IsAlone parts spot (alone parts spot)
spot_alone parts spot within = record {
  same = refl;
  stands = subst IsSome (sym (put_same (λ q. None) spot.process (process_in parts.processes.items spot.part)))
      (some_below process_of parts.processes.items spot.part within.part);
}

-- what is known of the process of a kept state
module _ (p : Program) (parts : PartsOf) (x : PackedOf) (place : ℕ) (spot : SpotOf) (k : KnownOf)
    (is : IsSpotOf x place spot) (at : IsKnownAt p parts spot k) where
  number : k.spot.process ≡ suc place
  number = ap (λ (r : SpotOf). r.process) at.same ∙ is.process

  pub known_within : AreWithin parts (suc place) (outcomes_of k)
  known_within = subst (λ t. AreWithin parts t (outcomes_of k)) number at.known.all

  own : AreEnds p spot.process (alone parts spot) (behind_all parts (suc place) (outcomes_of k))
  own = subst (λ t. AreEnds p spot.process (alone parts spot) (behind_all parts t (outcomes_of k))) is.process
      (subst (λ (r : SpotOf). AreEnds p r.process (alone parts r) (behind_all parts r.process (outcomes_of k))) at.same
      at.known.ends)

  single : IsAlone parts spot (alone parts spot)
  single = spot_alone parts spot (subst (IsSpotWithin parts) at.same at.known.within)

  pub known_followed : (kept : List SourceState)
      → (n : ℕ) × AreCovered p kept n (unpacked parts x).process (behind_all parts (suc place) (outcomes_of k))
      → IsFollowedOwn p kept (unpacked parts x) (suc place)
  known_followed kept covered = followed_own p kept parts x place spot (alone parts spot)
      (behind_all parts (suc place) (outcomes_of k)) is single own covered

  pub known_moves : 0 < length (outcomes_of k) → CanMove p (unpacked parts x) (suc place)
  known_moves some = moves_too p parts x place spot (alone parts spot) is single
      (subst (λ (r : SpotOf). CanMove p (alone parts r) r.process) at.same (at.known.moves some))

-- what is remembered
module _ (p : Program) (parts : PartsOf) (memo : MemoOf) (all : AreKnown p parts memo) where
  pub found_known : (x : PackedOf) (place : ℕ) (spot : SpotOf) (k : KnownOf) → IsSpotOf x place spot
      → Contains memo.known.items k → k.spot ≡ spot → IsKnownAt p parts spot k
  found_known x place spot k is contains same = record {
    same = same;
    known = All-contains (λ (y : KnownOf). 0 < y.spot.process → IsKnown p parts y) memo.known.items k all contains
        (subst (λ n. 0 < n) (sym (ap (λ (r : SpotOf). r.process) same ∙ is.process)) (omega arith));
  }

  pub kept_known : (memo' : MemoOf) (one : KnownOf)
      → ((k : KnownOf) → Contains memo'.known.items k → Contains memo.known.items k ⊎ (k ≡ one))
      → IsKnown p parts one → AreKnown p parts memo'
  kept_known memo' one from is j d l =
      here (get_or memo'.known.items j d) (from (get_or memo'.known.items j d) (Contains-get_or memo'.known.items j d l))
    where
      here : (k : KnownOf) → Contains memo.known.items k ⊎ (k ≡ one) → 0 < k.spot.process → IsKnown p parts k
      here k (inl c) = All-contains (λ (y : KnownOf). 0 < y.spot.process → IsKnown p parts y) memo.known.items k all c
      here k (inr same) = λ some. subst (IsKnown p parts) (sym same) is

  pub fit_known : (memo' : MemoOf)
      → ((k : KnownOf) → Contains memo'.known.items k → Contains memo.known.items k ⊎ (k.spot.process ≡ 0))
      → AreKnown p parts memo'
  fit_known memo' from j d l =
      here (get_or memo'.known.items j d) (from (get_or memo'.known.items j d) (Contains-get_or memo'.known.items j d l))
    where
      here : (k : KnownOf) → Contains memo.known.items k ⊎ (k.spot.process ≡ 0) → 0 < k.spot.process → IsKnown p parts k
      here k (inl c) = All-contains (λ (y : KnownOf). 0 < y.spot.process → IsKnown p parts y) memo.known.items k all c
      here k (inr none) = λ some. absurd (omega (arith, none, some))

pub nothing_known : (p : Program) (parts : PartsOf) (memo : MemoOf) → memo.known.items ≡ [] → AreKnown p parts memo
nothing_known p parts memo none = subst (All (λ (k : KnownOf). 0 < k.spot.process → IsKnown p parts k)) (sym none)
    (λ j d l. absurd (omega (arith, l)))

-- an element of a list in which one was set
pub set_from : {X : Type 0} (xs : List X) (i : ℕ) (y x : X) → Contains (slice_set xs i y) x → Contains xs x ⊎ (x ≡ y)
set_from [] i y x c = inl c
set_from (z ∷ zs) zero y x (zero, l, e) = inr (sym e)
set_from (z ∷ zs) zero y x (suc k, l, e) = inl (suc k, l, e)
set_from (z ∷ zs) (suc i) y x (zero, l, e) = inl (zero, omega arith, e)
set_from (z ∷ zs) (suc i) y x (suc k, l, e) = rest (set_from zs i y x (k, omega (arith, l), e))
  where
    rest : Contains zs x ⊎ (x ≡ y) → Contains (z ∷ zs) x ⊎ (x ≡ y)
    rest (inl c) = let less : c.0 < length zs = c.1 in inl (suc c.0, omega (arith, less), c.2)
    rest (inr same) = inr same

-- one that can't move, in a kept state
pub rests_followed : (p : Program) (parts : PartsOf) (x : PackedOf) (place : ℕ) (spot : SpotOf) (s : SourceState)
    (kept : List SourceState) → IsSpotOf x place spot → IsAlone parts spot s → (CanMove p s spot.process → ⊥)
    → IsFollowedOwn p kept (unpacked parts x) (suc place)
rests_followed p parts x place spot s kept is single never = followed_own p kept parts x place spot s [] is single
    (ends_none p spot.process s [] never) (zero, λ k d l. absurd (omega (arith, l)))

-- it is remembered
pub rests_kept : (p : Program) (parts : PartsOf) (spot : SpotOf) (s : SourceState) (k : KnownOf)
    (memo memo' : MemoOf) → AreKnown p parts memo → IsSpotWithin parts spot → IsAlone parts spot s
    → (CanMove p s spot.process → ⊥) → k.spot ≡ spot → outcomes_of k ≡ []
    → ((j : KnownOf) → Contains memo'.known.items j → Contains memo.known.items j ⊎ (j ≡ k))
    → AreKnown p parts memo'
rests_kept p parts spot s k memo memo' all within single never same none from =
    let at : IsKnownAt p parts spot k = rests_known p parts spot k same none within
    (λ can. never (subst (λ r. CanMove p r spot.process) (sym single.same) can)) in
    kept_known p parts memo all memo' k from at.known
