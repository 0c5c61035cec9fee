-- The runs that lose a wake, step by step.
use Rattle.std.proofs.Common.{◌≡◌, ◌≢◌, ℕ, ◌<◌, ◌≤◌, Bool, true, false, ◌&&◌, ltb, Option, Some, None, List, [], ◌∷◌, inl, inr}
use Rattle.std.proofs.Common.{refl, sym, ap, ◌∙◌, subst, arith, if◌then◌else◌}
use Rattle.std.proofs.lemmas.Bool.{false≢true, cases_eq, ne_eqb, ltb-true, and_parts}
use Rattle.words.specs.Updates.{put}
use Rattle.words.specs.declared.version.ImageVersion.TheVariants.{One}
use Rattle.meaning.specs.Table.{Free, Table, enterable, first_table}
use Rattle.meaning.specs.Labels.{Enters}
use Rattle.protocol.specs.Word.{owner, waiters, with_waiters}
use Rattle.protocol.specs.Rules.{Rules, rules_of, WakesUnowned, ClearsWord, TidiesWaiters}
use Rattle.protocol.specs.Points.{Spot, OnLock, OnId, Thread, thread_at, Runs, Unmade}
use Rattle.protocol.specs.World.{World, opening_under, opening_thread, IsWake}
use Rattle.protocol.specs.Moves.{Move, Own}
use Rattle.protocol.specs.Origins.{from, Awake}
use Rattle.protocol.specs.Finds.{Finds, HasNumber}
use Rattle.protocol.specs.Carries.{PermitsMove, has_died, event_of, table_after}
use Rattle.protocol.specs.Steps.{Can, after}
use Rattle.protocol.specs.Runs.{Leads, PermitsAll, events, last_table, CanStep, Goes}
use Rattle.protocol.specs.Losses.{world_after, LosesWake, cleared_run, tidied_run}
use Rattle.protocol.proofs.Words.{owner-small, waiters-small, owner-with_waiters, waiters-with_waiters, owner-waiters}
use Rattle.protocol.proofs.Words.{died-waiters}
use Rattle.words.proofs.Updates.{put_other, at_put}
use Rattle.protocol.proofs.Rest.{with_permitted}

-- a move can be made, and the source allows what it carries
record IsMade (w : World) (T : Table) (t : ℕ) (m : Move) : Type 0 where
  can : Can w t m
  permits : PermitsMove (event_of w T t m) T (table_after w T t m)

made : {w : World} {T : Table} {t : ℕ} {m : Move} → HasNumber w t m → Awake m (w.asleep t) → (w.at t).point ≡ from m
    → Finds w t m → PermitsMove (event_of w T t m) T (table_after w T t m) → IsMade w T t m
made n a s f p = record { can = record { number = n; awake = a; stands = s; finds = f }; permits = p }

-- so of each move of a run
abbrev AreMade : World → Table → List (ℕ × Move) → Type 0
AreMade w T [] = Unit {0}
AreMade w T (s ∷ ss) = IsMade w T s.0 s.1 × AreMade (after w s.0 s.1) (table_after w T s.0 s.1) ss

infixr 30 ◌then◌
◌then◌ : {A B : Type 0} → A → B → A × B
a then b = (a, b)

all_lead : (w : World) (T : Table) (ss : List (ℕ × Move)) → AreMade w T ss → Leads w ss (world_after w ss)
all_lead w T [] h = refl
all_lead w T (s ∷ ss) h = (h.0.can, all_lead (after w s.0 s.1) (table_after w T s.0 s.1) ss h.1)

all_permitted : (w : World) (T : Table) (ss : List (ℕ × Move)) → AreMade w T ss
    → PermitsAll (events w T ss) T (last_table w T ss)
all_permitted w T [] h = refl
all_permitted w T (s ∷ ss) h = with_permitted (event_of w T s.0 s.1) _ T (table_after w T s.0 s.1) _ h.0.permits
    (all_permitted (after w s.0 s.1) (table_after w T s.0 s.1) ss h.1)

none_asleep : (asleep : ℕ → Option Spot) (s : Spot) (n : ℕ) → ((u : ℕ) → asleep u ≡ Some s → ⊥) → IsWake asleep s n []
none_asleep asleep s n h = record {
  distinct = tt;
  slept = λ u m. absurd (false≢true m);
  few = omega arith;
  all = λ l u a. absurd (h u a);
}

owned_two : owner (with_waiters 2) ≡ 0 → ⊥
owned_two z = omega (arith, z, owner-with_waiters 2, owner-small 2 (omega arith))

-- 3 alone sleeps, and on the lock
waits_for_lock : (u q : ℕ) → put (put (λ (t : ℕ). None) 3 (Some (OnLock 0))) 2 None u ≡ Some (OnId q) → ⊥
waits_for_lock u q h = at_put (put (λ (t : ℕ). None) 3 (Some (OnLock 0))) 2 None u (λ y. y ≡ Some (OnId q) → ⊥)
    (λ e z. absurd cc) (λ n. at_put (λ (t : ℕ). None) 3 (Some (OnLock 0)) u (λ y. y ≡ Some (OnId q) → ⊥)
    (λ e z. absurd cc) (λ n z. absurd cc)) h

-- a thread that makes none of the moves stays where it is
after_at : (w : World) (t : ℕ) (m : Move) (u : ℕ) → u ≢ t → (after w t m).at u ≡ w.at u
after_at w t (Own l) u n = put_other w.at t _ u n
after_at w t m u n = put_other w.at t _ u n

abbrev all_below : ℕ → List (ℕ × Move) → Bool
all_below n [] = true
all_below n (s ∷ ss) = ltb s.0 n && all_below n ss

untouched : (ss : List (ℕ × Move)) (w : World) (n u : ℕ) → all_below n ss ≡ true → n ≤ u
    → (world_after w ss).at u ≡ w.at u
untouched [] w n u b h = refl
untouched (s ∷ ss) w n u b h = let k = and_parts (ltb s.0 n) _ b in let l = ltb-true s.0 n k.0 in
    untouched ss (after w s.0 s.1) n u k.1 h ∙ after_at w s.0 s.1 u (λ q. omega (arith, l, h, q))

unmade : (u : ℕ) → 4 ≤ u → Goes (opening_thread u).point → ⊥
unmade u h g = subst (λ b. Goes (if b then thread_at Runs [] else thread_at Unmade []).point → ⊥)
    (sym (ne_eqb u 1 (λ q. omega (arith, h, q)))) (λ k. k) g

-- three threads were made; of each it is known that it can't move
still : (rules : Rules) (ss : List (ℕ × Move)) → all_below 4 ss ≡ true
    → (CanStep (world_after (opening_under One rules) ss) 0 → ⊥)
    → (CanStep (world_after (opening_under One rules) ss) 1 → ⊥)
    → (CanStep (world_after (opening_under One rules) ss) 2 → ⊥)
    → (CanStep (world_after (opening_under One rules) ss) 3 → ⊥)
    → (t : ℕ) → CanStep (world_after (opening_under One rules) ss) t → ⊥
still rules ss below none one two three t h = elim (cases_eq t 0) [
  | inl q ↦ none (subst (CanStep (world_after (opening_under One rules) ss)) q h)
  | inr a ↦ elim (cases_eq t 1) [
    | inl q ↦ one (subst (CanStep (world_after (opening_under One rules) ss)) q h)
    | inr b ↦ elim (cases_eq t 2) [
      | inl q ↦ two (subst (CanStep (world_after (opening_under One rules) ss)) q h)
      | inr c ↦ elim (cases_eq t 3) [
        | inl q ↦ three (subst (CanStep (world_after (opening_under One rules) ss)) q h)
        | inr d ↦ unmade t (omega (arith, a, b, c, d)) (subst (λ (y : Thread). Goes y.point)
            (untouched ss (opening_under One rules) 4 t below (omega (arith, a, b, c, d))) h.1)
      ]
    ]
  ]
]

number_one : (0 < 1) × (1 ≤ 3)
number_one = (omega arith, omega arith)

number_two : (0 < 2) × (2 ≤ 3)
number_two = (omega arith, omega arith)

number_three : (0 < 3) × (3 ≤ 3)
number_three = (omega arith, omega arith)

-- what a release left of a word says that nobody died
free_behind : (v : ℕ) → Free ≡ enterable (has_died (waiters v))
free_behind v = rw (died-waiters v) refl

abbrev Cleared : Rules
Cleared = rules_of WakesUnowned ClearsWord

abbrev Tidied : Rules
Tidied = rules_of WakesUnowned TidiesWaiters

cleared_made : AreMade (opening_under One Cleared) (first_table 64) cleared_run
cleared_made =
    made tt refl refl (refl, omega arith, refl, refl) ((omega arith, refl, refl), tt)
    then made tt refl refl (refl, omega arith, refl, refl) ((omega arith, refl, refl), tt)
    then made number_two refl refl refl refl
    then made number_two refl refl tt refl
    then made number_two refl refl refl ((refl, refl), tt)
    then made number_two refl refl tt refl
    then made number_two refl refl tt refl
    then made number_two refl refl tt refl
    then made number_two refl refl tt refl
    then made number_three refl refl refl refl
    then made number_three refl refl tt refl
    then made number_three refl refl (λ z. omega (arith, z)) refl
    then made number_three refl refl (λ z. omega (arith, z, owner-small 2 (omega arith))) refl
    then made number_three refl refl refl refl
    then made number_three refl refl refl refl
    then made number_two refl refl refl refl
    then made number_two refl refl tt refl
    then made number_two refl refl tt refl
    then made number_two refl refl tt refl
    then made number_two refl refl (λ z. omega (arith, z, waiters-with_waiters 2)) (refl, refl)
    then made number_one refl refl refl refl
    then made number_one refl refl tt refl
    then made number_one refl refl refl ((refl, refl), tt)
    then made number_one refl refl tt refl
    then made number_one refl refl tt refl
    then made number_one refl refl tt refl
    then made number_one refl refl tt refl
    then made number_two tt refl tt (refl, refl)
    then made number_two refl refl tt refl
    then made number_two refl refl (λ z. omega (arith, z, owner-small 1 (omega arith))) refl
    then made number_two refl refl tt (refl, tt)
    then made number_two refl refl (none_asleep _ _ _ (λ u h. waits_for_lock u 2 h)) refl
    then made number_one refl refl refl refl
    then made number_one refl refl tt refl
    then made number_one refl refl tt refl
    then made number_one refl refl tt refl
    then made number_one refl refl (waiters-small 1 (omega arith)) (refl, refl)
    then made number_one refl refl tt refl
    then made number_one refl refl tt refl
    then made number_one refl refl tt refl
    then made number_one refl refl tt (refl, tt)
    then made number_one refl refl (none_asleep _ _ _ (λ u h. waits_for_lock u 1 h)) refl
    then tt

tidied_made : AreMade (opening_under One Tidied) (first_table 64) tidied_run
tidied_made =
    made tt refl refl (refl, omega arith, refl, refl) ((omega arith, refl, refl), tt)
    then made tt refl refl (refl, omega arith, refl, refl) ((omega arith, refl, refl), tt)
    then made number_two refl refl refl refl
    then made number_two refl refl tt refl
    then made number_two refl refl refl ((refl, refl), tt)
    then made number_two refl refl tt refl
    then made number_two refl refl tt refl
    then made number_two refl refl tt refl
    then made number_two refl refl tt refl
    then made number_one refl refl refl refl
    then made number_one refl refl tt refl
    then made number_one refl refl (λ z. omega (arith, z)) refl
    then made number_two refl refl refl refl
    then made number_two refl refl tt refl
    then made number_two refl refl tt refl
    then made number_two refl refl tt refl
    then made number_two refl refl tt refl
    then made number_two refl refl (refl, waiters-small 2 (omega arith)) (refl, refl)
    then made number_two refl refl tt refl
    then made number_one refl refl (owner-waiters 2) refl
    then made number_one refl refl refl ((free_behind 2, refl), tt)
    then made number_one refl refl tt refl
    then made number_one refl refl tt refl
    then made number_one refl refl tt refl
    then made number_one refl refl tt refl
    then made number_one refl refl refl refl
    then made number_one refl refl tt refl
    then made number_one refl refl tt refl
    then made number_one refl refl tt refl
    then made number_one refl refl tt refl
    then made number_one refl refl (refl, λ z. omega (arith, z, waiters-with_waiters 1)) (refl, refl)
    then made number_one refl refl (tt, none_asleep _ _ _ (λ u h. absurd cc)) refl
    then made number_two refl refl refl refl
    then made number_two refl refl tt refl
    then made number_two refl refl (λ z. omega (arith, z, waiters-with_waiters 1)) refl
    then made number_two refl refl (owner-waiters (with_waiters 1)) refl
    then made number_two refl refl refl ((free_behind (with_waiters 1), refl), tt)
    then made number_two refl refl tt refl
    then made number_two refl refl tt refl
    then made number_two refl refl tt refl
    then made number_two refl refl tt refl
    then made number_three refl refl refl refl
    then made number_three refl refl tt refl
    then made number_three refl refl (λ z. owned_two (ap owner z ∙ owner-small 0 (omega arith))) refl
    then made number_three refl refl (λ z. owned_two z) refl
    then made number_three refl refl refl refl
    then made number_three refl refl refl refl
    then made number_two refl refl refl refl
    then made number_two refl refl tt refl
    then made number_two refl refl tt refl
    then made number_two refl refl tt refl
    then made number_two refl refl tt refl
    then made number_two refl refl (refl, λ z. omega (arith, z, waiters-with_waiters (with_waiters 2))) (refl, refl)
    then made number_one refl refl (waiters-with_waiters (with_waiters 2)) refl
    then made number_one refl refl tt refl
    then made number_one refl refl refl refl
    then made number_one refl refl tt refl
    then made number_one refl refl refl ((refl, refl), tt)
    then made number_one refl refl tt refl
    then made number_one refl refl tt refl
    then made number_one refl refl tt refl
    then made number_one refl refl tt refl
    then made number_two tt refl tt (refl, refl)
    then made number_two refl refl tt refl
    then made number_two refl refl (λ z. omega (arith, z, owner-small 1 (omega arith))) refl
    then made number_two refl refl tt (refl, tt)
    then made number_two refl refl (none_asleep _ _ _ (λ u h. waits_for_lock u 2 h)) refl
    then made number_one refl refl refl refl
    then made number_one refl refl tt refl
    then made number_one refl refl tt refl
    then made number_one refl refl tt refl
    then made number_one refl refl tt refl
    then made number_one refl refl (refl, waiters-small 1 (omega arith)) (refl, refl)
    then made number_one refl refl tt refl
    then made number_one refl refl tt refl
    then made number_one refl refl tt refl
    then made number_one refl refl tt (refl, tt)
    then made number_one refl refl (none_asleep _ _ _ (λ u h. waits_for_lock u 1 h)) refl
    then tt

pub cleared_loses : LosesWake Cleared cleared_run
cleared_loses = record {
  leads = all_lead (opening_under One Cleared) (first_table 64) cleared_run cleared_made;
  permits = all_permitted (opening_under One Cleared) (first_table 64) cleared_run cleared_made;
  lost = record {
    at_rest = still Cleared cleared_run refl (λ h. h.1) (λ h. h.1) (λ h. h.1) (λ h. let z = h.0 in absurd cc);
    sleeper = 3;
    spot = OnLock 0;
    asleep = refl;
    action = Enters 0 false;
    next = (false, refl);
    behind = _;
    allowed = (refl, refl);
  };
}

pub tidied_loses : LosesWake Tidied tidied_run
tidied_loses = record {
  leads = all_lead (opening_under One Tidied) (first_table 64) tidied_run tidied_made;
  permits = all_permitted (opening_under One Tidied) (first_table 64) tidied_run tidied_made;
  lost = record {
    at_rest = still Tidied tidied_run refl (λ h. h.1) (λ h. h.1) (λ h. h.1) (λ h. let z = h.0 in absurd cc);
    sleeper = 3;
    spot = OnLock 0;
    asleep = refl;
    action = Enters 0 false;
    next = (false, refl);
    behind = _;
    allowed = (refl, refl);
  };
}
