-- Worlds that moves lead to, and the memories that hold their words.
use Rattle.std.proofs.Common.{◌≡◌, ℕ, Bool, true, Option, List, [], ◌∷◌, ◌++◌, refl, ap, sym, ◌∙◌, subst}
use Rattle.words.specs.Updates.{put}
use Rattle.words.specs.declared.version.ImageVersion.{ImageVersion}
use Rattle.words.specs.Versions.{most_of}
use Rattle.meaning.specs.Table.{Table, first_table}
use Rattle.protocol.specs.Points.{Spot, Thread as Place}
use Rattle.protocol.specs.World.{World, opening_world}
use Rattle.protocol.specs.Moves.{Move}
use Rattle.protocol.specs.Steps.{Can, after}
use Rattle.protocol.specs.Carries.{table_after}
use Rattle.protocol.specs.Runs.{Leads, last_table}
use Rattle.protocol.specs.Cells.{Cell, LockOf, LinkOf, HeadOf, PendingOf, IdOf, ClaimOf, ResultOf, OutcomeOf}
use Rattle.protocol.specs.Cells.{SequenceOf, cell, write}
use Rattle.protocol.specs.Exits.{Shares, sleep_address}
use Rattle.protocol.specs.Memory.{Agrees, stored_value, IsApart}
use Rattle.protocol.proofs.Good.{Good}
use Rattle.protocol.proofs.Rest.{good_run, most_kept}
use Rattle.robustexit.specs.RobustExit.{Shared}
use Rattle.proof_simulation.specs.Corresponding.{Reached}
use Rattle.words.proofs.Updates.{at_put, put_same, put_other}
use Rattle.protocol.proofs.Stores.{stores_follow}

leads_on : (ss : List (ℕ × Move)) (w w' : World) (t : ℕ) (m : Move) → Leads w ss w' → Can w' t m
    → Leads w (ss ++ (t, m) ∷ []) (after w' t m)
leads_on [] w w' t m run can =
    (subst (λ (x : World). Can x t m) run can, ap (λ (x : World). after x t m) run)
leads_on (s ∷ ss) w w' t m run can = (run.0, leads_on ss (after w s.0 s.1) w' t m run.1 can)

table_on : (ss : List (ℕ × Move)) (w w' : World) (T : Table) (t : ℕ) (m : Move) → Leads w ss w'
    → last_table w T (ss ++ (t, m) ∷ []) ≡ table_after w' (last_table w T ss) t m
table_on [] w w' T t m run = ap (λ (x : World). table_after x T t m) (sym run)
table_on (s ∷ ss) w w' T t m run = table_on ss (after w s.0 s.1) w' (table_after w T s.0 s.1) t m run.1

pub reached_on : (version : ImageVersion) (w : World) (T : Table) (t : ℕ) (m : Move) → Reached version w T → Can w t m
    → Reached version (after w t m) (table_after w T t m)
reached_on version w T t m r can = record {
  moves = r.moves ++ (t, m) ∷ [];
  led = leads_on r.moves (opening_world version) w t m r.led can;
  table = ap (λ (x : Table). table_after w x t m) r.table
      ∙ sym (table_on r.moves (opening_world version) w (first_table (most_of version)) t m r.led);
}

pub reached_good : (version : ImageVersion) (w : World) (T : Table) → Reached version w T → Good w T
reached_good version w T r = subst (λ (x : Table). Good w x) (sym r.table) (good_run version r.moves w r.led)

pub reached_most : (version : ImageVersion) (w : World) (T : Table) → Reached version w T → w.most ≡ most_of version
reached_most version w T r = most_kept r.moves (opening_world version) w r.led

-- where threads stand, and how many there are, is no word
same_cells : (w : World) (at : ℕ → Place) (made : ℕ) (asleep : ℕ → Option Spot) (a : Cell)
    → cell (record w { at = at; made = made; asleep = asleep }) a ≡ cell w a
same_cells w at made asleep (LockOf m) = refl
same_cells w at made asleep (LinkOf m) = refl
same_cells w at made asleep (HeadOf t) = refl
same_cells w at made asleep (PendingOf t) = refl
same_cells w at made asleep (IdOf t) = refl
same_cells w at made asleep (ClaimOf t) = refl
same_cells w at made asleep (ResultOf t) = refl
same_cells w at made asleep (OutcomeOf t) = refl
same_cells w at made asleep (SequenceOf c) = refl

module _ (place : Cell → ℕ) (valid : Cell → Bool) where
  pub agrees_at : (memory : ℕ → ℕ) (w : World) (at : ℕ → Place) (made : ℕ) (asleep : ℕ → Option Spot)
      → Agrees place valid memory w → Agrees place valid memory (record w { at = at; made = made; asleep = asleep })
  agrees_at memory w at made asleep h = record {
    word = λ a ok. h.word a ok ∙ ap (stored_value place a) (sym (same_cells w at made asleep a));
  }

  pub shares_at : (s : Shared) (w : World) (at : ℕ → Place) (made : ℕ) → Shares place valid s w
      → Shares place valid s (record w { at = at; made = made })
  shares_at s w at made h = record {
    words = agrees_at s.word w at made w.asleep h.words;
    sleeps = h.sleeps;
    spots = h.spots;
  }

  -- a store, with threads anywhere
  pub shares_stored : IsApart place valid → (s : Shared) (w : World) (a : Cell) (v : ℕ) → valid a ≡ true
      → Shares place valid s w
      → Shares place valid (record { word = put s.word (place a) (stored_value place a v); asleep = s.asleep })
      (write w a v)
  shares_stored apart s w a v ok h = record {
    words = stores_follow place valid s.word w a v apart ok h.words;
    sleeps = λ u. h.sleeps u ∙ ap (λ (f : ℕ → Option Spot). sleep_address place (f u)) (sym (same_sleep w a v));
    spots = λ u x e. h.spots u x (ap (λ (f : ℕ → Option Spot). f u) (sym (same_sleep w a v)) ∙ e);
  }
    where
      same_sleep : (w : World) (a : Cell) (v : ℕ) → (write w a v).asleep ≡ w.asleep
      same_sleep w (LockOf m) v = refl
      same_sleep w (LinkOf m) v = refl
      same_sleep w (HeadOf t) v = refl
      same_sleep w (PendingOf t) v = refl
      same_sleep w (IdOf t) v = refl
      same_sleep w (ClaimOf t) v = refl
      same_sleep w (ResultOf t) v = refl
      same_sleep w (OutcomeOf t) v = refl
      same_sleep w (SequenceOf c) v = refl

  -- a result that stays
  pub shares_result : (s : Shared) (w : World) (t : ℕ) → Shares place valid s w
      → Shares place valid s (record w { result = put w.result t (w.result t) })
  shares_result s w t h = record {
    words = record { word = λ a ok. h.words.word a ok ∙ ap (stored_value place a) (sym (same w t a)) };
    sleeps = h.sleeps;
    spots = h.spots;
  }
    where
      same : (w : World) (t : ℕ) (a : Cell) → cell (record w { result = put w.result t (w.result t) }) a ≡ cell w a
      same w t (LockOf m) = refl
      same w t (LinkOf m) = refl
      same w t (HeadOf u) = refl
      same w t (PendingOf u) = refl
      same w t (IdOf u) = refl
      same w t (ClaimOf u) = refl
      same w t (ResultOf u) = at_put w.result t (w.result t) u (λ x. x ≡ w.result u) (λ e. ap w.result (sym e))
          (λ o. refl)
      same w t (OutcomeOf u) = refl
      same w t (SequenceOf c) = refl

-- two changes at one place
pub put_put : {A : Type 0} (f : ℕ → A) (t : ℕ) (a b : A) → put (put f t a) t b ≡ put f t b
put_put f t a b = λ i u. same u i
  where
    same : (u : ℕ) → put (put f t a) t b u ≡ put f t b u
    same u = at_put f t b u (λ x. put (put f t a) t b u ≡ x) (λ e. subst
        (λ v. put (put f t a) t b v ≡ b) (sym e) (put_same (put f t a) t b))
        (λ o. put_other (put f t a) t b u o ∙ put_other f t a u o)
