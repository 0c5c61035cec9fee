-- What is tried of a process beside its own actions: its stray wake-up, and its kills.
use Rattle.std.proofs.Common.{◌≡◌, ◌≤◌, ℕ, Bool, true, false, List, [], ◌∷◌, ◌++◌, Some, None, Contains}
use Rattle.std.proofs.Common.{refl, sym, ◌∙◌, subst, arith, inl, inr}
use Rattle.std.proofs.lemmas.List.Elements.{Contains-append_left, Contains-append_right, Contains-push}
use Rattle.program.specs.declared.kinds.Member.{Member}
use Rattle.program.specs.Trees.{Program}
use Rattle.meaning.specs.Labels.{Action, Kill, Kind, Stray}
use Rattle.meaning.specs.Runs.{IsAction, IsKill}
use Rattle.meaning.specs.States.{SourceState}
use Rattle.meaning.specs.Table.{Table}
use Rattle.source_reaching.specs.Choices.{AreOwnChoices, by}
use Rattle.source_search.specs.Choices.{AreChoices, AreKills, HasKills, HasStray}
use Rattle.source_search.specs.Found.{IsFrom, killed_in}
use Rattle.source_search.specs.declared.outside.Outside.{Outside}

some_once : {A : Type 0} (x y : A) → Some x ≡ Some y → x ≡ y
some_once x y e = cc

-- what a process may do of its own, its stray wake-up where that is searched, and its kills where there may be one more
pub all_choices : (p : Program) (may : Outside) (s : SourceState) (n : ℕ) (own others actions : List Action)
    → AreOwnChoices p s n own → HasStray may.strays s.table n own others → HasKills p may.kills s n others actions
    → AreChoices p may s n actions
all_choices p may s n own others actions are stray kills kind s' from (inl x) =
    let tried : (k : Kind) × Contains own (by n k) × IsAction p s (by n k) s' = are kind s' x in
    (by n tried.0, kills.all (by n tried.0) (stray.all (by n tried.0) tried.1), inl tried.2)
all_choices p may s n own others actions are stray kills kind s' from (inr (inl x)) = (
  by n (Stray x.0),
  kills.all (by n (Stray x.0)) (stray.stray x.0 (subst (IsFrom may s) x.1 from) x.2.allows.0),
  inr (inl (x.0, refl, x.2)),
)
all_choices p may s n own others actions are stray kills kind s' from (inr (inr x)) =
    let found : (r : List ℕ) × Contains actions (by n (Kill r x.1)) × IsKill p s n r x.1 s' =
    kills.each (subst (IsFrom may s) x.2 from) x.0 x.1 s' x.3 in
    (by n (Kill found.0 x.1), found.1, inr (inr (found.0, x.1, refl, found.2)))

module _ (strays : Bool) (t : Table) (n : ℕ) (own : List Action) where
  pub not_searched : strays ≡ false → HasStray strays t n own own
  not_searched e = record {
    all = λ a i. i;
    stray = λ c searched waits. absurd (let differ : true ≡ false = sym searched ∙ e in cc);
  }

  pub not_waiting : t.waits n ≡ None → HasStray strays t n own own
  not_waiting e = record {
    all = λ a i. i;
    stray = λ c searched waits. absurd (let differ : Some c ≡ None = sym waits ∙ e in cc);
  }

  pub waiting : (c : Member) (actions : List Action) → t.waits n ≡ Some c → actions ≡ own ++ by n (Stray c) ∷ []
      → HasStray strays t n own actions
  waiting c actions e is = record {
    all = λ a i. subst (λ l. Contains l a) (sym is) (Contains-append_left own (by n (Stray c) ∷ []) a i);
    stray = λ d searched waits. subst (λ l. Contains l (by n (Stray d))) (sym is)
        (subst (λ x. Contains (own ++ by n (Stray c) ∷ []) (by n (Stray x))) (some_once c d (sym e ∙ waits))
        (Contains-push own (by n (Stray c))));
  }

-- kills behind what else may be done
module _ (p : Program) (kills : ℕ) (s : SourceState) (n : ℕ) (others : List Action) where
  pub no_more : kills ≤ killed_in s → HasKills p kills s n others others
  no_more full = record { all = λ a i. i; each = λ less. absurd (omega (arith, full, less)) }

  pub some_more : (more actions : List Action) → AreKills p s n more → actions ≡ others ++ more
      → HasKills p kills s n others actions
  some_more more actions are is = record {
    all = λ a i. subst (λ l. Contains l a) (sym is) (Contains-append_left others more a i);
    each = λ less resumed last s' x.
        let found : (r : List ℕ) × Contains more (by n (Kill r last)) × IsKill p s n r last s' =
        are resumed last s' x in (
          found.0,
          subst (λ l. Contains l (by n (Kill found.0 last))) (sym is)
              (Contains-append_right others more (by n (Kill found.0 last)) found.1),
          found.2,
        );
  }
