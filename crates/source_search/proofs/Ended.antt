-- Which states may end, and what follows where all kept ones may, or where none of those that cover a state is an end.
use Rattle.std.proofs.Common.{◌≡◌, ◌<◌, ℕ, zero, suc, Bool, List, [], ◌∷◌, ◌++◌, length, slice_get, Option, Some, None, All}
use Rattle.std.proofs.Common.{MatchBool, refl, sym, ap, ◌∙◌, subst, true, false}
use Rattle.std.proofs.lemmas.List.Elements.{All-contains}
use Rattle.std.proofs.lemmas.Option.{slice_get_within}
use Rattle.program.specs.Trees.{Program}
use Rattle.program.specs.WellFormed.{WellFormed}
use Rattle.meaning.specs.Labels.{Action, Label}
use Rattle.meaning.specs.Offers.{Effect, TakesUp, offer}
use Rattle.meaning.specs.Processes.{Before, Dying, Entering, Failing, Joining, Leaving, Over, Process, Returning, Suspended}
use Rattle.meaning.specs.Runs.{IsAction}
use Rattle.meaning.specs.States.{SourceState, opening}
use Rattle.meaning.specs.Values.{Variables}
use Rattle.meaning.proofs.Led.{leads_on}
use Rattle.proof_exploration.specs.Blocking.{ComesTo, GoesOn}
use Rattle.proof_exploration.specs.Exploring.{IsLike, IsOver, LeadsAlone}
use Rattle.proof_exploration.specs.Searching.{IsCovered, IsKept}
use Rattle.proof_exploration.proofs.Alike.{Alike, like_back, like_run, like_trans}
use Rattle.proof_exploration.proofs.Arriving.{Arrives, LeadsCalmly, arrives, calm_alone}
use Rattle.proof_exploration.proofs.Lasting.{on_like}
use Rattle.proof_exploration.proofs.Representing.{own_leads}
use Rattle.proof_exploration.proofs.Searching.{alone_leads}
use Rattle.source_search.specs.Bounds.{AreAll}
use Rattle.source_search.specs.Ending.{EachMayEnd}
use Rattle.source_search.specs.Ends.{IsEndable, IsEnded, IsLostAt, MayEnd}
use Rattle.source_search.specs.Found.{is_any}
use Rattle.source_search.specs.Kept.{IsSeen}
use Rattle.source_search.specs.Living.{IsClosedOver}
use Rattle.source_search.specs.Packed.{some_process, unpacked}
use Rattle.source_search.specs.declared.outside.Outside.{Outside}
use Rattle.source_search.specs.declared.packed.Packed.{Packed as PackedOf}
use Rattle.source_search.specs.declared.parts.Parts.{Parts as PartsOf}
use Rattle.source_search.proofs.Keeping.{none_whole}
use Rattle.source_search.proofs.Searched.{are_own, closed}

one_process : (a c : Process) → Some a ≡ Some c → a ≡ c
one_process a c e = cc

-- whether the process of a part is over, by where it stands
pub part_decided : (o : Option Process) (at : Process) (b : Bool) → o ≡ Some at → MatchBool b (IsOver at) (IsOver at → ⊥)
    → MatchBool b ((q : Process) → o ≡ Some q → IsOver q) ((q : Process) × (o ≡ Some q) × (IsOver q → ⊥))
part_decided o at true there over = λ q stands. subst IsOver (one_process at q (sym there ∙ stands)) over
part_decided o at false there on = (at, there, on)

pub ended_like : (s r : SourceState) → IsLike s r → IsEnded s → IsEnded r
ended_like s r like ended q on = ended q (on_like r s q (like_back s r like) on)

-- a kept state in which every process is over
pub ended_each : (parts : PartsOf) (x : PackedOf)
    → ((k : ℕ) → k < length x.processes.items → GoesOn (unpacked parts x) (suc k) → ⊥) → IsEnded (unpacked parts x)
ended_each parts x over zero on = let no : None ≡ Some on.0 = on.1 in cc
ended_each parts x over (suc j) on = here (slice_get x.processes.items j) refl
  where
    here : (o : Option ℕ) → slice_get x.processes.items j ≡ o → ⊥
    here (Some n) e = over j (slice_get_within x.processes.items j n e) on
    here None e = let no : None ≡ Some on.0 = sym (ap (some_process parts.processes.items) e) ∙ on.1 in cc

-- who is over offers nothing
over_rests : (p : Program) (v : Variables) (b : Process) (l : Label) (f : Effect) (r : Process)
    → TakesUp (offer p v b) l f r → IsOver b → ⊥
over_rests p v (Over end) l f r takes over = takes
over_rests p v (Entering m g callers) l f r takes over = over
over_rests p v (Before entered g callers) l f r takes over = over
over_rests p v (Suspended c g callers) l f r takes over = over
over_rests p v (Joining child into part g callers) l f r takes over = over
over_rests p v (Returning z callers) l f r takes over = over
over_rests p v (Failing fault entered g callers) l f r takes over = over
over_rests p v (Dying cause ms) l f r takes over = over
over_rests p v (Leaving z) l f r takes over = over

module _ (p : Program) where
  ended_rests : (e s' : SourceState) (a : Action) → IsEnded e → IsAction p e a s' → ⊥
  ended_rests e s' a ended x =
      ended a.process (x.before, x.stands, over_rests p e.variable x.before x.label x.effect x.after x.acts)

  then_on : (xs ys : List Action) (a mid b : SourceState) → LeadsAlone p a xs mid → LeadsAlone p mid ys b
      → LeadsAlone p a (xs ++ ys) b
  then_on [] ys a mid b first second = subst (λ s. LeadsAlone p s ys b) (sym first) second
  then_on (x ∷ xs) ys a mid b first second = (first.0, first.1, then_on xs ys first.0 mid b first.2 second)

  -- what may end behind actions may end before them
  may_back : (xs : List Action) (s r : SourceState) → LeadsAlone p s xs r → MayEnd p r → MayEnd p s
  may_back xs s r led may = (xs ++ may.0, may.1, then_on xs may.0 s r may.1 led may.2, may.3)

  pub end_here : (s : SourceState) → IsEnded s → IsEndable p s
  end_here s ended actions e run like = ([], e, refl, ended_like s e (like_back e s like) ended)

  pub end_back : (s r : SourceState) → ComesTo p s r → IsEndable p r → IsEndable p s
  end_back s r comes endable actions e run like =
      let moved : Alike p false e comes.0 comes.1 = like_run p false comes.0 s e comes.1 (like_back e s like) comes.2 in
      may_back comes.0 e moved.0 moved.1
      (endable (actions ++ comes.0) moved.0
      (leads_on p (opening p) e moved.0 actions comes.0 run (alone_leads p e moved.0 comes.0 moved.1))
      (like_trans moved.0 comes.1 r moved.2 comes.3))

-- a state can't end where those that cover it, and whatever comes next after them, are no ends
pub lost_here : (p : Program) → WellFormed p → (kept : List SourceState) (s : SourceState) → IsClosedOver p kept s
    → All (λ r. IsEnded r → ⊥) kept → IsLostAt p s
lost_here p wf kept s over none actions run may =
    let is : Arrives p kept may.1 =
    arrives p wf kept over.expanded may.0 actions s may.1 run over.covered may.2 in
    at_end is.0 is.1 is.2 is.3
  where
    at_end : (more : List Action) (r : SourceState) → LeadsCalmly p may.1 more r → IsKept kept r → ⊥
    at_end [] r led is =
        All-contains (λ q. IsEnded q → ⊥) kept is.0 none is.1
        (ended_like r is.0 (like_back is.0 r is.2) (subst IsEnded led may.3))
    at_end (a ∷ more) r led is = ended_rests p may.1 led.0 a may.3 led.1

-- where nothing from outside is searched, and each kept state may end, so may whatever a run leads to
pub each_may_end : (p : Program) → WellFormed p → (may : Outside) (kept : List SourceState) → AreAll p may kept
    → is_any may ≡ false → All (IsEndable p) kept → EachMayEnd p may
each_may_end p wf may kept all none endable actions s run from =
    let opens : (n : ℕ) × IsCovered p kept n (opening p) =
    subst (λ b. IsSeen p b kept (opening p)) (none_whole may none) all.opens in
    let own : LeadsAlone p (opening p) actions s =
    own_leads p (opening p) s actions run (are_own may actions none from.0 from.1) in
    let is : Arrives p kept s =
    arrives p wf kept (closed p may kept all.expanded none) actions [] (opening p) s refl opens own in
    let calm : LeadsAlone p s is.0 is.1 = calm_alone p s is.1 is.0 is.2 in
    may_back p is.0 s is.1 calm
    (All-contains (IsEndable p) kept is.3.0 endable is.3.1 (actions ++ is.0) is.1
    (leads_on p (opening p) s is.1 actions is.0 run (alone_leads p s is.1 is.0 calm))
    (like_back is.3.0 is.1 is.3.2))
