-- What a process that keeps to the rules of monitors offers to do keeps to them.
use Rattle.std.proofs.Common.{◌≡◌, ◌⊎◌, ℕ, zero, suc, ℤ, pos, negsuc, Bool, true, false, List, [], ◌∷◌, Option, Some}
use Rattle.std.proofs.Common.{None, slice_get, refl, sym, ◌∙◌, inl, inr, subst}
use Rattle.std.proofs.lemmas.Bool.{cases_eq}
use Rattle.words.specs.declared.outcome.Fault.{Fault}
use Rattle.words.specs.declared.outcome.Fault.TheVariants.{ProcessTableFull, HandleNotJoinable}
use Rattle.program.specs.declared.kinds.Member.{Member}
use Rattle.program.specs.declared.kinds.Role.{Role}
use Rattle.program.specs.declared.kinds.Role.TheVariants.{Entry, Internal, Recover, External, Main}
use Rattle.program.specs.Scope.{Scope, own_monitor, scope_of, recover_of, array_size}
use Rattle.program.specs.Trees.{Expression, Target, ToLocal, ToMember, ToElement, Statement, Assign, If, While, Call}
use Rattle.program.specs.Trees.{Fork, Join, Return, Wait, Notify, Broadcast, Print, Abort, Block, Done, Then, Part}
use Rattle.program.specs.Trees.{NoPart, SomePart, Procedure, Program, followed_by, block_of_part}
use Rattle.program.specs.Typing.{Fits, BlockFits, PartFits, MayCall, MayBeForked}
use Rattle.program.specs.WellFormed.{WellFormed}
use Rattle.meaning.specs.Values.{Variables, Evaluated, Value, Fails, EvaluatedAll, Values, FailsAll, evaluate}
use Rattle.meaning.specs.Values.{evaluate_all, index_in, is_true}
use Rattle.meaning.specs.Labels.{End, Ended, Aborted, Kind, Alone, Stores}
use Rattle.meaning.specs.Labels as L
use Rattle.meaning.specs.Processes.{Frame, Caller, Process, Entering, Before, Suspended, Joining, Returning, Failing}
use Rattle.meaning.specs.Processes.{Dying, Leaving, Over, goes_on, goes_on_by, begins, opening_frame, recovers}
use Rattle.meaning.specs.Processes.{recovers_by, with_local, with_result, hands_over, callers_monitors, all_monitors}
use Rattle.meaning.specs.Processes.{monitor_of_role, holds, without_monitor}
use Rattle.meaning.specs.Offers.{Effect, Nothing, Puts, Writes, Offer, with_value, with_values, with_index, faults}
use Rattle.meaning.specs.Offers.{dies, answers, chosen_block, after_join, claims, assigns, return_value}
use Rattle.meaning.specs.Offers.{statement_offer, rest_offer, offer}
use Rattle.meaning.proofs.Members.{IsIn, IsDistinct, in_without, in_with}
use Rattle.meaning.proofs.Discipline.{RestFits, StandsOn, CallersFit, StackFits, PartLeads, ProcessFits, Keeps, Given}
use Rattle.meaning.proofs.Discipline.{Moves, EffectFits, IsSilent, ActFits, TakesFits, OfferFits}

follow : (s : Scope) (b later : Block) → BlockFits s b → BlockFits s later → BlockFits s (followed_by b later)
follow s Done later fits rest = rest
follow s (Then first b) later fits rest = (fits.0, follow s b later fits.1 rest)

part_block : (s : Scope) (part : Part) → PartFits s part → BlockFits s (block_of_part part)
part_block s NoPart fits = tt
part_block s (SomePart b) fits = fits

either : (s : Scope) (t : Bool) (b c : Block) → BlockFits s b → BlockFits s c → BlockFits s (chosen_block t b c)
either s true b c x y = x
either s false b c x y = y

-- who runs in a procedure of a monitor holds it
pub owned : (role : Role) (cs : List Caller) (m : ℕ) → own_monitor role ≡ Some m → StandsOn role cs
    → IsIn (monitor_of_role role (callers_monitors cs)) m
owned (Entry n) cs m own stands = inl (let e : n ≡ m = cc in sym e)
owned (Internal n) cs m own stands =
    let e : n ≡ m = cc in subst (λ (k : ℕ). IsIn (callers_monitors cs) k) e stands
owned (Recover n) cs m own stands =
    let e : n ≡ m = cc in subst (λ (k : ℕ). IsIn (callers_monitors cs) k) e stands
owned External cs m own stands = absurd (cc)
owned Main cs m own stands = absurd (cc)

module _ (p : Program) where
  before : (entered : Option ℕ) (f : Frame) (cs : List Caller) → StackFits p f cs → IsDistinct (all_monitors f cs)
      → Keeps p (all_monitors f cs) (Before entered f cs)
  before entered f cs stack distinct = ((stack, distinct), refl)

  resumed : (m : ℕ) (locals : List ℤ) (entered : Option ℕ) (cs : List Caller)
      → StackFits p (record { role = Recover m; locals = locals; rest = Done }) cs
      → IsDistinct (callers_monitors cs)
      → Keeps p (callers_monitors cs)
      (goes_on_by (Recover m) Done entered (record { role = Recover m; locals = locals; rest = Done }) cs)
  resumed m locals entered [] stack distinct = absurd stack.1
  resumed m locals entered (c ∷ cs) stack distinct = ((stack.2, distinct), refl)

  left_main : (cs : List Caller) → cs ≡ [] → Keeps p (callers_monitors cs) (Leaving (pos 0))
  left_main [] e = (tt, refl)
  left_main (c ∷ cs) e = absurd (cc)

  main_goes_on : (locals : List ℤ) (first : Statement) (rest : Block) (entered : Option ℕ) (cs : List Caller)
      → StackFits p (record { role = Main; locals = locals; rest = Then first rest }) cs
      → IsDistinct (callers_monitors cs)
      → Keeps p (callers_monitors cs)
      (goes_on_by Main (Then first rest) entered (record { role = Main; locals = locals; rest = Then first rest }) cs)
  main_goes_on locals (Assign t e) rest entered cs stack distinct = ((stack, distinct), refl)
  main_goes_on locals (If e b part) rest entered cs stack distinct = ((stack, distinct), refl)
  main_goes_on locals (While e b) rest entered cs stack distinct = ((stack, distinct), refl)
  main_goes_on locals (Call q es into) rest entered cs stack distinct = ((stack, distinct), refl)
  main_goes_on locals (Fork q es into) rest entered cs stack distinct = ((stack, distinct), refl)
  main_goes_on locals (Join e into part) rest entered cs stack distinct = ((stack, distinct), refl)
  main_goes_on locals (Return value) rest entered cs stack distinct = left_main cs stack.1
  main_goes_on locals (Wait c) rest entered cs stack distinct = ((stack, distinct), refl)
  main_goes_on locals (Notify c) rest entered cs stack distinct = ((stack, distinct), refl)
  main_goes_on locals (Broadcast c) rest entered cs stack distinct = ((stack, distinct), refl)
  main_goes_on locals (Print e) rest entered cs stack distinct = ((stack, distinct), refl)
  main_goes_on locals Abort rest entered cs stack distinct = ((stack, distinct), refl)

  role_goes_on : (role : Role) (locals : List ℤ) (rest : Block) (entered : Option ℕ) (cs : List Caller)
      → StackFits p (record { role = role; locals = locals; rest = rest }) cs
      → IsDistinct (monitor_of_role role (callers_monitors cs))
      → Keeps p (monitor_of_role role (callers_monitors cs))
      (goes_on_by role rest entered (record { role = role; locals = locals; rest = rest }) cs)
  role_goes_on (Entry m) locals rest entered cs stack distinct = ((stack, distinct), refl)
  role_goes_on (Internal m) locals rest entered cs stack distinct = ((stack, distinct), refl)
  role_goes_on External locals rest entered cs stack distinct = ((stack, distinct), refl)
  role_goes_on (Recover m) locals Done entered cs stack distinct = resumed m locals entered cs stack distinct
  role_goes_on (Recover m) locals (Then first rest) entered cs stack distinct = ((stack, distinct), refl)
  role_goes_on Main locals Done entered cs stack distinct = left_main cs stack.1
  role_goes_on Main locals (Then first rest) entered cs stack distinct =
      main_goes_on locals first rest entered cs stack distinct

  on : (entered : Option ℕ) (f : Frame) (cs : List Caller) → StackFits p f cs → IsDistinct (all_monitors f cs)
      → Keeps p (all_monitors f cs) (goes_on entered f cs)
  on entered f cs stack distinct = role_goes_on f.role f.locals f.rest entered cs stack distinct

  with_result_on : (into : Option ℕ) (z : ℤ) (f : Frame) (cs : List Caller) → StackFits p f cs
      → IsDistinct (all_monitors f cs) → Keeps p (all_monitors f cs) (goes_on None (with_result into z f) cs)
  with_result_on None z f cs stack distinct = on None f cs stack distinct
  with_result_on (Some slot) z f cs stack distinct = on None (with_local f slot z) cs stack distinct

  handed : (z : ℤ) (cs : List Caller) → CallersFit p cs → IsDistinct (callers_monitors cs)
      → Keeps p (callers_monitors cs) (hands_over z cs)
  handed z [] fits distinct = (tt, refl)
  handed z (c ∷ cs) fits distinct = with_result_on c.into z c.frame cs fits distinct

  role_begins : (role : Role) (locals : List ℤ) (rest : Block) (cs : List Caller)
      → StackFits p (record { role = role; locals = locals; rest = rest }) cs
      → IsDistinct (callers_monitors cs)
      → Keeps p (callers_monitors cs) (begins (record { role = role; locals = locals; rest = rest }) cs)
  role_begins (Entry m) locals rest cs stack distinct = ((refl, stack, distinct), refl)
  role_begins (Internal m) locals rest cs stack distinct = role_goes_on (Internal m) locals rest None cs stack distinct
  role_begins External locals rest cs stack distinct = role_goes_on External locals rest None cs stack distinct
  role_begins (Recover m) locals rest cs stack distinct = role_goes_on (Recover m) locals rest None cs stack distinct
  role_begins Main locals rest cs stack distinct = role_goes_on Main locals rest None cs stack distinct

  pub begun : (f : Frame) (cs : List Caller) → StackFits p f cs → IsDistinct (callers_monitors cs)
      → Keeps p (callers_monitors cs) (begins f cs)
  begun f cs stack distinct = role_begins f.role f.locals f.rest cs stack distinct

  module _ (wf : WellFormed p) where
    -- the body of a procedure fits its role
    body_fits : (n : ℕ) (q : Procedure) → slice_get p.procedures n ≡ Some q → RestFits p q.role q.body
    body_fits n q is = (scope_of p q, refl, refl, (wf.procedures n q is).body)

    pub opened : (n : ℕ) (q : Procedure) (zs : List ℤ) (cs : List Caller) → slice_get p.procedures n ≡ Some q
        → StandsOn q.role cs → CallersFit p cs → StackFits p (opening_frame p n zs) cs
    opened n q zs cs is stands fits = rw is (body_fits n q is, stands, fits)

    opened_monitors : (n : ℕ) (q : Procedure) (zs : List ℤ) (cs : List Caller) (m : ℕ)
        → slice_get p.procedures n ≡ Some q → q.role ≡ Recover m
        → all_monitors (opening_frame p n zs) cs ≡ callers_monitors cs
    opened_monitors n q zs cs m is role = rw (is, role) refl

    recovered_by : (o : Option ℕ) (m : ℕ) (f : Frame) (cs : List Caller) → recover_of p m ≡ o → StackFits p f cs
        → IsDistinct (all_monitors f cs) → IsIn (all_monitors f cs) m
        → Keeps p (all_monitors f cs) (recovers_by p o m f cs)
    recovered_by None m f cs is stack distinct held = (distinct, refl)
    recovered_by (Some r) m f cs is stack distinct held =
        let q : (q : Procedure) × (slice_get p.procedures r ≡ Some q) × (q.role ≡ Recover m) = wf.recovers m r is in
        let c : Caller = record { into = None; frame = f } in
        let same : all_monitors (opening_frame p r []) (c ∷ cs) ≡ all_monitors f cs =
        opened_monitors r q.0 [] (c ∷ cs) m q.1 q.2 in
        let new : StackFits p (opening_frame p r []) (c ∷ cs) =
        opened r q.0 [] (c ∷ cs) q.1
        (subst (λ (role : Role). StandsOn role (c ∷ cs)) (sym q.2) held) stack in
        let k : Keeps p (all_monitors (opening_frame p r []) (c ∷ cs))
        (goes_on (Some m) (opening_frame p r []) (c ∷ cs)) =
        on (Some m) (opening_frame p r []) (c ∷ cs) new
        (subst (λ (ms : List ℕ). IsDistinct ms) (sym same) distinct) in
        (k.0, k.1 ∙ same)

    recovered : (m : ℕ) (f : Frame) (cs : List Caller) → StackFits p f cs → IsDistinct (all_monitors f cs)
        → IsIn (all_monitors f cs) m → Keeps p (all_monitors f cs) (recovers p m f cs)
    recovered m f cs stack distinct held = recovered_by (recover_of p m) m f cs refl stack distinct held

  -- an action that changes nothing of what is held
  alone : (hs : List ℕ) (kind : Kind) → IsSilent kind → (e : Effect) (b : Process) → EffectFits p hs e → Keeps p hs b
      → ActFits p hs (Alone kind) e b
  alone hs kind silent e b effect keeps = record { fits = keeps.0; moves = keeps.1; effect = effect; label = silent }

  ends : (hs : List ℕ) (end : End) (b : Process) → Keeps p hs b → ActFits p hs (L.Ends end) Nothing b
  ends hs end b keeps = record { fits = keeps.0; moves = keeps.1; effect = tt; label = tt }

  dead : (fault : Fault) (f : Frame) (cs : List Caller) → IsDistinct (all_monitors f cs)
      → Keeps p (all_monitors f cs) (dies fault f cs)
  dead fault f cs distinct = (distinct, refl)

  faulty : (fault : Fault) (f : Frame) (cs : List Caller) → IsDistinct (all_monitors f cs)
      → OfferFits p (all_monitors f cs) (faults fault f cs)
  faulty fault f cs distinct =
      alone (all_monitors f cs) (L.Fails fault) tt Nothing (dies fault f cs) tt (dead fault f cs distinct)

  -- the first of these monitors is given up
  first_given : (m : ℕ) (ms : List ℕ) (w : Bool) → IsDistinct (m ∷ ms) → Moves (Given m w) (m ∷ ms) ms
  first_given m ms w distinct = (
    inl refl,
    λ n. (
      (λ is. ((λ (e : n ≡ m). distinct.0 (subst (λ (k : ℕ). IsIn ms k) e is)), inr is)),
      (λ is. later n is.0 is.1),
    ),
  )
    where
      later : (n : ℕ) → (n ≡ m → ⊥) → (n ≡ m) ⊎ IsIn ms n → IsIn ms n
      later n ne (inl e) = absurd (ne e)
      later n ne (inr is) = is

  answered : (role : Role) (z : ℤ) (cs : List Caller) → CallersFit p cs
      → IsDistinct (monitor_of_role role (callers_monitors cs))
      → OfferFits p (monitor_of_role role (callers_monitors cs)) (answers role z cs)
  answered (Entry m) z cs fits distinct = record {
    fits = (fits, distinct.1);
    moves = first_given m (callers_monitors cs) false distinct;
    effect = tt;
    label = tt;
  }
  answered (Internal m) z cs fits distinct =
      alone (callers_monitors cs) L.Return tt Nothing (hands_over z cs) tt (handed z cs fits distinct)
  answered External z cs fits distinct =
      alone (callers_monitors cs) L.Return tt Nothing (hands_over z cs) tt (handed z cs fits distinct)
  answered (Recover m) z cs fits distinct = tt
  answered Main z cs fits distinct = tt

  valued : (e : Evaluated) (f : Frame) (cs : List Caller) (go : ℤ → Offer) → IsDistinct (all_monitors f cs)
      → ((z : ℤ) → OfferFits p (all_monitors f cs) (go z)) → OfferFits p (all_monitors f cs) (with_value e f cs go)
  valued (Value z) f cs go distinct each = each z
  valued (Fails fault) f cs go distinct each = faulty fault f cs distinct

  all_valued : (e : EvaluatedAll) (f : Frame) (cs : List Caller) (go : List ℤ → Offer)
      → IsDistinct (all_monitors f cs) → ((zs : List ℤ) → OfferFits p (all_monitors f cs) (go zs))
      → OfferFits p (all_monitors f cs) (with_values e f cs go)
  all_valued (Values zs) f cs go distinct each = each zs
  all_valued (FailsAll fault) f cs go distinct each = faulty fault f cs distinct

  indexed : (i : Option ℕ) (f : Frame) (cs : List Caller) (go : ℕ → Offer) → IsDistinct (all_monitors f cs)
      → ((k : ℕ) → OfferFits p (all_monitors f cs) (go k)) → OfferFits p (all_monitors f cs) (with_index i f cs go)
  indexed None f cs go distinct each = faulty _ f cs distinct
  indexed (Some k) f cs go distinct each = each k

-- the next statement of a procedure, in its scope
module _ (p : Program) (wf : WellFormed p) (v : Variables) (s : Scope) (of : s.program ≡ p) (f : Frame)
    (role : s.role ≡ f.role) (cs : List Caller) (rest : BlockFits s f.rest) (stands : StandsOn f.role cs)
    (fits : CallersFit p cs) (distinct : IsDistinct (all_monitors f cs)) where
  stack : StackFits p f cs
  stack = ((s, of, role, rest), stands, fits)

  held : (m : ℕ) → own_monitor s.role ≡ Some m → IsIn (all_monitors f cs) m
  held m own = owned f.role cs m (subst (λ (r : Role). own_monitor r ≡ Some m) role own) stands

  goes_to : (b : Block) → BlockFits s b → Keeps p (all_monitors f cs) (goes_on None (record f { rest = b }) cs)
  goes_to b block = on p None (record f { rest = b }) cs ((s, of, role, block), stands, fits) distinct

  local_put : (slot : ℕ) (z : ℤ) → Keeps p (all_monitors f cs) (goes_on None (with_local f slot z) cs)
  local_put slot z = on p None (with_local f slot z) cs stack distinct

  goes : Keeps p (all_monitors f cs) (goes_on None f cs)
  goes = on p None f cs stack distinct

  stores : (m : Member) (i : ℕ) (z : ℤ) → own_monitor s.role ≡ Some m.monitor
      → ActFits p (all_monitors f cs) (Stores m.monitor) (Puts m.monitor m.number i z) (goes_on None f cs)
  stores m i z own =
      record { fits = goes.0; moves = goes.1; effect = held m.monitor own; label = tt }

  assigned : (target : Target) (e : Expression) → Fits s (Assign target e)
      → OfferFits p (all_monitors f cs) (assigns p v f cs target e)
  assigned (ToLocal slot) e is =
      valued p (evaluate p v f.locals e) f cs _ distinct (λ z.
      alone p (all_monitors f cs) L.Assign tt Nothing (goes_on None (with_local f slot z) cs) tt (local_put slot z))
  assigned (ToMember m) e is = valued p (evaluate p v f.locals e) f cs _ distinct (λ z. stores m 0 z is.1.0)
  assigned (ToElement a i) e is =
      valued p (evaluate p v f.locals i) f cs _ distinct (λ n.
      indexed p (index_in (array_size p a) n) f cs _ distinct (λ k.
      valued p (evaluate p v f.locals e) f cs _ distinct (λ z. stores a k z is.1.0.0)))

  claimed : (z : ℤ) (into : Option ℕ) (part : Part) → PartFits s part
      → OfferFits p (all_monitors f cs) (claims z into part f cs)
  claimed (pos zero) into part is = faulty p HandleNotJoinable f cs distinct
  claimed (pos (suc n)) into part is =
      (((leads part is, stack, distinct), refl), dead p HandleNotJoinable f cs distinct)
    where
      leads : (part : Part) → PartFits s part → PartLeads p f part
      leads NoPart is = tt
      leads (SomePart b) is = (s, of, role, follow s b f.rest is rest)
  claimed (negsuc n) into part is = faulty p HandleNotJoinable f cs distinct

  may_call : (callee : Role) → MayCall s.role callee → (into : Option ℕ)
      → StandsOn callee (record { into = into; frame = f } ∷ cs)
  may_call (Entry m) may into = tt
  may_call (Internal m) may into = held m may
  may_call External may into = tt
  may_call (Recover m) may into = absurd may
  may_call Main may into = absurd may

  may_fork : (callee : Role) → MayBeForked callee → StandsOn callee []
  may_fork (Entry m) may = tt
  may_fork (Internal m) may = absurd may
  may_fork External may = tt
  may_fork (Recover m) may = absurd may
  may_fork Main may = absurd may

  called : (q : ℕ) (es : List Expression) (into : Option ℕ) → Fits s (Call q es into) → (zs : List ℤ)
      → Keeps p (all_monitors f cs) (begins (opening_frame p q zs) (record { into = into; frame = f } ∷ cs))
  called q es into is zs =
      let at : slice_get p.procedures q ≡ Some is.1 =
      subst (λ (g : Program). slice_get g.procedures q ≡ Some is.1) of is.2 in
      begun p (opening_frame p q zs) (record { into = into; frame = f } ∷ cs)
      (opened p wf q is.1 zs (record { into = into; frame = f } ∷ cs) at (may_call (is.1).role is.3 into) stack)
      distinct

  forked : (q : ℕ) (es : List Expression) (into : ℕ) → Fits s (Fork q es into) → (zs : List ℤ)
      → Keeps p [] (begins (opening_frame p q zs) [])
  forked q es into is zs =
      let at : slice_get p.procedures q ≡ Some is.1 =
      subst (λ (g : Program). slice_get g.procedures q ≡ Some is.1) of is.2 in
      begun p (opening_frame p q zs) [] (opened p wf q is.1 zs [] at (may_fork (is.1).role is.3) tt) tt

  suspended : (c : Member) → own_monitor s.role ≡ Some c.monitor
      → ActFits p (all_monitors f cs) (L.Waits c) Nothing (Suspended c f cs)
  suspended c own = record {
    fits = (held c.monitor own, stack, distinct);
    moves = (
      held c.monitor own,
      λ n. (
        (λ is. in_with c.monitor (all_monitors f cs) n is),
        (λ is. in_without c.monitor (all_monitors f cs) n is.1 is.0),
      ),
    );
    effect = tt;
    label = refl;
  }

  fitting_statement : (st : Statement) → Fits s st → OfferFits p (all_monitors f cs) (statement_offer p v f cs st)
  fitting_statement (Assign target e) is = assigned target e is
  fitting_statement (If e b part) is =
      valued p (evaluate p v f.locals e) f cs _ distinct (λ z.
      alone p (all_monitors f cs) L.Test tt Nothing _ tt
      (goes_to (followed_by (chosen_block (is_true z) b (block_of_part part)) f.rest)
      (follow s (chosen_block (is_true z) b (block_of_part part)) f.rest
      (either s (is_true z) b (block_of_part part) is.1 (part_block s part is.2)) rest)))
  fitting_statement (While e b) is =
      valued p (evaluate p v f.locals e) f cs _ distinct (λ z.
      alone p (all_monitors f cs) L.Test tt Nothing _ tt
      (goes_to (chosen_block (is_true z) (followed_by b (Then (While e b) f.rest)) f.rest)
      (either s (is_true z) (followed_by b (Then (While e b) f.rest)) f.rest
      (follow s b (Then (While e b) f.rest) is.1 (is, rest)) rest)))
  fitting_statement (Call q es into) is =
      all_valued p (evaluate_all p v f.locals es) f cs _ distinct (λ zs.
      alone p (all_monitors f cs) L.Call tt Nothing _ tt (called q es into is zs))
  fitting_statement (Fork q es into) is =
      all_valued p (evaluate_all p v f.locals es) f cs _ distinct (λ zs.
      (forked q es into is zs, (λ n. local_put into (pos n)), dead p ProcessTableFull f cs distinct))
  fitting_statement (Join e into part) is =
      valued p (evaluate p v f.locals e) f cs _ distinct (λ z. claimed z into part is.3)
  fitting_statement (Return value) is =
      valued p (return_value p v f value) f cs _ distinct (λ z. answered p f.role z cs fits distinct)
  fitting_statement (Wait c) is = suspended c is.1.0
  fitting_statement (Notify c) is = (held c.monitor is.0, goes)
  fitting_statement (Broadcast c) is = (held c.monitor is.0, goes)
  fitting_statement (Print e) is =
      valued p (evaluate p v f.locals e) f cs _ distinct (λ z.
      alone p (all_monitors f cs) (L.Print z) tt (Writes z) (goes_on None f cs) tt goes)
  fitting_statement Abort is = faulty p _ f cs distinct

module _ (p : Program) (wf : WellFormed p) (v : Variables) where
  fitting_rest : (f : Frame) (cs : List Caller) (b : Block) → RestFits p f.role b → StandsOn f.role cs
      → CallersFit p cs → IsDistinct (all_monitors f cs) → OfferFits p (all_monitors f cs) (rest_offer p v f cs b)
  fitting_rest f cs Done fit stands fits distinct = answered p f.role (pos 0) cs fits distinct
  fitting_rest f cs (Then first rest) (s, of, role, block) stands fits distinct =
      fitting_statement p wf v s of (record f { rest = rest }) role cs block.1 stands fits distinct first block.0

  -- a monitor that was taken is one more
  taken : (m : ℕ) (hs : List ℕ) (b : Process) → Keeps p (m ∷ hs) b → TakesFits p hs m b
  taken m hs b keeps = (
    keeps.0,
    λ n. (
      (λ is. subst (λ (ks : List ℕ). IsIn ks n) keeps.1 is),
      (λ is. subst (λ (ks : List ℕ). IsIn ks n) (sym keeps.1) is),
    ),
  )

  taken_again : (m : ℕ) (hs : List ℕ) (b : Process) → IsIn hs m → Keeps p hs b → TakesFits p (without_monitor m hs) m b
  taken_again m hs b held keeps = (
    keeps.0,
    λ n. (
      (λ is. apart n (subst (λ (ks : List ℕ). IsIn ks n) keeps.1 is)),
      (λ is. subst (λ (ks : List ℕ). IsIn ks n) (sym keeps.1) (together n is)),
    ),
  )
    where
      apart : (n : ℕ) → IsIn hs n → (n ≡ m) ⊎ IsIn (without_monitor m hs) n
      apart n is = elim (cases_eq n m) [ inl e ↦ inl e | inr ne ↦ inr (in_without m hs n is ne) ]

      together : (n : ℕ) → (n ≡ m) ⊎ IsIn (without_monitor m hs) n → IsIn hs n
      together n (inl e) = subst (λ (k : ℕ). IsIn hs k) (sym e) held
      together n (inr is) = (in_with m hs n is).1

  entering : (m : ℕ) (f : Frame) (cs : List Caller) → ProcessFits p (Entering m f cs)
      → OfferFits p (callers_monitors cs) (offer p v (Entering m f cs))
  entering m f cs (role, stack, distinct) = (
    m,
    inl refl,
    λ new. (
      taken m (callers_monitors cs) (goes_on (Some m) f cs)
          (same (goes_on (Some m) f cs) (on p (Some m) f cs stack (all new))),
      taken m (callers_monitors cs) (recovers p m f cs)
          (same (recovers p m f cs) (recovered p wf m f cs stack (all new) first)),
    ),
  )
    where
      list : all_monitors f cs ≡ m ∷ callers_monitors cs
      list = rw role refl

      all : (IsIn (callers_monitors cs) m → ⊥) → IsDistinct (all_monitors f cs)
      all new = subst (λ (ks : List ℕ). IsDistinct ks) (sym list) (new, distinct)

      first : IsIn (all_monitors f cs) m
      first = subst (λ (ks : List ℕ). IsIn ks m) (sym list) (inl refl)

      same : (b : Process) → Keeps p (all_monitors f cs) b → Keeps p (m ∷ callers_monitors cs) b
      same b keeps = (keeps.0, keeps.1 ∙ list)

  joining : (into : Option ℕ) (part : Part) (f : Frame) (cs : List Caller) → PartLeads p f part → StackFits p f cs
      → IsDistinct (all_monitors f cs) → (end : End) → Keeps p (all_monitors f cs) (after_join into part f cs end)
  joining into part f cs leads fit distinct (Ended z) = with_result_on p into z f cs fit distinct
  joining into NoPart f cs leads fit distinct (Aborted cause) = (distinct, refl)
  joining into (SomePart b) f cs leads fit distinct (Aborted cause) =
      on p None (record f { rest = followed_by b f.rest }) cs (leads, fit.1, fit.2) distinct

  pub fitting : (b : Process) → ProcessFits p b → OfferFits p (holds b) (offer p v b)
  fitting (Entering m f cs) is = entering m f cs is
  fitting (Before entered f cs) is = fitting_rest f cs f.rest is.0.0 is.0.1 is.0.2 is.1
  fitting (Suspended c f cs) is = (
    c.monitor,
    inr refl,
    λ new. (
      taken_again c.monitor (all_monitors f cs) (goes_on (Some c.monitor) f cs) is.0
          (on p (Some c.monitor) f cs is.1 is.2),
      taken_again c.monitor (all_monitors f cs) (recovers p c.monitor f cs) is.0
          (recovered p wf c.monitor f cs is.1 is.2 is.0),
    ),
  )
  fitting (Joining child into part f cs) is = joining into part f cs is.0 is.1 is.2
  fitting (Returning z cs) is =
      alone p (callers_monitors cs) L.Return tt Nothing (hands_over z cs) tt (handed p z cs is.0 is.1)
  fitting (Failing fault entered f cs) is = faulty p fault f cs is
  fitting (Dying cause []) is = ends p [] (Aborted cause) (Over (Aborted cause)) (tt, refl)
  fitting (Dying cause (m ∷ ms)) is =
      record { fits = is.1; moves = first_given p m ms true is; effect = tt; label = tt }
  fitting (Leaving z) is = ends p [] (Ended z) (Over (Ended z)) (tt, refl)
  fitting (Over end) is = tt
