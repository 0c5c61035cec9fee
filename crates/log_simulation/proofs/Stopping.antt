-- A log, entry by entry, as far as it is legal; and where it stops.
use Rattle.std.proofs.Common.{◌≡◌, ℕ, ◌+◌, ◌<◌, ◌≤◌, ◌^◌, List, [], ◌∷◌, ◌++◌, take, length, length-append, true, Bool}
use Rattle.std.proofs.Common.{refl, ap, sym, ◌∙◌, arith, subst}
use Rattle.std.specs.Prelude.{MatchBool}
use Rattle.std.specs.Iterator.{Yields, YieldsFirst}
use Rattle.std.proofs.lemmas.List.{append-nil, append_assoc, map-id, take_at}
use Rattle.std.proofs.lemmas.Map.Iter.{rest_so_far}
use Rattle.isa.specs.Programs.{Program as Image}
use Rattle.machine.specs.FrontRuns.{EventStep}
use Rattle.piece_machine.specs.PieceConcrete.{PieceConcrete}
use Rattle.machine.specs.declared.event.Entry.{Entry}
use Rattle.runner.specs.LogRuns.{steps_of}
use Rattle.runner.specs.Logs.{Enters, cost, opening}
use Rattle.runner.proofs.Going.{runs_more}
use Rattle.runner.proofs.Once.{runs_once, runs_split}
use Rattle.lowering.specs.Pieces.{code_of}
use Rattle.program.specs.Trees.{Program}
use Rattle.log_simulation.specs.Entries.{entry_steps}
use Rattle.log_simulation.specs.Explanations.{IsNoLog, LeadsTo, StopsAt}
use Rattle.log_simulation.specs.Recording.{IsAlong, IsWhole, Records}
use Rattle.log_simulation.specs.declared.recorder.Recorder.{Recorder}
use Rattle.log_simulation.proofs.Keeping.{cost_steps}
use Rattle.log_simulation.proofs.Records.{when_true}

-- what was read of a log and the next entry are its front, and what was read up to its end is all of it
pub read_next : (log start done rest after : List Entry) (next : Entry) → start ≡ log
    → Yields (YieldsFirst (λ (es : List Entry). es)) start done rest → rest ≡ next ∷ after → log ≡ done ++ next ∷ after
read_next log start done rest after next begins read first =
    sym begins ∙ rest_so_far (λ (e : Entry). e) done start rest read ∙ ap (λ es. es ++ rest) (map-id done)
    ∙ ap (λ es. done ++ es) first

pub read_all : (log start done rest : List Entry) → start ≡ log
    → Yields (YieldsFirst (λ (es : List Entry). es)) start done rest → rest ≡ [] → done ≡ log
read_all log start done rest begins read ends =
    sym (sym begins ∙ rest_so_far (λ (e : Entry). e) done start rest read ∙ ap (λ es. es ++ rest) (map-id done)
    ∙ ap (λ es. done ++ es) ends ∙ append-nil done)

-- the steps of entries after entries
steps_after : (xs ys : List Entry) → steps_of (xs ++ ys) ≡ steps_of xs ++ steps_of ys
steps_after [] ys = refl
steps_after (x ∷ xs) ys =
    ap (λ es. entry_steps x ++ es) (steps_after xs ys)
    ∙ sym (append_assoc (entry_steps x) (steps_of xs) (steps_of ys))

nothing_after : (es : List EventStep) → es ++ [] ≡ es
nothing_after [] = refl
nothing_after (e ∷ es) = ap (λ xs. e ∷ xs) (nothing_after es)

module _ (done : List Entry) (next : Entry) where
  -- the steps of one entry more
  pub steps_next : steps_of (done ++ next ∷ []) ≡ steps_of done ++ entry_steps next
  steps_next = steps_after done (next ∷ []) ∙ ap (λ es. steps_of done ++ es) (nothing_after (entry_steps next))

  module _ (image : Image) (k : PieceConcrete) (legal : LeadsTo image done k) where
    -- where the entry is taken
    pub leads_next : (new : PieceConcrete) → Enters image k next new → LeadsTo image (done ++ next ∷ []) new
    leads_next new enters = runs_more image (opening image) k new done next legal enters

    -- and where it can't be
    pub leads_nowhere : ((new : PieceConcrete) → Enters image k next new → ⊥)
        → (end : PieceConcrete) → LeadsTo image (done ++ next ∷ []) end → ⊥
    leads_nowhere never end leads =
        let cut = runs_split image (opening image) end done (next ∷ []) leads in
        let same : cut.0 ≡ k = runs_once image (opening image) cut.0 k done cut.1 legal in
        never cut.2.0 (subst (λ (m : PieceConcrete). Enters image m next cut.2.0) same cut.2.1)

-- a recorder of the whole of a log has fewer than 2^32 steps
pub few_steps : (p : Program) (log : List Entry) (k : PieceConcrete) (r : Recorder) → IsWhole p log k r
    → cost log < 2 ^ 32
few_steps p log k r w =
    let few = (when_true _ _ r.is_whole w.along.told w.whole).few in
    let many = cost_steps p log k w.legal in
    omega (arith, few, many)

-- where nothing was recorded, all of it was
pub whole_first : (p : Program) (k : PieceConcrete) (r : Recorder) → IsAlong p [] k r → r.is_whole ≡ true
whole_first p k r along = by_whole r.is_whole along.told
  where
    by_whole : (b : Bool) → MatchBool b (Records 0 along.source r) (2 ^ 32 ≤ 0) → b ≡ true
    by_whole true told = refl
    by_whole Bool.false told = absurd (omega (arith, told))

-- the entries before one, and it too, are as many of the log
front : (log done after : List Entry) (next : Entry) → log ≡ done ++ next ∷ after → take (length done) log ≡ done
front log done after next read =
    ap (λ es. take (length done) es) read ∙ take_at done (next ∷ after) (length done) refl

front_more : (log done after : List Entry) (next : Entry) → log ≡ done ++ next ∷ after
    → take (length done + 1) log ≡ done ++ next ∷ []
front_more log done after next read =
    ap (λ es. take (length done + 1) es) (read ∙ sym (append_assoc done (next ∷ []) after))
    ∙ take_at (done ++ next ∷ []) after (length done + 1) (length-append done (next ∷ []))

pub inside : (log done after : List Entry) (next : Entry) → log ≡ done ++ next ∷ after → length done < length log
inside log done after next read =
    let lengths = ap length read in
    let sum = length-append done (next ∷ after) in
    omega (arith, lengths, sum)

module _ (p : Program) (log done after : List Entry) (next : Entry) (read : log ≡ done ++ next ∷ after) (number : ℕ)
    (is : number ≡ length done + 1) (k : PieceConcrete) (r : Recorder) (whole : IsWhole p done k r) where
  stops_by : IsNoLog (code_of p) (done ++ next ∷ []) → StopsAt (code_of p) log number
  stops_by none = record {
    before = length done;
    counted = is;
    inside = inside log done after next read;
    machine = k;
    legal = subst (λ es. LeadsTo (code_of p) es k) (sym (front log done after next read)) whole.legal;
    short = subst (λ es. cost es < 2 ^ 32) (sym (front log done after next read)) (few_steps p done k r whole);
    stops = subst (λ es. IsNoLog (code_of p) es)
        (sym (ap (λ (n : ℕ). take n log) is ∙ front_more log done after next read)) none;
  }

  -- at an entry that can't be taken
  pub stops_illegal : ((new : PieceConcrete) → Enters (code_of p) k next new → ⊥) → StopsAt (code_of p) log number
  stops_illegal never = stops_by
      (λ end leads. absurd (leads_nowhere done next (code_of p) k whole.legal never end leads))

  -- or with which there are too many steps
  pub stops_long : (new : PieceConcrete) → Enters (code_of p) k next new
      → 2 ^ 32 ≤ length (steps_of done ++ entry_steps next) → StopsAt (code_of p) log number
  stops_long new enters over = stops_by (λ end leads.
      let many = cost_steps p (done ++ next ∷ []) new
      (leads_next done next (code_of p) k whole.legal new enters) in
      let steps = ap length (steps_next done next) in
      omega (arith, over, many, steps))
