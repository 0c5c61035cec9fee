-- Workers hand in, one after the other.
use Rattle.std.proofs.Common.{◌≡◌, ◌<◌, ◌+◌, ◌∙◌, ℕ, suc, List, [], ◌∷◌, Option, None, Result, Ok, Vec, length, map}
use Rattle.std.proofs.Common.{replicate, sym, ap, subst, arith, false, Err, inl, ◌++◌}
use Rattle.std.specs.Prelude.{IfOk, IfErr}
use Rattle.std.specs.Global.{Global}
use Rattle.std.specs.declared.thread.PromisedHandle.{PromisedHandle}
use Rattle.scanner.specs.declared.refusal.Refusal.{Refusal}
use Rattle.scanner.specs.Refusals.{out_of_memory}
use Rattle.words.specs.declared.version.ImageVersion.{ImageVersion}
use Rattle.program.specs.declared.unit.Program.{Program as ProgramOf}
use Rattle.program.specs.Trees.{Program, as_version}
use Rattle.program.specs.Views.{program_of}
use Rattle.lowering.specs.declared.mark.Marked.{Marked}
use Rattle.codegen.specs.declared.code_piece.CodePiece.{CodePiece}
use Rattle.codegen.specs.Generated.{piece_of, unlinked_pieces, RefusesPieces}
use Rattle.linker.specs.Collecting.{collected, has_gap}
use Rattle.codegen_workers.specs.Arrivals.{all_added, handed_in, AreFree}
use Rattle.codegen_workers.specs.Handles.{IsHandleOf}
use Rattle.codegen_workers.specs.Shares.{AreShares, EachFrom, IsShare}
use Rattle.codegen_workers.specs.declared.share.ShareOf.{ShareOf}
use Rattle.codegen_workers.proofs.Places.{all_handed_in, none_handed_in, share_arrives}

-- what a worker makes
abbrev pub Made : Type 0
Made = Result (Vec CodePiece Global) Refusal

-- the first workers have handed in, and what the others made, of so many, is left
pub record HandsIn (p : Program) (workers : ℕ) (slots : List (Option (List Marked))) (count : ℕ) (left : List Made)
    : Type 0 where
  pub first : ℕ
  pub counted : first + count ≡ workers
  pub place : slots ≡ handed_in p workers first
  pub made : AreShares p workers first left

-- at first nobody has
pub hands_in_first : (p : Program) (workers : ℕ) (slots : List (Option (List Marked))) (count : ℕ) (left : List Made)
    → slots ≡ replicate (length p.procedures) None → count ≡ workers → AreShares p workers 0 left
    → HandsIn p workers slots count left
hands_in_first p workers slots count left none all made = record {
  first = 0;
  counted = omega (arith, all);
  place = none ∙ sym (none_handed_in p workers);
  made = made;
}

module _ (p : Program) (workers : ℕ) (slots : List (Option (List Marked))) (count : ℕ) (left : List Made)
    (hands : HandsIn p workers slots count left) (pieces : Vec CodePiece Global) (made : Made) (rest : List Made)
    (next : left ≡ made ∷ rest) (was : made ≡ Ok pieces)
  where
    here : AreShares p workers hands.first (Ok pieces ∷ rest)
    here = subst (λ m. AreShares p workers hands.first (m ∷ rest)) was
        (subst (λ l. AreShares p workers hands.first l) next hands.made)

    -- the next one's pieces have free places
    pub next_free : AreFree slots (map piece_of pieces.items)
    next_free = subst (λ s. AreFree s (map piece_of pieces.items)) (sym hands.place)
        (subst (λ l. AreFree (handed_in p workers hands.first) l) (sym here.0)
        (share_arrives p workers hands.first).0)

    -- and then it has handed in
    pub next_hands_in : (slots' : List (Option (List Marked))) (count' : ℕ) → slots' ≡ all_added slots (map piece_of pieces.items)
        → count' + 1 ≡ count → HandsIn p workers slots' count' rest
    next_hands_in slots' count' comes less = record {
      first = hands.first + 1;
      counted = (let all = hands.counted in omega (arith, all, less));
      place = comes ∙ ap (λ s. all_added s (map piece_of pieces.items)) hands.place
          ∙ ap (λ l. all_added (handed_in p workers hands.first) l) here.0
          ∙ (share_arrives p workers hands.first).1;
      made = here.1;
    }

-- what keeps the promise is what the worker makes
pub kept_share : (program : ProgramOf) (version : ImageVersion) (workers worker : ℕ)
    (handle : PromisedHandle Made ShareOf) (made : Made) → IsHandleOf program version workers worker handle
    → IsShare (as_version handle.promise.layout.now.version (program_of handle.promise.program.now))
    handle.promise.workers handle.promise.worker made
    → IsShare (as_version version (program_of program)) workers worker made
kept_share program version workers worker handle made is kept =
    let share = handle.promise in
    let said = as_version share.layout.now.version (program_of share.program.now) in
    subst (λ t. IsShare (as_version version (program_of t)) workers worker made) is.program_is
    (subst (λ v. IsShare (as_version v (program_of share.program.now)) workers worker made) is.version_is
    (subst (λ n. IsShare said n worker made) is.workers_are
    (subst (λ n. IsShare said share.workers n made) is.worker_is kept)))

-- one more behind them
one_behind : {X : Type 0} (P : ℕ → X → Type 0) (n : ℕ) (xs : List X) (x : X) → EachFrom P n xs → P (n + length xs) x
    → EachFrom P n (xs ++ x ∷ [])
one_behind P n [] x each last = let same : n + 0 ≡ n = omega arith in (subst (λ k. P k x) same last, tt)
one_behind P n (y ∷ ys) x each last =
    let same : n + suc (length ys) ≡ n + 1 + length ys = omega arith in
    (each.0, one_behind P (n + 1) ys x each.1 (subst (λ k. P k x) same last))

pub one_more : {X : Type 0} (P : ℕ → X → Type 0) (n m : ℕ) (xs all : List X) (x : X) → all ≡ xs ++ x ∷ []
    → m ≡ n + length xs → EachFrom P n xs → P m x → EachFrom P n all
one_more P n m xs all x is place each last =
    subst (λ l. EachFrom P n l) (sym is) (one_behind P n xs x each (subst (λ k. P k x) place last))

-- once all have handed in, the pieces are those of the program
module _ (p : Program) (workers : ℕ) (slots : List (Option (List Marked))) (some : 0 < workers)
    (all : slots ≡ handed_in p workers workers)
  where
    pub whole_made : (made : Made) → IfOk made (λ pieces. map piece_of pieces.items ≡ collected 0 slots)
        → IfOk made (λ pieces. map piece_of pieces.items ≡ unlinked_pieces p)
    whole_made (Ok pieces) h = h ∙ ap (λ s. collected 0 s) all ∙ (all_handed_in p workers some).1
    whole_made (Err e) h = h

    -- and they are refused for want of memory alone
    pub memory_alone : (made : Made) → (has_gap slots ≡ false → IfErr made (λ e. e ≡ out_of_memory))
        → IfErr made (λ e. RefusesPieces p e)
    memory_alone (Ok pieces) h = tt
    memory_alone (Err e) h = inl (h (ap (λ s. has_gap s) all ∙ (all_handed_in p workers some).0))
