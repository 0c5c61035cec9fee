-- Accesses that a thread made ahead of the machine are made on it, one after the other.
use Rattle.std.proofs.Common.{◌≡◌, ◌≢◌, ◌≤◌, ◌-◌, ◌∙◌, ◌++◌, ℕ, true, List, Option, Some, None, [], ◌∷◌, length, length-set}
use Rattle.std.proofs.Common.{slice_set, refl, ap, sym, subst, arith, take, drop}
use Rattle.std.proofs.lemmas.List.{take-append-drop}
use Rattle.isa.specs.Programs.{Program}
use Rattle.robustexit.specs.declared.phase.ExitPhase.TheVariants.{Ended}
use Rattle.locals.specs.Looks.{look}
use Rattle.locals.specs.Threads.{Thread, Exits}
use Rattle.machine.specs.Accessing.{DidAccess, told_access}
use Rattle.machine.specs.ConcreteSteps.{can_move, thread_can_move}
use Rattle.machine.specs.declared.speculation.SpeculativeAccess.{SpeculativeAccess}
use Rattle.machine.specs.Speculation.{Commits, FindsAll, LeadsTo, SpeculatesAll, word_put, words_after}
use Rattle.machine.specs.States.{ConcreteState, thread_at}
use Rattle.machine.specs.Views.{CommonView, IsWellFormed, ShowsAble, parts_of}
use Rattle.machine.proofs.Accessing.{after_view, from_returns, put_twice, shows_still, stays}

-- the memory is as long as before
pub as_long : (made : List SpeculativeAccess) (words : List ℕ) → length (words_after made words) ≡ length words
as_long [] words = refl
as_long (a ∷ rest) words = as_long rest (word_put a words) ∙ length-set words a.access.address.0 a.after

-- several behind others
pub after_both : (xs ys : List SpeculativeAccess) (words : List ℕ)
    → words_after (xs ++ ys) words ≡ words_after ys (words_after xs words)
after_both [] ys words = refl
after_both (x ∷ xs) ys words = after_both xs ys (word_put x words)

pub find_both : (xs ys : List SpeculativeAccess) (words : List ℕ) → FindsAll xs words
    → FindsAll ys (words_after xs words) → FindsAll (xs ++ ys) words
find_both [] ys words found others = others
find_both (x ∷ xs) ys words found others = (found.0, find_both xs ys (word_put x words) found.1 others)

pub found_first : (xs ys : List SpeculativeAccess) (words : List ℕ) → FindsAll (xs ++ ys) words → FindsAll xs words
found_first [] ys words found = tt
found_first (x ∷ xs) ys words found = (found.0, found_first xs ys (word_put x words) found.1)

pub found_behind : (xs ys : List SpeculativeAccess) (words : List ℕ) → FindsAll (xs ++ ys) words
    → FindsAll ys (words_after xs words)
found_behind [] ys words found = found
found_behind (x ∷ xs) ys words found = found_behind xs ys (word_put x words) found.1

-- a list is cut in two
cut_in_two : (n : ℕ) (all xs ys : List SpeculativeAccess) → xs ≡ take n all → ys ≡ drop n all → xs ++ ys ≡ all
cut_in_two n all xs ys front back = (λ i. front i ++ back i) ∙ take-append-drop n all

-- both parts found their words
pub made_both : (n : ℕ) (all xs ys : List SpeculativeAccess) (words mid new : List ℕ) → xs ≡ take n all → ys ≡ drop n all
    → FindsAll xs words × (mid ≡ words_after xs words) → FindsAll ys mid × (new ≡ words_after ys mid)
    → FindsAll all words × (new ≡ words_after all words)
made_both n all xs ys words mid new front back one other =
    let whole = cut_in_two n all xs ys front back in (
      subst (λ (l : List SpeculativeAccess). FindsAll l words) whole
          (find_both xs ys words one.0 (subst (λ (w : List ℕ). FindsAll ys w) one.1 other.0)),
      other.1
          ∙ (ap (words_after ys) one.1 ∙ (sym (after_both xs ys words) ∙ ap (λ l. words_after l words) whole)),
    )

-- where a part doesn't find its words all don't
pub none_first : (n : ℕ) (all xs ys : List SpeculativeAccess) (words : List ℕ) → xs ≡ take n all → ys ≡ drop n all
    → (FindsAll xs words → ⊥) → FindsAll all words → ⊥
none_first n all xs ys words front back none found =
    none (found_first xs ys words
    (subst (λ (l : List SpeculativeAccess). FindsAll l words) (sym (cut_in_two n all xs ys front back)) found))

pub none_behind : (n : ℕ) (all xs ys : List SpeculativeAccess) (words mid : List ℕ) → xs ≡ take n all → ys ≡ drop n all
    → mid ≡ words_after xs words → (FindsAll ys mid → ⊥) → FindsAll all words → ⊥
none_behind n all xs ys words mid front back is none found =
    let whole = sym (cut_in_two n all xs ys front back) in
    none (subst (λ (w : List ℕ). FindsAll ys w) (sym is)
    (found_behind xs ys words (subst (λ (l : List SpeculativeAccess). FindsAll l words) whole found)))

-- they are taken back by the words that were noted
pub noted : (xs : List SpeculativeAccess) (before none more words mid here : List ℕ) → before ≡ none ++ more → none ≡ []
    → LeadsTo xs more words mid → here ≡ mid → LeadsTo xs before words here
noted xs before none more words mid here is empty leads same =
    let all : before ≡ more = is ∙ ap (λ (l : List ℕ). l ++ more) empty in
    subst (λ (l : List ℕ). LeadsTo xs l words here) (sym all)
    (subst (λ (w : List ℕ). LeadsTo xs more words w) (sym same) leads)

-- who can move hasn't ended
moves_alive : (o : Option ℕ) (x : Thread) → thread_can_move o (Some x) ≡ true → x ≢ Exits Ended
moves_alive None x h is =
    let no : thread_can_move None (Some (Exits Ended)) ≡ true = ap (λ y. thread_can_move None (Some y)) (sym is) ∙ h in
    absurd cc
moves_alive (Some a) x h is = absurd cc

alive_all : (p : Program) (t : ℕ) (x y : Thread) (made : List SpeculativeAccess) → SpeculatesAll p t x made y
    → x ≢ Exits Ended → y ≢ Exits Ended
alive_all p t x y [] is lives = subst (λ z. z ≢ Exits Ended) is lives
alive_all p t x y (a ∷ rest) all lives = alive_all p t all.0 y rest all.2 all.1.lives

-- what always holds is kept
pub commit_keeps : (p : Program) (c : CommonView) (threads : List Thread) (t : ℕ) (x y : Thread)
    (made : List SpeculativeAccess) (bits : List ℕ) → 1 ≤ t → thread_at threads t ≡ Some x
    → can_move (parts_of c threads) t ≡ true → IsWellFormed p (parts_of c threads)
    → ShowsAble bits (parts_of c threads) → SpeculatesAll p t x made y
    → IsWellFormed p (parts_of (record c { words = words_after made c.words }) (slice_set threads (t - 1) y))
    × ShowsAble bits (parts_of (record c { words = words_after made c.words }) (slice_set threads (t - 1) y))
commit_keeps p c threads t x y made bits some stands can well shows all =
    let k : ConcreteState = parts_of c threads in
    let same : length (slice_set threads (t - 1) y) ≡ length threads = length-set threads (t - 1) y in
    let lives = alive_all p t x y made all
    (moves_alive (k.common.asleep t) x (ap (thread_can_move (k.common.asleep t)) (sym stands) ∙ can)) in (
      record {
        most = well.most;
        fits = well.fits;
        sized = as_long made c.words ∙ well.sized;
        some = omega (arith, same, well.some);
        few = omega (arith, same, well.few);
        agree = well.agree;
        made = λ u b h. let r = well.made u b h in (r.0, omega (arith, same, r.1));
      },
      shows_still k (words_after made c.words) t y x bits some stands can lives shows,
    )

pub commits : (p : Program) (c : CommonView) (threads : List Thread) (t : ℕ) (x y : Thread)
    (made : List SpeculativeAccess) → 1 ≤ t → thread_at threads t ≡ Some x → can_move (parts_of c threads) t ≡ true
    → SpeculatesAll p t x made y → FindsAll made c.words
    → Commits (after_view p c threads) t x made
    (after_view p (record c { words = words_after made c.words }) (slice_set threads (t - 1) y)) y
commits p c threads t x y [] some stands can is found = (
  (λ i. after_view p c (slice_set threads (t - 1) (sym is i))) ∙ (λ i. after_view p c (stays threads t x stands i)),
  sym is,
)
commits p c threads t x y (a ∷ rest) some stands can all found =
    let z : Thread = all.0 in
    let one = all.1 in
    let mid : CommonView = record c { words = word_put a c.words } in
    let did : DidAccess (look p t one.here) c mid z (told_access a.access) = record {
      access = record { told = a.access; words = word_put a c.words; thread = z };
      makes = one.makes c.words found.0;
      told = refl;
      after = refl;
      goes = refl;
    } in
    let m = from_returns p c mid threads t x one.here z a.access some stands can did one.lives in
    let others = commits p mid (slice_set threads (t - 1) z) t z y rest some m.stands m.moves all.2 found.1 in (
      one.here,
      after_view p mid (slice_set threads (t - 1) z),
      z,
      one.goes,
      m,
      subst (λ (ts : List Thread). Commits (after_view p mid (slice_set threads (t - 1) z)) t z rest
          (after_view p (record c { words = words_after rest (word_put a c.words) }) ts) y) (put_twice threads (t - 1) z y)
          others,
    )
