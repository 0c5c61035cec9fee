-- A name has one word, and a value one way to be written.
use Rattle.std.proofs.Common.{◌≡◌, ◌<◌, ◌+◌, ◌*◌, ◌==◌, ℕ, List, [], ◌∷◌, Bool, true, false, ◌&&◌}
use Rattle.std.proofs.Common.{codes, cond, ltb, refl, ap, sym, ◌∙◌, arith}
use Rattle.machine.specs.declared.event.EventName.{EventName}
use Rattle.machine.specs.declared.event.EventName.TheVariants.{Local, Load, Store, Swap, CompareSwap, FetchOr, FetchAdd}
use Rattle.machine.specs.declared.event.EventName.TheVariants.{Fork, Print, Wait, Wake, Requeue, FutexLock, FutexCompare}
use Rattle.machine.specs.declared.event.EventName.TheVariants.{Ret, RetValue, Die, Entry, Pending, Clear, Last}
use Rattle.machine.specs.declared.event.EventName.TheVariants.{Stray, Kill}
use Rattle.log_text.specs.LogLines.{name_text}
use Rattle.log_text.specs.Places.{place_of}
use Rattle.std.proofs.lemmas.Bool.{ltb-true}
use Rattle.log_text.proofs.Cutting.{Plain}

-- a word as a number
packed : ℕ → List ℕ → ℕ
packed n [] = n
packed n (x ∷ xs) = packed (n * 256 + x) xs

word_number : EventName → ℕ
word_number name = packed 0 (name_text name)

-- the name of a word
named : ℕ → EventName
named n =
    cond (n == packed 0 (codes "LOAD")) Load
    (cond (n == packed 0 (codes "STORE")) Store
    (cond (n == packed 0 (codes "SWAP")) Swap
    (cond (n == packed 0 (codes "CAS")) CompareSwap
    (cond (n == packed 0 (codes "AOR")) FetchOr
    (cond (n == packed 0 (codes "AADD")) FetchAdd
    (cond (n == packed 0 (codes "FORK")) Fork
    (cond (n == packed 0 (codes "PRINT")) Print
    (cond (n == packed 0 (codes "FWAIT")) Wait
    (cond (n == packed 0 (codes "FWAKE")) Wake
    (cond (n == packed 0 (codes "FREQ")) Requeue
    (cond (n == packed 0 (codes "RET")) Ret
    (cond (n == packed 0 (codes "RETV")) RetValue
    (cond (n == packed 0 (codes "DIE")) Die
    (cond (n == packed 0 (codes "ENTRY")) Entry
    (cond (n == packed 0 (codes "PENDING")) Pending
    (cond (n == packed 0 (codes "CLEAR")) Clear
    (cond (n == packed 0 (codes "LAST")) Last
    (cond (n == packed 0 (codes "STRAY")) Stray
    (cond (n == packed 0 (codes "KILL")) Kill
    (cond (n == packed 0 (codes "FLOCK")) FutexLock
    (cond (n == packed 0 (codes "FCMP")) FutexCompare Local)))))))))))))))))))))

back : (name : EventName) → named (word_number name) ≡ name
unfolding named word_number packed
back Local = refl
back Load = refl
back Store = refl
back Swap = refl
back CompareSwap = refl
back FetchOr = refl
back FetchAdd = refl
back Fork = refl
back Print = refl
back Wait = refl
back Wake = refl
back Requeue = refl
back Ret = refl
back RetValue = refl
back Die = refl
back Entry = refl
back Pending = refl
back Clear = refl
back Last = refl
back Stray = refl
back Kill = refl
back FutexLock = refl
back FutexCompare = refl

pub name_once : (a b : EventName) → name_text a ≡ name_text b → a ≡ b
unfolding word_number
name_once a b same = sym (back a) ∙ ap (λ t. named (packed 0 t)) same ∙ back b

at_place : ℕ → EventName
at_place n =
    cond (n == 0) Load
    (cond (n == 1) Store
    (cond (n == 2) Swap
    (cond (n == 3) CompareSwap
    (cond (n == 4) FetchOr
    (cond (n == 5) FetchAdd
    (cond (n == 6) Fork
    (cond (n == 7) Print
    (cond (n == 8) Wait
    (cond (n == 9) Wake
    (cond (n == 10) Requeue
    (cond (n == 11) Ret
    (cond (n == 12) RetValue
    (cond (n == 13) Die
    (cond (n == 14) Entry
    (cond (n == 15) Pending
    (cond (n == 16) Clear
    (cond (n == 17) Last
    (cond (n == 18) Stray
    (cond (n == 19) Kill
    (cond (n == 20) FutexLock
    (cond (n == 21) FutexCompare Local)))))))))))))))))))))

placed : (name : EventName) → at_place (place_of name) ≡ name
unfolding at_place
placed Local = refl
placed Load = refl
placed Store = refl
placed Swap = refl
placed CompareSwap = refl
placed FetchOr = refl
placed FetchAdd = refl
placed Fork = refl
placed Print = refl
placed Wait = refl
placed Wake = refl
placed Requeue = refl
placed Ret = refl
placed RetValue = refl
placed Die = refl
placed Entry = refl
placed Pending = refl
placed Clear = refl
placed Last = refl
placed Stray = refl
placed Kill = refl
placed FutexLock = refl
placed FutexCompare = refl

pub place_once : (a b : EventName) → place_of a ≡ place_of b → a ≡ b
place_once a b same = sym (placed a) ∙ ap at_place same ∙ placed b

pub few_places : (name : EventName) → place_of name < 23
few_places Local = omega arith
few_places Load = omega arith
few_places Store = omega arith
few_places Swap = omega arith
few_places CompareSwap = omega arith
few_places FetchOr = omega arith
few_places FetchAdd = omega arith
few_places Fork = omega arith
few_places Print = omega arith
few_places Wait = omega arith
few_places Wake = omega arith
few_places Requeue = omega arith
few_places Ret = omega arith
few_places RetValue = omega arith
few_places Die = omega arith
few_places Entry = omega arith
few_places Pending = omega arith
few_places Clear = omega arith
few_places Last = omega arith
few_places Stray = omega arith
few_places Kill = omega arith
few_places FutexLock = omega arith
few_places FutexCompare = omega arith

all_above : List ℕ → Bool
all_above [] = true
all_above (x ∷ xs) = ltb 32 x && all_above xs

plain_more : (x : ℕ) (xs : List ℕ) (b : Bool) → ltb 32 x ≡ b → (b && all_above xs) ≡ true
    → (all_above xs ≡ true → Plain xs) → Plain (x ∷ xs)
plain_more x xs true less is rest = (ltb-true 32 x less, rest is)
plain_more x xs false less is rest = absurd cc

plain_by : (xs : List ℕ) → all_above xs ≡ true → Plain xs
unfolding all_above
plain_by [] is = tt
plain_by (x ∷ xs) is = plain_more x xs (ltb 32 x) refl is (plain_by xs)

pub plain_name : (name : EventName) → Plain (name_text name)
unfolding all_above
plain_name Local = plain_by (codes "TURN") refl
plain_name Load = plain_by (codes "LOAD") refl
plain_name Store = plain_by (codes "STORE") refl
plain_name Swap = plain_by (codes "SWAP") refl
plain_name CompareSwap = plain_by (codes "CAS") refl
plain_name FetchOr = plain_by (codes "AOR") refl
plain_name FetchAdd = plain_by (codes "AADD") refl
plain_name Fork = plain_by (codes "FORK") refl
plain_name Print = plain_by (codes "PRINT") refl
plain_name Wait = plain_by (codes "FWAIT") refl
plain_name Wake = plain_by (codes "FWAKE") refl
plain_name Requeue = plain_by (codes "FREQ") refl
plain_name Ret = plain_by (codes "RET") refl
plain_name RetValue = plain_by (codes "RETV") refl
plain_name Die = plain_by (codes "DIE") refl
plain_name Entry = plain_by (codes "ENTRY") refl
plain_name Pending = plain_by (codes "PENDING") refl
plain_name Clear = plain_by (codes "CLEAR") refl
plain_name Last = plain_by (codes "LAST") refl
plain_name Stray = plain_by (codes "STRAY") refl
plain_name Kill = plain_by (codes "KILL") refl
plain_name FutexLock = plain_by (codes "FLOCK") refl
plain_name FutexCompare = plain_by (codes "FCMP") refl
