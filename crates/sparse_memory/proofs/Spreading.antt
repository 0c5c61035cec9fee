-- Words that are put into a memory, one after another.
use Rattle.std.proofs.Common.{◌≡◌, ◌≢◌, ◌<◌, ◌∙◌, ◌+◌, ◌++◌, ◌∷◌, ◌&&◌, ◌==◌, [], ℕ, zero, suc, Bool, true, false, List, Some}
use Rattle.std.proofs.Common.{None, ap, arith, get_or, length, refl, replicate, set, slice_get, subst, sym, take}
use Rattle.std.proofs.lemmas.Bool.{eqb-true}
use Rattle.std.proofs.lemmas.List.{length-replicate, length-set, set-set, set_comm, take_more}
use Rattle.std.specs.Cmp.Lexicographic.{pointwise}
use Rattle.sparse_memory.specs.Spread.{spread}

pub take_none : {X : Type 0} (xs : List X) → take 0 xs ≡ []
take_none [] = refl
take_none (x ∷ xs) = refl

-- one more
pub spread_push : (words : List ℕ) (entries : List (ℕ × ℕ)) (e : ℕ × ℕ)
    → spread words (entries ++ e ∷ []) ≡ set (spread words entries) e.0 e.1
spread_push words [] e = refl
spread_push words (x ∷ entries) e = spread_push (set words x.0 x.1) entries e

pub spread_more : (words : List ℕ) (entries : List (ℕ × ℕ)) (i : ℕ) (d : ℕ × ℕ) → i < length entries
    → spread words (take (i + 1) entries)
    ≡ set (spread words (take i entries)) (get_or entries i d).0 (get_or entries i d).1
spread_more words entries i d less =
    ap (spread words) (take_more entries i d less) ∙ spread_push words (take i entries) (get_or entries i d)

-- there are as many words
length_spread : (words : List ℕ) (entries : List (ℕ × ℕ)) → length (spread words entries) ≡ length words
length_spread words [] = refl
length_spread words (x ∷ entries) = length_spread (set words x.0 x.1) entries ∙ length-set words x.0 x.1

pub size_of : (n : ℕ) (entries : List (ℕ × ℕ)) (words : List ℕ) → spread (replicate n 0) entries ≡ words
    → n ≡ length words
size_of n entries words is =
    sym (length-replicate n 0) ∙ sym (length_spread (replicate n 0) entries) ∙ ap length is

-- the word that is put, and the others
pub get_put : (words : List ℕ) (a b w x : ℕ) → b ≡ a → slice_get words a ≡ Some x → slice_get (set words b w) a ≡ Some w
get_put words a b w x same is = subst (λ c. slice_get (set words c w) a ≡ Some w) (sym same) (there words a is)
  where
    there : (ws : List ℕ) (i : ℕ) → slice_get ws i ≡ Some x → slice_get (set ws i w) i ≡ Some w
    there [] i at = absurd (let no : None ≡ Some x = at in cc)
    there (y ∷ ws) zero at = refl
    there (y ∷ ws) (suc i) at = there ws i at

pub get_beside : (words : List ℕ) (a b w : ℕ) → (b ≡ a → ⊥) → slice_get (set words b w) a ≡ slice_get words a
get_beside [] a b w ne = refl
get_beside (y ∷ ws) zero zero w ne = absurd (ne refl)
get_beside (y ∷ ws) zero (suc b) w ne = refl
get_beside (y ∷ ws) (suc a) zero w ne = refl
get_beside (y ∷ ws) (suc a) (suc b) w ne = get_beside ws a b w (λ e. ne (ap suc e))

-- all words are 0 at first
put_zero : (n a : ℕ) → set {A = ℕ} (replicate n 0) a 0 ≡ replicate n 0
put_zero zero a = refl
put_zero (suc n) zero = refl
put_zero (suc n) (suc a) = ap (λ l. 0 ∷ l) (put_zero n a)

zero_at : (n a : ℕ) → a < n → slice_get {X = ℕ} (replicate n 0) a ≡ Some 0
zero_at zero a less = absurd (omega (arith, less))
zero_at (suc n) zero less = refl
zero_at (suc n) (suc a) less = zero_at n a (omega (arith, less))

-- the word at an address behind one entry more
pub word_more : (entries : List (ℕ × ℕ)) (i : ℕ) (d : ℕ × ℕ) (a word next : ℕ) → i < length entries
    → ((words : List ℕ) → slice_get words a ≡ Some 0 → slice_get (spread words (take i entries)) a ≡ Some word)
    → ((before : List ℕ) → slice_get before a ≡ Some word
    → slice_get (set before (get_or entries i d).0 (get_or entries i d).1) a ≡ Some next)
    → (words : List ℕ) → slice_get words a ≡ Some 0 → slice_get (spread words (take (i + 1) entries)) a ≡ Some next
word_more entries i d a word next less so step words none =
    ap (λ l. slice_get l a) (spread_more words entries i d less) ∙ step (spread words (take i entries)) (so words none)

-- the word at an address of a memory
pub loaded : (n : ℕ) (entries lent : List (ℕ × ℕ)) (a w : ℕ) (words : List ℕ) → lent ≡ entries
    → spread (replicate n 0) entries ≡ words → a < length words
    → ((before : List ℕ) → slice_get before a ≡ Some 0 → slice_get (spread before lent) a ≡ Some w)
    → slice_get words a ≡ Some w
loaded n entries lent a w words same view less is =
    let size : n ≡ length words = size_of n entries words view in
    ap (λ l. slice_get l a) (sym view) ∙ ap (λ l. slice_get (spread (replicate n 0) l) a) (sym same)
    ∙ is (replicate n 0) (zero_at n a (omega (arith, size, less)))

-- an entry beside a word that was put
pub put_beside : (before words : List ℕ) (a x b w : ℕ) → (b ≡ a → ⊥) → words ≡ set before a x
    → set words b w ≡ set (set before b w) a x
put_beside before words a x b w ne is =
    ap (λ l. set l b w) is ∙ set_comm before a b x w (let other : a ≢ b = λ e. ne (sym e) in other)

-- a word that is put twice
pub put_twice : (before words : List ℕ) (a x y : ℕ) → words ≡ set before a x → set words a y ≡ set before a y
put_twice before words a x y is = ap (λ l. set l a y) is ∙ set-set before a x y

-- nothing is put yet
pub none_put : (entries new : List (ℕ × ℕ)) (a x : ℕ) → new ≡ [] → x ≡ 0 → (empty : List ℕ) → set empty a 0 ≡ empty
    → spread empty new ≡ set (spread empty (take 0 entries)) a x
none_put entries new a x none same empty clear =
    ap (spread empty) none ∙ sym clear ∙ ap (set empty a) (sym same)
    ∙ ap (λ es. set (spread empty es) a x) (sym (take_none entries))

-- one entry more
pub entries_more : (entries : List (ℕ × ℕ)) (i : ℕ) (d : ℕ × ℕ) (old new : List (ℕ × ℕ)) (a x y : ℕ)
    → i < length entries
    → ((empty : List ℕ) → set empty a 0 ≡ empty → spread empty old ≡ set (spread empty (take i entries)) a x)
    → ((empty before : List ℕ) → spread empty old ≡ set before a x
    → spread empty new ≡ set (set before (get_or entries i d).0 (get_or entries i d).1) a y)
    → (empty : List ℕ) → set empty a 0 ≡ empty → spread empty new ≡ set (spread empty (take (i + 1) entries)) a y
entries_more entries i d old new a x y less so push empty clear =
    push empty (spread empty (take i entries)) (so empty clear)
    ∙ ap (λ l. set l a y) (sym (spread_more empty entries i d less))

-- a memory with a word
pub with_word_so : (n : ℕ) (entries lent new : List (ℕ × ℕ)) (a v : ℕ) (words : List ℕ) → lent ≡ entries
    → spread (replicate n 0) entries ≡ words
    → ((empty : List ℕ) → set empty a 0 ≡ empty → spread empty new ≡ set (spread empty lent) a v)
    → spread (replicate n 0) new ≡ set words a v
with_word_so n entries lent new a v words same view is =
    is (replicate n 0) (put_zero n a) ∙ ap (λ l. set (spread (replicate n 0) l) a v) same ∙ ap (λ l. set l a v) view

-- lists of the same entries
abbrev pub same_entry : ℕ × ℕ → ℕ × ℕ → Bool
same_entry p q = (p.0 == q.0) && (p.1 == q.1)

and_true : (a b : Bool) → (a && b) ≡ true → (a ≡ true) × (b ≡ true)
and_true true b e = (refl, e)
and_true false b e = absurd (cc)

each_entry : (p q : ℕ × ℕ) → same_entry p q ≡ true → p ≡ q
each_entry p q e =
    let both = and_true (p.0 == q.0) (p.1 == q.1) e in
    let first : p.0 ≡ q.0 = eqb-true p.0 q.0 both.0 in
    let second : p.1 ≡ q.1 = eqb-true p.1 q.1 both.1 in
    λ i. (first i, second i)

same_entries : (xs ys : List (ℕ × ℕ)) → pointwise same_entry xs ys ≡ true → xs ≡ ys
same_entries [] [] e = refl
same_entries [] (y ∷ ys) e = absurd (cc)
same_entries (x ∷ xs) [] e = absurd (cc)
same_entries (x ∷ xs) (y ∷ ys) e =
    let both = and_true (same_entry x y) (pointwise same_entry xs ys) e in
    let first = each_entry x y both.0 in
    let rest = same_entries xs ys both.1 in
    λ i. first i ∷ rest i

pub same_memory : (m n : ℕ) (xs ys : List (ℕ × ℕ)) (a b : List ℕ) → spread (replicate m 0) xs ≡ a
    → spread (replicate n 0) ys ≡ b → m ≡ n → pointwise same_entry xs ys ≡ true → a ≡ b
same_memory m n xs ys a b is that size e =
    sym is ∙ ap (λ k. spread (replicate k 0) xs) size ∙ ap (spread (replicate n 0)) (same_entries xs ys e) ∙ that
