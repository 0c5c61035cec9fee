-- What was read of a reader's bytes, and written of those for a writer.
use Rattle.std.proofs.Common.{◌≡◌, ◌≤◌, ◌⊎◌, inl, inr, ℕ, List, [], ◌++◌, Option, Some, None, IfSome, length, take, drop}
use Rattle.std.proofs.Common.{◌+◌, ◌-◌, length-append, length-take-le, Result, Ok, Err, OnOk, OnErr, subst}
use Rattle.std.proofs.Common.{sym, ap, ◌∙◌, append_assoc, append-nil, take_all, take-append-drop}
use Rattle.std.proofs.Math.Seq.{take-append_seam}
use Rattle.std.proofs.lemmas.List.{take_rest, take-append-le}
use Rattle.std.specs.Io.KnownBytes.{Appends, Consumes, IsAtEnd, Keeps}

-- what was read is the front of what there was, where the reader is at its end or so much was wanted
pub front_read : (a b : Option (List ℕ)) (bytes : List ℕ) (n : ℕ) → Consumes a b bytes → length bytes ≤ n
    → IsAtEnd b ⊎ (length bytes ≡ n) → IfSome a (λ xs. bytes ≡ take n xs)
front_read None b bytes n read few done = tt
front_read (Some xs) None bytes n read few done = absurd read
front_read (Some xs) (Some ys) bytes n read few (inl end) =
    sym (ap (take n) (read ∙ ap (λ l. bytes ++ l) end ∙ append-nil bytes) ∙ take_all n bytes few)
front_read (Some xs) (Some ys) bytes n read few (inr many) =
    sym (ap (take n) read ∙ ap (λ k. take k (bytes ++ ys)) (sym many) ∙ take-append_seam bytes ys)

pub consumed : (a b c : Option (List ℕ)) (old more : List ℕ) → Consumes a b old → Consumes b c more
    → Consumes a c (old ++ more)
consumed None b c old more p q = tt
consumed (Some x) None c old more p q = absurd p
consumed (Some x) (Some y) None old more p q = absurd q
consumed (Some x) (Some y) (Some z) old more p q = p ∙ ap (λ l. old ++ l) q ∙ sym (append_assoc old more z)

pub appended : (a b c : Option (List ℕ)) (old more : List ℕ) → Appends a b old → Appends b c more
    → Appends a c (old ++ more)
appended None b c old more p q = tt
appended (Some x) None c old more p q = absurd p
appended (Some x) (Some y) None old more p q = absurd q
appended (Some x) (Some y) (Some z) old more p q = q ∙ ap (λ l. l ++ more) p ∙ append_assoc x old more

pub appended_kept : (a b c : Option (List ℕ)) (bytes : List ℕ) → Appends a b bytes → Keeps b c → Appends a c bytes
appended_kept None b c bytes p q = tt
appended_kept (Some x) None c bytes p q = absurd p
appended_kept (Some x) (Some y) None bytes p q = absurd q
appended_kept (Some x) (Some y) (Some z) bytes p q = q ∙ p

-- what is written is a front of all
pub front_written : (a b : Option (List ℕ)) (all done rest : List ℕ) → all ≡ done ++ rest → Appends a b done
    → Appends a b (take (length done) all)
front_written a b all done rest split p =
    subst (Appends a b) (sym (ap (take (length done)) split ∙ take-append_seam done rest)) p

-- what is written grows by a front of the rest
pub moves_front : (all done rest : List ℕ) (n : ℕ) → all ≡ done ++ rest
    → all ≡ (done ++ take n rest) ++ take (length rest - n) (drop n rest)
moves_front all done rest n e =
    e ∙ ap (λ l. done ++ l) (sym (take-append-drop n rest)) ∙ sym (append_assoc done (take n rest) (drop n rest))
    ∙ ap (λ l. (done ++ take n rest) ++ l) (sym (take_rest rest n))

pub on_ok : {T E : Type 0} (r : Result T E) (P : Type 0) → P → OnOk r P
on_ok (Ok x) P p = p
on_ok (Err e) P p = tt

pub on_err : {T E : Type 0} (r : Result T E) (P : Type 0) → P → OnErr r P
on_err (Ok x) P p = tt
on_err (Err e) P p = p

pub on_err_so : {T E : Type 0} (r : Result T E) (P Q : Type 0) → (P → Q) → OnErr r P → OnErr r Q
on_err_so (Ok x) P Q f p = tt
on_err_so (Err e) P Q f p = f p

pub consumed_kept : (a b c : Option (List ℕ)) (bytes : List ℕ) → Consumes a b bytes → Keeps b c → Consumes a c bytes
consumed_kept None b c bytes p q = tt
consumed_kept (Some x) None c bytes p q = absurd p
consumed_kept (Some x) (Some y) None bytes p q = absurd q
consumed_kept (Some x) (Some y) (Some z) bytes p q = p ∙ ap (λ l. bytes ++ l) (sym q)

-- a read that gives nothing leaves what was read
pub consumed_none : (a b c : Option (List ℕ)) (bytes part : List ℕ) (n : ℕ) → n ≡ 0 → Consumes a b bytes
    → Consumes b c (take n part) → Consumes a c bytes
consumed_none a b c bytes part n none p q =
    subst (Consumes a c) (append-nil bytes) (consumed a b c bytes [] p (subst (λ (k : ℕ). Consumes b c (take k part)) none q))

-- what was read into the front of a piece stands behind what was read before
pub piece_read : (a b c : Option (List ℕ)) (old part rest new : List ℕ) (n : ℕ) → Consumes a b old → n ≤ length part
    → Consumes b c (take n part) → new ≡ old ++ take n (part ++ rest)
    → Consumes a c new × (length new ≡ length old + n)
piece_read a b c old part rest new n p fits q e =
    let same : new ≡ old ++ take n part = e ∙ ap (λ l. old ++ l) (take-append-le n part rest fits) in
    let sum = length-append old (take n part) in
    let long = length-take-le n part fits in (
      subst (Consumes a c) (sym same) (consumed a b c old (take n part) p q),
      ap length same ∙ sum ∙ ap (λ k. length old + k) long,
    )
