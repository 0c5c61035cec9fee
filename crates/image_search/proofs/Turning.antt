-- What is left of the turns of a schedule from a place on.
use Rattle.std.proofs.Common.{◌≡◌, ◌<◌, ◌+◌, ℕ, List, ap, arith, drop, get_or, length, subst, sym}
use Rattle.std.proofs.lemmas.List.{drop_more}
use Rattle.runner.specs.declared.schedule.Turn.{Turn}
use Rattle.proof_image_search.specs.Searching.{May}
use Rattle.image_search.specs.Found.{AreNamedTurns, IsNamedTurn, kills_of, one_kill}

pub named_more : (may : May) (turns : List Turn) (i : ℕ) (d : Turn) → i < length turns
    → IsNamedTurn may (get_or turns i d) → AreNamedTurns may (drop (i + 1) turns) → AreNamedTurns may (drop i turns)
named_more may turns i d less one rest =
    subst (λ (l : List Turn). AreNamedTurns may l) (sym (drop_more turns i d less)) (one, rest)

pub kills_left : (turns : List Turn) (i : ℕ) (d : Turn) (left behind : ℕ) → i < length turns
    → behind + one_kill (get_or turns i d) ≡ left
    → kills_of (drop i turns) + behind ≡ kills_of (drop (i + 1) turns) + left
kills_left turns i d left behind less is =
    let split : kills_of (drop i turns) ≡ one_kill (get_or turns i d) + kills_of (drop (i + 1) turns) =
    ap (λ (l : List Turn). kills_of l) (drop_more turns i d less) in
    omega (arith, split, is)
