use Rattle.std.proofs.Common.{Contains, subst, sym}
use Rattle.source_search.proofs.memo.Memo.find.Goals as goal

pub returns : goal.returns
returns c = (
  subst (λ xs. Contains xs c.in_ok-known.known.now) c.deref.ensures.value
      (c.place.result, c.in_ok-known.ensures.lookup.3.0, sym c.in_ok-known.ensures.lookup.1),
  c.is_same.ensures c.if-not-is_same.false,
)
