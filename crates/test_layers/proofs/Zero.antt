-- The answer 0 can be given to every request.
use Rattle.std.proofs.Common.{refl, inl}
use Rattle.locals.specs.Looks.{AskLoad, AskStore, AskSwap, AskCompareSwap, AskOr, AskAdd, AskFork, AskPrint, AskWait}
use Rattle.locals.specs.Looks.{AskWake, AskRequeue, AskReturn, AskReturnValue, AskFault, Request, Look, Goes, Asks}
use Rattle.locals.specs.Looks.{Leaves, Breaks, Rests}
use Rattle.locals.specs.Requests.{Answers, CanBeAnswered}

answers : (request : Request) → Answers 0 request
answers (AskLoad a) = tt
answers (AskStore a v) = tt
answers (AskSwap a v) = tt
answers (AskCompareSwap a expected new) = tt
answers (AskOr a v) = tt
answers (AskAdd a v) = tt
answers (AskFork entry arguments has_room) = inl refl
answers (AskPrint number) = tt
answers (AskWait a expected) = tt
answers (AskWake a n) = tt
answers (AskRequeue a b wake moves expected) = tt
answers AskReturn = tt
answers (AskReturnValue v) = tt
answers (AskFault cause) = tt

pub zero_answers : (look : Look) → CanBeAnswered look 0
zero_answers (Asks request go) = answers request
zero_answers (Leaves phase) = tt
zero_answers (Goes to) = tt
zero_answers Breaks = tt
zero_answers Rests = tt
