use Rattle.std.proofs.Common.{inl, inr}
use Rattle.locals.specs.Looks.{AskLoad, AskSwap, AskCompareSwap, AskOr, AskAdd, AskWait, AskWake, AskRequeue}
use Rattle.locals.proofs.activation.Activation.answer.Goals as goal

pub returns-in-Load : goal.returns-in-Load
returns-in-Load c = rw c.in-Load.is (c.replace_one.ensures AskLoad)

pub returns-in-Swap : goal.returns-in-Swap
returns-in-Swap c =
    elim c.in-Swap.is [
      | inl e ↦ rw e (c.replace_two.ensures AskSwap)
      | inr others ↦ elim others [
        | inl e ↦ rw e (c.replace_two.ensures AskOr)
        | inr others ↦ elim others [
          | inl e ↦ rw e (c.replace_two.ensures AskAdd)
          | inr others ↦ elim others [
            | inl e ↦ rw e (c.replace_two.ensures AskWait)
            | inr e ↦ rw e (c.replace_two.ensures AskWake)
          ]
        ]
      ]
    ]

pub returns-in-CompareSwap : goal.returns-in-CompareSwap
returns-in-CompareSwap c = rw c.in-CompareSwap.is (c.replace_three.ensures AskCompareSwap)

pub returns-in-FutexRequeue : goal.returns-in-FutexRequeue
returns-in-FutexRequeue c = rw c.in-FutexRequeue.is (c.replace_five.ensures AskRequeue)
