-- `thwartpin_decide` keeps its promise: the book is refused, or `decide` is called on its list, which fits the room.
use mathlib.Core.Logic.{inl, inr}
use native.Mathlib.Omega.{arith}
use Rattle.meaning.specs.Promises.{Decides}
use Rattle.numbers.specs.Numbers.{host_decided}
use Rattle.thwartpin.proofs.Hosting.{within, lent, turned, called}
use Rattle.thwartpin.proofs.thwartpin_decide.Goals as goal

pub overflow_mul-count : goal.overflow_mul-count
overflow_mul-count c = omega (arith, within _ _ _ c.in-Ok.ensures)

pub slice_bounds-words-end : goal.slice_bounds-words-end
slice_bounds-words-end c = omega (arith, within _ _ _ c.in-Ok.ensures)

pub slice_bounds-decide-end : goal.slice_bounds-decide-end
slice_bounds-decide-end c = lent _ _ _ c.in-Ok.ensures _ (omega arith)

pub returns-in-Err : goal.returns-in-Err
returns-in-Err c = inl (turned _ _ _ _ _ c.in-Err.ensures c.number.ensures)

pub returns-in-Ok : goal.returns-in-Ok
returns-in-Ok c = inr (called _ _ host_decided Decides _ _ _ _ _ _ c.in-Ok.ensures c.decide.ensures c.host_decided.ensures)
