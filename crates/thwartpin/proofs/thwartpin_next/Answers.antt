-- `thwartpin_next` keeps its promise: the book is refused, or `next` is called on its list, which fits the room.
use mathlib.Core.Logic.{inl, inr}
use native.Mathlib.Omega.{arith}
use Rattle.meaning.specs.Promises.{Moves}
use Rattle.numbers.specs.Numbers.{host_moved}
use Rattle.thwartpin.proofs.Hosting.{within, lent, turned, called}
use Rattle.thwartpin.proofs.thwartpin_next.Goals as goal

pub overflow_mul-count : goal.overflow_mul-count
overflow_mul-count c = omega (arith, within _ _ _ c.in-Ok.ensures)

pub slice_bounds-words-end : goal.slice_bounds-words-end
slice_bounds-words-end c = omega (arith, within _ _ _ c.in-Ok.ensures)

pub slice_bounds-next-end : goal.slice_bounds-next-end
slice_bounds-next-end c = lent _ _ _ c.in-Ok.ensures _ (omega arith)

pub returns-in-Err : goal.returns-in-Err
returns-in-Err c = inl (turned _ _ _ _ _ c.in-Err.ensures c.number.ensures)

pub returns-in-Ok : goal.returns-in-Ok
returns-in-Ok c = inr (called _ _ host_moved Moves _ _ _ _ _ _ c.in-Ok.ensures c.next.ensures c.host_moved.ensures)
