-- `show` keeps its promise: a short area stays, a refused book gives its refusal's line, and an accepted one the text of its list.
use native.Mathlib.Omega.{arith}
use borrow.Author.Rules.{rules}
use Rattle.lines.proofs.Telling.{list_told, list_savable}
use Rattle.lines.proofs.answer.show.Goals as goal

pub overflow_mul-words : goal.overflow_mul-words
overflow_mul-words c = omega (arith, (list_savable c.args.book.now c.in-Ok.ensures (search rules)).0)

pub slice_bounds-words-end : goal.slice_bounds-words-end
slice_bounds-words-end c = omega (arith, (list_savable c.args.book.now c.in-Ok.ensures (search rules)).0)

pub slice_bounds-list-end : goal.slice_bounds-list-end
slice_bounds-list-end c = (list_savable c.args.book.now c.in-Ok.ensures (search rules)).2

pub invariant_of-list : goal.invariant_of-list
invariant_of-list c = record { savable = (list_savable c.args.book.now c.in-Ok.ensures (search rules)).1 }

pub returns-in-Ok : goal.returns-in-Ok
returns-in-Ok c = (c.if-out-lt-ROOM.false, list_told c.args.book.now c.in-Ok.ensures (search rules) c.tell.ensures)
