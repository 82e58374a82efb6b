-- `push_digits`, which calls itself on the tenth of its number, meets its contract. The measure is the number.
use Rattle.std.proofs.Common.{[], ◌∷◌, arith, ◌+◌, ◌%◌}
use Rattle.text.proofs.Putting.{grows_append, room_first, room_rest}
use Rattle.text.proofs.Spelling.{digits_one, digits_more}
use Rattle.text.proofs.fields.Text.+push_digits.Goals as goal

pub push_digit-requires : goal.push_digit-requires
push_digit-requires t c = (c.if-x-lt10.true, rw (digits_one c.args.x c.if-x-lt10.true) at c.requires)

pub returns-then-x-lt10 : goal.returns-then-x-lt10
returns-then-x-lt10 t c = rw (digits_one c.args.x c.if-x-lt10.true) c.push_digit.ensures

pub push_digits-requires : goal.push_digits-requires
push_digits-requires t c = (omega (arith, c.decreases, c.if-x-lt10.false), room_first _ ((48 + c.args.x % 10) ∷ []) _ _ (rw (digits_more c.args.x c.if-x-lt10.false) at c.requires))

pub push_digit-requires-2 : goal.push_digit-requires-2
push_digit-requires-2 t c = (omega arith, room_rest _ c.push_digits.ensures.puts (rw (digits_more c.args.x c.if-x-lt10.false) at c.requires))

pub returns : goal.returns
returns t c = rw (digits_more c.args.x c.if-x-lt10.false) (grows_append c.push_digits.ensures c.push_digit-2.ensures)
