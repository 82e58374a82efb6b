-- `number_below` meets its contract: the form's checks come first, and then the limit's.
use native.Mathlib.Omega.{arith}
use Rattle.std.proofs.lemmas.Result.{err_from_is_err_and}
use Rattle.meaning.specs.Refusals.{number_of}
use Rattle.book.proofs.NumberWays.{form_refused, at_limit, below_limit}
use Rattle.book.proofs.number.Reader.number_below.Goals as goal

pub returns-in_err-value : goal.returns-in_err-value
returns-in_err-value c =
    let p = err_from_is_err_and c.from_residual.result c.from_residual.ensures.1 in
    rw (p.1, p.2) (form_refused c.args.self.now c.args.limit (number_of c.args.over) _ c.number.new.self c.in_err-value.ensures)

pub returns-then-limit-value : goal.returns-then-limit-value
returns-then-limit-value c = at_limit c.args.self.now c.args.limit _ c.number.new.self c.in_ok-value.ensures c.args.over c.requires.1 (omega (arith, c.if-limit-value.true))

pub returns : goal.returns
returns c = below_limit c.args.self.now c.args.limit _ c.number.new.self c.in_ok-value.ensures (number_of c.args.over) (omega (arith, c.if-limit-value.false))
