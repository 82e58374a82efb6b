-- `write_codes` meets its contract. The invariant: with the codes left, the words become what is promised.
use native.Mathlib.Omega.{arith}
use Rattle.book.proofs.CodesWays.{write_turn, write_done}
use Rattle.book.proofs.number.Reader.write_codes.Goals as goal

pub loop-word-preserved : goal.loop-word-preserved
loop-word-preserved c =
    write_turn _ _ _ _ _ c.loop-word.invariant c.loop-word-test.true c.formed_number.result c.formed_number.new.self c.loop-word.auto.words c.formed_number.ensures.0

pub returns : goal.returns
returns c = write_done _ _ _ _ _ c.loop-word.invariant (omega (arith, c.loop-word-test.false))
