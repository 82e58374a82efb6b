-- `other_end` meets its contract.
use native.Mathlib.Omega.{arith}
use Rattle.meaning.specs.Rules.{other_end}
use Rattle.moves.proofs.ends.other_end.Goals as goal

pub returns : goal.returns
unfolding other_end
returns c = omega arith
