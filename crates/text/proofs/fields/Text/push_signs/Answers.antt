-- `push_signs` meets its contract. The invariant: the signs of the first values are put.
use Rattle.text.specs.Text.{signed}
use Rattle.text.proofs.Looping.{turn_room, turn_put}
use Rattle.text.proofs.fields.Text.push_signs.Goals as goal

pub push_byte-requires : goal.push_byte-requires
push_byte-requires c = rw c.sign_of.ensures (turn_room signed _ _ c.loop-value.invariant c.loop-value-test.true c.requires)

pub loop-value-preserved : goal.loop-value-preserved
loop-value-preserved c = turn_put signed _ _ c.loop-value.invariant c.loop-value-test.true (rw c.sign_of.ensures at c.push_byte.ensures)
