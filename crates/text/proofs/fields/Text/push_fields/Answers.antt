-- `push_fields` meets its contract. The invariant: the first numbers are put.
use Rattle.text.specs.Text.{field}
use Rattle.text.proofs.Looping.{turn_room, turn_put}
use Rattle.text.proofs.fields.Text.push_fields.Goals as goal

pub push_field-requires : goal.push_field-requires
push_field-requires c = rw c.from.ensures (turn_room field _ _ c.loop-x.invariant c.loop-x-test.true c.requires)

pub loop-x-preserved : goal.loop-x-preserved
loop-x-preserved c = turn_put field _ _ c.loop-x.invariant c.loop-x-test.true (rw c.from.ensures at c.push_field.ensures)
