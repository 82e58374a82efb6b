-- `push_row` meets its contract: the word, the values and the line's end, one after the other.
use Rattle.text.proofs.Putting.{grows_append}
use Rattle.text.specs.Text.{values_line}
use Rattle.text.proofs.fields.Text.push_row.Goals as goal

pub returns : goal.returns
unfolding values_line
returns c = grows_append c.push.ensures (grows_append c.push_values.ensures c.push-2.ensures)
