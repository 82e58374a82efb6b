-- `push_numbers` meets its contract: the word, the numbers and the line's end, one after the other.
use Rattle.text.proofs.Putting.{grows_append}
use Rattle.text.specs.Text.{numbers_line}
use Rattle.text.proofs.fields.Text.push_numbers.Goals as goal

pub returns : goal.returns
unfolding numbers_line
returns c = grows_append c.push.ensures (grows_append c.push_fields.ensures c.push-2.ensures)
