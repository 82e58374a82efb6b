-- `push_field` meets its contract: a space and the digits.
use Rattle.text.proofs.Putting.{grows_append, room_rest}
use Rattle.text.specs.Text.{digits}
use Rattle.text.proofs.fields.Text.push_field.Goals as goal

pub push_digits-requires : goal.push_digits-requires
push_digits-requires c = room_rest (digits c.args.x) c.push.ensures.puts c.requires

pub returns : goal.returns
returns c = grows_append c.push.ensures c.push_digits.ensures
