-- `push_pair` meets its contract: the word, the two fields and the line's end, one after the other.
use Rattle.text.proofs.Putting.{grows_append, room_first, room_rest}
use Rattle.text.proofs.Spelling.{pair_line}
use Rattle.text.proofs.fields.Text.push_pair.Goals as goal

pub push_field-requires-2 : goal.push_field-requires-2
push_field-requires-2 c =
    room_first _ _ _ _ (room_rest _ c.push_field.ensures.puts (room_rest _ c.push.ensures.puts (rw (pair_line c.args.word.now c.args.a c.args.b) at c.requires)))

pub push-requires-2 : goal.push-requires-2
push-requires-2 c =
    room_rest _ c.push_field-2.ensures.puts
    (room_rest _ c.push_field.ensures.puts (room_rest _ c.push.ensures.puts (rw (pair_line c.args.word.now c.args.a c.args.b) at c.requires)))

pub returns : goal.returns
returns c =
    rw (pair_line c.args.word.now c.args.a c.args.b)
    (grows_append c.push.ensures (grows_append c.push_field.ensures (grows_append c.push_field-2.ensures c.push-2.ensures)))
