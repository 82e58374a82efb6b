-- `push_values` meets its contract: nothing where there are no values, else a space and their signs.
use Rattle.std.proofs.Common.{sym, ◌∙◌}
use Rattle.std.proofs.lemmas.Bool.{eqb-false}
use Rattle.text.specs.Text.{spelled, signed}
use Rattle.text.proofs.Putting.{grows_append, room_rest}
use Rattle.text.proofs.Spelling.{values_some}
use Rattle.text.proofs.fields.Text.push_values.Goals as goal

pub push_signs-requires : goal.push_signs-requires
push_signs-requires c = room_rest (spelled signed c.args.bytes.now) c.push.ensures.puts (rw (values_some c.args.bytes.now (eqb-false _ 0 (sym c.is_empty.ensures ∙ c.if-is_empty.false))) at c.requires)

pub returns : goal.returns
returns c = rw (values_some c.args.bytes.now (eqb-false _ 0 (sym c.is_empty.ensures ∙ c.if-is_empty.false))) (grows_append c.push.ensures c.push_signs.ensures)
