use Rattle.std.specs.Prelude.{take}
use Rattle.text.specs.Text.{spelled, signed}
use Rattle.text.specs.Inner.{Grows}
use Rattle.text.proofs.fields.Text.push_signs.Given as goal

abbrev pub invariant-loop-value : goal.invariant-loop-value
invariant-loop-value l = Grows (spelled signed (take l.value-index l.bytes)) l.initial.self l.self
