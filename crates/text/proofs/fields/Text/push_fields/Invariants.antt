use Rattle.std.specs.Prelude.{take}
use Rattle.text.specs.Text.{spelled, field}
use Rattle.text.specs.Inner.{Grows}
use Rattle.text.proofs.fields.Text.push_fields.Given as goal

abbrev pub invariant-loop-x : goal.invariant-loop-x
invariant-loop-x l = Grows (spelled field (take l.x-index l.numbers)) l.initial.self l.self
