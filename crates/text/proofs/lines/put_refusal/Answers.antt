-- `put_refusal` meets its contract: one line, which is short enough.
use native.Mathlib.Omega.{arith}
use Rattle.text.proofs.Lengths.{refusal_short}
use Rattle.text.proofs.lines.put_refusal.Goals as goal

pub push_pair-requires : goal.push_pair-requires
push_pair-requires c = record { fits = omega (arith, refusal_short c.number.result c.place.result (omega (arith, c.number.type_inv)) (omega (arith, c.place.type_inv)), c.requires) }
