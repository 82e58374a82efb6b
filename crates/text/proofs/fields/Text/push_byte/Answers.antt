-- `push_byte` meets its contract: a store is one byte put.
use Rattle.std.proofs.Common.{rules}
use Rattle.text.proofs.Putting.{puts_byte}
use native.Mathlib.Omega.{arith}
use Rattle.text.proofs.fields.Text.push_byte.Goals as goal

pub returns : goal.returns
returns c = record { same_area = search rules; puts = puts_byte _ _ _ (omega (arith, c.requires.fits)) }
