-- `index` meets its contract. The invariant: the ends from e on are linked.
use Prim.Native.Nat.{◌-◌}
use native.Mathlib.Omega.{arith}
use Rattle.moves.proofs.Steps.{word_below}
use Rattle.moves.proofs.Linking.{index_turn}
use Rattle.moves.proofs.index.index.Goals as goal

pub link-requires : goal.link-requires
link-requires c = omega (arith, c.code_at-c.ensures, word_below c.requires.sizes (c.loop-e.e - 1) (omega arith), c.loop-e.invariant.beside.long, c.requires.sizes.room, c.requires.sizes.even, c.requires.sizes.short)

pub loop-e-preserved : goal.loop-e-preserved
loop-e-preserved c = index_turn c.requires.sizes c.loop-e.invariant (omega arith) c.code_at-c.ensures c.link.ensures
