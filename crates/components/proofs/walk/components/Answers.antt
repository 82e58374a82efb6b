-- `components` meets its contract. The invariant: the walk holds the lent area, its stack is empty, and the codes passed are met.
use mathlib.Core.Path.{refl}
use native.Mathlib.Omega.{arith}
use Rattle.components.proofs.Answers.{begin}
use Rattle.components.proofs.Sweeping.{side_refl}
use Rattle.components.proofs.walk.components.Goals as goal

pub loop-x-init : goal.loop-x-init
loop-x-init c = record {
  same = refl;
  sweeps = rw c.new-walk.ensures.walk (record {
    n = refl;
    words = refl;
    top = refl;
    depth = refl;
    sweeping = record { state = begin c.requires.ready c.requires.by_index; side = side_refl _ _; met = λ y u. absurd (omega arith); within = omega arith };
  });
}
