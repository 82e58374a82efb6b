-- `mark_across` meets its contract.
use Prim.Native.Nat.{◌*◌, ◌<◌}
use native.Mathlib.Omega.{arith}
use lib.ListN.{length}
use Rattle.meaning.specs.Rules.{other_end}
use Rattle.meaning.proofs.CodeLaws.{opposite_below}
use Rattle.moves.proofs.Steps.{other_end_below, word_below}
use Rattle.chains.proofs.nearer.mark_across.Goals as goal

pub mark-requires : goal.mark-requires
mark-requires c = let inside : other_end c.args.end < length c.args.work.now.rules = other_end_below c.args.end (length c.args.work.now.rules) c.requires.sizes.even c.requires.e_in_bounds in
    let small : c.across-b.result.0 < 2 * c.args.work.now.n = omega (arith, c.across-b.ensures, word_below c.requires.sizes (other_end c.args.end) inside) in
    omega (arith, c.opposite-far.ensures, small, opposite_below c.args.work.now.n c.across-b.result.0 small)
