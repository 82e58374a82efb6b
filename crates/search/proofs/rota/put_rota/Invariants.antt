use Prim.Native.Nat.{min}
use Rattle.meaning.specs.Codes.{late}
use Rattle.meaning.proofs.AreaLaws.{Written}
use Rattle.moves.specs.Layout.{mark}
use Rattle.search.proofs.rota.put_rota.Given as goal

abbrev pub invariant-loop-v : goal.invariant-loop-v
invariant-loop-v l = Written l.v (λ u. min 1 (mark l.tables.n l.tables.words.now (late u))) l.initial.value-items l.value-items
