use Rattle.rounds.specs.Rounds.{byte_of}
use Rattle.meaning.specs.Codes.{late, early}
use Rattle.moves.specs.Layout.{spare}
use Rattle.meaning.proofs.AreaLaws.{Written}
use Rattle.rounds.proofs.bytes.put_forced.Given as goal

abbrev pub invariant-loop-v : goal.invariant-loop-v
invariant-loop-v l = Written l.v (λ u. byte_of (spare l.tables.n l.tables.words.now (late u)) (spare l.tables.n l.tables.words.now (early u))) l.initial.byte-items l.byte-items
