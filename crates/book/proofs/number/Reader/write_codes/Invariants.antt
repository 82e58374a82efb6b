use Rattle.book.specs.Inner.{left}
use Rattle.book.proofs.CodesWays.{Writing}
use Rattle.book.proofs.number.Reader.write_codes.Given as goal

abbrev pub invariant-loop-word : goal.invariant-loop-word
invariant-loop-word l = Writing (left l.self) l.initial.words l.reader l.word-index l.words
