use Prim.Native.Nat.{◌-◌}
use Rattle.book.proofs.CodesWays.{Checking}
use Rattle.book.proofs.number.Reader.check_codes.Given as goal

abbrev pub invariant-loop : goal.invariant-loop
invariant-loop l = Checking l.self l.count l.limit (l.count - l.counter) l.reader
