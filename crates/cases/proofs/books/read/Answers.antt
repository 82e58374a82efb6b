-- `read` is safe: a book has few rules.
use Rattle.std.proofs.Common.{arith}
use Rattle.book.proofs.GivenLists.{read_is_list}
use Rattle.cases.proofs.books.read.Goals as goal

pub overflow_mul-m : goal.overflow_mul-m
overflow_mul-m g c =
    let list = read_is_list _ _ c.in-Ok.field-0.n c.in-Ok.field-0.m _ c.in-Ok.ensures in
    omega (arith, list.count, list.savable.few)
