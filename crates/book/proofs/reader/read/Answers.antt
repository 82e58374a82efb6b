-- `read` meets its promise: n's number, m's, the room and then the codes decide, in that order.
use Prim.Native.Nat.{◌*◌}
use native.Mathlib.Omega.{arith}
use Rattle.std.proofs.Common.{rules, length-take-le}
use Rattle.std.proofs.lemmas.Result.{err_from_is_err_and}
use Rattle.book.specs.Inner.{left, place}
use Rattle.book.proofs.CodesWays.{codes_formed}
use Rattle.book.proofs.ReaderWays.{refused_choices, choices_inside, choices_few, refused_rules, rules_inside, rules_few, short, refused_codes, read_whole}
use Rattle.book.proofs.reader.read.Goals as goal

pub returns-in_err-n : goal.returns-in_err-n
returns-in_err-n c =
    let p = err_from_is_err_and c.from_residual.result c.from_residual.ensures.1 in
    rw (p.1, p.2) (refused_choices c.args.book c.args.words.now _ c.number_below.new.self c.in_err-n.ensures)

pub place-requires : goal.place-requires
place-requires c = choices_inside c.args.book c.args.words.now _ c.number_below.new.self c.in_ok-n.ensures (omega arith)

pub number_below-requires-2 : goal.number_below-requires-2
number_below-requires-2 c = (choices_inside c.args.book c.args.words.now _ c.number_below.new.self c.in_ok-n.ensures (omega arith), c.place.ensures)

pub returns-in_err-m : goal.returns-in_err-m
returns-in_err-m c =
    let f = c.from_residual-in_err-m in
    let p = err_from_is_err_and f.result f.ensures.1 in
    rw (p.1, p.2) (refused_rules c.args.book c.args.words.now _ c.number_below.new.self c.in_ok-n.ensures _ c.number_below-2.new.self c.in_err-m.ensures)

pub overflow_mul-count : goal.overflow_mul-count
overflow_mul-count c = omega (arith, rules_few c.args.book c.args.words.now _ c.number_below.new.self c.in_ok-n.ensures _ c.number_below-2.new.self c.in_ok-m.ensures)

pub returns-then-words-count : goal.returns-then-words-count
returns-then-words-count c = short c.args.book c.args.words.now _ c.number_below.new.self c.in_ok-n.ensures _ c.number_below-2.new.self c.in_ok-m.ensures (omega (arith, c.if-words-count.true))

pub overflow_mul-n : goal.overflow_mul-n
overflow_mul-n c = omega (arith, choices_few c.args.book c.args.words.now _ c.number_below.new.self c.in_ok-n.ensures)

pub rest-codes-requires : goal.rest-codes-requires
rest-codes-requires c = rules_inside c.args.book c.args.words.now _ c.number_below.new.self c.in_ok-n.ensures _ c.number_below-2.new.self c.in_ok-m.ensures (omega arith)

pub returns-in_err-check_codes : goal.returns-in_err-check_codes
returns-in_err-check_codes c =
    let f = c.from_residual-in_err-check_codes in
    let p = err_from_is_err_and f.result f.ensures.1 in
    rw (p.1, p.2)
    (refused_codes c.args.book c.args.words.now _ c.number_below.new.self c.in_ok-n.ensures _ c.number_below-2.new.self c.in_ok-m.ensures c.if-words-count.false c.rest-codes.result c.rest-codes.ensures _ c.in_err-check_codes.ensures)

pub write_codes-requires : goal.write_codes-requires
write_codes-requires c =
    let r = c.rest-codes.result in
    let m = c.in_ok-m.m in
    rw (length-take-le (2 * m) c.args.words.now c.if-words-count.false) (codes_formed (2 * m) (2 * c.in_ok-n.n) (place r) (left r) c.in_ok-check_codes.ensures)

pub returns : goal.returns
returns c = read_whole c.args.book c.args.words.now _ c.number_below.new.self c.in_ok-n.ensures _ c.number_below-2.new.self c.in_ok-m.ensures c.if-words-count.false c.rest-codes.result c.rest-codes.ensures _ c.in_ok-check_codes.ensures (search rules)
