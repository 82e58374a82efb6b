-- `put_impossible` meets its contract: four lines, one after the other.
use Rattle.std.proofs.Common.{rules}
use Rattle.text.proofs.Putting.{grows_append}
use Rattle.text.proofs.lines.put_impossible.Goals as goal

pub returns : goal.returns
returns c =
    let put =
    grows_append c.push_pair.ensures
    (grows_append c.push_numbers.ensures (grows_append c.push_numbers-2.ensures c.push_numbers-3.ensures)) in
    search (rules, put)
