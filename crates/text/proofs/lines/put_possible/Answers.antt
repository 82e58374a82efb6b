-- `put_possible` meets its contract: three lines, one after the other.
use Rattle.std.proofs.Common.{rules}
use Rattle.text.proofs.Putting.{grows_append}
use Rattle.text.proofs.lines.put_possible.Goals as goal

pub returns : goal.returns
returns c =
    let put = grows_append c.push_pair.ensures (grows_append c.push_row.ensures c.push_row-2.ensures) in
    search (rules, put)
