-- `tell_impossible` meets its contract: Clash is not refused and gives its chains, for there is no rota; and their text has room.
use borrow.Author.Rules.{rules}
use Rattle.lines.proofs.Telling.{clash_not_refused, clash_chains, impossible_room}
use Rattle.lines.proofs.answer.List.tell_impossible.Goals as goal

pub put_impossible-requires : goal.put_impossible-requires
put_impossible-requires c =
    let chains = clash_chains c.args.self.now.savable (rw (c.in-Ok-Chains.is, c.in-Ok-Chains.field-0-is) at c.clash.ensures) c.clash.auto.chains in
    rw (c.split_at.ensures.front, c.split_at.ensures.back) (impossible_room c.args.self.now.savable chains.1 chains.0 c.requires.room.1)

pub returns-in-Err : goal.returns-in-Err
returns-in-Err c = absurd (clash_not_refused c.args.self.now.savable c.in-Err.ensures c.requires.room.0 (search rules))
