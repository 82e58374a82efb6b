-- `tell_possible` meets its contract: Forced is not refused and gives its bytes, for there is a rota; and the text of both has room.
use borrow.Author.Rules.{rules}
use Rattle.lines.proofs.Telling.{forced_not_refused, forced_each, possible_room}
use Rattle.lines.proofs.answer.List.tell_possible.Goals as goal

pub put_possible-requires : goal.put_possible-requires
put_possible-requires c =
    possible_room c.args.self.now.savable c.requires.first (forced_each c.args.self.now.savable (rw (c.in-Ok-Done.is, c.in-Ok-Done.field-0-is) at c.forced.ensures)) c.requires.room.1

pub returns-in-Err : goal.returns-in-Err
returns-in-Err c = absurd (forced_not_refused c.args.self.now.savable c.in-Err.ensures c.requires.room.0 (search rules))
