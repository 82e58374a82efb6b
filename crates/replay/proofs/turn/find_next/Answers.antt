-- `find_next` meets its contract: the search goes on where a choice was raised, or begins again.
use Prim.Native.Nat.{ℕ}
use mathlib.Core.Path.{subst}
use lib.ListN.{take}
use Rattle.replay.specs.Replay.{Retreats}
use Rattle.replay.proofs.Passing.{finds_start, finds_within, finds_moved, finds_stuck, finds_ended, finds_none}
use Rattle.replay.proofs.turn.find_next.Goals as goal

pub search-requires : goal.search-requires
search-requires c = let rota = take c.args.work.now.n c.args.rota.now in
    let t : Retreats c.replay-top.new.work rota c.retreat-raised.new.work c.retreat-raised.result = subst (λ (m : ℕ). Retreats c.replay-top.new.work (take m c.args.rota.now) c.retreat-raised.new.work c.retreat-raised.result) c.replay-top.ensures.same.choices c.retreat-raised.ensures in
    let found = rw c.in-Some.is at t in
    record {
      state = finds_start c.requires.by_index.1 c.replay-top.ensures found c.forget.ensures;
      from_le_n = rw c.from.ensures (finds_within c.requires.by_index.1 c.replay-top.ensures found c.forget.ensures);
    }

pub returns-in-Ok : goal.returns-in-Ok
returns-in-Ok c = let rota = take c.args.work.now.n c.args.rota.now in
    let t : Retreats c.replay-top.new.work rota c.retreat-raised.new.work c.retreat-raised.result = subst (λ (m : ℕ). Retreats c.replay-top.new.work (take m c.args.rota.now) c.retreat-raised.new.work c.retreat-raised.result) c.replay-top.ensures.same.choices c.retreat-raised.ensures in
    let found = rw c.in-Some.is at t in
    finds_moved c.requires.by_index.1 c.replay-top.ensures found c.forget.ensures (rw c.from.ensures at c.in-Ok.ensures)

pub returns-in-Err : goal.returns-in-Err
returns-in-Err c = let rota = take c.args.work.now.n c.args.rota.now in
    let t : Retreats c.replay-top.new.work rota c.retreat-raised.new.work c.retreat-raised.result = subst (λ (m : ℕ). Retreats c.replay-top.new.work (take m c.args.rota.now) c.retreat-raised.new.work c.retreat-raised.result) c.replay-top.ensures.same.choices c.retreat-raised.ensures in
    let found = rw c.in-Some.is at t in
    finds_stuck c.requires.by_index.1 c.replay-top.ensures found c.forget.ensures (rw c.from.ensures at c.in-Err.ensures)

pub returns-in-Ok-search : goal.returns-in-Ok-search
returns-in-Ok-search c = let rota = take c.args.work.now.n c.args.rota.now in
    let t : Retreats c.replay-top.new.work rota c.retreat-raised.new.work c.retreat-raised.result = subst (λ (m : ℕ). Retreats c.replay-top.new.work (take m c.args.rota.now) c.retreat-raised.new.work c.retreat-raised.result) c.replay-top.ensures.same.choices c.retreat-raised.ensures in
    let none = rw c.in_default.is at t in
    finds_ended c.replay-top.ensures none c.forget.ensures c.undo_to.ensures c.in-Ok-search.ensures

pub returns-in-Err-search : goal.returns-in-Err-search
returns-in-Err-search c = let rota = take c.args.work.now.n c.args.rota.now in
    let t : Retreats c.replay-top.new.work rota c.retreat-raised.new.work c.retreat-raised.result = subst (λ (m : ℕ). Retreats c.replay-top.new.work (take m c.args.rota.now) c.retreat-raised.new.work c.retreat-raised.result) c.replay-top.ensures.same.choices c.retreat-raised.ensures in
    let none = rw c.in_default.is at t in
    finds_none c.replay-top.ensures none c.forget.ensures c.undo_to.ensures c.in-Err-search.ensures
