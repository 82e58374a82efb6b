-- The loops that put items one by one: what room a turn has, and what it leaves.
use mathlib.Core.List.{List, ◌++◌}
use Prim.Native.Nat.{ℕ, suc, ◌+◌, ◌<◌}
use lib.ListN.{length, take, drop, get_or}
use Rattle.text.specs.declared.fields.Text.{Text}
use Rattle.text.specs.Text.{spelled}
use Rattle.text.specs.Inner.{Fits, Grows}
use Rattle.text.proofs.Putting.{room_first, room_rest, grows_append}
use Rattle.text.proofs.Spelling.{spelled_more, spelled_split}

module _ (f : ℕ → List ℕ) (xs : List ℕ) (i : ℕ) {before text : Text} (so_far : Grows (spelled f (take i xs)) before text) where
  -- where all the items have room, the next has
  pub turn_room : i < length xs → Fits (spelled f xs) before → Fits (f (get_or xs i 0)) text
  turn_room h room =
      room_first (f (get_or xs i 0)) (spelled f (drop (suc i) xs)) _ _
      (room_rest (f (get_or xs i 0) ++ spelled f (drop (suc i) xs)) so_far.puts (rw (spelled_split f xs i h) at room))

  -- one item more
  pub turn_put : {text' : Text} → i < length xs → Grows (f (get_or xs i 0)) text text' → Grows (spelled f (take (i + 1) xs)) before text'
  turn_put h next = rw (spelled_more f xs i h) (grows_append so_far next)
