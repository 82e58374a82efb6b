-- What is read of an input, and what is written for it: tried on a short input, and on an empty one.
use Rattle.std.specs.Prelude.{Some}
use mathlib.Core.Path.{refl}
use mathlib.Core.List.{[], ◌∷◌}
use Rattle.lines.proofs.Examples.{text_empty}
use Rattle.rota.specs.Answer.{IsFront, Answers}

-- IsFront: two of three bytes, where the room is for two; and all of them, where it is for more
pub front_of_more : IsFront (Some (3 ∷ 1 ∷ 4 ∷ [])) 2 (3 ∷ 1 ∷ [])
front_of_more = refl

pub front_of_fewer : IsFront (Some (3 ∷ 1 ∷ 4 ∷ [])) 5 (3 ∷ 1 ∷ 4 ∷ [])
front_of_fewer = refl

-- Answers: to an empty input, behind a byte that was written before
pub answer_empty : Answers [] (Some (7 ∷ [])) (Some (7 ∷ 114 ∷ 101 ∷ 102 ∷ 117 ∷ 115 ∷ 101 ∷ 100 ∷ 32 ∷ 55 ∷ 32 ∷ 48 ∷ 10 ∷ []))
answer_empty = record { text = 114 ∷ 101 ∷ 102 ∷ 117 ∷ 115 ∷ 101 ∷ 100 ∷ 32 ∷ 55 ∷ 32 ∷ 48 ∷ 10 ∷ []; right = text_empty; put = refl }
