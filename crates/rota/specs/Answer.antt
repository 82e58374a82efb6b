-- The bytes that are read of an input, and the text that is written for them.
use Rattle.std.specs.Prelude.{◌≡◌, ℕ, List, take, IfSome}
use Rattle.std.specs.declared.option.Option.{Option}
use Rattle.std.specs.Io.KnownBytes.{Appends}
use Rattle.lines.specs.Promise.{BookText}

-- one byte more than the longest legal book has
abbrev pub book_room : ℕ
book_room = 8197

-- bs is the front of what the reader has left: all of it, up to so many bytes
abbrev pub IsFront : Option (List ℕ) → ℕ → List ℕ → Type 0
IsFront left room bs = IfSome left (λ given. bs ≡ take room given)

-- what the writer holds grows by the text of the book at the front of the input
pub record Answers (given : List ℕ) (old new : Option (List ℕ)) : Type 0 where
  pub text : List ℕ
  pub right : BookText (take book_room given) text
  pub put : Appends old new text
