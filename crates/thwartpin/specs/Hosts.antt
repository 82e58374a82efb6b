-- What the host's two calls promise. The host lends the book's bytes and the rota's bytes; the room for words and work is the call's own.
use Rattle.std.specs.Prelude.{◌≡◌, Result, ◌⊎◌, List, ℕ, replicate}
use Rattle.meaning.specs.declared.refusal.Refusal.{Refusal}
use Rattle.book.specs.Checks.{choices_in, codes_in, book_due}
use Rattle.meaning.specs.Promises.{Decides, Moves}
use Rattle.meaning.specs.Sizes.{words_room, work_room}
use Rattle.meaning.specs.Refusals.{number_of, none, as_due}
use Rattle.numbers.specs.Numbers.{number_or, host_decided, host_moved}

-- the book is refused: the rota stays
pub record Turned (book rota : List ℕ) (r : ℕ) (rota' : List ℕ) : Type 0 where
  pub refusal : Refusal
  pub due : book_due book words_room ≡ as_due refusal
  pub number : r ≡ number_of refusal
  pub stays : rota' ≡ rota

-- the book is good: the call's promise is kept on its list, with the host's rota and a work area of zeros
pub record Called {A : Type 0} (number : A → ℕ) (promise : ℕ → List ℕ → List ℕ → List ℕ → Result A Refusal → List ℕ → List ℕ → Type 0) (book rota : List ℕ) (r : ℕ) (rota' : List ℕ) : Type 0 where
  pub good : book_due book words_room ≡ none
  pub answer : Result A Refusal
  pub work' : List ℕ
  pub kept : promise (choices_in book) (codes_in book) rota (replicate work_room 0) answer rota' work'
  pub numbered : r ≡ number_or number answer

abbrev pub HostDecides : List ℕ → List ℕ → ℕ → List ℕ → Type 0
HostDecides book rota r rota' = Turned book rota r rota' ⊎ Called host_decided Decides book rota r rota'

abbrev pub HostMoves : List ℕ → List ℕ → ℕ → List ℕ → Type 0
HostMoves book rota r rota' = Turned book rota r rota' ⊎ Called host_moved Moves book rota r rota'
