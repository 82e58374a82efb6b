-- The book of a list, as bytes: what is to be read back. It says nothing of how a book is read.
use Rattle.std.specs.Prelude.{◌≡◌, cond, List, [], ◌∷◌, ◌++◌, ℕ, zero, suc, ◌+◌, ◌*◌, ◌/◌, ◌%◌, ◌≤◌, ◌<◌, ltb, length, get_or}
use Rattle.meaning.specs.Rules.{rules}
use Rattle.meaning.specs.Sizes.{max_choices, max_rules}
use Rattle.book.specs.Number.{may_follow}

-- a number below 128 is one byte; of a larger one the lowest seven bits come first, with the top bit set
abbrev pub bytes_up_to : ℕ → ℕ → List ℕ
bytes_up_to zero x = x ∷ []
bytes_up_to (suc k) x = cond (ltb x 128) (x ∷ []) ((x % 128 + 128) ∷ bytes_up_to k (x / 128))

abbrev pub number_bytes : ℕ → List ℕ
number_bytes x = bytes_up_to may_follow x

-- numbers one after the other
abbrev pub numbers_bytes : List ℕ → List ℕ
numbers_bytes [] = []
numbers_bytes (x ∷ xs) = number_bytes x ++ numbers_bytes xs

-- the book of n choices and the rules of the words ws
abbrev pub book_of : ℕ → List ℕ → List ℕ
book_of n ws = numbers_bytes (n ∷ rules ws ∷ ws)

-- a list that has a book, which an area of `room` words has room for
pub record Savable (n : ℕ) (ws : List ℕ) (room : ℕ) : Type 0 where
  pub choices : n ≤ max_choices
  pub even : length ws ≡ 2 * rules ws
  pub few : rules ws ≤ max_rules
  pub codes : (i : ℕ) → i < length ws → get_or ws i 0 < 2 * n
  pub fits : length ws ≤ room

-- bytes are below 256
abbrev pub Bytes : List ℕ → Type 0
Bytes bs = (i : ℕ) → get_or bs i 0 < 256

-- a book that is accepted into an area of `room` words: the book of a list that the area has room for
pub record AcceptedBook (bs : List ℕ) (room : ℕ) : Type 0 where
  pub n : ℕ
  pub ws : List ℕ
  pub list : Savable n ws room
  pub is : bs ≡ book_of n ws
