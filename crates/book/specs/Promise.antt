-- What the reader promises: which answer, and each word of the lent area afterwards. words is the area before the call, words' after it.
use Rattle.std.specs.Prelude.{◌≡◌, List, ℕ, length, Result, Ok, Err}
use Rattle.meaning.specs.Refusals.{Due, due_of}
use Rattle.meaning.specs.Sizes.{over}
use Rattle.meaning.specs.declared.refusal.Refusal.{Refusal}
use Rattle.book.specs.declared.answer.Sizes.{Sizes}
use Rattle.book.specs.Checks.{choices_in, rules_in, codes_in, book_due}

-- n and m are returned and the words ws written at the front of the area; or nothing changes
abbrev pub Says : ℕ → ℕ → List ℕ → List ℕ → Result Sizes Refusal → List ℕ → Type 0
Says n m ws words (Ok sizes) words' = (sizes.n ≡ n) × (sizes.m ≡ m) × (words' ≡ over ws words)
Says n m ws words (Err r) words' = words' ≡ words

-- what is due is refused, and where nothing is, n, m and ws are given
pub record Gives (due : Due) (n m : ℕ) (ws words : List ℕ) (answer : Result Sizes Refusal) (words' : List ℕ) : Type 0 where
  pub refuses : due_of answer ≡ due
  pub says : Says n m ws words answer words'

-- reading the book bs gives what its bytes say, or refuses what is due of it
abbrev pub Reads : List ℕ → List ℕ → Result Sizes Refusal → List ℕ → Type 0
Reads bs words = Gives (book_due bs (length words)) (choices_in bs) (rules_in bs) (codes_in bs) words
