-- A rule book is n, then m, then the 2m codes. What it says, and which refusal is due. bs is the book's bytes.
use Rattle.std.specs.Prelude.{List, [], ◌∷◌, ◌++◌, ℕ, zero, suc, ◌+◌, ◌*◌, leb, ltb, length}
use Rattle.meaning.specs.Refusals.{Due, Check, check, first_of, room_check}
use Rattle.meaning.specs.Sizes.{max_choices, max_rules}
use Rattle.book.specs.Number.{number_checks, number_value, number_size, after_number}

-- so many numbers, one after the other
abbrev pub numbers_in : ℕ → List ℕ → List ℕ
numbers_in zero bs = []
numbers_in (suc k) bs = number_value bs ∷ numbers_in k (after_number bs)

-- n, m, and the bytes of the codes with the place where they begin
abbrev pub choices_in : List ℕ → ℕ
choices_in bs = number_value bs

abbrev pub rules_in : List ℕ → ℕ
rules_in bs = number_value (after_number bs)

abbrev pub code_bytes : List ℕ → List ℕ
code_bytes bs = after_number (after_number bs)

abbrev pub codes_place : List ℕ → ℕ
codes_place bs = number_size bs + number_size (after_number bs)

-- the 2m codes
abbrev pub codes_in : List ℕ → List ℕ
codes_in bs = numbers_in (2 * rules_in bs) (code_bytes bs)

-- a number at the place `at`: its form, and then that it is below a limit, else refused by this number
abbrev pub limit_checks : (limit number at : ℕ) → List ℕ → List Check
limit_checks limit number at bs = number_checks at bs ++ (check (leb limit (number_value bs)) number at ∷ [])

-- so many codes from the place `at` on, each below the limit (4), and no byte after the last (10)
abbrev pub codes_checks : (count limit at : ℕ) → List ℕ → List Check
codes_checks zero limit at bs = check (ltb 0 (length bs)) 10 at ∷ []
codes_checks (suc k) limit at bs = limit_checks limit 4 at bs ++ codes_checks k limit (at + number_size bs) (after_number bs)

-- n's form and 1; m's form and 3; then 6, the codes and 10, for an area of `room` words
abbrev pub choices_checks : List ℕ → List Check
choices_checks bs = limit_checks (max_choices + 1) 1 0 bs

abbrev pub rules_checks : List ℕ → List Check
rules_checks bs = limit_checks (max_rules + 1) 3 (number_size bs) (after_number bs)

abbrev pub rest_checks : List ℕ → ℕ → List Check
rest_checks bs room = room_check room (2 * rules_in bs) 6 ∷ codes_checks (2 * rules_in bs) (2 * choices_in bs) (codes_place bs) (code_bytes bs)

-- all of them in order, and what is due
abbrev pub book_checks : List ℕ → ℕ → List Check
book_checks bs room = choices_checks bs ++ (rules_checks bs ++ rest_checks bs room)

unfoldable pub book_due : List ℕ → ℕ → Due
book_due bs room = first_of (book_checks bs room)
