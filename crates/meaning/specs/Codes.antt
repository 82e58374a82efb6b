-- Choices and codes. Code 2v says that choice v is late (value 1), code 2v + 1 that it is early (value 0).
use Rattle.std.specs.Prelude.{ℕ, ◌+◌, ◌-◌, ◌*◌, ◌/◌, ◌%◌}

-- the code that says that choice v is late, and the one that says that it is early
abbrev pub late : ℕ → ℕ
late v = 2 * v

abbrev pub early : ℕ → ℕ
early v = 2 * v + 1

-- the opposite of an even code c is c + 1, of an odd one c - 1
unfoldable pub opposite : ℕ → ℕ
opposite c = c + 1 - 2 * (c % 2)

-- the choice that a code speaks of, and the value that it says the choice has: 1 for an even code, 0 for an odd one
abbrev pub choice_of : ℕ → ℕ
choice_of c = c / 2

abbrev pub value_of : ℕ → ℕ
value_of c = 1 - c % 2

-- the code that says that choice v has value x: late v for 1, early v for 0
abbrev pub code_of : ℕ → ℕ → ℕ
code_of v x = 2 * v + (1 - x)

-- the last choice whose codes fit 16 bits
abbrev pub last_choice : ℕ
last_choice = 32767
