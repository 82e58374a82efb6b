-- The number of each answer for C, and the values that it puts into `out`.
use Rattle.std.specs.Prelude.{Result, Ok, Err, List, [], ◌∷◌, ℕ}
use Rattle.meaning.specs.declared.answers.Decided.{Decided}
use Rattle.meaning.specs.declared.answers.Listed.{Listed}
use Rattle.meaning.specs.declared.answers.Clashed.{Clashed}
use Rattle.meaning.specs.declared.answers.Moved.{Moved}
use Rattle.meaning.specs.declared.refusal.Refusal.{Refusal}
use Rattle.book.specs.declared.answer.Sizes.{Sizes}
use Rattle.meaning.specs.Refusals.{number_of, place_of}

-- the least length of `out`, and the answer where it is shorter
abbrev pub out_needs : ℕ
out_needs = 3

abbrev pub out_short : ℕ
out_short = 200

-- a refusal has its own number, and its place as its value

abbrev pub number_or : {A : Type 0} → (A → ℕ) → Result A Refusal → ℕ
number_or number (Ok a) = number a
number_or number (Err r) = number_of r

abbrev pub values_or : {A : Type 0} → (A → List ℕ) → Result A Refusal → List ℕ
values_or values (Ok a) = values a
values_or values (Err r) = place_of r ∷ []

-- the calls on a list, and the reader

abbrev pub decided_number : Decided → ℕ
decided_number Decided.Possible = 0
decided_number (Decided.Impossible v) = 100

abbrev pub decided_values : Decided → List ℕ
decided_values Decided.Possible = []
decided_values (Decided.Impossible v) = v.0 ∷ []

abbrev pub listed_number : Listed → ℕ
listed_number Listed.Done = 0
listed_number Listed.Impossible = 100

abbrev pub listed_values : Listed → List ℕ
listed_values Listed.Done = []
listed_values Listed.Impossible = []

abbrev pub clashed_number : Clashed → ℕ
clashed_number (Clashed.Chains v i j) = 100
clashed_number Clashed.Possible = 0

abbrev pub clashed_values : Clashed → List ℕ
clashed_values (Clashed.Chains v i j) = v.0 ∷ i ∷ j ∷ []
clashed_values Clashed.Possible = []

abbrev pub moved_number : Moved → ℕ
moved_number Moved.Moved = 0
moved_number Moved.Ended = 101
moved_number Moved.Impossible = 100

abbrev pub moved_values : Moved → List ℕ
moved_values Moved.Moved = []
moved_values Moved.Ended = []
moved_values Moved.Impossible = []

abbrev pub read_number : Sizes → ℕ
read_number sizes = 0

abbrev pub read_values : Sizes → List ℕ
read_values sizes = sizes.n ∷ sizes.m ∷ []

-- the host's calls, which give a number and no value

abbrev pub host_decided : Decided → ℕ
host_decided Decided.Possible = 0
host_decided (Decided.Impossible v) = 20

abbrev pub host_moved : Moved → ℕ
host_moved Moved.Moved = 0
host_moved Moved.Ended = 21
host_moved Moved.Impossible = 20
