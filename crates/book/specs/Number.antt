-- A number of a rule book: groups of seven bits, lowest first; a set top bit means that another byte follows. The shortest form is
-- required, and at most two bytes. bs is the bytes of the book from the number's first on.
use Rattle.std.specs.Prelude.{Bool, true, cond, List, [], ◌∷◌, ℕ, zero, suc, ◌+◌, ◌-◌, ◌*◌, leb, ltb, drop}
use Rattle.meaning.specs.Refusals.{Check, check}

-- this many bytes may follow a number's first
abbrev pub may_follow : ℕ
may_follow = 1

-- the top bit is set: another byte follows
abbrev pub goes_on : ℕ → Bool
goes_on b = leb 128 b

-- the checks of a byte at the place `at` that k more may follow, and of those that do: the book ends there (7), none may follow and the
-- top bit is set (8), the last byte is less than `least` (9)
abbrev pub form_checks : (k least at : ℕ) → List ℕ → List Check
form_checks k least at [] = check true 7 at ∷ []
form_checks zero least at (b ∷ bs) = check (goes_on b) 8 at ∷ check (ltb b least) 9 at ∷ []
form_checks (suc k) least at (b ∷ bs) = cond (goes_on b) (form_checks k 1 (at + 1) bs) (check (ltb b least) 9 at ∷ [])

-- the value, and the number of bytes, of which k may follow the first
abbrev pub value_up_to : ℕ → List ℕ → ℕ
value_up_to k [] = 0
value_up_to zero (b ∷ bs) = b
value_up_to (suc k) (b ∷ bs) = cond (goes_on b) (b - 128 + 128 * value_up_to k bs) b

abbrev pub size_up_to : ℕ → List ℕ → ℕ
size_up_to k [] = 0
size_up_to zero (b ∷ bs) = 1
size_up_to (suc k) (b ∷ bs) = cond (goes_on b) (suc (size_up_to k bs)) 1

-- the checks of the number at the place `at`: its first byte may be 0, and a later one that is its last may not
abbrev pub number_checks : ℕ → List ℕ → List Check
number_checks at bs = form_checks may_follow 0 at bs

-- its value, how many bytes it has, and the bytes after it
abbrev pub number_value : List ℕ → ℕ
number_value bs = value_up_to may_follow bs

abbrev pub number_size : List ℕ → ℕ
number_size bs = size_up_to may_follow bs

abbrev pub after_number : List ℕ → List ℕ
after_number bs = drop (number_size bs) bs
