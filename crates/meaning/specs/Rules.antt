-- The rules, as a list of words: rule k is the words 2k and 2k + 1. Nothing but this file says where a rule's codes stand.
use Rattle.std.specs.Prelude.{List, ℕ, ◌+◌, ◌-◌, ◌*◌, ◌/◌, ◌%◌, ◌<◌, length, get_or}

-- how many rules there are
abbrev pub rules : List ℕ → ℕ
rules ws = length ws / 2

-- the two codes of rule k
abbrev pub left : List ℕ → ℕ → ℕ
left ws k = get_or ws (2 * k) 0

abbrev pub right : List ℕ → ℕ → ℕ
right ws k = get_or ws (2 * k + 1) 0

-- a rule has two ends, the places of its words: the other end of end e is e + 1 where e is even, and e - 1 where it is odd
unfoldable pub other_end : ℕ → ℕ
other_end e = e + 1 - 2 * (e % 2)

-- both codes of each rule speak of one of the n choices
abbrev pub InRange : ℕ → List ℕ → Type 0
InRange n ws = (k : ℕ) → k < rules ws → (left ws k < 2 * n) × (right ws k < 2 * n)
