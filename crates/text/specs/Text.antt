-- The text of an answer as bytes (ASCII): words, numbers in decimal, and lines that end in LF. One space stands before each field.
use Rattle.std.specs.Prelude.{cond, List, [], ◌∷◌, ◌++◌, ℕ, zero, suc, ◌+◌, ◌/◌, ◌%◌, ltb}

-- a number in decimal, its digits found from the last to the first; as many of them as the number says are always enough
abbrev pub digits_up_to : ℕ → ℕ → List ℕ
digits_up_to zero x = (48 + x) ∷ []
digits_up_to (suc k) x = cond (ltb x 10) ((48 + x) ∷ []) (digits_up_to k (x / 10) ++ ((48 + x % 10) ∷ []))

unfoldable pub digits : ℕ → List ℕ
digits x = digits_up_to x x

-- a field that is a number, with the space before it
abbrev pub field : ℕ → List ℕ
field x = 32 ∷ digits x

-- items one after the other, each spelled by f
abbrev pub spelled : (ℕ → List ℕ) → List ℕ → List ℕ
spelled f [] = []
spelled f (x ∷ xs) = f x ++ spelled f xs

-- a value is its digit, and a dot stands for 2
abbrev pub sign : ℕ → ℕ
sign zero = 48
sign (suc zero) = 49
sign (suc (suc x)) = 46

abbrev pub signed : ℕ → List ℕ
signed x = sign x ∷ []

-- a field of values, with none between them; no field, and no space, where there are none
abbrev pub values : List ℕ → List ℕ
values [] = []
values (x ∷ xs) = 32 ∷ spelled signed (x ∷ xs)

abbrev pub line_end : List ℕ
line_end = 10 ∷ []

-- a line of a word and numbers, and one of a word and values
unfoldable pub numbers_line : List ℕ → List ℕ → List ℕ
numbers_line word xs = word ++ (spelled field xs ++ line_end)

unfoldable pub values_line : List ℕ → List ℕ → List ℕ
values_line word xs = word ++ (values xs ++ line_end)

-- possible
abbrev pub possible : List ℕ
possible = 112 ∷ 111 ∷ 115 ∷ 115 ∷ 105 ∷ 98 ∷ 108 ∷ 101 ∷ []

-- rota
abbrev pub rota_word : List ℕ
rota_word = 114 ∷ 111 ∷ 116 ∷ 97 ∷ []

-- forced
abbrev pub forced_word : List ℕ
forced_word = 102 ∷ 111 ∷ 114 ∷ 99 ∷ 101 ∷ 100 ∷ []

-- impossible
abbrev pub impossible : List ℕ
impossible = 105 ∷ 109 ∷ possible

-- choice
abbrev pub choice_word : List ℕ
choice_word = 99 ∷ 104 ∷ 111 ∷ 105 ∷ 99 ∷ 101 ∷ []

-- late-early
abbrev pub late_early : List ℕ
late_early = 108 ∷ 97 ∷ 116 ∷ 101 ∷ 45 ∷ 101 ∷ 97 ∷ 114 ∷ 108 ∷ 121 ∷ []

-- early-late
abbrev pub early_late : List ℕ
early_late = 101 ∷ 97 ∷ 114 ∷ 108 ∷ 121 ∷ 45 ∷ 108 ∷ 97 ∷ 116 ∷ 101 ∷ []

-- refused
abbrev pub refused_word : List ℕ
refused_word = 114 ∷ 101 ∷ 102 ∷ 117 ∷ 115 ∷ 101 ∷ 100 ∷ []

-- the text of a possible list: n, m, its rota and its forced bytes
abbrev pub possible_text : (n m : ℕ) (rota forced : List ℕ) → List ℕ
possible_text n m rota forced = numbers_line possible (n ∷ m ∷ []) ++ (values_line rota_word rota ++ values_line forced_word forced)

-- of an impossible one: n, m, the choice that clashes, and its chains from late to early and from early to late
abbrev pub impossible_text : (n m v : ℕ) (there back : List ℕ) → List ℕ
impossible_text n m v there back =
    numbers_line impossible (n ∷ m ∷ []) ++ (numbers_line choice_word (v ∷ []) ++ (numbers_line late_early there ++ numbers_line early_late back))

-- of a refusal: its number and place
abbrev pub refusal_text : (number place : ℕ) → List ℕ
refusal_text number place = numbers_line refused_word (number ∷ place ∷ [])

-- the least length of the lent area: no text is longer
abbrev pub text_needs : ℕ
text_needs = 5200
