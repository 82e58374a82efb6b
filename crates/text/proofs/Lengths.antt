-- No text is longer than the area that the library asks for.
use mathlib.Core.Path.{◌≡◌, refl}
use mathlib.Core.Bool.{Bool, true, false, cond}
use mathlib.Core.List.{List, [], ◌∷◌, ◌++◌}
use Prim.Native.Nat.{ℕ, zero, suc, ◌+◌, ◌*◌, ◌/◌, ◌%◌, ◌^◌, ◌≤◌, ◌<◌}
use native.Mathlib.Omega.{arith}
use lib.Dec.{ltb}
use lib.ListN.{length, get_or, length-append}
use borrow.Author.Tests.{ltb-false}
use Rattle.meaning.specs.Sizes.{max_choices, max_rules}
use Rattle.text.specs.Text.{text_needs, digits_up_to, digits, field, spelled, signed, values, line_end, numbers_line, values_line, possible, rota_word, forced_word, impossible, choice_word, late_early, early_late, refused_word, possible_text, impossible_text, refusal_text}

-- ten, and its powers
abbrev pub tens : ℕ → ℕ
tens zero = 10
tens (suc k) = 10 * tens k

-- a number below a power of ten has at most so many digits
short : (j k x : ℕ) → x < tens k → length (digits_up_to j x) ≤ suc k
short zero k x h = omega arith
short (suc j) k x h = go k h (λ i. short j i (x / 10)) (ltb x 10) refl
  where
    go : (k : ℕ) → x < tens k → ((i : ℕ) → x / 10 < tens i → length (digits_up_to j (x / 10)) ≤ suc i) → (t : Bool) → ltb x 10 ≡ t →
        length (cond t ((48 + x) ∷ []) (digits_up_to j (x / 10) ++ ((48 + x % 10) ∷ []))) ≤ suc k
    go k h rest true e = omega arith
    go zero h rest false e = absurd (omega (arith, ltb-false x 10 e))
    go (suc k) h rest false e =
        let small : x / 10 < tens k = omega arith in
        omega (arith, length-append (digits_up_to j (x / 10)) ((48 + x % 10) ∷ []), rest k small)

-- so has the number itself
digits_short : (k x : ℕ) → x < tens k → length (digits x) ≤ suc k
unfolding digits
digits_short k x h = short x k x h

-- at most four digits each, with their spaces
fields_short : (xs : List ℕ) → ((i : ℕ) → i < length xs → get_or xs i 0 < tens 3) → length (spelled field xs) ≤ 5 * length xs
fields_short [] h = omega arith
fields_short (x ∷ xs) h =
    omega (arith, length-append (field x) (spelled field xs), digits_short 3 x (h 0 (omega arith)), fields_short xs (λ i l. h (suc i) (omega arith)))

-- one byte a value
signs_long : (xs : List ℕ) → length (spelled signed xs) ≡ length xs
signs_long [] = refl
signs_long (x ∷ xs) = omega (arith, signs_long xs)

-- with their space
values_short : (xs : List ℕ) → length (values xs) ≤ 1 + length xs
values_short [] = omega arith
values_short (x ∷ xs) = omega (arith, signs_long (x ∷ xs))

-- a line is its word, its fields and one byte
numbers_long : (word xs : List ℕ) → length (numbers_line word xs) ≡ length word + length (spelled field xs) + 1
unfolding numbers_line
numbers_long word xs = omega (arith, length-append word (spelled field xs ++ line_end), length-append (spelled field xs) line_end)

-- a row of values
row_long : (word xs : List ℕ) → length (values_line word xs) ≤ length word + length xs + 2
unfolding values_line
row_long word xs = omega (arith, length-append word (values xs ++ line_end), length-append (values xs) line_end, values_short xs)

-- two numbers of at most k + 1 digits
pair_short : (k a b : ℕ) → a < tens k → b < tens k → length (spelled field (a ∷ b ∷ [])) ≤ 2 * k + 4
pair_short k a b p q =
    omega (arith, length-append (digits a) (spelled field (b ∷ [])), length-append (digits b) [], digits_short k a p, digits_short k b q)

-- one number of at most four digits
one_short : (v : ℕ) → v < tens 3 → length (spelled field (v ∷ [])) ≤ 5
one_short v h = omega (arith, length-append (digits v) [], digits_short 3 v h)

-- the text of a possible list
pub possible_short : (n m : ℕ) (rota forced : List ℕ) → n ≤ max_choices → m ≤ max_rules → length rota ≡ n → length forced ≡ n →
    length (possible_text n m rota forced) ≤ text_needs
possible_short n m rota forced p q e f =
    let first = numbers_line possible (n ∷ m ∷ []) in
    let second = values_line rota_word rota in
    let third = values_line forced_word forced in
    omega (
      arith,
      length-append first (second ++ third),
      length-append second third,
      numbers_long possible (n ∷ m ∷ []),
      pair_short 3 n m (omega arith) (omega arith),
      row_long rota_word rota,
      row_long forced_word forced,
    )

-- of an impossible one
pub impossible_short : (n m v : ℕ) (there back : List ℕ) → n ≤ max_choices → m ≤ max_rules → v ≤ max_choices → length there + length back ≤ 4 * max_choices →
    ((i : ℕ) → i < length there → get_or there i 0 < tens 3) → ((i : ℕ) → i < length back → get_or back i 0 < tens 3) →
    length (impossible_text n m v there back) ≤ text_needs
impossible_short n m v there back p q l long low low' =
    let first = numbers_line impossible (n ∷ m ∷ []) in
    let second = numbers_line choice_word (v ∷ []) in
    let third = numbers_line late_early there in
    let fourth = numbers_line early_late back in
    omega (
      arith,
      length-append first (second ++ (third ++ fourth)),
      length-append second (third ++ fourth),
      length-append third fourth,
      numbers_long impossible (n ∷ m ∷ []),
      pair_short 3 n m (omega arith) (omega arith),
      numbers_long choice_word (v ∷ []),
      one_short v (omega arith),
      numbers_long late_early there,
      fields_short there low,
      numbers_long early_late back,
      fields_short back low',
    )

-- of a refusal
pub refusal_short : (number place : ℕ) → number < 2 ^ 64 → place < 2 ^ 64 → length (refusal_text number place) ≤ text_needs
refusal_short number place p q =
    omega (arith, numbers_long refused_word (number ∷ place ∷ []), pair_short 19 number place (omega arith) (omega arith))
