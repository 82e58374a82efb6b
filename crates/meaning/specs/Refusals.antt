-- Refusals: their numbers and places, and which of them is due.
use Rattle.std.specs.Prelude.{◌≡◌, Result, Ok, Err, Bool, true, false, cond, List, [], ◌∷◌, ◌++◌, ℕ, suc, ◌*◌, ◌%◌, leb, ltb, eqb, length, take}
use Rattle.meaning.specs.Rules.{rules}
use Rattle.meaning.specs.Sizes.{max_choices, max_rules, rota_needs, work_needs}
use Rattle.meaning.specs.declared.refusal.Refusal.{Refusal}
use Rattle.meaning.specs.declared.refusal.Refusal.TheVariants.{TooManyChoices, OddWords, TooManyRules, CodeTooHigh, WorkTooShort, AnswerTooShort, BookEnds, NumberTooLong, NumberPadded, BytesLeft, ValueTooHigh}

-- the number of a refusal, and its place
abbrev pub number_of : Refusal → ℕ
number_of (TooManyChoices p) = 1
number_of (OddWords p) = 2
number_of (TooManyRules p) = 3
number_of (CodeTooHigh p) = 4
number_of (WorkTooShort p) = 5
number_of (AnswerTooShort p) = 6
number_of (BookEnds p) = 7
number_of (NumberTooLong p) = 8
number_of (NumberPadded p) = 9
number_of (BytesLeft p) = 10
number_of (ValueTooHigh p) = 11

abbrev pub place_of : Refusal → ℕ
place_of (TooManyChoices p) = p
place_of (OddWords p) = p
place_of (TooManyRules p) = p
place_of (CodeTooHigh p) = p
place_of (WorkTooShort p) = p
place_of (AnswerTooShort p) = p
place_of (BookEnds p) = p
place_of (NumberTooLong p) = p
place_of (NumberPadded p) = p
place_of (BytesLeft p) = p
place_of (ValueTooHigh p) = p

-- what is due: no refusal, or the one with this number and place
pub data Due : Type 0 where
  none : Due
  refused : (number place : ℕ) → Due

-- a refusal by its number and place
abbrev pub as_due : Refusal → Due
as_due r = refused (number_of r) (place_of r)

-- what an answer refuses: nothing where the call went through
abbrev pub due_of : {A : Type 0} → Result A Refusal → Due
due_of (Ok a) = none
due_of (Err r) = as_due r

-- a refusal's condition, its number and its place
pub data Check : Type 0 where
  check : (applies : Bool) (number place : ℕ) → Check

-- of checks in order, the first that applies is due
abbrev pub first_of : List Check → Due
first_of [] = none
first_of (check true number place ∷ cs) = refused number place
first_of (check false number place ∷ cs) = first_of cs

-- no check of the list applies
abbrev pub NoneApplies : List Check → Type 0
NoneApplies [] = Unit {0}
NoneApplies (check applies number place ∷ cs) = (applies ≡ false) × NoneApplies cs

-- a refusal is given of checks in order: its condition holds, and no earlier one does
pub record Given (cs : List Check) (number place : ℕ) : Type 0 where
  pub before : List Check
  pub after : List Check
  pub checks : cs ≡ before ++ check true number place ∷ after
  pub earlier : NoneApplies before

-- the place of the first item that is limit or more, and the length where there is none
abbrev pub first_over : ℕ → List ℕ → ℕ
first_over limit [] = 0
first_over limit (x ∷ xs) = cond (leb limit x) 0 (suc (first_over limit xs))

-- the place of a refusal for an area that is too short
abbrev pub short_place : ℕ → ℕ
short_place needs = 0

-- an item of xs is limit or more: refused at the first
abbrev pub over_check : ℕ → List ℕ → ℕ → Check
over_check limit xs number = check (ltb (first_over limit xs) (length xs)) number (first_over limit xs)

-- an area of `has` items is shorter than the call needs
abbrev pub room_check : ℕ → ℕ → ℕ → Check
room_check has needs number = check (ltb has needs) number (short_place needs)

-- the checks of every call on a list, in order: 1, 2, 3, 6, 5, 4. The call has `area` items for its answer and needs `needs`, and has `work` words of work
abbrev pub list_checks : ℕ → List ℕ → ℕ → ℕ → ℕ → List Check
list_checks n ws area needs work =
    check (ltb max_choices n) 1 0
    ∷ check (eqb (length ws % 2) 1) 2 0
    ∷ check (ltb max_rules (rules ws)) 3 0
    ∷ room_check area needs 6
    ∷ room_check work (work_needs n ws) 5
    ∷ over_check (2 * n) ws 4
    ∷ []

-- Next's come after those: 11 where one of the rota's first n bytes is over 1
abbrev pub next_checks : ℕ → List ℕ → List ℕ → ℕ → List Check
next_checks n ws rota work = list_checks n ws (length rota) (rota_needs n) work ++ (over_check 2 (take n rota) 11 ∷ [])

-- what is due in a call on a list, and in Next
unfoldable pub list_due : ℕ → List ℕ → ℕ → ℕ → ℕ → Due
list_due n ws area needs work = first_of (list_checks n ws area needs work)

unfoldable pub next_due : ℕ → List ℕ → List ℕ → ℕ → Due
next_due n ws rota work = first_of (next_checks n ws rota work)
