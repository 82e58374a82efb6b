-- What the reader's own functions answer. Nobody has to believe these: the promise of the whole is proved from them.
use Rattle.std.specs.Prelude.{◌≡◌, List, ℕ, zero, suc, ◌+◌, ◌^◌, ◌≤◌, ◌<◌, length, drop, Result, Ok, Err, ⊤}
use Rattle.meaning.specs.Refusals.{none, as_due, Check, first_of}
use Rattle.meaning.specs.declared.refusal.Refusal.{Refusal}
use Rattle.book.specs.declared.number.Reader.{Reader}
use Rattle.book.specs.Number.{number_checks, number_value, number_size, after_number}
use Rattle.book.specs.Checks.{limit_checks, codes_checks}

-- a reader stands within its part of the book, and every place of that part is a number that fits
abbrev pub Inside : Reader → Type 0
Inside r = (r.at ≤ length r.book.now) × (r.from + length r.book.now < 2 ^ 64)

-- the place in the whole book where it stands
abbrev pub place : Reader → ℕ
place r = r.from + r.at

-- the bytes that it has not read
abbrev pub left : Reader → List ℕ
left r = drop r.at r.book.now

-- r' is a reader of what r has left, lent on as a part
abbrev pub RestOf : Reader → Reader → Type 0
RestOf r r' = (left r' ≡ left r) × (place r' ≡ place r) × Inside r'

-- it reads a number: its value, and the reader behind it
abbrev pub Gets : Reader → ℕ → Reader → Type 0
Gets r value r' = (value ≡ number_value (left r)) × (r'.at ≡ r.at + number_size (left r)) × (r'.book.now ≡ r.book.now) × (r'.from ≡ r.from)

-- a number with these checks: it is read, or refused as is due, and the reader stands where it stood
abbrev pub NumberSays : List Check → Reader → Result ℕ Refusal → Reader → Type 0
NumberSays cs r (Ok value) r' = (first_of cs ≡ none) × Gets r value r'
NumberSays cs r (Err e) r' = (first_of cs ≡ as_due e) × (r' ≡ r)

-- its form is checked; and that it is below a limit too
abbrev pub NumberAt : Reader → Result ℕ Refusal → Reader → Type 0
NumberAt r = NumberSays (number_checks (place r) (left r)) r

abbrev pub NumberBelow : (limit number : ℕ) → Reader → Result ℕ Refusal → Reader → Type 0
NumberBelow limit number r = NumberSays (limit_checks limit number (place r) (left r)) r

-- the rest is so many codes below the limit and no more, or what is due
abbrev pub CodesSay : (count limit : ℕ) → Reader → Result ⊤ Refusal → Type 0
CodesSay count limit r (Ok done) = first_of (codes_checks count limit (place r) (left r)) ≡ none
CodesSay count limit r (Err e) = first_of (codes_checks count limit (place r) (left r)) ≡ as_due e

-- the forms of so many numbers were checked
abbrev pub Formed : ℕ → List ℕ → Type 0
Formed zero bs = Unit {0}
Formed (suc k) bs = (first_of (number_checks 0 bs) ≡ none) × Formed k (after_number bs)
