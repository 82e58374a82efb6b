-- What the listed books do not compute: the bytes of numbers and of a list, and which refusal comes first where two apply.
use mathlib.Core.Path.{◌≡◌, refl}
use mathlib.Core.List.{[], ◌∷◌}
use Prim.Native.Nat.{zero, suc, ◌<◌}
use native.Mathlib.Omega.{arith}
use native.Mathlib.Decide.{dec_lt}
use lib.ListN.{get_or}
use Rattle.meaning.specs.Refusals.{refused}
use Rattle.meaning.proofs.Tests.{shown, below?}
use Rattle.book.specs.Number.{number_value, number_size}
use Rattle.book.specs.Checks.{book_due}
use Rattle.book.specs.Saved.{number_bytes, book_of, Savable, Bytes, AcceptedBook}

-- number_bytes: the first and the last number of each length; number_value and number_size of the last
pub number_bytes_lem : (number_bytes 0 ≡ 0 ∷ []) × (number_bytes 127 ≡ 127 ∷ []) × (number_bytes 128 ≡ 0x80 ∷ 0x01 ∷ []) × (number_bytes 16383 ≡ 0xff ∷ 0x7f ∷ [])
number_bytes_lem = (refl, refl, refl, refl)

pub number_value_lem : (number_value (0xff ∷ 0x7f ∷ 5 ∷ []) ≡ 16383) × (number_size (0xff ∷ 0x7f ∷ 5 ∷ []) ≡ 2)
number_value_lem = (refl, refl)

-- book_of: case J
pub book_j : book_of 3 (0 ∷ 2 ∷ 3 ∷ 4 ∷ 1 ∷ 4 ∷ []) ≡ 3 ∷ 3 ∷ 0 ∷ 2 ∷ 3 ∷ 4 ∷ 1 ∷ 4 ∷ []
book_j = refl

-- Savable: case J's list into six words
pub savable_j : Savable 3 (0 ∷ 2 ∷ 3 ∷ 4 ∷ 1 ∷ 4 ∷ []) 6
unfolding dec_lt
savable_j =
    record {
      choices = omega arith;
      even = refl;
      few = omega arith;
      codes = shown (below? {P = λ i. get_or (0 ∷ 2 ∷ 3 ∷ 4 ∷ 1 ∷ 4 ∷ []) i 0 < 6} 6 (λ i. dec_lt (get_or (0 ∷ 2 ∷ 3 ∷ 4 ∷ 1 ∷ 4 ∷ []) i 0) 6)) tt;
      fits = omega arith;
    }

-- AcceptedBook: case J's book into six words. Bytes: two of them; 256 is none
pub accepted_book_j : AcceptedBook (3 ∷ 3 ∷ 0 ∷ 2 ∷ 3 ∷ 4 ∷ 1 ∷ 4 ∷ []) 6
accepted_book_j = record { n = 3; ws = 0 ∷ 2 ∷ 3 ∷ 4 ∷ 1 ∷ 4 ∷ []; list = savable_j; is = refl }

pub bytes_two : Bytes (0 ∷ 255 ∷ [])
bytes_two zero = omega arith
bytes_two (suc zero) = omega arith
bytes_two (suc (suc i)) = omega arith

pub no_bytes : Bytes (256 ∷ []) → ⊥
no_bytes h = omega (arith, h 0)

-- book_due: 1 before m's form, 3 before 6, 6 before the codes' form, a code's 4 before the form of the next, 4 before 10
pub book_order : (book_due (0x81 ∷ 0x02 ∷ 0x80 ∷ []) 0 ≡ refused 1 0)
    × (book_due (0x00 ∷ 0x81 ∷ 0x10 ∷ []) 0 ≡ refused 3 1)
    × (book_due (0x01 ∷ 0x01 ∷ 0x80 ∷ 0x80 ∷ []) 1 ≡ refused 6 0)
    × (book_due (0x01 ∷ 0x01 ∷ 0x02 ∷ 0x80 ∷ 0x80 ∷ []) 2 ≡ refused 4 2)
    × (book_due (0x01 ∷ 0x01 ∷ 0x00 ∷ 0x02 ∷ 0x00 ∷ []) 2 ≡ refused 4 3)
unfolding book_due
book_order = (refl, refl, refl, refl, refl)
