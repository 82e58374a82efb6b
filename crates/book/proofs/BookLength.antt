-- The longest book: n, m and 4,096 codes in two bytes each.
use mathlib.Core.List.{List, [], ◌∷◌}
use Prim.Native.Nat.{ℕ, ◌*◌, ◌≤◌}
use native.Mathlib.Omega.{arith}
use lib.Dec.{ltb}
use lib.ListN.{length, length-append}
use Rattle.meaning.specs.Rules.{rules}
use Rattle.book.specs.Saved.{number_bytes, numbers_bytes, book_of, Savable}
use Rattle.book.proofs.NumberLaws.{either}

-- a number has at most two bytes
number_short : (x : ℕ) → length (number_bytes x) ≤ 2
number_short x = either (λ (l : List ℕ). length l ≤ 2) (ltb x 128) _ _ (omega arith) (omega arith)

-- and so many numbers at most twice as many
numbers_short : (xs : List ℕ) → length (numbers_bytes xs) ≤ 2 * length xs
numbers_short [] = omega arith
numbers_short (x ∷ xs) = omega (arith, length-append (number_bytes x) (numbers_bytes xs), number_short x, numbers_short xs)

-- no book has more than 8,196 bytes
pub book_short : (n : ℕ) (ws : List ℕ) (room : ℕ) → Savable n ws room → length (book_of n ws) ≤ 8196
book_short n ws room s = omega (arith, numbers_short (n ∷ rules ws ∷ ws), s.even, s.few)
