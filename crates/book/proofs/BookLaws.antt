-- Numbers one after the other: those of a list are read back, and what is read without a refusal is what would be written.
use mathlib.Core.Path.{◌≡◌, refl, ap, ◌∙◌}
use mathlib.Core.List.{List, [], ◌∷◌, ◌++◌}
use Prim.Native.Nat.{ℕ, zero, suc, ◌+◌, ◌≤◌, ◌<◌}
use native.Mathlib.Omega.{arith}
use lib.Dec.{leb, ltb}
use borrow.Author.Tests.{ltb-false, lt-leb}
use lib.ListN.{length, get_or}
use lib.Seq.{get_or-drop}
use Rattle.meaning.specs.Refusals.{none, check, first_of}
use Rattle.book.specs.Number.{may_follow, number_checks, number_value, number_size, after_number}
use Rattle.book.specs.Checks.{numbers_in, limit_checks, codes_checks}
use Rattle.book.specs.Saved.{number_bytes, numbers_bytes, Bytes}
use Rattle.book.proofs.Refusing.{behind, both_none, check_none}
use Rattle.book.proofs.NumberLaws.{too_large, reads_back, is_written, limit_none}

-- a number of a good form below its limit is not refused
pub below_none : (limit number at : ℕ) (bs : List ℕ) → first_of (number_checks at bs) ≡ none → number_value bs < limit →
    first_of (limit_checks limit number at bs) ≡ none
below_none limit number at bs e h = behind (number_checks at bs) (check (leb limit (number_value bs)) number at ∷ []) e ∙ rw (lt-leb limit (number_value bs) h)

-- the bytes of a number that is below a limit, followed by others
pub record NumberBack (limit number x : ℕ) (others : List ℕ) : Type 0 where
  pub good : (at : ℕ) → first_of (limit_checks limit number at (number_bytes x ++ others)) ≡ none
  pub value : number_value (number_bytes x ++ others) ≡ x
  pub left : after_number (number_bytes x ++ others) ≡ others

-- such a number is read back
pub number_back : (limit number x : ℕ) (others : List ℕ) → limit ≤ too_large may_follow → x < limit → NumberBack limit number x others
number_back limit number x others l h =
    let r = reads_back may_follow 0 x others (omega arith) (omega arith) in
    record { good = λ at. below_none limit number at (number_bytes x ++ others) (r.good at) (omega (arith, r.value)); value = r.value; left = r.left }

-- codes below a limit, with nothing after them, are read back
pub codes_back : (limit at : ℕ) (ws : List ℕ) → limit ≤ too_large may_follow → ((i : ℕ) → i < length ws → get_or ws i 0 < limit) →
    (first_of (codes_checks (length ws) limit at (numbers_bytes ws)) ≡ none) × (numbers_in (length ws) (numbers_bytes ws) ≡ ws)
codes_back limit at [] l h = (refl, refl)
codes_back limit at (x ∷ ws) l h =
    let b = number_back limit 4 x (numbers_bytes ws) l (h 0 (omega arith)) in
    let bs = numbers_bytes (x ∷ ws) in
    let r = codes_back limit (at + number_size bs) ws l (λ i k. h (suc i) (omega arith)) in (
      behind (limit_checks limit 4 at bs) (codes_checks (length ws) limit (at + number_size bs) (after_number bs)) (b.good at) ∙ rw b.left r.0,
      rw (b.value, b.left, r.1),
    )

-- bytes after a number are bytes
pub bytes_after : (bs : List ℕ) → Bytes bs → Bytes (after_number bs)
bytes_after bs h i = rw get_or-drop (h (number_size bs + i))

-- a number of which nothing is refused is the bytes of its value, and then those left
pub number_written : (limit number at : ℕ) (bs : List ℕ) → Bytes bs → first_of (limit_checks limit number at bs) ≡ none →
    bs ≡ number_bytes (number_value bs) ++ after_number bs
number_written limit number at bs h e = (is_written may_follow 0 at bs (omega arith) h (limit_none limit number at bs e).0).bytes

-- so many numbers are read
pub length_numbers_in : (k : ℕ) (bs : List ℕ) → length (numbers_in k bs) ≡ k
length_numbers_in zero bs = refl
length_numbers_in (suc k) bs = ap suc (length_numbers_in k (after_number bs))

-- codes of which nothing is refused are below the limit
pub codes_below : (k limit at : ℕ) (bs : List ℕ) → first_of (codes_checks k limit at bs) ≡ none → (i : ℕ) → i < k → get_or (numbers_in k bs) i 0 < limit
codes_below zero limit at bs e i l = absurd (omega arith)
codes_below (suc k) limit at bs e zero l =
    (limit_none limit 4 at bs (both_none (limit_checks limit 4 at bs) (codes_checks k limit (at + number_size bs) (after_number bs)) e).0).1
codes_below (suc k) limit at bs e (suc i) l =
    codes_below k limit (at + number_size bs) (after_number bs)
    (both_none (limit_checks limit 4 at bs) (codes_checks k limit (at + number_size bs) (after_number bs)) e).1
    i (omega arith)

-- and their bytes are those of the numbers read, with nothing after them
pub codes_written : (k limit at : ℕ) (bs : List ℕ) → Bytes bs → first_of (codes_checks k limit at bs) ≡ none → bs ≡ numbers_bytes (numbers_in k bs)
codes_written zero limit at [] h e = refl
codes_written zero limit at (b ∷ bs) h e = absurd (omega (arith, ltb-false 0 (suc (length bs)) (check_none (ltb 0 (suc (length bs))) 10 at [] e).0))
codes_written (suc k) limit at bs h e =
    let f = both_none (limit_checks limit 4 at bs) (codes_checks k limit (at + number_size bs) (after_number bs)) e in
    number_written limit 4 at bs h f.0
    ∙ ap (λ (l : List ℕ). number_bytes (number_value bs) ++ l) (codes_written k limit (at + number_size bs) (after_number bs) (bytes_after bs h) f.1)
