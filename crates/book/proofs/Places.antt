-- Where a book ends too early, the place of the refusal is the book's length.
use mathlib.Core.Path.{◌≡◌, refl}
use mathlib.Core.Bool.{Bool, true, false}
use mathlib.Core.Logic.{◌⊎◌, inl, inr, ⊎_elim}
use mathlib.Core.List.{List, [], ◌∷◌, ◌++◌}
use Prim.Native.Nat.{ℕ, zero, suc, ◌+◌, ◌*◌}
use native.Mathlib.Omega.{arith}
use lib.Dec.{leb, ltb}
use lib.ListN.{length, length-drop}
use Rattle.meaning.specs.Sizes.{max_choices, max_rules}
use Rattle.meaning.specs.Refusals.{refused, Check, check, first_of, short_place}
use Rattle.meaning.proofs.RefusalLaws.{not_refused}
use Rattle.book.specs.Number.{may_follow, goes_on, form_checks, number_checks, number_value, number_size, after_number}
use Rattle.book.specs.Checks.{choices_in, rules_in, code_bytes, codes_place, limit_checks, codes_checks, choices_checks, rules_checks, rest_checks, book_due}
use Rattle.book.proofs.NumberLaws.{size_within}

-- the first that is due of two lists of checks is due of the first list, or of the second
due_of : (cs ds : List Check) (number place : ℕ) → first_of (cs ++ ds) ≡ refused number place →
    (first_of cs ≡ refused number place) ⊎ (first_of ds ≡ refused number place)
due_of [] ds number place e = inr e
due_of (check true k p ∷ cs) ds number place e = inl e
due_of (check false k p ∷ cs) ds number place e = due_of cs ds number place e

-- a check with another number is not what is due
not_this : (t : Bool) (k p place : ℕ) (cs : List Check) → (k ≡ 7 → ⊥) → first_of (check t k p ∷ cs) ≡ refused 7 place → first_of cs ≡ refused 7 place
not_this true k p place cs h e = absurd (h (let f : k ≡ 7 = cc in f))
not_this false k p place cs h e = e

-- of a number's bytes that begin at the place `at`, the place is that of their end
form_ends : (k least at place : ℕ) (bs : List ℕ) → first_of (form_checks k least at bs) ≡ refused 7 place → place ≡ at + length bs
form_ends k least at place [] e = let f : at ≡ place = cc in omega arith
form_ends zero least at place (b ∷ bs) e =
    absurd (not_refused 7 place (not_this (ltb b least) 9 at place [] (omega arith) (not_this (goes_on b) 8 at place (check (ltb b least) 9 at ∷ []) (omega arith) e)))
form_ends (suc k) least at place (b ∷ bs) e = go (form_ends k 1 (at + 1) place bs) (goes_on b) refl
  where
    go : (first_of (form_checks k 1 (at + 1) bs) ≡ refused 7 place → place ≡ at + 1 + length bs) → (t : Bool) → goes_on b ≡ t → place ≡ at + suc (length bs)
    go rest true q = omega (arith, rest (rw q at e))
    go rest false q = absurd (not_refused 7 place (not_this (ltb b least) 9 at place [] (omega arith) (rw q at e)))

-- of a number with a limit that is refused by another number than 7
limit_ends : (limit number at place : ℕ) (bs : List ℕ) → (number ≡ 7 → ⊥) → first_of (limit_checks limit number at bs) ≡ refused 7 place → place ≡ at + length bs
limit_ends limit number at place bs h e =
    ⊎_elim (form_ends may_follow 0 at place bs) (λ f. absurd (not_refused 7 place (not_this (leb limit (number_value bs)) number at place [] h f)))
    (due_of (number_checks at bs) (check (leb limit (number_value bs)) number at ∷ []) 7 place e)

-- what is left after a number ends where the whole does
same_end : (at place : ℕ) (bs : List ℕ) → place ≡ at + number_size bs + length (after_number bs) → place ≡ at + length bs
same_end at place bs e = omega (arith, size_within may_follow bs, length-drop (number_size bs) bs)

-- of codes
codes_end : (k limit at place : ℕ) (bs : List ℕ) → first_of (codes_checks k limit at bs) ≡ refused 7 place → place ≡ at + length bs
codes_end zero limit at place bs e = absurd (not_refused 7 place (not_this (ltb 0 (length bs)) 10 at place [] (omega arith) e))
codes_end (suc k) limit at place bs e =
    ⊎_elim (limit_ends limit 4 at place bs (omega arith))
    (λ f. same_end at place bs (codes_end k limit (at + number_size bs) place (after_number bs) f))
    (due_of (limit_checks limit 4 at bs) (codes_checks k limit (at + number_size bs) (after_number bs)) 7 place e)

-- of the codes, and of m's number with them
rest_ends : (bs : List ℕ) (room place : ℕ) → first_of (rest_checks bs room) ≡ refused 7 place → place ≡ codes_place bs + length (code_bytes bs)
rest_ends bs room place e =
    let codes = codes_checks (2 * rules_in bs) (2 * choices_in bs) (codes_place bs) (code_bytes bs) in
    codes_end (2 * rules_in bs) (2 * choices_in bs) (codes_place bs) place (code_bytes bs)
    (not_this (ltb room (2 * rules_in bs)) 6 (short_place (2 * rules_in bs)) place codes (omega arith) e)

-- of what follows n
rules_end : (bs : List ℕ) (room place : ℕ) → first_of (rules_checks bs ++ rest_checks bs room) ≡ refused 7 place → place ≡ number_size bs + length (after_number bs)
rules_end bs room place e =
    ⊎_elim (limit_ends (max_rules + 1) 3 (number_size bs) place (after_number bs) (omega arith))
    (λ f. same_end (number_size bs) place (after_number bs) (rest_ends bs room place f)) (due_of (rules_checks bs) (rest_checks bs room) 7 place e)

-- where 7 is due of a book, its place is the book's length
pub ends_at_length : (bs : List ℕ) (room place : ℕ) → book_due bs room ≡ refused 7 place → place ≡ length bs
unfolding book_due
ends_at_length bs room place e =
    ⊎_elim (λ (f : first_of (choices_checks bs) ≡ refused 7 place). omega (arith, limit_ends (max_choices + 1) 1 0 place bs (omega arith) f))
    (λ (f : first_of (rules_checks bs ++ rest_checks bs room) ≡ refused 7 place).
    omega (arith, rules_end bs room place f, size_within may_follow bs, length-drop (number_size bs) bs))
    (due_of (choices_checks bs) (rules_checks bs ++ rest_checks bs room) 7 place e)
