-- Reading and writing agree: the book of a list is read back, and what is accepted is the book of the list that is given. Which list that is stands in `GivenLists`.
use Rattle.std.specs.Prelude.{Ok}
use mathlib.Core.Path.{◌≡◌, refl, sym, ap, ap₂, ◌∙◌}
use mathlib.Core.Bool.{false}
use mathlib.Core.Logic.{◌↔◌}
use mathlib.Core.List.{List, ◌++◌}
use Prim.Native.Nat.{ℕ, ◌+◌, ◌*◌}
use native.Mathlib.Omega.{arith}
use lib.Dec.{ltb, lit≤}
use borrow.Author.Tests.{le-ltb}
use lib.ListN.{length}
use Rattle.meaning.specs.Refusals.{none}
use Rattle.meaning.specs.Rules.{rules}
use Rattle.meaning.specs.Sizes.{max_choices, max_rules, over}
use Rattle.book.specs.Number.{number_size, after_number}
use Rattle.book.specs.Checks.{choices_in, rules_in, code_bytes, codes_place, codes_in, choices_checks, rules_checks, book_due}
use Rattle.book.specs.Promise.{Reads}
use Rattle.book.specs.Saved.{number_bytes, numbers_bytes, book_of, Savable, Bytes, AcceptedBook}
use Rattle.book.proofs.Refusing.{behind}
use Rattle.book.proofs.BookLaws.{number_back, codes_back, bytes_after, number_written, codes_written}
use Rattle.book.proofs.GivenLists.{passed, read_is_list}

-- the book of a list that fits is read back: n, the number of rules, and the words, written at the front of the area
pub book_is_read : (n : ℕ) (ws words : List ℕ) → Savable n ws (length words) → Reads (book_of n ws) words (Ok (record { n = n; m = rules ws })) (over ws words)
unfolding book_due
book_is_read n ws words s =
    let bs = book_of n ws in
    let m = rules ws in
    let rest = number_bytes m ++ numbers_bytes ws in
    let first = number_back (max_choices + 1) 1 n rest (lit≤ tt) (omega (arith, s.choices)) in
    let second = number_back (max_rules + 1) 3 m (numbers_bytes ws) (lit≤ tt) (omega (arith, s.few)) in
    let choices : choices_in bs ≡ n = first.value in
    let count : rules_in bs ≡ m = rw first.left second.value in
    let tail : code_bytes bs ≡ numbers_bytes ws = rw first.left second.left in
    let codes = codes_back (2 * n) (codes_place bs) ws (omega (arith, s.choices)) s.codes in
    let even : 2 * m ≡ length ws = sym s.even in
    let room : ltb (length words) (length ws) ≡ false = le-ltb (length words) (length ws) s.fits in
    record {
      refuses =
          sym (behind (choices_checks bs) _ (first.good 0)
          ∙ behind (rules_checks bs) _ (rw first.left (second.good (number_size bs)))
          ∙ rw (count, choices, tail, even, room) codes.0);
      says = (sym choices, sym count, rw (count, tail, even, codes.1));
    }

-- the bytes of a book that is accepted are those of the book of the list that is given
pub read_is_book : (bs words : List ℕ) (n m : ℕ) (words' : List ℕ) → Bytes bs → Reads bs words (Ok (record { n = n; m = m })) words' → bs ≡ book_of n (codes_in bs)
read_is_book bs words n m words' h r =
    let p = passed bs (length words) r.refuses in
    let count : rules_in bs ≡ rules (codes_in bs) = sym r.says.1 ∙ (read_is_list bs words n m words' r).count in
    rw r.says.0
    (number_written (max_choices + 1) 1 0 bs h p.first
    ∙ ap (λ (l : List ℕ). number_bytes (choices_in bs) ++ l)
    (number_written (max_rules + 1) 3 (number_size bs) (after_number bs) (bytes_after bs h) p.second
    ∙ ap₂ (λ (k : ℕ) (l : List ℕ). number_bytes k ++ l) count
    (codes_written (2 * rules_in bs) (2 * choices_in bs) (codes_place bs) (code_bytes bs) (bytes_after (after_number bs) (bytes_after bs h)) p.fourth)))

-- a book is accepted exactly if no refusal is due of it
pub accepted_book : (bs words : List ℕ) → Bytes bs → AcceptedBook bs (length words) ↔ (book_due bs (length words) ≡ none)
accepted_book bs words h = (
  (λ a. rw (sym a.is) at (sym (book_is_read a.n a.ws words a.list).refuses)),
  (λ e.
      let n = choices_in bs in
      let m = rules_in bs in
      let r : Reads bs words (Ok (record { n = n; m = m })) (over (codes_in bs) words) = record { refuses = sym e; says = (refl, refl, refl) } in
      record { n = n; ws = codes_in bs; list = (read_is_list bs words n m (over (codes_in bs) words) r).savable; is = read_is_book bs words n m (over (codes_in bs) words) h r }),
)
