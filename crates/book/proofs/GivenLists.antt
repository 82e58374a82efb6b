-- The list of an accepted book, as the calls on lists take it.
use Rattle.std.specs.Prelude.{Ok}
use mathlib.Core.Path.{◌≡◌, sym}
use mathlib.Core.List.{List, [], ◌∷◌, ◌++◌}
use Prim.Native.Nat.{ℕ, ◌+◌, ◌*◌, ◌%◌, ◌≤◌}
use native.Mathlib.Omega.{arith}
use lib.Dec.{ltb}
use borrow.Author.Tests.{ltb-false, le-ltb, ne_eqb}
use lib.ListN.{length, take, drop}
use lib.Seq.{take_at}
use Rattle.meaning.specs.Rules.{rules}
use Rattle.meaning.specs.Sizes.{max_choices, max_rules, work_needs, over}
use Rattle.meaning.specs.Refusals.{none, first_of, first_over, short_place, room_check, list_due}
use Rattle.meaning.proofs.RefusalLaws.{first_over_lem}
use Rattle.book.specs.Number.{number_size, after_number}
use Rattle.book.specs.Checks.{choices_in, rules_in, code_bytes, codes_place, codes_in, codes_checks, choices_checks, rules_checks, rest_checks, book_due}
use Rattle.book.specs.Promise.{Reads}
use Rattle.book.specs.Saved.{Savable}
use Rattle.book.proofs.Refusing.{both_none, check_none, last_none}
use Rattle.book.proofs.NumberLaws.{limit_none}
use Rattle.book.proofs.BookLaws.{length_numbers_in, codes_below}

-- the checks of n, of m, of the room and of the codes, of which none applies
pub record Passed (bs : List ℕ) (room : ℕ) : Type 0 where
  pub first : first_of (choices_checks bs) ≡ none
  pub second : first_of (rules_checks bs) ≡ none
  pub third : 2 * rules_in bs ≤ room
  pub fourth : first_of (codes_checks (2 * rules_in bs) (2 * choices_in bs) (codes_place bs) (code_bytes bs)) ≡ none

-- nothing is due of an accepted book
pub passed : (bs : List ℕ) (room : ℕ) → none ≡ book_due bs room → Passed bs room
unfolding book_due
passed bs room e =
    let for_codes = codes_checks (2 * rules_in bs) (2 * choices_in bs) (codes_place bs) (code_bytes bs) in
    let a = both_none (choices_checks bs) (rules_checks bs ++ rest_checks bs room) (sym e) in
    let b = both_none (rules_checks bs) (rest_checks bs room) a.1 in
    let c = check_none (ltb room (2 * rules_in bs)) 6 (short_place (2 * rules_in bs)) for_codes b.1 in
    record { first = a.0; second = b.0; third = ltb-false room (2 * rules_in bs) c.0; fourth = c.1 }

-- what an accepted book gives: a list that the calls on lists do not refuse for its n, its length or its codes, written at the front of the area
pub record IsList (n m : ℕ) (ws words words' : List ℕ) : Type 0 where
  pub savable : Savable n ws (length words)
  pub count : m ≡ rules ws
  pub written : words' ≡ over ws words
  pub front : take (2 * m) words' ≡ ws

-- the list of a book is such a list
pub read_is_list : (bs words : List ℕ) (n m : ℕ) (words' : List ℕ) → Reads bs words (Ok (record { n = n; m = m })) words' → IsList n m (codes_in bs) words words'
read_is_list bs words n m words' r =
    let p = passed bs (length words) r.refuses in
    let long : length (codes_in bs) ≡ 2 * rules_in bs = length_numbers_in (2 * rules_in bs) (code_bytes bs) in
    let en : n ≡ choices_in bs = r.says.0 in
    let em : m ≡ rules_in bs = r.says.1 in
    record {
      savable =
          record {
            choices = omega (arith, (limit_none (max_choices + 1) 1 0 bs p.first).1);
            even = omega arith;
            few = omega (arith, (limit_none (max_rules + 1) 3 (number_size bs) (after_number bs) p.second).1);
            codes = λ i l. rw en (codes_below (2 * rules_in bs) (2 * choices_in bs) (codes_place bs) (code_bytes bs) p.fourth i (omega arith));
            fits = omega (arith, p.third);
          };
      count = omega arith;
      written = r.says.2;
      front = rw r.says.2 (take_at (codes_in bs) (drop (length (codes_in bs)) words) (2 * m) (omega arith));
    }

-- what a call refuses the list of a book for: at most the room of its areas
pub saved_due : (n : ℕ) (ws : List ℕ) (room area needs work : ℕ) → Savable n ws room →
    list_due n ws area needs work ≡ first_of (room_check area needs 6 ∷ room_check work (work_needs n ws) 5 ∷ [])
unfolding list_due
saved_due n ws room area needs work s =
    let last : first_over (2 * n) ws ≡ length ws = first_over_lem (2 * n) ws (length ws) (omega arith) s.codes (λ l. absurd (omega arith)) in
    rw (
      le-ltb max_choices n s.choices,
      ne_eqb (length ws % 2) 1 (omega (arith, s.even)),
      le-ltb max_rules (rules ws) s.few,
      last,
      le-ltb (length ws) (length ws) (omega arith),
    )
    (last_none (room_check area needs 6 ∷ room_check work (work_needs n ws) 5 ∷ []) 4 (length ws))
