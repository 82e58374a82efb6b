-- What each way through `read` shows. b is the book lent, bs its bytes.
use Rattle.std.specs.Prelude.{Ok, Err}
use Rattle.std.proofs.Common.{Bor}
use mathlib.Core.Path.{◌≡◌, refl, sym, ◌∙◌}
use mathlib.Core.List.{List, ◌++◌}
use Prim.Native.Nat.{ℕ, ◌+◌, ◌*◌, ◌^◌, ◌≤◌, ◌<◌}
use native.Mathlib.Omega.{arith}
use borrow.Author.Tests.{lt-ltb, le-ltb}
use lib.ListN.{length}
use Rattle.meaning.specs.declared.refusal.Refusal.{Refusal}
use Rattle.meaning.specs.declared.refusal.Refusal.TheVariants.{AnswerTooShort}
use Rattle.meaning.specs.Sizes.{max_choices, max_rules, over}
use Rattle.meaning.specs.Refusals.{number_of, place_of, Check, first_of}
use Rattle.meaning.proofs.RefusalLaws.{due_ahead}
use Rattle.book.specs.declared.number.Reader.{Reader}
use Rattle.book.specs.Number.{number_size, after_number}
use Rattle.book.specs.Checks.{numbers_in, choices_in, rules_in, codes_checks, code_bytes, codes_place, choices_checks, rules_checks, rest_checks, book_due}
use Rattle.book.specs.Promise.{Reads}
use Rattle.book.specs.Inner.{Inside, left, place, RestOf, NumberBelow, CodesSay}
use Rattle.book.proofs.Refusing.{behind}
use Rattle.book.proofs.NumberLaws.{limit_none}
use Rattle.book.proofs.CodesWays.{left_after, inside_after, place_after}

-- a reader at the front of the book
abbrev start : Bor (List ℕ) → Reader
start b = record { book = b; from = 0; at = 0 }

module _ (b : Bor (List ℕ)) (words : List ℕ) where
  -- the bytes, and what is checked after m's number
  abbrev bs : List ℕ
  bs = b.now

  abbrev rest : List Check
  rest = rest_checks bs (length words)

  -- n's number is refused
  pub refused_choices : (e : Refusal) (r' : Reader) → NumberBelow (max_choices + 1) 1 (start b) (Err e) r' → Reads bs words (Err e) words
  unfolding book_due
  refused_choices e r' said = record { refuses = sym (due_ahead (choices_checks bs) (rules_checks bs ++ rest) (number_of e) (place_of e) said.0); says = refl }

  module _ (n : ℕ) (r₁ : Reader) (choices : NumberBelow (max_choices + 1) 1 (start b) (Ok n) r₁) where
    left₁ : left r₁ ≡ after_number bs
    left₁ = left_after (start b) r₁ n choices.1

    at₁ : place r₁ ≡ number_size bs
    at₁ = omega (arith, place_after (start b) r₁ n choices.1)

    -- n's number ends within the book, and n is small
    pub choices_inside : length bs < 2 ^ 64 → Inside r₁
    choices_inside fits = inside_after (start b) r₁ n choices.1 (omega arith, omega (arith, fits))

    pub choices_few : n ≤ max_choices
    choices_few = omega (arith, choices.1.0, (limit_none (max_choices + 1) 1 0 bs choices.0).1)

    -- m's number is refused
    pub refused_rules : (e : Refusal) (r' : Reader) → NumberBelow (max_rules + 1) 3 r₁ (Err e) r' → Reads bs words (Err e) words
    unfolding book_due
    refused_rules e r' said =
        record {
          refuses =
              sym (behind (choices_checks bs) (rules_checks bs ++ rest) choices.0
              ∙ due_ahead (rules_checks bs) rest (number_of e) (place_of e) (rw (left₁, at₁) at said.0));
          says = refl;
        }

    module _ (m : ℕ) (r₂ : Reader) (rules : NumberBelow (max_rules + 1) 3 r₁ (Ok m) r₂) where
      left₂ : left r₂ ≡ code_bytes bs
      left₂ = rw left₁ at (left_after r₁ r₂ m rules.1)

      at₂ : place r₂ ≡ codes_place bs
      at₂ = rw (left₁, at₁) at (place_after r₁ r₂ m rules.1)

      -- m's number ends within the book too, and m is small
      pub rules_inside : length bs < 2 ^ 64 → Inside r₂
      rules_inside fits = inside_after r₁ r₂ m rules.1 (choices_inside fits)

      pub rules_few : m ≤ max_rules
      rules_few = omega (arith, rules.1.0, (limit_none (max_rules + 1) 3 (place r₁) (left r₁) rules.0).1)

      -- what is left decides
      due : book_due bs (length words) ≡ first_of rest
      unfolding book_due
      due = behind (choices_checks bs) (rules_checks bs ++ rest) choices.0 ∙ behind (rules_checks bs) rest (rw (left₁, at₁) at rules.0)

      is_n : n ≡ choices_in bs
      is_n = choices.1.0

      is_m : m ≡ rules_in bs
      is_m = rw left₁ at rules.1.0

      -- the area is too short
      pub short : length words < 2 * m → Reads bs words (Err (AnswerTooShort 0)) words
      short h = record { refuses = sym (due ∙ rw (lt-ltb (length words) (2 * rules_in bs) (rw is_m at h)) refl); says = refl }

      -- what is left is lent on
      module _ (room : 2 * m ≤ length words) (r₃ : Reader) (rests : RestOf r₂ r₃) where
        codes_decide : first_of rest ≡ first_of (codes_checks (2 * m) (2 * n) (place r₃) (left r₃))
        codes_decide = rw (rests.0, rests.1, is_n, is_m, left₂, at₂, le-ltb (length words) (2 * rules_in bs) (rw is_m at room)) refl

        -- a code is refused, or what follows the last
        pub refused_codes : (e : Refusal) → CodesSay (2 * m) (2 * n) r₃ (Err e) → Reads bs words (Err e) words
        refused_codes e said = record { refuses = sym (due ∙ codes_decide ∙ said); says = refl }

        -- the codes are written
        pub read_whole : (words' : List ℕ) → CodesSay (2 * m) (2 * n) r₃ (Ok tt) → words' ≡ over (numbers_in (2 * m) (left r₃)) words →
            Reads bs words (Ok (record { n = n; m = m })) words'
        read_whole words' said written =
            record { refuses = sym (due ∙ codes_decide ∙ said); says = (is_n, is_m, rw (rests.0, left₂, is_m) at written) }
