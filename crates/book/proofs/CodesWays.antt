-- The loops over the codes of a book.
use Rattle.std.specs.Prelude.{Ok, Err}
use mathlib.Core.Path.{◌≡◌, refl, sym, ap, ◌∙◌}
use mathlib.Core.Bool.{Bool, true, false}
use mathlib.Core.List.{List, [], ◌∷◌, ◌++◌, append-nil}
use Prim.Native.Nat.{ℕ, zero, suc, ◌+◌, ◌-◌, ◌≤◌, ◌<◌}
use native.Mathlib.Omega.{arith}
use lib.Dec.{ltb}
use lib.ListN.{length, set, length-drop, drop_of_length-le}
use lib.Seq.{drop-drop}
use Rattle.meaning.specs.declared.refusal.Refusal.{Refusal}
use Rattle.meaning.specs.Sizes.{over, over_at}
use Rattle.meaning.specs.Refusals.{number_of, place_of, none, check, first_of}
use Rattle.meaning.proofs.AreaLaws.{over_at_none, over_at_one, over_at_append}
use Rattle.meaning.proofs.RefusalLaws.{not_refused, due_ahead}
use Rattle.book.specs.declared.number.Reader.{Reader}
use Rattle.book.specs.Number.{may_follow, goes_on, form_checks, number_size, after_number}
use Rattle.book.specs.Checks.{numbers_in, limit_checks, codes_checks}
use Rattle.book.specs.Inner.{Inside, left, place, Gets, NumberBelow, CodesSay, Formed}
use Rattle.book.proofs.Refusing.{behind, both_none, check_none}
use Rattle.book.proofs.NumberLaws.{size_within, limit_none}
use Rattle.book.proofs.BookLaws.{length_numbers_in}

module _ (r r' : Reader) (value : ℕ) (gets : Gets r value r') where
  -- what is left after a number
  pub left_after : left r' ≡ after_number (left r)
  left_after = rw (gets.1, gets.2) (sym (drop-drop (number_size (left r)) r.at r.book.now))

  -- a number that is there ends within the book
  pub inside_after : Inside r → Inside r'
  inside_after h = (rw gets.2 (omega (arith, h.0, gets.1, size_within may_follow (left r), length-drop r.at r.book.now)), rw (gets.2, gets.3) h.1)

  -- and its size is how far the reader goes on
  pub place_after : place r' ≡ place r + number_size (left r)
  place_after = omega (arith, gets.1, gets.3)

-- check_codes: the codes that r has left decide as all of them do
pub record Checking (before : Reader) (count limit codes : ℕ) (r : Reader) : Type 0 where
  pub inside : Inside r
  pub same : first_of (codes_checks codes limit (place r) (left r)) ≡ first_of (codes_checks count limit (place before) (left before))

module _ (before : Reader) (count limit codes : ℕ) (r : Reader) (c : Checking before count limit codes r) (rest : ℕ) (more : codes ≡ suc rest) where
  -- the checks of the next code, and of those after it
  next_checks : first_of (limit_checks limit 4 (place r) (left r) ++ codes_checks rest limit (place r + number_size (left r)) (after_number (left r)))
      ≡ first_of (codes_checks count limit (place before) (left before))
  next_checks = rw more at c.same

  -- a good code is passed
  pub check_turn : (value : ℕ) (r' : Reader) → NumberBelow limit 4 r (Ok value) r' → Checking before count limit rest r'
  check_turn value r' said =
      record {
        inside = inside_after r r' value said.1 c.inside;
        same = rw (left_after r r' value said.1, place_after r r' value said.1) (sym (behind (limit_checks limit 4 (place r) (left r)) _ said.0) ∙ next_checks);
      }

  -- a code that is refused is what is due
  pub check_refused : (e : Refusal) (r' : Reader) → NumberBelow limit 4 r (Err e) r' → CodesSay count limit before (Err e)
  check_refused e r' said = sym next_checks ∙ due_ahead (limit_checks limit 4 (place r) (left r)) _ (number_of e) (place_of e) said.0

-- a form that is good at one place is good at any
form_none : (k least p q : ℕ) (bs : List ℕ) → first_of (form_checks k least p bs) ≡ none → first_of (form_checks k least q bs) ≡ none
form_none k least p q [] e = absurd (not_refused 7 p (sym e))
form_none zero least p q (b ∷ bs) e =
    let f = check_none (goes_on b) 8 p (check (ltb b least) 9 p ∷ []) e in
    rw (f.0, (check_none (ltb b least) 9 p [] f.1).0) refl
form_none (suc k) least p q (b ∷ bs) e = go (form_none k 1 (p + 1) (q + 1) bs) (goes_on b) refl
  where
    go : (first_of (form_checks k 1 (p + 1) bs) ≡ none → first_of (form_checks k 1 (q + 1) bs) ≡ none) → (t : Bool) → goes_on b ≡ t →
        first_of (form_checks (suc k) least q (b ∷ bs)) ≡ none
    go rest true h = rw h (rest (rw h at e))
    go rest false h = rw (h, (check_none (ltb b least) 9 p [] (rw h at e)).0) refl

-- where nothing is due of codes, each form is good
pub codes_formed : (k limit at : ℕ) (bs : List ℕ) → first_of (codes_checks k limit at bs) ≡ none → Formed k bs
codes_formed zero limit at bs e = tt
codes_formed (suc k) limit at bs e =
    let f = both_none (limit_checks limit 4 at bs) (codes_checks k limit (at + number_size bs) (after_number bs)) e in
    (form_none may_follow 0 at 0 bs (limit_none limit 4 at bs f.0).0, codes_formed k limit (at + number_size bs) (after_number bs) f.1)

-- write_codes: the codes left are formed, and with them the words become what is promised
pub record Writing (bs before : List ℕ) (r : Reader) (k : ℕ) (words : List ℕ) : Type 0 where
  pub good : Formed (length before - k) (left r)
  pub rest : over_at k (numbers_in (length before - k) (left r)) words ≡ over (numbers_in (length before) bs) before

module _ (bs before : List ℕ) (r : Reader) (k : ℕ) (words : List ℕ) (w : Writing bs before r k words) (more : k < length before) where
  -- the next code, and those after it
  both : Formed (suc (length before - (k + 1))) (left r)
  both = let l : length before - k ≡ suc (length before - (k + 1)) = omega arith in rw l at w.good

  -- its word is written
  pub write_turn : (value : ℕ) (r' : Reader) → length words ≡ length before → Gets r value r' → Writing bs before r' (k + 1) (set words k value)
  write_turn value r' long gets =
      let l : length before - k ≡ suc (length before - (k + 1)) = omega arith in
      record {
        good = rw (left_after r r' value gets) both.1;
        rest =
            ap (over_at (k + 1) (numbers_in (length before - (k + 1)) (left r'))) (over_at_one k value words (omega arith))
            ∙ over_at_append k (value ∷ []) (numbers_in (length before - (k + 1)) (left r')) words (omega arith)
            ∙ rw (gets.0, left_after r r' value gets) (rw l at w.rest);
      }

-- all are written
pub write_done : (bs before : List ℕ) (r : Reader) (k : ℕ) (words : List ℕ) → Writing bs before r k words → length before ≤ k →
    words ≡ numbers_in (length before) bs
write_done bs before r k words w h =
    let z : length before - k ≡ 0 = omega arith in
    let all = numbers_in (length before) bs in
    sym (over_at_none k words) ∙ rw z at w.rest
    ∙ ap (λ (l : List ℕ). all ++ l) (drop_of_length-le before (omega (arith, length_numbers_in (length before) bs)))
    ∙ append-nil all
