-- Numbers of a book: what is written is read back, and what is read is what would be written. By induction over the bytes that may follow.
use mathlib.Core.Path.{◌≡◌, refl, sym, ap}
use mathlib.Core.Bool.{Bool, true, false, cond}
use mathlib.Core.Logic.{⊎_elim}
use mathlib.Core.List.{List, [], ◌∷◌, ◌++◌}
use Prim.Native.Nat.{ℕ, zero, suc, ◌+◌, ◌-◌, ◌*◌, ◌/◌, ◌%◌, ◌≤◌, ◌<◌}
use native.Mathlib.Omega.{arith}
use lib.Dec.{leb, ltb}
use borrow.Author.Tests.{leb-true, leb-false, ltb-false, lt-ltb, le-ltb, le-leb, lt-leb}
use lib.ListN.{length, drop}
use Rattle.meaning.specs.Refusals.{none, check, first_of}
use Rattle.meaning.proofs.General.{below_or_from}
use Rattle.meaning.proofs.RefusalLaws.{not_refused}
use Rattle.book.specs.Number.{goes_on, form_checks, value_up_to, size_up_to, number_checks, number_value}
use Rattle.book.specs.Checks.{limit_checks}
use Rattle.book.specs.Saved.{bytes_up_to, Bytes}
use Rattle.book.proofs.Refusing.{both_none, check_none}

-- what holds of both arms of a choice holds of it
pub either : {A : Type 0} (P : A → Type 0) (t : Bool) (a b : A) → P a → P b → P (cond t a b)
either P true a b p q = p
either P false a b p q = q

-- a number has no more bytes than there are
pub size_within : (k : ℕ) (bs : List ℕ) → size_up_to k bs ≤ length bs
size_within k [] = omega arith
size_within zero (b ∷ bs) = omega arith
size_within (suc k) (b ∷ bs) =
    either (λ x. x ≤ suc (length bs)) (goes_on b) (suc (size_up_to k bs)) 1 (omega (arith, size_within k bs)) (omega arith)

-- one more than the largest number that has a first byte and k more
abbrev pub too_large : ℕ → ℕ
too_large zero = 128
too_large (suc k) = 128 * too_large k

-- the bytes of a number, followed by any others, are read back: the form is good, the value is x, and the others are left
pub record ReadsBack (k least x : ℕ) (others : List ℕ) : Type 0 where
  pub good : (at : ℕ) → first_of (form_checks k least at (bytes_up_to k x ++ others)) ≡ none
  pub value : value_up_to k (bytes_up_to k x ++ others) ≡ x
  pub left : drop (size_up_to k (bytes_up_to k x ++ others)) (bytes_up_to k x ++ others) ≡ others

-- every number that is not too large for its bytes is read back
pub reads_back : (k least x : ℕ) (others : List ℕ) → least ≤ x → x < too_large k → ReadsBack k least x others
reads_back zero least x others l h =
    record { good = λ at. rw (lt-leb 128 x h, le-ltb x least l); value = refl; left = refl }
reads_back (suc k) least x others l h = ⊎_elim short (λ g. long g (reads_back k 1 (x / 128) others (omega arith) (omega arith))) (below_or_from x 128)
  where
    short : x < 128 → ReadsBack (suc k) least x others
    short g =
        let e = lt-ltb x 128 g in
        let f = lt-leb 128 x g in
        record { good = λ at. rw (e, f, le-ltb x least l); value = rw (e, f); left = rw (e, f) }

    long : 128 ≤ x → ReadsBack k 1 (x / 128) others → ReadsBack (suc k) least x others
    long g r =
        let e = le-ltb x 128 g in
        let f = le-leb 128 (x % 128 + 128) (omega arith) in
        record { good = λ at. rw (e, f, r.good); value = rw (e, f) (omega (arith, r.value)); left = rw (e, f) r.left }

-- bytes whose form is good are those of the value read, and then those left
pub record IsWritten (k least : ℕ) (bs : List ℕ) : Type 0 where
  pub bytes : bs ≡ bytes_up_to k (value_up_to k bs) ++ drop (size_up_to k bs) bs
  pub enough : least ≤ value_up_to k bs

-- every number of a good form is written so
pub is_written : (k least at : ℕ) (bs : List ℕ) → least ≤ 1 → Bytes bs → first_of (form_checks k least at bs) ≡ none → IsWritten k least bs
is_written k least at [] l h e = absurd (not_refused 7 at (sym e))
is_written zero least at (b ∷ bs) l h e =
    let f = check_none (goes_on b) 8 at (check (ltb b least) 9 at ∷ []) e in
    record { bytes = refl; enough = ltb-false b least (check_none (ltb b least) 9 at [] f.1).0 }
is_written (suc k) least at (b ∷ bs) l h e = go (is_written k 1 (at + 1) bs (omega arith) (λ i. h (suc i))) (goes_on b) refl
  where
    go : (first_of (form_checks k 1 (at + 1) bs) ≡ none → IsWritten k 1 bs) → (t : Bool) → goes_on b ≡ t → IsWritten (suc k) least (b ∷ bs)
    go rest true q =
        let r = rest (rw q at e) in
        let g = leb-true 128 b q in
        let v = value_up_to k bs in
        let x = b - 128 + 128 * v in
        let low : x % 128 + 128 ≡ b = omega (arith, h 0) in
        let high : x / 128 ≡ v = omega (arith, h 0) in
        record {
          bytes = rw (q, le-ltb x 128 (omega (arith, r.enough)), low, high) (ap (λ (l : List ℕ). b ∷ l) r.bytes);
          enough = rw q (omega (arith, r.enough));
        }
    go rest false q =
        let g = leb-false 128 b q in
        let f = rw q at e in
        record { bytes = rw (q, lt-ltb b 128 g); enough = rw q (ltb-false b least (check_none (ltb b least) 9 at [] f).0) }

-- a number of which nothing is refused is of a good form, and below its limit
pub limit_none : (limit number at : ℕ) (bs : List ℕ) → first_of (limit_checks limit number at bs) ≡ none →
    (first_of (number_checks at bs) ≡ none) × (number_value bs < limit)
limit_none limit number at bs e =
    let b = both_none (number_checks at bs) (check (leb limit (number_value bs)) number at ∷ []) e in
    (b.0, leb-false limit (number_value bs) (check_none (leb limit (number_value bs)) number at [] b.1).0)
