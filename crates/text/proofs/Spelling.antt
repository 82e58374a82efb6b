-- Laws of the text's pieces: items spelled one by one, values, and a number's digits.
use mathlib.Core.Path.{◌≡◌, refl, sym, ap, ◌∙◌}
use mathlib.Core.Bool.{Bool, true, false, cond}
use mathlib.Core.List.{List, [], ◌∷◌, ◌++◌, append_assoc, append-nil}
use Prim.Native.Nat.{ℕ, zero, suc, ◌+◌, ◌/◌, ◌%◌, ◌≤◌, ◌<◌}
use native.Mathlib.Numerals.{add-one}
use native.Mathlib.Omega.{arith}
use lib.Dec.{ltb}
use lib.ListN.{length, take, drop, get_or, take-append-drop}
use lib.Seq.{take-suc, drop-cons}
use borrow.Author.Tests.{ltb-false, lt-ltb, le-ltb}
use Rattle.text.specs.Text.{digits_up_to, digits, field, spelled, signed, values, line_end, numbers_line}

module _ (f : ℕ → List ℕ) where
  -- two lists
  pub spelled_append : (xs ys : List ℕ) → spelled f (xs ++ ys) ≡ spelled f xs ++ spelled f ys
  spelled_append [] ys = refl
  spelled_append (x ∷ xs) ys = ap (λ (l : List ℕ). f x ++ l) (spelled_append xs ys) ∙ sym (append_assoc (f x) (spelled f xs) (spelled f ys))

  -- one item more
  pub spelled_more : (xs : List ℕ) (i : ℕ) → i < length xs → spelled f (take (i + 1) xs) ≡ spelled f (take i xs) ++ f (get_or xs i 0)
  spelled_more xs i h =
      rw (add-one, take-suc xs i 0 h) (spelled_append (take i xs) (get_or xs i 0 ∷ []) ∙ ap (λ (l : List ℕ). spelled f (take i xs) ++ l) (append-nil (f (get_or xs i 0))))

  -- what is spelled before an item, the item, and the rest
  pub spelled_split : (xs : List ℕ) (i : ℕ) → i < length xs →
      spelled f xs ≡ spelled f (take i xs) ++ (f (get_or xs i 0) ++ spelled f (drop (suc i) xs))
  spelled_split xs i h =
      ap (spelled f) (sym (take-append-drop i xs)) ∙ spelled_append (take i xs) (drop i xs)
      ∙ ap (λ (l : List ℕ). spelled f (take i xs) ++ spelled f l) (drop-cons xs i 0 h)

-- bytes as they are
abbrev pub copied : ℕ → List ℕ
copied x = x ∷ []

-- values, where there are some
pub values_some : (xs : List ℕ) → (length xs ≡ 0 → ⊥) → values xs ≡ 32 ∷ spelled signed xs
values_some [] h = absurd (h refl)
values_some (x ∷ xs) h = refl

-- so many digits are enough, however many more may be found
enough : (k j x : ℕ) → x ≤ k → x ≤ j → digits_up_to k x ≡ digits_up_to j x
enough zero zero x p q = refl
enough zero (suc j) x p q = rw (lt-ltb x 10 (omega arith)) refl
enough (suc k) zero x p q = rw (lt-ltb x 10 (omega arith)) refl
enough (suc k) (suc j) x p q = go (enough k j (x / 10)) (ltb x 10) refl
  where
    go : (x / 10 ≤ k → x / 10 ≤ j → digits_up_to k (x / 10) ≡ digits_up_to j (x / 10)) → (t : Bool) → ltb x 10 ≡ t →
        cond t ((48 + x) ∷ []) (digits_up_to k (x / 10) ++ ((48 + x % 10) ∷ [])) ≡ cond t ((48 + x) ∷ []) (digits_up_to j (x / 10) ++ ((48 + x % 10) ∷ []))
    go same true e = refl
    go same false e =
        let h = ltb-false x 10 e in
        ap (λ (l : List ℕ). l ++ ((48 + x % 10) ∷ [])) (same (omega arith) (omega arith))

-- a number below ten is one digit
pub digits_one : (x : ℕ) → x < 10 → digits x ≡ (48 + x) ∷ []
unfolding digits
digits_one zero h = refl
digits_one (suc k) h = rw (lt-ltb (suc k) 10 h) refl

-- any other number is the digits of its tenth, and then its last digit
pub digits_more : (x : ℕ) → 10 ≤ x → digits x ≡ digits (x / 10) ++ ((48 + x % 10) ∷ [])
unfolding digits
digits_more zero h = absurd (omega arith)
digits_more (suc k) h =
    rw (le-ltb (suc k) 10 h) (ap (λ (l : List ℕ). l ++ ((48 + suc k % 10) ∷ [])) (enough k (suc k / 10) (suc k / 10) (omega arith) (omega arith)))

-- a line of two numbers, piece by piece
pub pair_line : (word : List ℕ) (a b : ℕ) → numbers_line word (a ∷ b ∷ []) ≡ word ++ (field a ++ (field b ++ line_end))
unfolding numbers_line
pair_line word a b =
    ap (λ (l : List ℕ). word ++ 32 ∷ l)
    (append_assoc (digits a) (32 ∷ (digits b ++ [])) line_end ∙ ap (λ (l : List ℕ). digits a ++ 32 ∷ l) (append_assoc (digits b) [] line_end))
