-- The values of a rota as a number in binary, the first choice most significant: dictionary order is the order of these numbers, and there are 2 ^ n.
use mathlib.Core.Path.{◌≡◌, sym, ◌∙◌}
use mathlib.Core.Logic.{◌⊎◌, ⊎_elim}
use mathlib.Core.List.{List, [], ◌∷◌}
use Rattle.std.proofs.Common.{ℕ, zero, suc, ◌+◌, ◌^◌, ◌≤◌, ◌<◌, arith}
use Rattle.std.proofs.Math.Nat.{pow-succ'}
use lib.ListN.{length, get_or}
use Rattle.meaning.specs.Order.{Before}
use Rattle.meaning.specs.Rotas.{Rota}
use Rattle.meaning.proofs.OrderLaws.{before_uncons, before_nil}

-- the number, of values that are 0 or 1
abbrev pub number : List ℕ → ℕ
number [] = 0
number (zero ∷ xs) = number xs
number (suc x ∷ xs) = 2 ^ length xs + number xs

-- all are 0 or 1
abbrev Bits : List ℕ → Type 0
Bits xs = (v : ℕ) → get_or xs v 0 ≤ 1

-- of n values the number is below 2 ^ n
bits_below : (xs : List ℕ) → number xs < 2 ^ length xs
bits_below [] = omega arith
bits_below (zero ∷ xs) = omega (arith, bits_below xs, pow-succ' 2 (length xs))
bits_below (suc x ∷ xs) = omega (arith, bits_below xs, pow-succ' 2 (length xs))

-- what comes before has the lower number
bits_less : (xs ys : List ℕ) → length xs ≡ length ys → Bits xs → Bits ys → Before xs ys → number xs < number ys
bits_less [] [] e p q b = absurd (before_nil [] b)
bits_less [] (y ∷ ys) e p q b = absurd (omega (arith, e))
bits_less (x ∷ xs) [] e p q b = absurd (before_nil (x ∷ xs) b)
bits_less (x ∷ xs) (y ∷ ys) e p q b =
    let long : length xs ≡ length ys = omega (arith, e) in
    heads long (bits_less xs ys long (λ v. p (suc v)) (λ v. q (suc v))) x y (q 0) (before_uncons x xs y ys b)
  where
    heads : length xs ≡ length ys → (Before xs ys → number xs < number ys) → (x y : ℕ) → y ≤ 1 → (x < y) ⊎ ((x ≡ y) × Before xs ys) → number (x ∷ xs) < number (y ∷ ys)
    heads long rec zero zero k c = ⊎_elim (λ l. absurd (omega (arith, l))) (λ l. rec l.1) c
    heads long rec zero (suc y) k c = rw (← long) (omega (arith, bits_below xs))
    heads long rec (suc x) zero k c = ⊎_elim (λ l. absurd (omega (arith, l))) (λ l. absurd (omega (arith, l.0))) c
    heads long rec (suc x) (suc y) k c = ⊎_elim (λ l. absurd (omega (arith, l, k))) (λ l. rw (← long) (omega (arith, rec l.1))) c

-- a rota's number is below 2 ^ n
pub number_below : (n : ℕ) (r : List ℕ) → Rota n r → number r < 2 ^ n
number_below n r p = rw p.long at (bits_below r)

-- the rota that comes before has the lower number
pub number_less : (n : ℕ) (r s : List ℕ) → Rota n r → Rota n s → Before r s → number r < number s
number_less n r s p q b = bits_less r s (p.long ∙ sym q.long) p.bits q.bits b
