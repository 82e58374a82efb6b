-- Numbers and lists in general: what the libraries do not have.
use mathlib.Core.Path.{◌≡◌, refl, sym, ap, ◌∙◌, subst}
use mathlib.Core.Logic.{◌⊎◌, inl, inr, ⊎_elim, ◌≢◌}
use mathlib.Core.List.{List, [], ◌∷◌}
use Prim.Native.Nat.{ℕ, zero, suc, ◌-◌, ◌≤◌, ◌<◌}
use native.Mathlib.Omega.{arith}
use native.Mathlib.Nat.{le_of_suc-le-suc, not-suc-le-zero}
use native.Mathlib.Decide.{dec_lt, ℕ_discrete}
use lib.ListN.{length, get_or, take, drop, length-drop}
use lib.Seq.{take_all}

-- two numbers: the first is less, or equal, or greater
pub compared : (a b : ℕ) → (a < b) ⊎ ((a ≡ b) ⊎ (b < a))
compared a b =
    elim (dec_lt a b) [
      | yes h ↦ inl h
      | no h ↦ inr (elim (dec_lt b a) [ yes k ↦ inr k | no k ↦ inl (omega arith) ])
    ]

-- they are equal or not
pub same? : (a b : ℕ) → (a ≡ b) ⊎ (a ≢ b)
same? a b = elim (ℕ_discrete a b) [ yes e ↦ inl e | no e ↦ inr e ]

-- a number is below another, or at or past it
pub below_or_from : (a b : ℕ) → (a < b) ⊎ (b ≤ a)
below_or_from a b = elim (dec_lt a b) [ yes h ↦ inl h | no h ↦ inr (omega arith) ]

-- what holds below i, and at i, holds below suc i
pub below_suc : {P : ℕ → Type 0} (i : ℕ) → ((j : ℕ) → j < i → P j) → P i → (j : ℕ) → j < suc i → P j
below_suc {P} i all here j h = ⊎_elim (λ l. all j l) (λ l. let q : i ≡ j = omega arith in subst P q here) (below_or_from j i)

-- what holds of some number below suc m holds of one below m, or of m
pub last_or_below : (P : ℕ → Type 0) (m k : ℕ) → k < suc m → P k → ((k : ℕ) × (k < m) × P k) ⊎ P m
last_or_below P m k h p = ⊎_elim (λ l. inl (k, l, p)) (λ l. inr (subst P (omega arith) p)) (below_or_from k m)

-- x is among g d .. g (k - 1), or not
pub find? : (g : ℕ → ℕ) (x d k : ℕ) → ((p : ℕ) × (d ≤ p) × (p < k) × (g p ≡ x)) ⊎ ((p : ℕ) → d ≤ p → p < k → g p ≢ x)
find? g x d zero = inr (λ p a b. absurd (omega arith))
find? g x d (suc k) = go (find? g x d k) (below_or_from k d) (same? (g k) x)
  where
    go : ((p : ℕ) × (d ≤ p) × (p < k) × (g p ≡ x)) ⊎ ((p : ℕ) → d ≤ p → p < k → g p ≢ x) → (k < d) ⊎ (d ≤ k) → (g k ≡ x) ⊎ (g k ≢ x)
        → ((p : ℕ) × (d ≤ p) × (p < suc k) × (g p ≡ x)) ⊎ ((p : ℕ) → d ≤ p → p < suc k → g p ≢ x)
    go (inl w) b c = inl (w.0, w.1, omega (arith, w.2), w.3)
    go (inr f) (inl b) c = inr (λ p u v. absurd (omega arith))
    go (inr f) (inr b) (inl e) = inl (k, b, omega arith, e)
    go (inr f) (inr b) (inr e) = inr (λ p u v. ⊎_elim (λ (q : p ≡ k). rw q e) (λ (q : p ≢ k). f p u (omega arith)) (same? p k))

-- the least number with a property
abbrev pub Least : (ℕ → Type 0) → Type 0
Least P = (k : ℕ) × P k × ((j : ℕ) → j < k → P j → ⊥)

-- where the property is decided, there is a least number with it, or no number below m has it
pub least_below : (P : ℕ → Type 0) → ((k : ℕ) → Dec (P k)) → (m : ℕ) → Least P ⊎ ((k : ℕ) → k < m → P k → ⊥)
least_below P d zero = inr (λ k h. absurd (omega arith))
least_below P d (suc m) = go (least_below P d m) (d m)
  where
    go : Least P ⊎ ((k : ℕ) → k < m → P k → ⊥) → Dec (P m) → Least P ⊎ ((k : ℕ) → k < suc m → P k → ⊥)
    go (inl h) e = inl h
    go (inr none) (yes p) = inl (m, p, none)
    go (inr none) (no p) = inr (below_suc {P = λ k. P k → ⊥} m none p)

-- so if some number has it, there is a least
pub least_of : (P : ℕ → Type 0) → ((k : ℕ) → Dec (P k)) → (m : ℕ) → P m → Least P
least_of P d m p = ⊎_elim (λ h. h) (λ none. absurd (none m (omega arith) p)) (least_below P d (suc m))

-- the list f 0, f 1, .., f (n - 1)
abbrev pub build : ℕ → (ℕ → ℕ) → List ℕ
build zero f = []
build (suc n) f = f 0 ∷ build n (λ v. f (suc v))

-- its length
pub length_build : (n : ℕ) (f : ℕ → ℕ) → length (build n f) ≡ n
length_build zero f = refl
length_build (suc n) f = ap suc (length_build n (λ v. f (suc v)))

-- its items
pub get_or_build : (n : ℕ) (f : ℕ → ℕ) (v : ℕ) → v < n → get_or (build n f) v 0 ≡ f v
get_or_build zero f v h = absurd (not-suc-le-zero h)
get_or_build (suc n) f zero h = refl
get_or_build (suc n) f (suc v) h = get_or_build n (λ v. f (suc v)) v (le_of_suc-le-suc h)

-- a bound of f bounds them
pub build_le : (n : ℕ) (f : ℕ → ℕ) (b : ℕ) → ((v : ℕ) → f v ≤ b) → (v : ℕ) → get_or (build n f) v 0 ≤ b
build_le zero f b h v = omega arith
build_le (suc n) f b h zero = h 0
build_le (suc n) f b h (suc v) = build_le n (λ v. f (suc v)) b (λ v. h (suc v)) v

-- x is one of the list
abbrev pub In : ℕ → List ℕ → Type 0
In x [] = ⊥
In x (y ∷ ys) = (x ≡ y) ⊎ In x ys

-- no number stands in the list twice
abbrev pub Distinct : List ℕ → Type 0
Distinct [] = Unit {0}
Distinct (x ∷ xs) = (In x xs → ⊥) × Distinct xs

-- what is left of distinct numbers up to n when n is taken out
without : (n : ℕ) (xs : List ℕ) → Distinct xs → ((x : ℕ) → In x xs → x < suc n) →
    (ys : List ℕ) × Distinct ys × ((y : ℕ) → In y ys → In y xs × (y < n)) × (length xs ≤ suc (length ys))
without n [] d h = ([], tt, (λ y m. absurd m), omega arith)
without n (x ∷ xs) d h = go (ℕ_discrete x n) (without n xs d.1 (λ y m. h y (inr m)))
  where
    go : Dec (x ≡ n) → ((ys : List ℕ) × Distinct ys × ((y : ℕ) → In y ys → In y xs × (y < n)) × (length xs ≤ suc (length ys))) →
        (ys : List ℕ) × Distinct ys × ((y : ℕ) → In y ys → In y (x ∷ xs) × (y < n)) × (suc (length xs) ≤ suc (length ys))
    go (yes e) w = (xs, d.1, (λ y m. (inr m, below y m (ℕ_discrete y n))), omega arith)
      where
        below : (y : ℕ) → In y xs → Dec (y ≡ n) → y < n
        below y m (yes q) = absurd (d.0 (subst (λ (z : ℕ). In z xs) (q ∙ sym e) m))
        below y m (no q) = omega (arith, h y (inr m))
    go (no e) w = (x ∷ w.0, ((λ m. d.0 (w.2 x m).0), w.1), members, omega (arith, w.3))
      where
        members : (y : ℕ) → In y (x ∷ w.0) → In y (x ∷ xs) × (y < n)
        members y (inl q) = (inl q, omega (arith, h x (inl refl)))
        members y (inr m) = (inr (w.2 y m).0, (w.2 y m).1)

-- distinct numbers below n are n at most
pub distinct_length : (n : ℕ) (xs : List ℕ) → Distinct xs → ((x : ℕ) → In x xs → x < n) → length xs ≤ n
distinct_length zero [] d h = omega arith
distinct_length zero (x ∷ xs) d h = absurd (omega (arith, h x (inl refl)))
distinct_length (suc n) xs d h =
    let w = without n xs d h in
    omega (arith, w.3, distinct_length n w.0 w.1 (λ y m. (w.2 y m).1))

-- the part of a list that is lent on from a place is all that stands from there on
pub lent_on : {A : Type 0} (xs : List A) (from : ℕ) → take (length xs - from) (drop from xs) ≡ drop from xs
lent_on xs from = take_all (length xs - from) (drop from xs) (omega (arith, length-drop from xs))
