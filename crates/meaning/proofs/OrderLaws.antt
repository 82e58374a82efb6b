-- Dictionary order is a strict total order on lists of one length.
use mathlib.Core.Path.{◌≡◌, refl, sym, ◌∙◌}
use mathlib.Core.Logic.{◌⊎◌, inl, inr, ⊎_elim}
use mathlib.Core.List.{List, [], ◌∷◌}
use Prim.Native.Nat.{ℕ, zero, suc, ◌<◌}
use native.Mathlib.Omega.{arith}
use lib.ListN.{length, get_or}
use lib.Seq.{ext_get_or}
use Rattle.meaning.specs.Order.{Before}
use Rattle.meaning.proofs.General.{compared, below_suc}

-- no list comes before itself
pub before_irrefl : (r : List ℕ) → Before r r → ⊥
before_irrefl r b = let h = b.less in omega arith

-- of two lists at most one comes before the other
pub before_asym : (r s : List ℕ) → Before r s → Before s r → ⊥
before_asym r s b c =
    ⊎_elim (λ l. omega (arith, c.same b.at l))
    (⊎_elim (λ e. omega (arith, rw e at b.less)) (λ l. omega (arith, b.same c.at l)))
    (compared b.at c.at)

-- what comes before one that comes before a third comes before the third
pub before_trans : (r s t : List ℕ) → Before r s → Before s t → Before r t
before_trans r s t b c =
    ⊎_elim (λ l. record { at = b.at; same = λ j h. b.same j h ∙ c.same j (omega arith); less = rw (← c.same b.at l) b.less })
    (⊎_elim
    (λ e. record { at = b.at; same = λ j h. b.same j h ∙ c.same j (omega arith); less = omega (arith, b.less, rw (← e) at c.less) })
    (λ l. record { at = c.at; same = λ j h. b.same j (omega arith) ∙ c.same j h; less = rw (b.same c.at l) c.less }))
    (compared b.at c.at)

-- the same at each place below i, or one of the two comes before the other
up_to : (r s : List ℕ) (i : ℕ) → ((j : ℕ) → j < i → get_or r j 0 ≡ get_or s j 0) ⊎ (Before r s ⊎ Before s r)
up_to r s zero = inl (λ j h. omega arith)
up_to r s (suc i) = ⊎_elim (λ same. next same (compared (get_or r i 0) (get_or s i 0))) (λ b. inr b) (up_to r s i)
  where
    next : ((j : ℕ) → j < i → get_or r j 0 ≡ get_or s j 0) → (get_or r i 0 < get_or s i 0) ⊎ ((get_or r i 0 ≡ get_or s i 0) ⊎ (get_or s i 0 < get_or r i 0)) →
        ((j : ℕ) → j < suc i → get_or r j 0 ≡ get_or s j 0) ⊎ (Before r s ⊎ Before s r)
    next same (inl l) = inr (inl (record { at = i; same = same; less = l }))
    next same (inr (inr l)) = inr (inr (record { at = i; same = λ j h. sym (same j h); less = l }))
    next same (inr (inl e)) = inl (below_suc i same e)

-- of two lists of one length one comes before the other, or they are equal
pub ordered : (r s : List ℕ) → length r ≡ length s → (r ≡ s) ⊎ (Before r s ⊎ Before s r)
ordered r s e = ⊎_elim (λ h. inl (ext_get_or 0 r s e h)) (λ b. inr b) (up_to r s (length r))

-- the order of two lists by their heads and tails
pub before_uncons : (x : ℕ) (r : List ℕ) (y : ℕ) (s : List ℕ) → Before (x ∷ r) (y ∷ s) → (x < y) ⊎ ((x ≡ y) × Before r s)
before_uncons x r y s b = go b.at b.same b.less
  where
    go : (i : ℕ) → ((j : ℕ) → j < i → get_or (x ∷ r) j 0 ≡ get_or (y ∷ s) j 0) → get_or (x ∷ r) i 0 < get_or (y ∷ s) i 0 → (x < y) ⊎ ((x ≡ y) × Before r s)
    go zero same less = inl less
    go (suc i) same less = inr (same 0 (omega arith), record { at = i; same = λ j h. same (suc j) (omega arith); less = less })

-- a lower head decides
pub before_head : (x : ℕ) (r : List ℕ) (y : ℕ) (s : List ℕ) → x < y → Before (x ∷ r) (y ∷ s)
before_head x r y s h = record { at = 0; same = λ j l. absurd (omega arith); less = h }

-- behind equal heads the tails decide
pub before_tail : (x : ℕ) (r s : List ℕ) → Before r s → Before (x ∷ r) (x ∷ s)
before_tail x r s b = record { at = suc b.at; same = go; less = b.less }
  where
    go : (j : ℕ) → j < suc b.at → get_or (x ∷ r) j 0 ≡ get_or (x ∷ s) j 0
    go zero h = refl
    go (suc j) h = b.same j (omega arith)

-- nothing comes before the empty list
pub before_nil : (s : List ℕ) → Before s [] → ⊥
before_nil s b = omega (arith, b.less)

-- the converse of `before_uncons`
pub before_join : (x : ℕ) (r : List ℕ) (y : ℕ) (s : List ℕ) → (x < y) ⊎ ((x ≡ y) × Before r s) → Before (x ∷ r) (y ∷ s)
before_join x r y s (inl h) = before_head x r y s h
before_join x r y s (inr h) = rw h.0 (before_tail y r s h.1)

-- a list reads as 0 past its end
zeros : (j : ℕ) → ◌≡◌ {A = ℕ} (get_or (0 ∷ []) j 0) 0
zeros zero = refl
zeros (suc j) = refl

-- the empty list before another: it reads as zeros
pub before_pad : (y : ℕ) (s : List ℕ) → (0 < y) ⊎ ((0 ≡ y) × Before [] s) → Before [] (y ∷ s)
before_pad y s h =
    let b = before_join 0 [] y s h in
    record { at = b.at; same = λ j l. sym (zeros j) ∙ b.same j l; less = rw (zeros b.at) at b.less }

-- and the other way round
pub before_unpad : (y : ℕ) (s : List ℕ) → Before [] (y ∷ s) → (0 < y) ⊎ ((0 ≡ y) × Before [] s)
before_unpad y s b =
    before_uncons 0 [] y s (record { at = b.at; same = λ j l. zeros j ∙ b.same j l; less = rw (zeros b.at) b.less })
