-- The 2-SAT theorem: a list is impossible exactly if some choice clashes, and a value is forced exactly by a chain to it from the other.
use mathlib.Core.Logic.{◌⊎◌, inl, inr, ⊎_elim, ◌↔◌}
use mathlib.Core.List.{List}
use Prim.Native.Nat.{ℕ, zero, suc, ◌<◌}
use native.Mathlib.Omega.{arith}
use Rattle.meaning.specs.Chains.{Reach, Clash, LowestClash}
use Rattle.meaning.specs.Codes.{late, early}
use Rattle.meaning.specs.Rotas.{Possible, Impossible, First, Always, Sometimes, Forced}
use Rattle.meaning.specs.Rules.{InRange}
use Rattle.meaning.proofs.ChainLaws.{true_late, true_early, clash_impossible, late_early_forces, early_late_forces}
use Rattle.meaning.proofs.CodeLaws.{opposite_late, opposite_early}
use Rattle.meaning.proofs.General.{below_suc}
use Rattle.meaning.proofs.Growing.{first_exists, true_exists}
use Rattle.meaning.proofs.Reaching.{reach?}

module _ (ws : List ℕ) where
  -- whether a choice clashes is decided
  unfoldable pub clash? : (v : ℕ) → Dec (Clash ws v)
  unfolding reach?
  clash? v =
      elim (reach? ws (late v) (early v)) [
        | yes p ↦ elim (reach? ws (early v) (late v)) [ yes q ↦ yes (p, q) | no q ↦ no (λ h. q h.1) ]
        | no p ↦ no (λ h. p h.0)
      ]

  -- some choice below n is the lowest that clashes, or none clashes
  pub lowest : (n : ℕ) → ((v : ℕ) × (v < n) × LowestClash ws v) ⊎ ((v : ℕ) → v < n → Clash ws v → ⊥)
  lowest zero = inr (λ v h. absurd (omega arith))
  lowest (suc n) = go (lowest n) (clash? n)
    where
      go : ((v : ℕ) × (v < n) × LowestClash ws v) ⊎ ((v : ℕ) → v < n → Clash ws v → ⊥) → Dec (Clash ws n) →
          ((v : ℕ) × (v < suc n) × LowestClash ws v) ⊎ ((v : ℕ) → v < suc n → Clash ws v → ⊥)
      go (inl h) d = inl (h.0, omega (arith, h.1), h.2)
      go (inr h) (yes c) = inl (n, omega arith, record { clash = c; lowest = h })
      go (inr h) (no c) = inr (below_suc {P = λ v. Clash ws v → ⊥} n h c)

-- an accepted list has a first allowed rota, or else a lowest clash among its choices
pub possible_or_clash : (n : ℕ) (ws : List ℕ) → InRange n ws → ((r : List ℕ) × First n ws r) ⊎ ((v : ℕ) × (v < n) × LowestClash ws v)
possible_or_clash n ws range = ⊎_elim (λ c. inr c) (λ free. inl (first_exists n ws range (reach? ws) free)) (lowest ws n)

-- a list is impossible exactly if some choice clashes
pub impossible_clashes : (n : ℕ) (ws : List ℕ) → InRange n ws → Impossible n ws ↔ ((v : ℕ) × (v < n) × Clash ws v)
impossible_clashes n ws range = (
  (λ none. ⊎_elim (λ f. absurd (none f.0 f.1.allowed)) (λ c. (c.0, c.1, c.2.clash)) (possible_or_clash n ws range)),
  (λ c. clash_impossible n ws c.0 c.2),
)

-- on a possible list no choice clashes
pub possible_free : (n : ℕ) (ws : List ℕ) → Possible n ws → (v : ℕ) → v < n → Clash ws v → ⊥
possible_free n ws p v h c = clash_impossible n ws v c p.0 p.1

-- on a possible list a choice is free where neither of its codes leads to the other
module _ (n : ℕ) (ws : List ℕ) (range : InRange n ws) (free : (v : ℕ) → v < n → Clash ws v → ⊥) (v : ℕ) (h : v < n) where
  -- early in some rota
  pub sometimes_early : (Reach ws (early v) (late v) → ⊥) → Sometimes n ws v 0
  sometimes_early out =
      let w = true_exists n ws range (reach? ws) free (early v) (omega arith) (λ p. out (rw (opposite_early v) at p)) in
      (w.0, w.1, true_early w.0 v w.2)

  -- late in some rota
  pub sometimes_late : (Reach ws (late v) (early v) → ⊥) → Sometimes n ws v 1
  sometimes_late out =
      let w = true_exists n ws range (reach? ws) free (late v) (omega arith) (λ p. out (rw (opposite_late v) at p)) in
      (w.0, w.1, true_late w.0 v w.2)

  -- so neither is forced
  pub forced_differ : (Reach ws (early v) (late v) → ⊥) → (Reach ws (late v) (early v) → ⊥) → Forced n ws v 2
  forced_differ e l = (sometimes_early e, sometimes_late l)

-- what is forced on a possible list
module _ (n : ℕ) (ws : List ℕ) (range : InRange n ws) (possible : Possible n ws) (v : ℕ) (h : v < n) where
  -- early is forced exactly by a chain from late to early
  pub early_forced : Always n ws v 0 ↔ Reach ws (late v) (early v)
  early_forced = (
    (λ always. elim (reach? ws (late v) (early v)) [
      | yes p ↦ p
      | no p ↦ let s = sometimes_late n ws range (possible_free n ws possible) v h p in absurd (omega (arith, always s.0 s.1, s.2))
    ]),
    late_early_forces n ws v,
  )

  -- late is forced exactly by a chain from early to late
  pub late_forced : Always n ws v 1 ↔ Reach ws (early v) (late v)
  late_forced = (
    (λ always. elim (reach? ws (early v) (late v)) [
      | yes p ↦ p
      | no p ↦ let s = sometimes_early n ws range (possible_free n ws possible) v h p in absurd (omega (arith, always s.0 s.1, s.2))
    ]),
    early_late_forces n ws v,
  )
