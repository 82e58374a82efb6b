-- What shows that a rota is the first, or the next: each late choice of it could be nothing else.
use mathlib.Core.Path.{◌≡◌, sym, ◌∙◌}
use mathlib.Core.Logic.{◌⊎◌, inl, inr, ⊎_elim}
use mathlib.Core.List.{List}
use Prim.Native.Nat.{ℕ, suc, ◌≤◌, ◌<◌}
use native.Mathlib.Omega.{arith}
use lib.ListN.{get_or}
use Rattle.meaning.specs.Chains.{Reach}
use Rattle.meaning.specs.Codes.{late, early, choice_of}
use Rattle.meaning.specs.Order.{Before}
use Rattle.meaning.specs.Rotas.{True, Rota, Allowed, First, Next}
use Rattle.meaning.proofs.ChainLaws.{true_late, reach_sound, early_late_forces}
use Rattle.meaning.proofs.General.{compared, below_or_from, below_suc}
use Rattle.meaning.proofs.OrderLaws.{before_asym}

-- a and b have the same values before place p
abbrev pub Agree : ℕ → List ℕ → List ℕ → Type 0
Agree p a b = (j : ℕ) → j < p → get_or a j 0 ≡ get_or b j 0

-- choice i must be late in an allowed rota that agrees with r before i: early i leads to late i, or a code that is true in r
-- and speaks of an earlier choice does
abbrev pub Must : List ℕ → List ℕ → ℕ → Type 0
Must ws r i = Reach ws (early i) (late i) ⊎ ((c : ℕ) × (choice_of c < i) × True r c × Reach ws c (late i))

module _ (n : ℕ) (ws r : List ℕ) where
  -- so it is late there
  pub must_late : (i : ℕ) → Must ws r i → (s : List ℕ) → Allowed n ws s → Agree i s r → get_or s i 0 ≡ 1
  must_late i (inl p) s ok same = early_late_forces n ws i p s ok
  must_late i (inr p) s ok same =
      true_late s i (reach_sound n ws s ok p.0 (late i) p.3 (same (choice_of p.0) p.1 ∙ p.2))

  -- no allowed rota that agrees with r before p comes before r, where each late choice of r from p on must be late
  pub first_from : (p : ℕ) → Rota n r → ((i : ℕ) → p ≤ i → get_or r i 0 ≡ 1 → Must ws r i) →
      (s : List ℕ) → Allowed n ws s → Agree p s r → Before s r → ⊥
  first_from p rota musts s ok same b =
      let i = b.at in
      ⊎_elim (λ l. omega (arith, b.less, same i l))
      (λ l. omega (arith, b.less, rota.bits i, must_late i (musts i l (omega (arith, b.less, rota.bits i))) s ok b.same))
      (below_or_from i p)

  -- an allowed rota of which each late choice must be late is the first
  pub first_by : Allowed n ws r → ((i : ℕ) → get_or r i 0 ≡ 1 → Must ws r i) → First n ws r
  first_by ok musts =
      record { allowed = ok; least = λ s oks b. first_from 0 ok.rota (λ i l e. musts i e) s oks (λ j h. omega arith) b }

-- s is the next rota after r: it is allowed, comes after r at a place i, each late choice of it past i must be late, and
-- no allowed rota that agrees with r before a place j past i is above r at j
pub next_by : (n : ℕ) (ws r s : List ℕ) → Rota n r → Allowed n ws s → (b : Before r s) →
    ((j : ℕ) → b.at < j → get_or s j 0 ≡ 1 → Must ws s j) →
    ((j : ℕ) → b.at < j → (t : List ℕ) → Allowed n ws t → Agree j r t → get_or r j 0 < get_or t j 0 → ⊥) → Next n ws r s
next_by n ws r s rota ok b musts none = record { allowed = ok; after = b; least = least }
  where
    i : ℕ
    i = b.at

    least : (t : List ℕ) → Allowed n ws t → Before r t → Before t s → ⊥
    least t okt c d =
        ⊎_elim
        -- t leaves r before i: it is above s there
        (λ l. before_asym t s d (record { at = c.at; same = λ j h. sym (b.same j (omega arith)) ∙ c.same j h; less = omega (arith, c.less, b.same c.at l) }))
        (⊎_elim
        -- t leaves r at i, where both t and s have 1
        (λ e. first_from n ws s (suc i) ok.rota (λ j h q. musts j (omega arith) q) t okt (agree e) d)
        -- t leaves r past i
        (λ l. none c.at l t okt c.same c.less))
        (compared c.at i)
      where
        at_i : c.at ≡ i → get_or t i 0 ≡ get_or s i 0
        at_i e = omega (arith, b.less, rw e at c.less, okt.rota.bits i, ok.rota.bits i)

        agree : c.at ≡ i → Agree (suc i) t s
        agree e j h = below_suc i (λ j l. sym (c.same j (omega arith)) ∙ b.same j l) (at_i e) j h
