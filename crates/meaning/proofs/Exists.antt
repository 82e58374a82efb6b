-- What the calls answer exists: the tie, the forced byte, the shortest chain.
use mathlib.Core.Path.{◌≡◌, refl, ap, ◌∙◌, subst}
use mathlib.Core.Logic.{⊎_elim}
use mathlib.Core.List.{List, [], ◌∷◌}
use Prim.Native.Nat.{ℕ, zero, suc, ◌<◌}
use native.Mathlib.Omega.{arith}
use native.Mathlib.Decide.{ℕ_discrete}
use lib.ListN.{length}
use Rattle.meaning.specs.Chains.{Step, Chain, Reach, Clash, Shortest, Tied, Tie}
use Rattle.meaning.specs.Codes.{late, early}
use Rattle.meaning.specs.Order.{Before}
use Rattle.meaning.specs.Rotas.{Forced}
use Rattle.meaning.specs.Rules.{rules, InRange}
use Rattle.meaning.proofs.ChainLaws.{reach_refl, late_early_forces, early_late_forces}
use Rattle.meaning.proofs.General.{below_or_from, least_of}
use Rattle.meaning.proofs.OrderLaws.{before_uncons, before_nil}
use Rattle.meaning.proofs.Reaching.{reach?}
use Rattle.meaning.proofs.ShortestLaws.{step_unique}
use Rattle.meaning.proofs.Tests.{and?, somewhere?, Begins, begins_step, step_begins, begins?}
use Rattle.meaning.proofs.TwoSat.{forced_differ}

-- Ties
pub tie_exists : (ws : List ℕ) (v : ℕ) → (c : ℕ) × Tie ws v c
tie_exists ws v =
    let l = least_of (Tied ws (late v)) (λ d. and? (reach? ws (late v) d) (reach? ws d (late v))) (late v) (reach_refl ws (late v), reach_refl ws (late v)) in
    (l.0, record { tied = l.1; smallest = λ d t. ⊎_elim (λ h. absurd (l.2 d h t)) (λ h. h) (below_or_from d l.0) })

-- Forced
pub forced_exists : (n : ℕ) (ws : List ℕ) → InRange n ws → ((v : ℕ) → v < n → Clash ws v → ⊥) → (v : ℕ) → v < n → (x : ℕ) × Forced n ws v x
forced_exists n ws range free v h = go (reach? ws (late v) (early v)) (reach? ws (early v) (late v))
  where
    go : Dec (Reach ws (late v) (early v)) → Dec (Reach ws (early v) (late v)) → (x : ℕ) × Forced n ws v x
    go (yes p) q = (0, late_early_forces n ws v p)
    go (no p) (yes q) = (1, early_late_forces n ws v q)
    go (no p) (no q) = (2, forced_differ n ws range free v h q p)

-- Clash: the shortest chain, and of those the first
module _ (ws : List ℕ) (b : ℕ) where
  -- a chain of l rules leads from a to b
  Has : ℕ → ℕ → Type 0
  Has zero a = a ≡ b
  Has (suc l) a = (k : ℕ) × (k < rules ws) × Begins ws b a k (Has l)

  -- whether there is one
  has? : (l a : ℕ) → Dec (Has l a)
  unfolding Has
  has? zero a = ℕ_discrete a b
  has? (suc l) a = somewhere? (λ k. Begins ws b a k (Has l)) (rules ws) (λ k. begins? ws b a k (has? l))

  -- a chain is one
  chain_has : (a : ℕ) (ks : List ℕ) (l : ℕ) → length ks ≡ l → Chain ws a ks b → Has l a
  unfolding Has
  chain_has a [] zero e p = p
  chain_has a [] (suc l) e p = absurd (omega arith)
  chain_has a (k ∷ ks) zero e p = absurd (omega arith)
  chain_has a (k ∷ ks) (suc l) e p =
      (k, p.1.is_rule, step_begins ws b a k (Has l) (p.0, p.1, chain_has p.0 ks l (omega arith) p.2))

  -- of the chains of l rules the first
  FirstOf : ℕ → ℕ → Type 0
  FirstOf l a = (ks : List ℕ) × Chain ws a ks b × (length ks ≡ l) × ((js : List ℕ) → Chain ws a js b → length js ≡ l → Before js ks → ⊥)

  -- where there is a chain of l rules, there is a first
  first_of : (l a : ℕ) → Has l a → FirstOf l a
  unfolding Has FirstOf
  first_of zero a p = ([], p, refl, (λ js q e h. before_nil js h))
  first_of (suc l) a p = go (least_of (λ k. Begins ws b a k (Has l)) (λ k. begins? ws b a k (has? l)) p.0 p.2) (λ c h. first_of l c h)
    where
      go : ((k : ℕ) × Begins ws b a k (Has l) × ((j : ℕ) → j < k → Begins ws b a j (Has l) → ⊥)) → ((c : ℕ) → Has l c → FirstOf l c) → FirstOf (suc l) a
      go w rec =
          let s = begins_step ws b a w.0 (Has l) w.1 in
          let f = rec s.0 s.2 in
          (w.0 ∷ f.0, (s.0, s.1, f.1), ap suc f.2, lowest w.0 w.2 s.0 s.1 f.0 f.3)
        where
          lowest : (k : ℕ) → ((j : ℕ) → j < k → Begins ws b a j (Has l) → ⊥) → (c : ℕ) → Step ws a k c → (ks : List ℕ) →
              ((js : List ℕ) → Chain ws c js b → length js ≡ l → Before js ks → ⊥) →
              (js : List ℕ) → Chain ws a js b → length js ≡ suc l → Before js (k ∷ ks) → ⊥
          lowest k low c st ks none [] q e h = omega arith
          lowest k low c st ks none (j ∷ js) q e h =
              ⊎_elim (λ m. low j m (step_begins ws b a j (Has l) (q.0, q.1, chain_has q.0 js l (omega arith) q.2)))
              (λ m. none js (subst (λ (x : ℕ). Chain ws x js b) (step_unique ws a k q.0 c (rw m.0 at q.1) st) q.2) (omega arith) m.1)
              (before_uncons j js k ks h)

  -- so where a reaches b there is a shortest chain, the first of its length
  pub shortest_exists : (a : ℕ) → Reach ws a b → (ks : List ℕ) × Shortest ws a b ks
  unfolding FirstOf
  shortest_exists a p =
      let l = least_of (λ l. Has l a) (λ l. has? l a) (length p.0) (chain_has a p.0 (length p.0) refl p.1) in
      let f = first_of l.0 a l.1 in (
        f.0,
        record {
          chain = f.1;
          short = λ js q. ⊎_elim (λ h. absurd (l.2 (length js) (omega (arith, f.2)) (chain_has a js (length js) refl q))) (λ h. h) (below_or_from (length js) (length f.0));
          least = λ js q e h. f.3 js q (e ∙ f.2) h;
        },
      )
