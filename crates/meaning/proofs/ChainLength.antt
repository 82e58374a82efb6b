-- A shortest chain between two of 2n codes has fewer than 2n rules: its codes are all different.
use mathlib.Core.Path.{◌≡◌, refl, ap, ◌∙◌}
use mathlib.Core.Logic.{inl, inr, ⊎_elim, ◌≢◌}
use mathlib.Core.List.{List, [], ◌∷◌}
use Prim.Native.Nat.{ℕ, suc, ◌*◌, ◌≤◌, ◌<◌}
use native.Mathlib.Omega.{arith}
use native.Mathlib.Decide.{ℕ_discrete}
use lib.ListN.{length}
use Rattle.meaning.specs.Chains.{Step, Chain, Clash, Shortest}
use Rattle.meaning.specs.Codes.{late, early}
use Rattle.meaning.specs.Rules.{InRange}
use Rattle.meaning.proofs.General.{In, Distinct, distinct_length}

module _ (ws : List ℕ) (b : ℕ) where
  -- the codes of a chain
  stops : (a : ℕ) (ks : List ℕ) → Chain ws a ks b → List ℕ
  stops a [] p = a ∷ []
  stops a (k ∷ ks) p = a ∷ stops p.0 ks p.2

  -- one more than its rules
  length_stops : (a : ℕ) (ks : List ℕ) (p : Chain ws a ks b) → length (stops a ks p) ≡ suc (length ks)
  unfolding stops
  length_stops a [] p = refl
  length_stops a (k ∷ ks) p = ap suc (length_stops p.0 ks p.2)

  -- from each of them a chain of the rest leads on
  rest : (a : ℕ) (ks : List ℕ) (p : Chain ws a ks b) (x : ℕ) → In x (stops a ks p) → (js : List ℕ) × Chain ws x js b × (length js ≤ length ks)
  unfolding stops
  rest a [] p x (inl e) = ([], e ∙ p, omega arith)
  rest a [] p x (inr m) = elim m [ ]
  rest a (k ∷ ks) p x (inl e) = (k ∷ ks, rw e p, omega arith)
  rest a (k ∷ ks) p x (inr m) = let r = rest p.0 ks p.2 x m in (r.0, r.1, omega (arith, r.2))

  -- the codes of a shortest chain are all different
  distinct : (a : ℕ) (ks : List ℕ) (p : Chain ws a ks b) → ((js : List ℕ) → Chain ws a js b → length ks ≤ length js) → Distinct (stops a ks p)
  unfolding stops
  distinct a [] p short = ((λ m. m), tt)
  distinct a (k ∷ ks) p short = (
    (λ m. let r = rest p.0 ks p.2 a m in omega (arith, short r.0 r.1, r.2)),
    distinct p.0 ks p.2 (λ js q. omega (arith, short (k ∷ js) (p.0, p.1, q))),
  )

  module _ (n : ℕ) (range : InRange n ws) where
    -- a step leads to a code of the n choices
    pub step_below : (a k c : ℕ) → Step ws a k c → c < 2 * n
    step_below a k c s =
        ⊎_elim (λ h. omega (arith, h.1, (range k s.is_rule).1))
        (λ h. omega (arith, h.1, (range k s.is_rule).0)) s.leads

    -- so all codes of a chain are such
    stops_below : (a : ℕ) (ks : List ℕ) (p : Chain ws a ks b) → a < 2 * n → (x : ℕ) → In x (stops a ks p) → x < 2 * n
    unfolding stops
    stops_below a [] p h x (inl e) = omega arith
    stops_below a [] p h x (inr m) = elim m [ ]
    stops_below a (k ∷ ks) p h x (inl e) = omega arith
    stops_below a (k ∷ ks) p h x (inr m) = stops_below p.0 ks p.2 (step_below a k p.0 p.1) x m

    -- hence the length of a shortest chain
    pub shortest_length : (a : ℕ) (ks : List ℕ) → a < 2 * n → Shortest ws a b ks → length ks < 2 * n
    shortest_length a ks h s =
        omega (
          arith,
          length_stops a ks s.chain,
          distinct_length (2 * n) (stops a ks s.chain) (distinct a ks s.chain s.short) (stops_below a ks s.chain h),
        )

    -- a chain that leads anywhere ends at a code of the n choices
    pub chain_below : (a : ℕ) (ks : List ℕ) → Chain ws a ks b → a ≢ b → b < 2 * n
    chain_below a [] p out = absurd (out p)
    chain_below a (k ∷ ks) p out = on (ℕ_discrete p.0 b) (step_below a k p.0 p.1) (λ out. chain_below p.0 ks p.2 out)
      where
        on : Dec (p.0 ≡ b) → p.0 < 2 * n → (p.0 ≢ b → b < 2 * n) → b < 2 * n
        on (yes e) h rest = rw e at h
        on (no e) h rest = rest e

-- a choice that clashes is one of the n choices
pub clash_within : (n : ℕ) (ws : List ℕ) → InRange n ws → (v : ℕ) → Clash ws v → v < n
clash_within n ws range v c = omega (arith, chain_below ws (early v) n range (late v) c.0.0 c.0.1 (omega arith))
