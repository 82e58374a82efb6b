-- What shows that a chain is the one that Clash answers: distances to b that each step lowers by at most one, and at each code of the
-- chain the lowest rule that leads one nearer.
use mathlib.Core.Path.{◌≡◌, sym, ap, ◌∙◌}
use mathlib.Core.Logic.{◌⊎◌, inl, inr, ⊎_elim}
use mathlib.Core.List.{List, [], ◌∷◌}
use Prim.Native.Nat.{ℕ, ◌+◌, ◌≤◌, ◌<◌}
use native.Mathlib.Omega.{arith}
use lib.ListN.{length}
use Rattle.meaning.specs.Chains.{Step, Chain, Shortest}
use Rattle.meaning.specs.Codes.{opposite}
use Rattle.meaning.specs.Order.{Before}
use Rattle.meaning.specs.Rules.{left, right}
use Rattle.meaning.proofs.OrderLaws.{before_uncons, before_nil}

-- a code and a rule have one step at most
pub step_unique : (ws : List ℕ) (a k b c : ℕ) → Step ws a k b → Step ws a k c → b ≡ c
step_unique ws a k b c s t = go s.leads t.leads
  where
    go : ((left ws k ≡ opposite a) × (right ws k ≡ b)) ⊎ ((right ws k ≡ opposite a) × (left ws k ≡ b)) →
        ((left ws k ≡ opposite a) × (right ws k ≡ c)) ⊎ ((right ws k ≡ opposite a) × (left ws k ≡ c)) → b ≡ c
    go (inl p) (inl q) = sym p.1 ∙ q.1
    go (inl p) (inr q) = sym p.1 ∙ q.0 ∙ sym p.0 ∙ q.1
    go (inr p) (inl q) = sym p.1 ∙ q.0 ∙ sym p.0 ∙ q.1
    go (inr p) (inr q) = sym p.1 ∙ q.1

module _ (ws : List ℕ) (b : ℕ) (dist : ℕ → ℕ) where
  -- b is at distance 0, and a step lowers the distance by one at most
  pub record Distance : Type 0 where
    pub end : dist b ≡ 0
    pub slow : (a k c : ℕ) → Step ws a k c → dist a ≤ dist c + 1

  -- at each code the lowest rule that leads one nearer to b
  abbrev pub Nearing : ℕ → List ℕ → Type 0
  Nearing a [] = a ≡ b
  Nearing a (k ∷ ks) =
      (c : ℕ) × Step ws a k c × (dist a ≡ dist c + 1) × ((j d : ℕ) → j < k → Step ws a j d → dist a ≤ dist d) × Nearing c ks

  module _ (D : Distance) where
    -- no chain is shorter than the distance
    pub distance_below : (a : ℕ) (ks : List ℕ) → Chain ws a ks b → dist a ≤ length ks
    distance_below a [] p = omega (arith, D.end, ap dist p)
    distance_below a (k ∷ ks) p = omega (arith, D.slow a k p.0 p.1, distance_below p.0 ks p.2)

    -- a nearing list is a chain
    pub nearing_chain : (a : ℕ) (ks : List ℕ) → Nearing a ks → Chain ws a ks b
    nearing_chain a [] p = p
    nearing_chain a (k ∷ ks) p = (p.0, p.1, nearing_chain p.0 ks p.4)

    -- as long as the distance
    pub nearing_length : (a : ℕ) (ks : List ℕ) → Nearing a ks → dist a ≡ length ks
    nearing_length a [] p = omega (arith, D.end, ap dist p)
    nearing_length a (k ∷ ks) p = omega (arith, p.2, nearing_length p.0 ks p.4)

    -- and no chain of that length comes before it
    nearing_least : (a : ℕ) (ks : List ℕ) → Nearing a ks → (js : List ℕ) → Chain ws a js b → length js ≡ length ks → Before js ks → ⊥
    nearing_least a [] p js q e h = before_nil js h
    nearing_least a (k ∷ ks) p [] q e h = omega (arith, e)
    nearing_least a (k ∷ ks) p (j ∷ js) q e h =
        ⊎_elim
        (λ l. omega (arith, p.3 j q.0 l q.1, p.2, distance_below q.0 js q.2, nearing_length p.0 ks p.4))
        (λ t.
        let same : q.0 ≡ p.0 = step_unique ws a k q.0 p.0 (rw t.0 at q.1) p.1 in
        nearing_least p.0 ks p.4 js (rw same at q.2) (omega arith) t.1)
        (before_uncons j js k ks h)

    -- so it is the shortest chain that is named
    pub nearing_shortest : (a : ℕ) (ks : List ℕ) → Nearing a ks → Shortest ws a b ks
    nearing_shortest a ks p =
        record {
          chain = nearing_chain a ks p;
          short = λ js q. omega (arith, nearing_length a ks p, distance_below a js q);
          least = nearing_least a ks p;
        }

    -- from a code whose distance is the length of a chain, some rule leads one nearer
    pub nearer : (a : ℕ) (ks : List ℕ) → Chain ws a ks b → length ks ≡ dist a → 0 < dist a →
        (k : ℕ) × (c : ℕ) × Step ws a k c × (dist a ≡ dist c + 1) × ((js : List ℕ) × Chain ws c js b × (length js ≡ dist c))
    nearer a [] p e h = absurd (omega arith)
    nearer a (k ∷ ks) p e h =
        let low : dist p.0 ≤ length ks = distance_below p.0 ks p.2 in
        let slow : dist a ≤ dist p.0 + 1 = D.slow a k p.0 p.1 in
        (k, p.0, p.1, omega arith, (ks, p.2, omega arith))
