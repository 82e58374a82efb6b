-- Sets of codes that steps do not leave: a rota whose true codes lie in such a set is allowed, and such a set grows by all that a code reaches.
use mathlib.Core.Path.{refl, sym, subst}
use mathlib.Core.Logic.{◌⊎◌, inl, inr, ⊎_elim}
use mathlib.Core.List.{List, [], ◌∷◌}
use Prim.Native.Nat.{ℕ, ◌*◌, ◌<◌}
use Rattle.meaning.specs.Chains.{Step, Chain, Reach}
use Rattle.meaning.specs.Codes.{opposite}
use Rattle.meaning.specs.Rotas.{True, Met, Rota, Allowed}
use Rattle.meaning.specs.Rules.{rules, left, right, InRange}
use Rattle.meaning.proofs.ChainLaws.{reach_step, reach_trans, reach_flip, reach_turn, true_or_opposite}
use Rattle.meaning.proofs.CodeLaws.{opposite_opposite, opposite_below}

-- no step leaves the set
abbrev pub Closed : List ℕ → (ℕ → Type 0) → Type 0
Closed ws S = (a k b : ℕ) → Step ws a k b → S a → S b

-- never a code and its opposite
abbrev pub Consistent : (ℕ → Type 0) → Type 0
Consistent S = (c : ℕ) → S c → S (opposite c) → ⊥

-- every true code of the rota is in the set
abbrev pub Follows : ℕ → (ℕ → Type 0) → List ℕ → Type 0
Follows n S r = (c : ℕ) → c < 2 * n → True r c → S c

-- the set with all that c reaches
abbrev pub With : List ℕ → (ℕ → Type 0) → ℕ → ℕ → Type 0
With ws S c d = S d ⊎ Reach ws c d

module _ (ws : List ℕ) (S : ℕ → Type 0) (closed : Closed ws S) where
  -- no chain leaves a closed set
  pub closed_chain : (a : ℕ) (ks : List ℕ) (b : ℕ) → Chain ws a ks b → S a → S b
  closed_chain a [] b p h = subst S p h
  closed_chain a (k ∷ ks) b p h = closed_chain p.0 ks b p.2 (closed a k p.0 p.1 h)

  -- so it has all that its codes reach
  pub closed_reach : (a b : ℕ) → Reach ws a b → S a → S b
  closed_reach a b p h = closed_chain a p.0 b p.1 h

  -- a rota that follows a closed and consistent set is allowed
  pub follows_allowed : (n : ℕ) (r : List ℕ) → InRange n ws → Consistent S → Rota n r → Follows n S r → Allowed n ws r
  follows_allowed n r range cons rota follows = record { rota = rota; met = met }
    where
      other : (k : ℕ) → k < rules ws → True r (opposite (left ws k)) → True r (right ws k)
      other k h t =
          let inside : S (right ws k) =
          closed (opposite (left ws k)) k (right ws k)
          (record { is_rule = h; leads = inl (sym (opposite_opposite (left ws k)), refl) })
          (follows (opposite (left ws k)) (opposite_below n (left ws k) (range k h).0) t)
          in
          ⊎_elim (λ u. u)
          (λ u. absurd (cons (right ws k) inside (follows (opposite (right ws k)) (opposite_below n (right ws k) (range k h).1) u)))
          (true_or_opposite n r rota (right ws k))

      met : (k : ℕ) → k < rules ws → Met ws r k
      met k h = ⊎_elim (λ t. inl t) (λ t. inr (other k h t)) (true_or_opposite n r rota (left ws k))

  module _ (cons : Consistent S) (c : ℕ) (out : S (opposite c) → ⊥) (free : Reach ws c (opposite c) → ⊥) where
    -- a closed set with all that c reaches is closed
    pub with_closed : Closed ws (With ws S c)
    with_closed a k b s h = ⊎_elim (λ i. inl (closed a k b s i)) (λ p. inr (reach_trans ws c a b p (reach_step ws a k b s))) h

    -- and consistent, if the opposite of c was not in it and c does not lead there
    pub with_consistent : Consistent (With ws S c)
    with_consistent d (inl h) (inl k) = cons d h k
    with_consistent d (inl h) (inr p) = out (closed_reach d (opposite c) (reach_turn ws c d p) h)
    with_consistent d (inr p) (inl k) = out (closed_reach (opposite d) (opposite c) (reach_flip ws c d p) k)
    with_consistent d (inr p) (inr q) = free (reach_trans ws c d (opposite c) p (reach_turn ws c d q))

-- what a code reaches is closed, and consistent if the code does not lead to its opposite
pub reach_closed : (ws : List ℕ) (c : ℕ) → Closed ws (Reach ws c)
reach_closed ws c a k b s p = reach_trans ws c a b p (reach_step ws a k b s)

pub reach_consistent : (ws : List ℕ) (c : ℕ) → (Reach ws c (opposite c) → ⊥) → Consistent (Reach ws c)
reach_consistent ws c free d p q = free (reach_trans ws c d (opposite c) p (reach_turn ws c d q))

-- all that the codes of P reach
abbrev pub Spread : List ℕ → (ℕ → Type 0) → ℕ → Type 0
Spread ws P d = (c : ℕ) × P c × Reach ws c d

-- that set is closed
pub spread_closed : (ws : List ℕ) (P : ℕ → Type 0) → Closed ws (Spread ws P)
spread_closed ws P a k b s h = (h.0, h.1, reach_closed ws h.0 a k b s h.2)

-- and consistent, if no code of P leads to the opposite of one
pub spread_consistent : (ws : List ℕ) (P : ℕ → Type 0) → ((c d : ℕ) → P c → P d → Reach ws c (opposite d) → ⊥) → Consistent (Spread ws P)
spread_consistent ws P free e h k =
    free h.0 k.0 h.1 k.1 (reach_trans ws h.0 e (opposite k.0) h.2 (reach_turn ws k.0 e k.2))
