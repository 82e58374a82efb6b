-- Whether one code reaches another is decided: edge by edge, as a chain takes the last edge once or not at all.
use mathlib.Core.Path.{◌≡◌, refl, sym, ap, ◌∙◌, subst, subst₂}
use mathlib.Core.Logic.{◌⊎◌, inl, inr, ⊎_elim}
use mathlib.Core.List.{List, [], ◌∷◌}
use Prim.Native.Nat.{ℕ, zero, suc, ◌+◌, ◌*◌, ◌/◌, ◌≤◌, ◌<◌}
use native.Mathlib.Omega.{arith}
use native.Mathlib.Decide.{ℕ_discrete}
use lib.ListN.{get_or}
use Rattle.meaning.specs.Chains.{Step, Chain, Reach}
use Rattle.meaning.specs.Codes.{late, early, opposite}
use Rattle.meaning.specs.Rules.{rules, other_end}
use Rattle.meaning.proofs.ChainLaws.{reach_step, reach_trans}
use Rattle.meaning.proofs.CodeLaws.{opposite_opposite, late_or_early}
use Rattle.meaning.proofs.General.{below_suc}

-- the ends of a rule are each other's other end
pub other_first : (k : ℕ) → other_end (2 * k) ≡ 2 * k + 1
unfolding other_end
other_first k = omega arith

pub other_second : (k : ℕ) → other_end (2 * k + 1) ≡ 2 * k
unfolding other_end
other_second k = omega arith

module _ (ws : List ℕ) where
  -- edge e: rule e / 2 leads from the opposite of word e to the other word of the rule
  unfoldable pub fro : ℕ → ℕ
  fro e = opposite (get_or ws e 0)

  unfoldable pub to : ℕ → ℕ
  to e = get_or ws (other_end e) 0

  -- c reaches d by edges below e
  unfoldable pub Way : ℕ → ℕ → ℕ → Type 0
  Way zero c d = c ≡ d
  Way (suc e) c d = Way e c d ⊎ (Way e c (fro e) × Way e (to e) d)

  -- whether it does is decided
  unfoldable pub way? : (e c d : ℕ) → Dec (Way e c d)
  unfolding Way fro to ℕ_discrete opposite other_end
  way? zero c d = ℕ_discrete c d
  way? (suc e) c d =
      dec (way? e c d) (way? e c (fro e)) (way? e (to e) d)
    where
      dec : {A B C : Type 0} → Dec A → Dec B → Dec C → Dec (A ⊎ (B × C))
      dec (yes a) b c = yes (inl a)
      dec (no a) (yes b) (yes c) = yes (inr (b, c))
      dec (no a) (yes b) (no c) = no (⊎_elim a (λ p. c p.1))
      dec (no a) (no b) c = no (⊎_elim a (λ p. b p.0))

  -- by no edge
  pub way_refl : (e c : ℕ) → Way e c c
  unfolding Way
  way_refl zero c = refl
  way_refl (suc e) c = inl (way_refl e c)

  -- ways join
  pub way_trans : (e c d f : ℕ) → Way e c d → Way e d f → Way e c f
  unfolding Way
  way_trans zero c d f p q = p ∙ q
  way_trans (suc e) c d f (inl p) (inl q) = inl (way_trans e c d f p q)
  way_trans (suc e) c d f (inl p) (inr q) = inr (way_trans e c d (fro e) p q.0, q.1)
  way_trans (suc e) c d f (inr p) (inl q) = inr (p.0, way_trans e (to e) d f p.1 q)
  way_trans (suc e) c d f (inr p) (inr q) = inr (p.0, q.1)

  -- each edge is a way
  pub way_edge : (e i : ℕ) → i < e → Way e (fro i) (to i)
  unfolding Way
  way_edge zero i h = absurd (omega arith)
  way_edge (suc e) i h =
      below_suc {P = λ i. Way (suc e) (fro i) (to i)} e (λ i h. inl (way_edge e i h)) (inr (way_refl e (fro e), way_refl e (to e))) i h

  -- an edge is a step
  pub edge_step : (e : ℕ) → e < 2 * rules ws → Step ws (fro e) (e / 2) (to e)
  unfolding fro to
  edge_step e h =
      record {
        is_rule = omega arith;
        leads = ⊎_elim
            (λ q. inl (ap at (sym q) ∙ sym (opposite_opposite (at e)), ap at (sym (ap other_end q ∙ other_first (e / 2)))))
            (λ q. inr (ap at (sym q) ∙ sym (opposite_opposite (at e)), ap at (sym (ap other_end q ∙ other_second (e / 2)))))
            (late_or_early e);
      }
    where
      at : ℕ → ℕ
      at i = get_or ws i 0

  -- so a way is a chain
  pub way_reach : (e c d : ℕ) → e ≤ 2 * rules ws → Way e c d → Reach ws c d
  unfolding Way
  way_reach zero c d h p = ([], p)
  way_reach (suc e) c d h (inl p) = way_reach e c d (omega arith) p
  way_reach (suc e) c d h (inr p) =
      reach_trans ws c (fro e) d (way_reach e c (fro e) (omega arith) p.0)
      (reach_trans ws (fro e) (to e) d (reach_step ws (fro e) (e / 2) (to e) (edge_step e h)) (way_reach e (to e) d (omega arith) p.1))

  -- and a step is a way
  pub step_way : (a k b : ℕ) → Step ws a k b → Way (2 * rules ws) a b
  unfolding fro to
  step_way a k b s =
      ⊎_elim (λ h. by (late k) (omega (arith, s.is_rule)) (ap opposite h.0 ∙ opposite_opposite a) (ap at (other_first k) ∙ h.1))
      (λ h. by (early k) (omega (arith, s.is_rule)) (ap opposite h.0 ∙ opposite_opposite a) (ap at (other_second k) ∙ h.1)) s.leads
    where
      at : ℕ → ℕ
      at i = get_or ws i 0

      by : (e : ℕ) → e < 2 * rules ws → fro e ≡ a → to e ≡ b → Way (2 * rules ws) a b
      by e h p q = subst₂ (Way (2 * rules ws)) p q (way_edge (2 * rules ws) e h)

  -- so is a chain
  pub chain_way : (a : ℕ) (ks : List ℕ) (b : ℕ) → Chain ws a ks b → Way (2 * rules ws) a b
  chain_way a [] b p = subst (Way (2 * rules ws) a) p (way_refl (2 * rules ws) a)
  chain_way a (k ∷ ks) b p = way_trans (2 * rules ws) a p.0 b (step_way a k p.0 p.1) (chain_way p.0 ks b p.2)

  -- hence whether a code reaches another is decided
  unfoldable pub reach? : (c d : ℕ) → Dec (Reach ws c d)
  unfolding way?
  reach? c d =
      elim (way? (2 * rules ws) c d) [
        | yes p ↦ yes (way_reach (2 * rules ws) c d (omega arith) p)
        | no p ↦ no (λ q. p (chain_way c q.0 d q.1))
      ]
