-- Laws of steps and chains: they join, turn round, and carry truth along.
use mathlib.Core.Path.{◌≡◌, refl, sym, ap, ◌∙◌}
use mathlib.Core.Logic.{◌⊎◌, inl, inr, ⊎_elim}
use mathlib.Core.List.{List, [], ◌∷◌, ◌++◌, reverse, reverse-cons}
use Prim.Native.Nat.{ℕ}
use native.Mathlib.Omega.{arith}
use native.Mathlib.Decide.{ℕ_discrete}
use lib.ListN.{get_or}
use Rattle.meaning.specs.Chains.{Step, Chain, Reach, Clash}
use Rattle.meaning.specs.Codes.{late, early, opposite, choice_of, value_of}
use Rattle.meaning.specs.Rotas.{True, Rota, Allowed, Impossible, Always}
use Rattle.meaning.proofs.CodeLaws.{opposite_opposite, opposite_choice, opposite_value, opposite_late, opposite_early, choice_late, choice_early}

module _ (ws : List ℕ) where
  -- a step contraposes: the same rule leads from the opposite of b to the opposite of a
  pub step_flip : {a k b : ℕ} → Step ws a k b → Step ws (opposite b) k (opposite a)
  step_flip {a} {k} {b} s =
      record {
        is_rule = s.is_rule;
        leads = ⊎_elim (λ h. inr (h.1 ∙ sym (opposite_opposite b), h.0)) (λ h. inl (h.1 ∙ sym (opposite_opposite b), h.0)) s.leads;
      }

  -- chains append
  pub chain_append : (a : ℕ) (ks : List ℕ) (b : ℕ) (js : List ℕ) (c : ℕ) → Chain ws a ks b → Chain ws b js c → Chain ws a (ks ++ js) c
  chain_append a [] b js c p q = rw p q
  chain_append a (k ∷ ks) b js c p q = (p.0, p.1, chain_append p.0 ks b js c p.2 q)

  -- a chain contraposes, reversed
  pub chain_flip : (a : ℕ) (ks : List ℕ) (b : ℕ) → Chain ws a ks b → Chain ws (opposite b) (reverse ks) (opposite a)
  chain_flip a [] b p = ap opposite (sym p)
  chain_flip a (k ∷ ks) b p =
      rw (reverse-cons k ks)
      (chain_append (opposite b) (reverse ks) (opposite p.0) (k ∷ []) (opposite a) (chain_flip p.0 ks b p.2) (opposite a, step_flip p.1, refl))

  -- each code reaches itself
  pub reach_refl : (a : ℕ) → Reach ws a a
  reach_refl a = ([], refl)

  -- and where a step leads
  pub reach_step : (a k b : ℕ) → Step ws a k b → Reach ws a b
  reach_step a k b s = (k ∷ [], (b, s, refl))

  -- reaching is transitive
  pub reach_trans : (a b c : ℕ) → Reach ws a b → Reach ws b c → Reach ws a c
  reach_trans a b c p q = (p.0 ++ q.0, chain_append a p.0 b q.0 c p.1 q.1)

  -- and contraposes
  pub reach_flip : (a b : ℕ) → Reach ws a b → Reach ws (opposite b) (opposite a)
  reach_flip a b p = (reverse p.0, chain_flip a p.0 b p.1)

  -- so what leads from a to the opposite of b, turned round, leads from b to the opposite of a
  pub reach_turn : (a b : ℕ) → Reach ws a (opposite b) → Reach ws b (opposite a)
  reach_turn a b p = rw (opposite_opposite b) at (reach_flip a (opposite b) p)

-- in a rota a code or its opposite is true
pub true_or_opposite : (n : ℕ) (r : List ℕ) → Rota n r → (c : ℕ) → True r c ⊎ True r (opposite c)
true_or_opposite n r h c =
    elim (ℕ_discrete (get_or r (choice_of c) 0) (value_of c)) [
      | yes e ↦ inl e
      | no e ↦ inr (rw (opposite_choice c) (omega (arith, opposite_value c, h.bits (choice_of c))))
    ]

-- never both
pub never_both : (r : List ℕ) (c : ℕ) → True r c → True r (opposite c) → ⊥
never_both r c t u = omega (arith, opposite_value c, rw (opposite_choice c) at u)

-- what the two codes of a choice say: late is 1
pub true_late : (r : List ℕ) (v : ℕ) → True r (late v) → get_or r v 0 ≡ 1
true_late r v t = omega (arith, rw (choice_late v) at t)

-- early is 0
pub true_early : (r : List ℕ) (v : ℕ) → True r (early v) → get_or r v 0 ≡ 0
true_early r v t = omega (arith, rw (choice_early v) at t)

-- and the other way round
pub late_true : (r : List ℕ) (v : ℕ) → get_or r v 0 ≡ 1 → True r (late v)
late_true r v e = rw (choice_late v) (omega arith)

pub early_true : (r : List ℕ) (v : ℕ) → get_or r v 0 ≡ 0 → True r (early v)
early_true r v e = rw (choice_early v) (omega arith)

-- steps and chains are sound: in an allowed rota they lead from true codes to true codes
module _ (n : ℕ) (ws r : List ℕ) (ok : Allowed n ws r) where
  -- a step
  pub step_sound : (a k b : ℕ) → Step ws a k b → True r a → True r b
  step_sound a k b s t =
      ⊎_elim
      (λ e. ⊎_elim (λ m. absurd (never_both r a t (rw e.0 at m))) (λ m. rw e.1 at m) (ok.met k s.is_rule))
      (λ e. ⊎_elim (λ m. rw e.1 at m) (λ m. absurd (never_both r a t (rw e.0 at m))) (ok.met k s.is_rule))
      s.leads

  -- a chain
  pub chain_sound : (a : ℕ) (ks : List ℕ) (b : ℕ) → Chain ws a ks b → True r a → True r b
  chain_sound a [] b p t = rw p at t
  chain_sound a (k ∷ ks) b p t = chain_sound p.0 ks b p.2 (step_sound a k p.0 p.1 t)

  -- so what is reached from a true code is true
  pub reach_sound : (a b : ℕ) → Reach ws a b → True r a → True r b
  reach_sound a b p t = chain_sound a p.0 b p.1 t

  -- a code that leads to its opposite is false in every allowed rota
  pub reach_opposite : (c : ℕ) → Reach ws c (opposite c) → True r (opposite c)
  reach_opposite c p = ⊎_elim (λ t. reach_sound c (opposite c) p t) (λ t. t) (true_or_opposite n r ok.rota c)

-- a clash leaves no rota
pub clash_impossible : (n : ℕ) (ws : List ℕ) (v : ℕ) → Clash ws v → Impossible n ws
clash_impossible n ws v p r ok =
    let q : Reach ws (late v) (opposite (late v)) = rw (opposite_late v) p.0 in
    let e : True r (opposite (late v)) = reach_opposite n ws r ok (late v) q in
    never_both r (late v) (reach_sound n ws r ok (early v) (late v) p.1 (rw (opposite_late v) at e)) e

-- a chain from late to early alone forces early, and one from early to late alone forces late
pub late_early_forces : (n : ℕ) (ws : List ℕ) (v : ℕ) → Reach ws (late v) (early v) → Always n ws v 0
late_early_forces n ws v p r ok =
    true_early r v (rw (opposite_late v) at (reach_opposite n ws r ok (late v) (rw (opposite_late v) p)))

-- and one from early to late alone late
pub early_late_forces : (n : ℕ) (ws : List ℕ) (v : ℕ) → Reach ws (early v) (late v) → Always n ws v 1
early_late_forces n ws v p r ok =
    true_late r v (rw (opposite_early v) at (reach_opposite n ws r ok (early v) (rw (opposite_early v) p)))
