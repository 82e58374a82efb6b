-- Rules of one code, and of a code and its opposite.
use mathlib.Core.Path.{◌≡◌, sym, ◌∙◌}
use mathlib.Core.Logic.{inl, inr, ⊎_elim}
use mathlib.Core.List.{List}
use Prim.Native.Nat.{ℕ, ◌<◌}
use Rattle.meaning.specs.Chains.{Step}
use Rattle.meaning.specs.Codes.{opposite}
use Rattle.meaning.specs.Rotas.{True, Met, Rota}
use Rattle.meaning.specs.Rules.{rules, left, right}
use Rattle.meaning.proofs.ChainLaws.{true_or_opposite}
use Rattle.meaning.proofs.CodeLaws.{opposite_opposite}

module _ (ws : List ℕ) (k c : ℕ) (l : left ws k ≡ c) where
  -- a rule (c, c) demands c
  pub demands : (r : List ℕ) → right ws k ≡ c → Met ws r k → True r c
  demands r e m = ⊎_elim (λ t. rw l at t) (λ t. rw e at t) m

  -- and the step by it leads from the opposite of c to c
  pub demand_step : k < rules ws → right ws k ≡ c → Step ws (opposite c) k c
  demand_step h e = record { is_rule = h; leads = inl (l ∙ sym (opposite_opposite c), e) }

  -- a rule of a code and its opposite is always met
  pub always_met : (n : ℕ) (r : List ℕ) → Rota n r → right ws k ≡ opposite c → Met ws r k
  always_met n r h e = ⊎_elim (λ t. inl (rw l t)) (λ t. inr (rw e t)) (true_or_opposite n r h c)
