-- Ends of rules and the steps that they stand for.
use mathlib.Core.Path.{◌≡◌, sym, ap, ◌∙◌, subst}
use mathlib.Core.Logic.{⊎_elim}
use mathlib.Core.List.{List}
use Prim.Native.Nat.{ℕ, ◌*◌, ◌/◌, ◌%◌, ◌<◌}
use native.Mathlib.Omega.{arith}
use lib.ListN.{length, get_or}
use Rattle.meaning.specs.Chains.{Step}
use Rattle.meaning.specs.Codes.{late, early, opposite}
use Rattle.meaning.specs.Rules.{other_end}
use Rattle.moves.specs.Layout.{Sizes}
use Rattle.meaning.proofs.ChainLaws.{step_flip}
use Rattle.meaning.proofs.ChainLength.{step_below}
use Rattle.meaning.proofs.CodeLaws.{opposite_opposite, opposite_below, late_or_early}
use Rattle.meaning.proofs.Reaching.{other_first, other_second, fro, to, edge_step}

-- the other end of a rule is among the words
pub other_end_below : (e m : ℕ) → m % 2 ≡ 0 → e < m → other_end e < m
unfolding other_end
other_end_below e m even l = omega arith

-- each word is a code
pub word_below : {n : ℕ} {ws W : List ℕ} → Sizes n ws W → (e : ℕ) → e < length ws → get_or ws e 0 < 2 * n
word_below {n} {ws} s e l =
    let r = s.codes (e / 2) (omega (arith, s.even)) in
    ⊎_elim (λ (q : e ≡ late (e / 2)). subst (λ (i : ℕ). get_or ws i 0 < 2 * n) (sym q) r.0)
    (λ (q : e ≡ early (e / 2)). subst (λ (i : ℕ). get_or ws i 0 < 2 * n) (sym q) r.1) (late_or_early e)

module _ {n : ℕ} {ws W : List ℕ} (s : Sizes n ws W) where
  -- an end that holds the opposite of a is a step from a to the code at the other end
  pub end_step : {a b e : ℕ} → e < length ws → get_or ws e 0 ≡ opposite a → b ≡ get_or ws (other_end e) 0 → Step ws a (e / 2) b
  unfolding fro to
  end_step {a} {b} {e} l holds leads =
      let back : opposite (get_or ws e 0) ≡ a = ap opposite holds ∙ opposite_opposite a in
      let st : Step ws (opposite (get_or ws e 0)) (e / 2) (get_or ws (other_end e) 0) = edge_step ws e (omega (arith, s.even)) in
      rw leads (rw back at st)

  -- a step has such an end, of its own rule
  pub step_end : {a k b : ℕ} → Step ws a k b → (e : ℕ) × (e < length ws) × (get_or ws e 0 ≡ opposite a) × (get_or ws (other_end e) 0 ≡ b) × (e / 2 ≡ k)
  step_end {a} {k} {b} st =
      ⊎_elim
      (λ h. (late k, omega (arith, st.is_rule, s.even), h.0, ap (λ (i : ℕ). get_or ws i 0) (other_first k) ∙ h.1, omega arith))
      (λ h. (early k, omega (arith, st.is_rule, s.even), h.0, ap (λ (i : ℕ). get_or ws i 0) (other_second k) ∙ h.1, omega arith))
      st.leads

  -- a step leads to a code
  pub step_to : (a k b : ℕ) → Step ws a k b → b < 2 * n
  step_to a k b st = step_below ws b n s.codes a k b st

  -- and from one
  pub step_from : (a k b : ℕ) → Step ws a k b → a < 2 * n
  step_from a k b st = rw (opposite_opposite a) at (opposite_below n (opposite a) (step_to (opposite b) k (opposite a) (step_flip ws st)))
