-- Ways from code to code, and the ends of rules, as the walk uses them.
use mathlib.Core.Path.{◌≡◌, subst}
use mathlib.Core.List.{List, [], ◌∷◌}
use Prim.Native.Nat.{ℕ, ◌*◌, ◌<◌}
use native.Mathlib.Omega.{arith}
use lib.ListN.{length, get_or}
use Rattle.meaning.specs.Chains.{Step, Chain, Reach, Tied}
use Rattle.meaning.specs.Codes.{opposite}
use Rattle.meaning.specs.Rules.{other_end}
use Rattle.moves.specs.Layout.{Sizes}
use Rattle.meaning.proofs.ChainLaws.{reach_trans, reach_flip, reach_turn, reach_step}
use Rattle.meaning.proofs.CodeLaws.{opposite_opposite}
use Rattle.moves.proofs.Steps.{other_end_below, word_below, step_end}

-- two ways in a row
pub join : {ws : List ℕ} {a b c : ℕ} → Reach ws a b → Reach ws b c → Reach ws a c
join {ws} {a} {b} {c} p q = reach_trans ws a b c p q

-- the way from a code to itself
pub here : {ws : List ℕ} {a b : ℕ} → a ≡ b → Reach ws a b
here e = ([], e)

-- one step
pub once : {ws : List ℕ} {a k b : ℕ} → Step ws a k b → Reach ws a b
once {ws} {a} {k} {b} st = reach_step ws a k b st

-- a way from an opposite, turned round
pub turned_from : {ws : List ℕ} {a b : ℕ} → Reach ws (opposite a) b → Reach ws (opposite b) a
turned_from {ws} {a} {b} r = subst (λ (x : ℕ). Reach ws (opposite b) x) (opposite_opposite a) (reach_flip ws (opposite a) b r)

-- and a way to one
pub turned_to : {ws : List ℕ} {a b : ℕ} → Reach ws a (opposite b) → Reach ws b (opposite a)
turned_to {ws} {a} {b} r = reach_turn ws a b r

-- being tied goes round
pub tied_flip : {ws : List ℕ} {a b : ℕ} → Tied ws a b → Tied ws b a
tied_flip p = (p.1, p.0)

-- ties join
pub tied_join : {ws : List ℕ} {a b c : ℕ} → Tied ws a b → Tied ws b c → Tied ws a c
tied_join p q = (join p.0 q.0, join q.1 p.1)

-- what the walk uses of the words: each holds a code below N, and each step has an end
pub record Words (N : ℕ) (ws : List ℕ) : Type 0 where
  pub inside : (e : ℕ) → e < length ws → get_or ws (other_end e) 0 < N
  pub ends : (a k b : ℕ) → Step ws a k b → (e : ℕ) × (e < length ws) × (get_or ws e 0 ≡ opposite a) × (get_or ws (other_end e) 0 ≡ b)

-- an accepted list has them
pub words_of : {n : ℕ} {ws W : List ℕ} → Sizes n ws W → Words (2 * n) ws
words_of {n} {ws} s =
    record {
      inside = λ e l. word_below s (other_end e) (other_end_below e (length ws) s.even l);
      ends = λ a k b st. let w = step_end s st in (w.0, w.1, w.2, w.3);
    }

-- what a code leads to is a code
pub step_lt : {N : ℕ} {ws : List ℕ} → Words N ws → {a k b : ℕ} → Step ws a k b → b < N
step_lt ok {a} {k} {b} st =
    let w = ok.ends a k b st in
    omega (arith, ok.inside w.0 w.1, w.3)

-- along a chain
chain_lt : {N : ℕ} {ws : List ℕ} → Words N ws → (a : ℕ) (ks : List ℕ) (b : ℕ) → a < N → Chain ws a ks b → b < N
chain_lt ok a [] b l p = omega arith
chain_lt ok a (k ∷ ks) b l p = chain_lt ok p.0 ks b (step_lt ok p.1) p.2

-- and as far as it reaches
pub reach_lt : {N : ℕ} {ws : List ℕ} {a b : ℕ} → Words N ws → a < N → Reach ws a b → b < N
reach_lt {N} {ws} {a} {b} ok l r = chain_lt ok a r.0 b l r.1
