-- Notes on all codes of a possible list tell what is forced.
use mathlib.Core.Path.{◌≡◌}
use mathlib.Core.List.{List}
use Prim.Native.Nat.{ℕ, ◌*◌, ◌<◌}
use native.Mathlib.Omega.{arith}
use native.Mathlib.Decide.{ℕ_discrete}
use borrow.Author.Tests.{eq-eqb, ne_eqb}
use Rattle.rounds.specs.Rounds.{byte_of, forced_of}
use Rattle.search.specs.State.{State}
use Rattle.meaning.specs.Chains.{Reach}
use Rattle.meaning.specs.Codes.{late, early, opposite}
use Rattle.meaning.specs.Promises.{Each}
use Rattle.meaning.specs.Rotas.{Forced, Possible}
use Rattle.moves.specs.Layout.{spare}
use Rattle.meaning.proofs.ChainLaws.{late_early_forces, early_late_forces, clash_impossible}
use Rattle.meaning.proofs.CodeLaws.{opposite_late, opposite_early}
use Rattle.meaning.proofs.General.{length_build, get_or_build}
use Rattle.meaning.proofs.TwoSat.{forced_differ}

module _ (n : ℕ) (ws W : List ℕ) (t : ℕ) (state : State n ws W t) (all : (x : ℕ) → x < 2 * n → 0 < spare n W x) (possible : Possible n ws) where
  -- a code that leads to its opposite is noted so
  turns_noted : (x : ℕ) → x < 2 * n → Reach ws x (opposite x) → spare n W x ≡ 2
  turns_noted x l p = elim (ℕ_discrete (spare n W x) 1) [ yes e ↦ absurd (state.known.frees x l e p) | no e ↦ omega (arith, state.known.low x l, all x l) ]

  late_turns : (v : ℕ) → v < n → spare n W (late v) ≡ 2 → Reach ws (late v) (early v)
  late_turns v h e = rw (opposite_late v) at (state.known.turns (late v) (omega arith) e)

  early_turns : (v : ℕ) → v < n → spare n W (early v) ≡ 2 → Reach ws (early v) (late v)
  early_turns v h e = rw (opposite_early v) at (state.known.turns (early v) (omega arith) e)

  -- the byte of each choice is right
  byte_right : (v : ℕ) → v < n → Forced n ws v (byte_of (spare n W (late v)) (spare n W (early v)))
  byte_right v h = go (ℕ_discrete (spare n W (early v)) 2) (ℕ_discrete (spare n W (late v)) 2)
    where
      go : Dec (spare n W (early v) ≡ 2) → Dec (spare n W (late v) ≡ 2) → Forced n ws v (byte_of (spare n W (late v)) (spare n W (early v)))
      go (yes e) d = rw (eq-eqb _ _ e) (early_late_forces n ws v (early_turns v h e))
      go (no e) (yes d) = rw (ne_eqb _ _ e, eq-eqb _ _ d) (late_early_forces n ws v (late_turns v h d))
      go (no e) (no d) =
          rw (ne_eqb _ _ e, ne_eqb _ _ d)
          (forced_differ n ws state.ready.sizes.codes (λ u l c. clash_impossible n ws u c possible.0 possible.1) v h
          (λ p. e (turns_noted (early v) (omega arith) (rw (opposite_early v) p))) (λ p. d (turns_noted (late v) (omega arith) (rw (opposite_late v) p))))

  pub bytes_right : Each n (Forced n ws) (forced_of n W)
  bytes_right =
      let f : ℕ → ℕ = λ v. byte_of (spare n W (late v)) (spare n W (early v)) in
      record { long = length_build n f; each = λ v h. rw (get_or_build n f v h) (byte_right v h) }
