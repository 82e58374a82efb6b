-- The rota that the marks stand for follows the set that they hold.
use mathlib.Core.Path.{◌≡◌, sym, ◌∙◌}
use mathlib.Core.Logic.{⊎_elim}
use mathlib.Core.List.{List}
use Prim.Native.Nat.{ℕ, min}
use native.Mathlib.Omega.{arith}
use Rattle.search.specs.State.{rota_of}
use Rattle.meaning.specs.Codes.{late, early, choice_of, value_of}
use Rattle.meaning.specs.Rotas.{Rota}
use Rattle.moves.specs.Layout.{mark}
use Rattle.moves.specs.Walks.{Held}
use Rattle.meaning.proofs.CodeLaws.{choice_below, late_or_early}
use Rattle.meaning.proofs.General.{length_build, get_or_build, build_le}
use Rattle.meaning.proofs.Growing.{Grown}
use Rattle.meaning.proofs.Sets.{Follows}

-- it is a rota
pub rota_of_lem : (n : ℕ) (W : List ℕ) → Rota n (rota_of n W)
rota_of_lem n W =
    let f : ℕ → ℕ = λ v. min 1 (mark n W (late v)) in
    record { long = length_build n f; bits = build_le n f 1 (λ v. omega arith) }

-- where each choice is decided, its true codes are in the set
pub rota_follows : (n : ℕ) (ws W : List ℕ) (B : ℕ → Type 0) → Grown ws B (Held n W) n → Follows n (Held n W) (rota_of n W)
rota_follows n ws W B g c h t = ⊎_elim late_case early_case (late_or_early c)
  where
    value : min 1 (mark n W (late (choice_of c))) ≡ value_of c
    value = sym (get_or_build n (λ v. min 1 (mark n W (late v))) (choice_of c) (choice_below n c h)) ∙ t

    late_case : c ≡ late (choice_of c) → Held n W c
    late_case e = record { is_code = h; is_marked = rw e (omega (arith, value)) }

    early_case : c ≡ early (choice_of c) → Held n W c
    early_case e =
        ⊎_elim (λ i. rw e i) (λ i. absurd (omega (arith, value, i.0.is_marked))) (g.decided (choice_of c) (choice_below n c h))
