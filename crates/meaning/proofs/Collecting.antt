-- What the promise of a visit says, tried on a visitor that only collects: it has every rota, or where it stopped the first of them.
use mathlib.Core.Path.{◌≡◌, sym, ap, ◌∙◌}
use mathlib.Core.List.{List, [], ◌∷◌, ◌++◌, append_assoc, append-nil}
use Prim.Native.Nat.{ℕ}
use Rattle.std.specs.declared.ops.ControlFlow.{ControlFlow}
use Rattle.std.specs.Prelude.{Ok}
use Rattle.meaning.specs.Runs.{EveryRota}
use Rattle.meaning.specs.declared.answers.Visited.{Visited}
use Rattle.meaning.specs.Visits.{Given, Visits}

module _ (B : Type 0) (n : ℕ) (ws : List ℕ) where
  -- it puts each rota that it is given behind those that it has
  abbrev pub Collects : List (List ℕ) → List ℕ → ControlFlow B (Unit {0}) → List (List ℕ) → Type 0
  Collects has r told has' = has' ≡ has ++ r ∷ []

  collected : (has rs has' : List (List ℕ)) → Given n ws Collects has rs has' → has' ≡ has ++ rs
  collected has [] has' g = sym g ∙ sym (append-nil has)
  collected has (r ∷ rs) has' g = collected g.0 rs has' g.2 ∙ ap (λ (l : List (List ℕ)). l ++ rs) g.1 ∙ append_assoc has (r ∷ []) rs

  module _ (has : List (List ℕ)) (area work area' work' : List ℕ) where
    -- from none on, until it has all
    pub collects_all : Visits n ws Collects [] has area work (Ok Visited.All) area' work' → EveryRota n ws has
    collects_all v =
        let a = v.after.right in
        rw (collected [] (a.before ++ v.after.items ∷ []) has a.given) a.every

    -- or until it stops
    pub collects_first : (b : B) → Visits n ws Collects [] has area work (Ok (Visited.Stopped b)) area' work' → (rest : List (List ℕ)) × EveryRota n ws (has ++ rest)
    collects_first b v =
        let a = v.after.right in
        (a.after, rw (a.stops, collected [] a.before a.here a.given, append_assoc) a.every)
