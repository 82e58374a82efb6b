-- What the search promises fixes what a call shows of it: from an empty set, the choice that is stuck, or the rota that the set says.
use mathlib.Core.Path.{◌≡◌, refl}
use mathlib.Core.List.{List, []}
use Prim.Native.Nat.{ℕ, ◌*◌, ◌<◌}
use Rattle.std.specs.Prelude.{Result, Ok, Err}
use Rattle.meaning.specs.declared.codes.Choice.{Choice}
use Rattle.meaning.specs.declared.answers.Decided.{Decided}
use Rattle.meaning.specs.Promises.{DecideSays}
use Rattle.moves.specs.Layout.{mark}
use Rattle.search.specs.Search.{SearchSays}
use Rattle.search.specs.State.{rota_of}
use Rattle.meaning.proofs.Once.{decide_once}
use Rattle.search.proofs.Searching.{found_first, found_clash}

-- as Decide answers it: the answer, and the rota
abbrev pub decided : Result (Unit {0}) Choice → Decided
decided (Ok x) = Decided.Possible
decided (Err u) = Decided.Impossible u

abbrev pub rota_found : ℕ → List ℕ → Result (Unit {0}) Choice → List ℕ
rota_found n W (Ok x) = rota_of n W
rota_found n W (Err u) = []

module _ (n : ℕ) (ws W : List ℕ) (empty : (x : ℕ) → x < 2 * n → mark n W x ≡ 0) where
  -- it is what Decide says
  search_decides : (W' : List ℕ) (t : ℕ) (r : Result (Unit {0}) Choice) → SearchSays n ws 0 W W' t r → DecideSays n ws (decided r) (rota_found n W' r)
  search_decides W' t (Ok x) s = found_first n ws W empty W' t s
  search_decides W' t (Err u) s = (found_clash n ws W empty W' u.0 t s, refl)

  -- so there is one
  pub search_once : (W₁ W₂ : List ℕ) (t₁ t₂ : ℕ) (r s : Result (Unit {0}) Choice) → SearchSays n ws 0 W W₁ t₁ r → SearchSays n ws 0 W W₂ t₂ s →
      (decided r ≡ decided s) × (rota_found n W₁ r ≡ rota_found n W₂ s)
  search_once W₁ W₂ t₁ t₂ r s p q =
      decide_once n ws (decided r) (decided s) (rota_found n W₁ r) (rota_found n W₂ s) (search_decides W₁ t₁ r p) (search_decides W₂ t₂ s q)
