-- The front of the work area, which a call uses.
use mathlib.Core.Path.{◌≡◌, sym, ◌∙◌}
use mathlib.Core.List.{List, ◌++◌}
use Prim.Native.Nat.{ℕ, ◌≤◌}
use native.Mathlib.Omega.{arith}
use lib.ListN.{length, take, drop, replicate}
use lib.Seq.{length-take-le}
use Rattle.std.specs.Prelude.{Ok}
use Rattle.meaning.specs.Accepted.{Accepted}
use Rattle.meaning.specs.Promises.{Keeps}
use Rattle.meaning.specs.Refusals.{Due}
use Rattle.meaning.specs.Sizes.{work_needs, cleared, over}
use Rattle.meaning.proofs.Keeping.{keeps_answer}
use Rattle.moves.specs.Layout.{Sizes}
use Rattle.moves.proofs.Clearing.{over_zeros}

module _ (n : ℕ) (ws W : List ℕ) (used : ℕ) (enough : (used ≡ work_needs n ws) × (used ≤ length W)) where
  long : length (take used W) ≡ used
  long = length-take-le used W enough.1

  -- the front of an accepted call has the sizes that the moves ask for
  pub front_sizes : (area needs : ℕ) → Accepted n ws area needs (length W) → Sizes n ws (take used W)
  front_sizes area needs a = record { few = a.choices; short = a.few; even = omega (arith, a.even); codes = a.range; room = omega (arith, enough.0, long) }

  -- once it is all zeros, the work area is cleared
  pub front_cleared : (F G : List ℕ) → length F ≡ length (take used W) → G ≡ replicate (length F) 0 → G ++ drop used W ≡ cleared n ws W
  front_cleared F G l g =
      let e : length F ≡ work_needs n ws = l ∙ long ∙ enough.0 in
      rw (g, e, enough.0) (sym (over_zeros (work_needs n ws) W))

  -- and where nothing is due, an answer keeps its call's promise
  pub answers : {A : Type 0} (says : A → List ℕ → Type 0) (due : Due) (area F G : List ℕ) (a : A) (items area' : List ℕ) → length F ≡ length (take used W) → G ≡ replicate (length F) 0 →
      Due.none ≡ due → says a items → area' ≡ over items area → Keeps says due n ws area W (Ok a) area' (G ++ drop used W)
  answers says due area F G a items area' l g fine right written =
      keeps_answer says due n ws area W a area' (G ++ drop used W) fine (record { items = items; right = right; written = written; zeros = front_cleared F G l g })
