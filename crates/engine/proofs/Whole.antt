-- The whole work area, where a call uses all of it and not its front alone: prepared, left by the moves, and cleared.
use mathlib.Core.Path.{◌≡◌, ◌∙◌}
use mathlib.Core.List.{List}
use Prim.Native.Nat.{ℕ, ◌-◌, ◌*◌, ◌≤◌, ◌<◌}
use native.Mathlib.Omega.{arith}
use lib.ListN.{length, get_or, replicate}
use Rattle.std.specs.Prelude.{Ok}
use Rattle.components.specs.Leads.{Side}
use Rattle.meaning.specs.Accepted.{Accepted}
use Rattle.meaning.specs.Promises.{Keeps}
use Rattle.meaning.specs.Refusals.{Due}
use Rattle.meaning.specs.Sizes.{work_needs, cleared, over}
use Rattle.meaning.proofs.AreaLaws.{over_same}
use Rattle.meaning.proofs.Keeping.{keeps_answer}
use Rattle.moves.specs.Area.{Prepared as Begins}
use Rattle.moves.specs.Layout.{Sizes, mark, next, next_at}
use Rattle.moves.proofs.Clearing.{length_zeros}
use Rattle.moves.proofs.Trying.{holding_none}
use Rattle.search.specs.State.{Around, State}
use Rattle.search.proofs.Searching.{known_none}

-- an accepted list has the sizes that the moves ask for
pub accepted_sizes : {n : ℕ} {ws : List ℕ} {area needs : ℕ} {W : List ℕ} → Accepted n ws area needs (length W) → Sizes n ws W
accepted_sizes a = record { few = a.choices; short = a.few; even = omega (arith, a.even); codes = a.range; room = a.space }

-- the moves have left alone what lies past the lists
pub beside : {n : ℕ} {W W' : List ℕ} → Around n W W' → Side n W W'
beside a = record { long = a.long; nexts = a.nexts }

-- the lists are built, the set is empty, and what is noted is true; what lies past the lists is as it was
pub record Prepared (n : ℕ) (ws W W' : List ℕ) : Type 0 where
  pub state : State n ws W' 0
  pub unmarked : (x : ℕ) → x < 2 * n → mark n W' x ≡ 0
  pub long : length W' ≡ length W
  pub past : (e : ℕ) → length ws ≤ e → next n W' e ≡ next n W e

-- so `prepare` leaves the area
pub prepare_leaves : {n : ℕ} {ws W W' : List ℕ} → Begins n ws W W' → Prepared n ws W W'
prepare_leaves {n} {ws} {W} {W'} p =
    record {
      state = record { ready = p.fresh.ready; holding = holding_none n ws W' p.fresh.unmarked; known = known_none p.fresh.unnoted };
      unmarked = p.fresh.unmarked;
      long = p.long;
      past = p.past;
    }

-- what is cleared in the end is cleared of the area as it was lent
pub cleared_last : (n : ℕ) (ws W W₁ W₂ : List ℕ) → Prepared n ws W W₁ → Side n W₁ W₂ → cleared n ws W₂ ≡ cleared n ws W
cleared_last n ws W W₁ W₂ p a =
    let zeros : length (replicate {A = ℕ} (work_needs n ws) 0) ≡ work_needs n ws = length_zeros (work_needs n ws) in
    over_same (replicate (work_needs n ws) 0) W W₂ (omega (arith, p.state.ready.sizes.room, p.long)) (a.long ∙ p.long) same
  where
    same : (i : ℕ) → length (replicate {A = ℕ} (work_needs n ws) 0) ≤ i → get_or W₂ i 0 ≡ get_or W i 0
    same i l =
        let even = p.state.ready.sizes.even in
        let e : next_at n (i - next_at n 0) ≡ i = omega (arith, length_zeros (work_needs n ws)) in
        let q : next n W₂ (i - next_at n 0) ≡ next n W (i - next_at n 0) =
        a.nexts (i - next_at n 0) ∙ p.past (i - next_at n 0) (omega (arith, even, length_zeros (work_needs n ws))) in
        rw e at q

-- an answer to a call for which nothing is due: its items are right and written, and the work area, once prepared, is cleared
module _ {A : Type 0} (says : A → List ℕ → Type 0) (due : Due) (n : ℕ) (ws area W W₁ : List ℕ) (fine : Due.none ≡ due) (p : Prepared n ws W W₁) where
  pub answers_whole : (a : A) (items W₂ W₃ area' : List ℕ) → says a items → Side n W₁ W₂ → area' ≡ over items area → W₃ ≡ cleared n ws W₂ → Keeps says due n ws area W (Ok a) area' W₃
  answers_whole a items W₂ W₃ area' right side put clear =
      keeps_answer says due n ws area W a area' W₃ fine (record { items = items; right = right; written = put; zeros = clear ∙ cleared_last n ws W W₁ W₂ p side })
