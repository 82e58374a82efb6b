-- What a loop over the items of a slice's front has written.
use mathlib.Core.Path.{◌≡◌, sym, ap, ◌∙◌}
use mathlib.Core.List.{List, ◌++◌}
use Prim.Native.Nat.{ℕ, ◌≤◌}
use native.Mathlib.Omega.{arith}
use lib.ListN.{length, take, drop}
use lib.Seq.{length-take-le}
use Rattle.meaning.specs.Sizes.{over}
use Rattle.meaning.proofs.AreaLaws.{Written, over_front, over_rest, over_length, written_over}
use Rattle.meaning.proofs.General.{build}

-- the front is written, and what stands past it stays
pub written_front : (n : ℕ) (f : ℕ → ℕ) (area items : List ℕ) → n ≤ length area → Written n f (take n area) items → items ++ drop n area ≡ over (build n f) area
written_front n f area items h w =
    let q : length items ≡ n = w.long ∙ length-take-le n area h in
    let e : items ++ drop n area ≡ over items area = ap (λ (k : ℕ). items ++ drop k area) (sym q) in
    let all : Written n f area (over items area) = record {
      long = over_length items area (omega arith);
      front = λ i l. over_front items area i (omega arith) ∙ w.front i l;
      rest = λ i l. over_rest items area i (omega arith);
    } in
    e ∙ written_over n f area (over items area) h all
