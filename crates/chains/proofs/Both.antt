-- For a caller that writes two chains, one right behind the other: the room of the second, and what both give.
use mathlib.Core.Path.{◌≡◌, refl, ap, ◌∙◌}
use mathlib.Core.List.{List, ◌++◌}
use Prim.Native.Nat.{ℕ, ◌+◌, ◌*◌, ◌≤◌, ◌<◌}
use native.Mathlib.Omega.{arith}
use lib.ListN.{length, take, drop, length-drop}
use Rattle.chains.specs.Traces.{Traced}
use Rattle.meaning.specs.Chains.{LowestClash}
use Rattle.meaning.specs.Codes.{late, early, opposite}
use Rattle.meaning.specs.Promises.{BothChains}
use Rattle.meaning.specs.Sizes.{chains_need, over}
use Rattle.moves.specs.Lists.{Ready}
use Rattle.meaning.proofs.AreaLaws.{over_length, over_at_append}
use Rattle.meaning.proofs.ChainLength.{shortest_length}
use Rattle.meaning.proofs.CodeLaws.{opposite_late, opposite_early}

-- behind a first chain there is room for a second
pub second_room : {n : ℕ} {ws W : List ℕ} {c : ℕ} {area area' : List ℕ} {r : ℕ} → Ready n ws W → c < 2 * n → Traced ws c area area' r →
    chains_need n ≤ length area → (r ≤ length area') × (2 * n ≤ length (drop r area'))
second_room {n} {ws} {W} {c} {area} {area'} {r} rd lc t fits =
    let short : length t.chain < 2 * n = shortest_length ws (opposite c) n rd.sizes.codes c t.chain lc t.shortest in
    let long : length area' ≡ length area = ap length t.written ∙ over_length t.chain area (omega arith) in
    (omega (arith, t.counted, long), omega (arith, t.counted, long, length-drop r area'))

-- the chains of a choice that clashes, from late to early and then from early to late, are what Clash promises
pub both_chains : {ws : List ℕ} {v : ℕ} {area area₁ part : List ℕ} {i j : ℕ} → LowestClash ws v → Traced ws (late v) area area₁ i →
    Traced ws (early v) (drop i area₁) part j → (xs : List ℕ) × BothChains ws v i j xs × (take i area₁ ++ part ≡ over xs area)
both_chains {ws} {v} {area} {area₁} {part} {i} {j} low t b = (
  t.chain ++ b.chain,
  record {
    lowest = low;
    there = t.chain;
    back = b.chain;
    late_early = rw (opposite_late v) at t.shortest;
    early_late = rw (opposite_early v) at b.shortest;
    there_length = t.counted;
    back_length = b.counted;
    words = refl;
  },
  ap (λ (l : List ℕ). take i area₁ ++ l) b.written ∙ (let e : i ≡ 0 + length t.chain = omega (arith, t.counted) in rw (t.written, e) (over_at_append 0 t.chain b.chain area (omega arith))),
)
