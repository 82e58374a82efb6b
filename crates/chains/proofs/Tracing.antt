-- The turns of `trace`. What is written is a list of rules that any nearing rest completes to a nearing chain.
use mathlib.Core.Path.{◌≡◌, refl, sym, ap, ◌∙◌, subst}
use mathlib.Core.Logic.{⊎_elim, ◌≢◌}
use mathlib.Core.List.{List, [], ◌∷◌, ◌++◌, append_assoc, append-nil}
use Prim.Native.Nat.{ℕ, ◌+◌, ◌-◌, ◌*◌, ◌≤◌, ◌<◌}
use native.Mathlib.Omega.{arith}
use lib.ListN.{length, set, take, drop, length-append}
use Rattle.chains.specs.Traces.{Away, LowestTo, Traced}
use Rattle.meaning.specs.Chains.{Step}
use Rattle.meaning.specs.Codes.{opposite}
use Rattle.moves.specs.Layout.{mark, Sizes}
use Rattle.chains.proofs.Distances.{dist, distance, arrived}
use Rattle.meaning.specs.Sizes.{over}
use Rattle.meaning.proofs.AreaLaws.{over_length, over_at_one, over_at_append}
use Rattle.std.proofs.lemmas.List.{length-take-le, drop_all}
use Rattle.meaning.proofs.General.{same?}
use Rattle.meaning.proofs.ShortestLaws.{step_unique, Nearing, nearing_shortest}
use Rattle.moves.proofs.Steps.{step_to}

-- nearing the opposite of c
abbrev pub Near : ℕ → List ℕ → List ℕ → ℕ → ℕ → List ℕ → Type 0
Near n ws W c a ks = Nearing ws (opposite c) (dist n W) a ks

-- the mark of the opposite of c is 1 more than the length of the chain from c
pub trace_length : {n : ℕ} {ws : List ℕ} {c m len : ℕ} {W : List ℕ} → Away n ws c W → c < 2 * n → 0 < mark n W (opposite c) → m ≡ mark n W (opposite c) → len ≡ m - 1
    → (mark n W (opposite c) ≡ len + 1) × (len ≤ 2 * n)
trace_length aw lc p q e = (omega arith, omega (arith, aw.small _ lc))

-- the invariant of the loop of `trace`: of `len` rules from c, i are written, and they lead to a
pub record Tracing (n : ℕ) (ws W : List ℕ) (c len : ℕ) (area₀ area : List ℕ) (a i : ℕ) : Type 0 where
  pub low : i ≤ len
  pub code : a < 2 * n
  pub left : mark n W (opposite a) ≡ len - i + 1
  pub chain : List ℕ
  pub counted : length chain ≡ i
  pub written : area ≡ over chain area₀
  pub completed : (rest : List ℕ) → Near n ws W c a rest → Near n ws W c c (chain ++ rest)

-- at its start nothing is written
pub trace_start : {n : ℕ} (ws W : List ℕ) {c len : ℕ} (area : List ℕ) → c < 2 * n → mark n W (opposite c) ≡ len + 1 → Tracing n ws W c len area area c 0
trace_start ws W area lc q =
    record {
      low = omega arith;
      code = lc;
      left = omega arith;
      chain = [];
      counted = refl;
      written = refl;
      completed = λ rest h. h;
    }

-- the area keeps its length
pub trace_long : {n : ℕ} {ws W : List ℕ} {c len : ℕ} {area₀ area : List ℕ} {a i : ℕ} →
    Tracing n ws W c len area₀ area a i → len ≤ length area₀ → length area ≡ length area₀
trace_long {area₀ = area₀} t fits = ap length t.written ∙ over_length t.chain area₀ (omega (arith, t.counted, t.low))

module _ {n : ℕ} {ws : List ℕ} {c : ℕ} {W : List ℕ} (s : Sizes n ws W) (lc : c < 2 * n) (aw : Away n ws c W) where
  -- the lowest rule that leads nearer, and a nearing rest
  onward : {a d k b : ℕ} → mark n W (opposite a) ≡ d + 1 → 0 < d → d ≤ 2 * n → LowestTo n ws W a d k → Step ws a k b → (rest : List ℕ) →
      Near n ws W c b rest → Near n ws W c a (k ∷ rest)
  onward {a} {d} {k} {b} q p small low st rest h =
      let same : low.next ≡ b = step_unique ws a k low.next b low.step st in
      let near : mark n W (opposite b) ≡ d = subst (λ (x : ℕ). mark n W (opposite x) ≡ d) same low.near in (
        b,
        st,
        omega arith,
        (λ j e l sj. ⊎_elim
            (λ (y : mark n W (opposite e) ≡ d). absurd (low.lowest j e l sj y))
            (λ (y : mark n W (opposite e) ≢ d). omega (arith, s.few, (distance s lc aw).slow a j e sj))
            (same? (mark n W (opposite e)) d)),
        h,
      )

  -- a turn writes the lowest rule that leads nearer
  pub trace_turn : {len : ℕ} {area₀ area : List ℕ} {a i d k b : ℕ} → Tracing n ws W c len area₀ area a i → i < len → len ≤ 2 * n →
      len ≤ length area₀ → d ≡ len - i → LowestTo n ws W a d k → Step ws a k b → Tracing n ws W c len area₀ (set area i k) b (i + 1)
  trace_turn {len} {area₀} {area} {a} {i} {d} {k} {b} t l small fits qd low st =
      let same : low.next ≡ b = step_unique ws a k low.next b low.step st in
      record {
        low = omega arith;
        code = step_to s a k b st;
        left = omega (arith, subst (λ (x : ℕ). mark n W (opposite x) ≡ d) same low.near);
        chain = t.chain ++ (k ∷ []);
        counted = length-append t.chain (k ∷ []) ∙ omega (arith, t.counted);
        written =
            over_at_one i k area (omega (arith, trace_long t fits))
            ∙ (let e : i ≡ 0 + length t.chain = omega (arith, t.counted) in rw (t.written, e) (over_at_append 0 t.chain (k ∷ []) area₀ (omega arith)));
        completed = λ rest h.
            subst (λ (x : List ℕ). Near n ws W c c x) (sym (append_assoc t.chain (k ∷ []) rest))
            (t.completed (k ∷ rest) (onward (omega (arith, t.left)) (omega arith) (omega arith) low st rest h));
      }

  -- at its end the chain is the one that is named
  pub trace_done : {len : ℕ} {area part : List ℕ} {a i : ℕ} → len ≤ length area → Tracing n ws W c len (take len area) part a i → len ≤ i →
      Traced ws c area (part ++ drop len area) len
  trace_done {len} {area} {part} {a} {i} room t z =
      let end : a ≡ opposite c = arrived s lc aw t.code (omega (arith, t.left, t.low)) in
      let long : length t.chain ≡ len = omega (arith, t.counted, t.low) in
      let rest : drop (length t.chain) (take len area) ≡ [] = drop_all (length t.chain) (take len area) (omega (arith, long, length-take-le len area room)) in
      let whole : part ≡ t.chain = t.written ∙ ap (λ (l : List ℕ). t.chain ++ l) rest ∙ append-nil t.chain in
      record {
        chain = t.chain;
        shortest =
            nearing_shortest ws (opposite c) (dist n W) (distance s lc aw) c t.chain
            (subst (λ (x : List ℕ). Near n ws W c c x) (append-nil t.chain) (t.completed [] end));
        counted = sym long;
        written = rw (whole, long) refl;
      }
