-- What is read off from the leads: which choice is the lowest that clashes, and what is tied to each; and the state before the walk.
use Prim.Native.Nat.{ℕ, ◌+◌, ◌*◌, ◌≤◌, ◌<◌}
use mathlib.Core.Path.{◌≡◌, refl, sym, ap, ◌∙◌}
use mathlib.Core.Logic.{⊎_elim, ◌≢◌}
use mathlib.Core.Bool.{true, false}
use mathlib.Core.List.{List, ◌++◌}
use native.Mathlib.Omega.{arith}
use native.Mathlib.Numerals.{add-one}
use lib.ListN.{length, take, drop}
use Rattle.std.proofs.lemmas.List.{length-take-le}
use Rattle.components.specs.Leads.{lead_of, Leads, SomeClash, TiesPut}
use Rattle.components.specs.Walk.{WalkState}
use Rattle.meaning.specs.Chains.{Clash, LowestClash, Tied, Tie}
use Rattle.meaning.specs.Codes.{late, early, opposite}
use Rattle.meaning.specs.Rotas.{Possible, First}
use Rattle.meaning.specs.Rules.{InRange}
use Rattle.moves.specs.Layout.{mark}
use Rattle.moves.specs.Lists.{Ready}
use Rattle.components.proofs.Ways.{tied_flip, tied_join}
use Rattle.meaning.proofs.AreaLaws.{Written}
use Rattle.meaning.proofs.CodeLaws.{opposite_below}
use Rattle.meaning.proofs.General.{below_suc}
use Rattle.meaning.proofs.TwoSat.{possible_or_clash}

-- before the walk no code is met, and each cursor is the head of its list
pub begin : {n : ℕ} {ws W : List ℕ} → Ready n ws W → ((x : ℕ) → x < 2 * n → mark n W x ≡ 0) → WalkState n ws W 0 0
begin {n} {ws} {W} rd z =
    record {
      stacked = λ p l. absurd (omega arith);
      placed = λ x l m. absurd (omega (arith, z x l));
      one = λ p q l. absurd (omega arith);
      count = omega arith;
      climb = λ j l. absurd (omega arith);
      rise = λ i j l m. absurd (omega arith);
      floor = ((λ e. refl), (λ l. absurd (omega arith)));
      up = λ p q l m. absurd (omega arith);
      back = λ j p i. absurd (omega (arith, i.on));
      low = λ p l. absurd (omega arith);
      lows = λ j p i. absurd (omega (arith, i.on));
      spent = λ j p i. absurd (omega (arith, i.on));
      fresh = λ x l q. rd.lists.heads (opposite x) (opposite_below n x l);
      cur = λ p l. absurd (omega arith);
      seen = λ p e l. absurd (omega arith);
      whole = λ x y l m. absurd (omega (arith, z x l));
      lead = λ x l m. absurd (omega (arith, z x l));
    }

-- two codes have one mark exactly if they are tied
module _ {n : ℕ} {ws W : List ℕ} (h : Leads n ws W) (x y : ℕ) (lx : x < 2 * n) (ly : y < 2 * n) where
  -- tied, so one mark
  pub tied_mark : Tied ws x y → mark n W x ≡ mark n W y
  tied_mark p =
      let a = h.lead x lx in
      let b = h.lead y ly in
      omega (
        arith,
        a.smallest (lead_of n W y) (tied_join p b.tied),
        b.smallest (lead_of n W x) (tied_join (tied_flip p) a.tied),
        h.settled x lx,
        h.settled y ly,
      )

  -- one mark, so tied
  pub mark_tied : mark n W x ≡ mark n W y → Tied ws x y
  mark_tied e =
      let b : Tied ws y (lead_of n W x) = rw e (h.lead y ly).tied in
      tied_join (h.lead x lx).tied (tied_flip b)

-- the invariant of the loop of `some_clash`: the choices before v have codes with two marks
pub record TwoMarks (n : ℕ) (W : List ℕ) (v : ℕ) : Type 0 where
  pub within : v ≤ n
  pub differ : (u : ℕ) → u < v → mark n W (late u) ≢ mark n W (early u)

-- it holds before the first choice
pub marks_none : (n : ℕ) (W : List ℕ) → TwoMarks n W 0
marks_none n W = record { within = omega arith; differ = λ u l. absurd (omega arith) }

-- and with a choice more whose codes have two marks
pub marks_more : {n v : ℕ} {W : List ℕ} → v < n → TwoMarks n W v → mark n W (late v) ≢ mark n W (early v) → TwoMarks n W (v + 1)
marks_more {n} {v} {W} vn all now_too =
    record { within = omega arith; differ = rw add-one (below_suc {P = λ u. mark n W (late u) ≢ mark n W (early u)} v all.differ now_too) }

-- before the first choice whose codes have one mark, no choice clashes
free_before : {n v : ℕ} {W : List ℕ} → TwoMarks n W v → (ws : List ℕ) → Leads n ws W → (u : ℕ) → u < v → Clash ws u → ⊥
free_before all ws h u l k = all.differ u l (tied_mark h (late u) (early u) (omega (arith, all.within)) (omega (arith, all.within)) k)

-- where they have one, the choice clashes
pub clash_found : {n v : ℕ} {W : List ℕ} → v < n → mark n W (late v) ≡ mark n W (early v) → (ws : List ℕ) → Leads n ws W → SomeClash n ws true
clash_found {n} {v} {W} vn e ws h = (v, mark_tied h (late v) (early v) (omega arith) (omega arith) e)

-- at the end no choice clashes
pub clash_none : {n v : ℕ} {W : List ℕ} → n ≤ v → TwoMarks n W v → (ws : List ℕ) → Leads n ws W → SomeClash n ws false
clash_none nv all ws h = λ u l. free_before all ws h u (omega arith)

-- where no choice clashes the list is possible
pub possible_of : {n : ℕ} {ws : List ℕ} → InRange n ws → SomeClash n ws false → Possible n ws
possible_of {n} {ws} codes free =
    ⊎_elim
    (λ (w : (xs : List ℕ) × First n ws xs). (w.0, w.1.allowed))
    (λ (w : (v : ℕ) × (v < n) × LowestClash ws v). absurd (free w.0 w.1 w.2.clash))
    (possible_or_clash n ws codes)

-- what `put_ties` writes for choice u
abbrev pub tie_of : ℕ → List ℕ → ℕ → ℕ
tie_of n W u = lead_of n W (late u)

-- once they are written for all choices, they are the ties
pub ties_put : {n v : ℕ} {W A B : List ℕ} → n ≤ v → n ≤ length A → Written v (tie_of n W) (take n A) B → TiesPut n W A (B ++ drop n A)
ties_put {n} {v} {W} {A} {B} nv room w =
    record {
      items = B;
      written = ap (λ (m : ℕ). B ++ drop m A) (sym long);
      long = long;
      ties = λ ws h.
          record { long = long; each = λ u l. rw (w.front u (omega arith)) (tie ws h u l) };
    }
  where
    long : length B ≡ n
    long = w.long ∙ length-take-le n A room

    tie : (ws : List ℕ) → Leads n ws W → (u : ℕ) → u < n → Tie ws u (tie_of n W u)
    tie ws h u l = let a = h.lead (late u) (omega arith) in record { tied = a.tied; smallest = a.smallest }
