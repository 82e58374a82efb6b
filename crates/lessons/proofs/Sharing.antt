-- Walks that change only spare words and are taken back, and what two of them teach.
use mathlib.Core.Path.{◌≡◌, ◌∙◌, subst}
use mathlib.Core.Logic.{◌⊎◌, inl, inr, ⊎_elim}
use mathlib.Core.List.{List}
use Prim.Native.Nat.{ℕ, ◌*◌, ◌%◌, ◌≤◌, ◌<◌}
use native.Mathlib.Omega.{arith}
use Rattle.meaning.specs.Chains.{Reach}
use Rattle.meaning.specs.Codes.{opposite}
use Rattle.moves.specs.Layout.{mark, trail, spare, Spared}
use Rattle.lessons.specs.Learning.{Notes, Still, Learnt, OnTrail, Shaded, Noted, Plain, Shadowed, Shared}
use Rattle.moves.specs.Walks.{OntoTrail, Holding, SpreadFrom, Undone}
use Rattle.meaning.proofs.ChainLaws.{reach_trans, reach_turn}
use Rattle.meaning.proofs.CodeLaws.{opposite_below}
use Rattle.moves.proofs.Trails.{trail_few}
use Rattle.moves.proofs.Trying.{listed_spared, holding_same, undone_old, undone_same}

-- a set that is as it was is so after a change of spare words
pub still_spared : {n tail : ℕ} {ws W W₁ W₂ : List ℕ} → Still n ws tail W W₁ → Spared n W₁ W₂ → Still n ws tail W W₂
still_spared {n} {tail} {ws} {W} {W₁} {W₂} p s =
    record {
      long = s.long ∙ p.long;
      heads = λ c l. s.heads c l ∙ p.heads c l;
      nexts = λ e. s.nexts e ∙ p.nexts e;
      marks = λ x l. s.marks x l ∙ p.marks x l;
      old = λ i l. s.trails i (omega (arith, trail_few p.holding.listed)) ∙ p.old i l;
      holding = holding_same s.marks (listed_spared s p.holding.listed) p.holding;
    }

-- and after another move that leaves it so
pub still_trans : {n tail : ℕ} {ws W W₁ W₂ : List ℕ} → Still n ws tail W W₁ → Still n ws tail W₁ W₂ → Still n ws tail W W₂
still_trans p q =
    record {
      long = q.long ∙ p.long;
      heads = λ c l. q.heads c l ∙ p.heads c l;
      nexts = λ e. q.nexts e ∙ p.nexts e;
      marks = λ x l. q.marks x l ∙ p.marks x l;
      old = λ i l. q.old i l ∙ p.old i l;
      holding = q.holding;
    }

module _ {n : ℕ} {ws : List ℕ} {src tail : ℕ} {W W₁ : List ℕ} {t : ℕ} (h : Holding n ws W tail) (sp : SpreadFrom n ws src tail W W₁ t) where
  -- what is new on the trail, src reaches
  on_reach : {x : ℕ} → OnTrail n tail t W₁ x → Reach ws src x
  on_reach {x} p =
      let i = p.place in
      let ins = sp.listed.inside i p.high in
      subst (Reach ws src) p.is
      (⊎_elim
      (λ (o : 0 < mark n W (trail n W₁ i)).
      let w = h.listed.queued (trail n W₁ i) ins.0 o in
      absurd (sp.listed.once w.0 i (omega (arith, w.1, p.low)) p.high (sp.old w.0 w.1 ∙ w.2)))
      (λ f. (f.0, f.1))
      (sp.chain (trail n W₁ i) ins.0 ins.1))

  module _ {W₂ W₃ : List ℕ} (s : Spared n W₁ W₂) (u : Undone n tail W₂ W₃) where
    -- taken back, the walk has changed only spare words
    walk_back : Still n ws tail W W₃
    walk_back =
        let onto : OntoTrail n W tail W₂ t =
        record {
          listed = listed_spared s sp.listed;
          grows = sp.grows;
          old = λ i l. s.trails i (omega (arith, trail_few h.listed)) ∙ sp.old i l;
          kept = λ x l p. s.marks x l ∙ sp.kept x l p;
        } in
        let marks : (x : ℕ) → x < 2 * n → mark n W₃ x ≡ mark n W x = undone_same W h.listed onto u in
        record {
          long = u.apart.long ∙ s.long ∙ sp.apart.long;
          heads = λ c l. u.apart.heads c l ∙ s.heads c l ∙ sp.apart.heads c l;
          nexts = λ e. u.apart.nexts e ∙ s.nexts e ∙ sp.apart.nexts e;
          marks = marks;
          old = undone_old W h.listed onto u;
          holding = holding_same marks u.listed h;
        }

  -- the first walk: what is shaded, src reaches
  pub shadow_done : {W₂ W₃ : List ℕ} → Notes n ws W → Shaded n tail t W₁ W₂ → Undone n tail W₂ W₃ → Shadowed n ws src tail W W₃
  shadow_done {W₂} {W₃} k s u =
      record {
        still = walk_back s.spared u;
        notes = λ x l. omega (arith, u.apart.spares x l, s.notes x l, sp.apart.spares x l, k.small x l);
        shades = λ x l p. ⊎_elim
            (λ (q : 4 ≤ spare n W₁ x). absurd (omega (arith, sp.apart.spares x l, k.small x l)))
            (λ (q : OnTrail n tail t W₁ x). on_reach q)
            (s.shades x l (omega (arith, u.apart.spares x l)));
      }

  -- the second walk: a new note is of a code whose opposite is shaded and reached
  pub share_done : {W₂ W₃ : List ℕ} → Noted n tail t W₁ W₂ → Undone n tail W₂ W₃ → Shared n ws src tail W W₃
  share_done {W₂} {W₃} s u =
      record {
        still = walk_back s.spared u;
        notes = λ x l. ⊎_elim
            (λ (q : spare n W₂ x % 4 ≡ spare n W₁ x % 4). inl (omega (arith, u.apart.spares x l, sp.apart.spares x l)))
            (λ (q : (spare n W₂ x % 4 ≡ 2) × (4 ≤ spare n W₁ (opposite x)) × OnTrail n tail t W₁ (opposite x)).
            inr (omega (arith, u.apart.spares x l), omega (arith, sp.apart.spares (opposite x) (opposite_below n x l)), on_reach q.2))
            (s.notes x l);
      }

-- what b and its opposite both reach: its opposite leads to it
pub both_reach : (ws : List ℕ) (b x : ℕ) → Reach ws b (opposite x) → Reach ws (opposite b) (opposite x) → Reach ws x (opposite x)
both_reach ws b x p q = reach_trans ws x (opposite b) (opposite x) (reach_turn ws b x p) q

module _ {n : ℕ} {ws : List ℕ} {b tail : ℕ} {W W₁ W₂ W₃ : List ℕ} (k : Notes n ws W) (p : Shadowed n ws b tail W W₁)
    (q : Shared n ws (opposite b) tail W₁ W₂) (r : Plain n (2 * n) W₂ W₃) where
  -- a note stays, or is 2 and true
  note_now : (x : ℕ) → x < 2 * n → (spare n W₃ x ≡ spare n W x) ⊎ ((spare n W₃ x ≡ 2) × Reach ws x (opposite x))
  note_now x l =
      ⊎_elim
      (λ (e : spare n W₂ x % 4 ≡ spare n W₁ x % 4). inl (omega (arith, r.done x l, p.notes x l)))
      (λ (e : (spare n W₂ x % 4 ≡ 2) × (4 ≤ spare n W₁ (opposite x)) × Reach ws (opposite b) (opposite x)).
      inr (omega (arith, r.done x l), both_reach ws b x (p.shades (opposite x) (opposite_below n x l) e.1) e.2))
      (q.notes x l)

  -- both walks, and the shades taken away
  pub learn_done : Learnt n ws tail W W₃
  learn_done =
      record {
        still = still_spared (still_trans p.still q.still) r.spared;
        notes =
            record {
              small = λ x l. omega (arith, r.done x l);
              turns = λ x l e. ⊎_elim (λ (z : spare n W₃ x ≡ spare n W x). k.turns x l (omega arith)) (λ z. z.1) (note_now x l);
            };
        spares = λ x l. ⊎_elim (λ (z : spare n W₃ x ≡ spare n W x). inl z) (λ z. inr z.0) (note_now x l);
      }
