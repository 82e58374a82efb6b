-- The rounds of trials: each note that is made is true, and none is lost.
use mathlib.Core.Path.{◌≡◌, refl}
use mathlib.Core.Logic.{◌⊎◌, inl, inr, ⊎_elim}
use mathlib.Core.List.{List}
use Prim.Native.Nat.{ℕ, ◌+◌, ◌*◌, ◌<◌}
use native.Mathlib.Omega.{arith}
use lib.ListN.{set}
use borrow.Author.Count.{below_more}
use Rattle.rounds.specs.Rounds.{FoundOut, More, Considered, Swept}
use Rattle.search.specs.Search.{Taught}
use Rattle.search.specs.State.{State}
use Rattle.meaning.specs.Chains.{Reach}
use Rattle.meaning.specs.Codes.{opposite}
use Rattle.moves.specs.Layout.{spare_at, mark, Apart}
use Rattle.moves.specs.Trials.{Grew, GaveUp}
use Rattle.moves.specs.Walks.{Held, Holding, Undone}
use Rattle.search.proofs.Noting.{noted_around, noted_state, noted_keeps, noted_here}
use Rattle.search.proofs.Searching.{around_refl, around_trans, apart_around, known_apart, undone_all}
use Rattle.meaning.proofs.ChainLaws.{reach_refl}
use Rattle.meaning.proofs.CodeLaws.{opposite_below}
use Rattle.meaning.proofs.Sets.{closed_reach}
use Rattle.moves.proofs.Places.{ready_apart}
use Rattle.moves.proofs.Trying.{unmarked, holding_none}

-- nothing changes, and one change after another

pub more_none : {n : ℕ} {ws W : List ℕ} {t : ℕ} → State n ws W t → More n ws W W t
more_none {n} {ws} {W} s = record { around = around_refl n W; state = s; keeps = λ x l h. h }

pub more_on : {n : ℕ} {ws W W' W'' : List ℕ} {t t' : ℕ} → More n ws W W' t → More n ws W' W'' t' → More n ws W W'' t'
more_on p q = record { around = around_trans p.around q.around; state = q.state; keeps = λ x l h. q.keeps x l (p.keeps x l h) }

-- a note of code c is made: 1 where it does not lead to its opposite, 2 where it does
pub more_noted : (n : ℕ) (ws W : List ℕ) (t c f : ℕ) → c < 2 * n → State n ws W t → ((f ≡ 1) × (Reach ws c (opposite c) → ⊥)) ⊎ ((f ≡ 2) × Reach ws c (opposite c)) →
    Considered n ws c W (set W (spare_at n c) f) t
more_noted n ws W t c f lc state is =
    record {
      more = record { around = noted_around n ws W t c f lc state is; state = noted_state n ws W t c f lc state is; keeps = noted_keeps n ws W t c f lc state is };
      here = λ z. rw (noted_here n ws W t c f lc state is) (⊎_elim (λ i. omega (arith, i.0)) (λ i. omega (arith, i.0)) is);
    }

-- what changes only marks and trail
pub more_apart : {n : ℕ} {ws W W' : List ℕ} {t t' : ℕ} → State n ws W t → Apart n W W' → Holding n ws W' t' → More n ws W W' t'
more_apart s apart holding =
    record {
      around = apart_around apart;
      state = record { ready = ready_apart s.ready apart; holding = holding; known = known_apart s.known apart };
      keeps = λ x l h. rw (apart.spares x l) h;
    }

-- a trial of c is kept, and that is noted
pub tried_possible : {n : ℕ} {ws : List ℕ} {c tail t : ℕ} {W W₁ : List ℕ} → State n ws W tail → c < 2 * n → Grew n ws c tail W W₁ t → Considered n ws c W (set W₁ (spare_at n c) 1) t
tried_possible {n} {ws} {c} {tail} {t} {W} {W₁} f l g =
    let m = more_apart f g.apart g.holding in
    let s = more_noted n ws W₁ t c 1 l m.state (inl (refl, g.free)) in
    record { more = more_on m s.more; here = λ z. s.here (unmarked (opposite_below n c l) (λ h. g.holding.consistent c (g.holds c (inr (reach_refl ws c))) h)) }

-- or fails, and that is noted
pub tried_failing : {n : ℕ} {ws : List ℕ} {c tail b : ℕ} {W W₁ W₂ : List ℕ} → State n ws W tail → GaveUp n ws c tail W W₁ b → Taught n ws c tail W₁ W₂ → Considered n ws c W W₂ tail
tried_failing {n} {ws} {c} {tail} {b} {W} {W₁} {W₂} f g t =
    let k : More n ws W₁ W₂ tail = record { around = t.around; state = t.state; keeps = λ x l h. ⊎_elim (λ e. omega arith) (λ e. omega arith) (t.spares x l) } in
    record { more = more_on (more_apart f g.apart g.holding) k; here = λ z. omega (arith, t.here) }

-- a code of the set is possible
pub in_set : {n : ℕ} {ws : List ℕ} {c t : ℕ} {W : List ℕ} → State n ws W t → c < 2 * n → 0 < mark n W c → Reach ws c (opposite c) → ⊥
in_set {n} {ws} {c} {t} {W} f l h p =
    let held : Held n W c = record { is_code = l; is_marked = h } in
    f.holding.consistent c held (closed_reach ws (Held n W) f.holding.closed c (opposite c) p held)

-- a trail of no places holds no marks
pub empty_set : {n : ℕ} {ws W : List ℕ} → State n ws W 0 → (x : ℕ) → x < 2 * n → mark n W x ≡ 0
empty_set {n} {ws} {W} f x l = unmarked {W = W} l (λ h. omega (arith, (f.holding.listed.queued x l h.is_marked).1))

-- a round is taken back
pub round_undone : {n : ℕ} {ws W W' : List ℕ} {t : ℕ} → State n ws W t → Undone n 0 W W' → More n ws W W' 0
round_undone {n} {ws} {W} {W'} s u = more_apart s u.apart (holding_none n ws W' (undone_all u))

-- the loop over all codes
pub swept_none : {n : ℕ} {ws W : List ℕ} → State n ws W 0 → Swept n ws 0 W W
swept_none s = record { more = more_none s; all = λ x h. absurd (omega arith) }

-- what was noted before the loop stays
pub swept_after : {n : ℕ} {ws : List ℕ} {k : ℕ} {W W' W'' : List ℕ} → More n ws W W' 0 → Swept n ws k W' W'' → Swept n ws k W W''
swept_after m s = record { more = more_on m s.more; all = s.all }

-- a turn of the loop
pub swept_more : {n : ℕ} {ws : List ℕ} {k : ℕ} {W W' W'' : List ℕ} → k < 2 * n → Swept n ws k W W' → FoundOut n ws k W' W'' → Swept n ws (k + 1) W W''
swept_more h s a =
    record { more = more_on s.more a.more; all = below_more _ _ (λ x l. a.more.keeps x (omega arith) (s.all x l)) a.here }
