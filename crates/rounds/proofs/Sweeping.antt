-- The rounds over the whole area.
use mathlib.Core.Path.{◌≡◌, refl, ◌∙◌}
use mathlib.Core.Logic.{inl}
use Prim.Native.Nat.{ℕ, ◌*◌, ◌<◌}
use lib.ListN.{set}
use Rattle.std.specs.Prelude.{Ok, Err}
use Rattle.meaning.proofs.CodeLaws.{opposite_below}
use Rattle.meaning.specs.Chains.{Reach}
use Rattle.meaning.specs.Codes.{opposite}
use Rattle.moves.proofs.Moving.{same_refl, same_trans}
use Rattle.moves.specs.Area.{Area, IsSound, Same, Writes}
use Rattle.moves.specs.declared.attempt.Failure.{Failure}
use Rattle.moves.specs.Layout.{spare_at, mark, spare}
use Rattle.moves.specs.Trials.{Tries}
use Rattle.rounds.specs.Rounds.{More, Considers, Goes, FindsOut, Swept}
use Rattle.search.specs.Search.{Taught, Teaches}
use Rattle.search.specs.State.{Stands}
use Rattle.rounds.proofs.Rounds.{more_none, more_on, more_noted, tried_possible, tried_failing, in_set, empty_set}

-- what stands is sound
pub stands_sound : (a : Area) → Stands a → IsSound a
stands_sound a s = record { ready = s.ready; listed = s.holding.listed }

-- a trial is kept, and that is noted
pub considers_kept : {a : Area} {c : ℕ} {b b' : Area} {x : Unit {0}} → Stands a → c < 2 * a.n → Tries a c b (Ok x) → Writes b c 1 b' → Considers a c b'
considers_kept {a} {c} {b} {b'} s l t d =
    let w : b'.words ≡ set b.words (spare_at a.n c) 1 = rw (t.same.choices) at d.words in
    record { same = same_trans t.same d.same; considered = rw (d.stays, w) (tried_possible s l t.tried) }

-- or fails, and that is taught
pub considers_failed : {a : Area} {c : ℕ} {b b' : Area} {f : Failure} → Stands a → Tries a c b (Err f) → Teaches b c b' → Considers a c b'
considers_failed {a} {c} {b} {b'} s t d =
    let w : Taught a.n a.rules c a.tail b.words b'.words = rw (t.same.choices, t.same.list, t.tried.2) at d.taught in
    record { same = same_trans t.same d.same; considered = rw (d.stays ∙ t.tried.2) (tried_failing s t.tried.0 w) }

-- what is to be taught of it
pub failed_teaches : {a : Area} {c : ℕ} {b : Area} {f : Failure} → c < 2 * a.n → Tries a c b (Err f) → (c < 2 * b.n) × Reach b.rules c (opposite c) × (f.code.0 < 2 * b.n)
failed_teaches l t = rw (t.same.choices, t.same.list) (l, t.tried.0.turns, t.tried.0.is_code)

-- something is noted already
pub considers_noted : {a : Area} {c : ℕ} → Stands a → (mark a.n a.words (opposite c) ≡ 0 → 0 < spare a.n a.words c) → Considers a c a
considers_noted {a} s h = record { same = same_refl (stands_sound a s); considered = record { more = more_none s; here = h } }

-- the code is in the set
pub considers_held : {a : Area} {c : ℕ} {b : Area} → Stands a → c < 2 * a.n → 0 < mark a.n a.words c → Writes a c 1 b → Considers a c b
considers_held {a} {c} {b} s l m d =
    record { same = d.same; considered = rw (d.stays, d.words) (more_noted a.n a.rules a.words a.tail c 1 l s (inl (refl, in_set s l m))) }

-- after it the area stands
pub considers_stands : {a : Area} {c : ℕ} {b : Area} → Considers a c b → Stands b
considers_stands d = rw (d.same.choices, d.same.list) d.considered.more.state

-- the invariant of the loop of `round`: more is noted, and no note is lost
pub record Rounding (a b : Area) : Type 0 where
  pub same : Same a b
  pub more : More a.n a.rules a.words b.words b.tail

-- something is noted of c already, and the set is empty
pub finds_noted : {a : Area} {c : ℕ} → Stands a → a.tail ≡ 0 → 0 < spare a.n a.words c → FindsOut a c a
finds_noted {a} s e h = record { same = same_refl (stands_sound a s); empty = e; found = record { more = rw e at (more_none s); here = h } }

-- or a round that starts with c notes something
pub finds_out : {a : Area} {c : ℕ} {b b' : Area} → Stands a → a.tail ≡ 0 → c < 2 * a.n → Considers a c b → Goes b b' → FindsOut a c b'
finds_out {a} {c} {b} {b'} s e l k g =
    let m : More a.n a.rules b.words b'.words 0 = rw (k.same.choices, k.same.list) at g.more in
    record {
      same = same_trans k.same g.same;
      empty = g.empty;
      found = record { more = more_on k.considered.more m; here = m.keeps c l (k.considered.here (empty_set (rw e at s) (opposite c) (opposite_below a.n c l))) };
    }

-- the invariant of the loop of `sweep`: something is noted of each code below k
pub record Sweeping (a b : Area) (k : ℕ) : Type 0 where
  pub same : Same a b
  pub empty : b.tail ≡ 0
  pub swept : Swept a.n a.rules k a.words b.words
