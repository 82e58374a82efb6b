-- The search over the whole area.
use mathlib.Core.Path.{◌≡◌, ◌∙◌}
use Prim.Native.Nat.{ℕ, ◌+◌, ◌*◌, ◌<◌}
use native.Mathlib.Omega.{arith}
use Rattle.std.specs.Prelude.{Ok, Err}
use Rattle.lessons.specs.Learning.{Learnt, Learns}
use Rattle.meaning.specs.Chains.{Reach}
use Rattle.meaning.specs.Codes.{late, early, opposite}
use Rattle.meaning.proofs.CodeLaws.{opposite_late, opposite_early}
use Rattle.meaning.specs.declared.codes.Choice.{Choice}
use Rattle.moves.specs.declared.attempt.Failure.{Failure}
use Rattle.moves.specs.Trials.{Tries}
use Rattle.moves.specs.Area.{Area, Same, Writes}
use Rattle.moves.proofs.Moving.{same_refl, same_trans}
use Rattle.search.specs.State.{Open, Stands}
use Rattle.search.specs.Search.{Taught, Teaches, Settles, SettleSays, Settled, Searches}
use Rattle.search.proofs.Searching.{around_trans, apart_around, state_gave_up, taught_more, settles_after, settles_taught, settles_by_early, settles_by_late, settles_none, settles_on, halts}
use Rattle.search.proofs.Noting.{taught_noted}

-- the invariant of the loop of `search`: the choices from v to w are settled
pub record Going (a : Area) (v : ℕ) (b : Area) (w : ℕ) : Type 0 where
  pub same : Same a b
  pub settles : Settles a.n a.rules v w a.words b.words b.tail

-- at its start
pub going_start : {a : Area} {v : ℕ} → Stands a → Going a v a v
going_start s = record { same = same_refl (record { ready = s.ready; listed = s.holding.listed }); settles = settles_none s }

-- a turn settles one more
pub going_turn : {a : Area} {v : ℕ} {b : Area} {w : ℕ} {b' : Area} {u : Unit {0}} → Going a v b w → Settled b w b' (Ok u) → Going a v b' (w + 1)
going_turn {a} {v} {b} {w} {b'} r d =
    let s : Settles a.n a.rules w (w + 1) b.words b'.words b'.tail = rw (r.same.choices, r.same.list) at d.says in
    record { same = same_trans r.same d.same; settles = settles_on r.settles s }

-- or stops
pub going_stop : {a : Area} {v : ℕ} {b : Area} {w : ℕ} {b' : Area} {u : Choice} → Going a v b w → w < a.n → Settled b w b' (Err u) → Searches a v b' (Err u)
going_stop {a} {v} {b} {w} {b'} {u} r l d =
    let s : SettleSays a.n a.rules w b.tail b.words b'.words b'.tail (Err u) = rw (r.same.choices, r.same.list) at d.says in
    record { same = same_trans r.same d.same; says = rw (s.0, s.1) (halts r.settles l s.2 s.3 s.4) }

-- at its end
pub going_done : {a : Area} {v : ℕ} {b : Area} {w : ℕ} {u : Unit {0}} → Going a v b w → w ≡ a.n → Searches a v b (Ok u)
going_done r e = record { same = r.same; says = rw e at r.settles }

-- what stands keeps standing
pub stands_on : {a : Area} {v : ℕ} {b : Area} {w : ℕ} → Going a v b w → Stands b
stands_on r = rw (r.same.choices, r.same.list) r.settles.state

-- a failure is noted
pub teaches_noted : {a : Area} {c : ℕ} {b : Area} → Stands a → (c < 2 * a.n) → Reach a.rules c (opposite c) → Writes a c 2 b → Teaches a c b
teaches_noted s l p d = record { same = d.same; stays = d.stays; taught = taught_noted s l p d.words }

-- and more is learnt
pub teaches_more : {a : Area} {c : ℕ} {b b' : Area} → c < 2 * a.n → Teaches a c b → Learns b b' → Teaches a c b'
teaches_more {a} {c} {b} {b'} l t d =
    let d' : Learnt a.n a.rules a.tail b.words b'.words = rw (t.same.choices, t.same.list, t.stays) at d.learnt in
    record { same = same_trans t.same d.same; stays = d.stays ∙ t.stays; taught = taught_more l t.taught d' }

-- after it the area stands
pub teaches_stands : {a : Area} {c : ℕ} {b : Area} → Teaches a c b → Stands b
teaches_stands t = rw (t.same.choices, t.same.list, t.stays) t.taught.state

-- after a trial that failed, too
pub failed_stands : {a : Area} {c : ℕ} {b : Area} {f : Failure} → Stands a → Tries a c b (Err f) → Stands b
failed_stands s t = rw (t.same.choices, t.same.list, t.tried.2) (state_gave_up s t.tried.0)

-- late is kept where early is known to fail
pub settled_late : {a : Area} {v : ℕ} {b : Area} {x y : Unit {0}} → Stands a → Open a v →
    Reach a.rules (early v) (late v) → Tries a (late v) b (Ok x) → Settled a v b (Ok y)
settled_late {a} {v} {b} s l p t = record { same = t.same; says = settles_by_late a.n a.rules a.words a.tail v s b.words b.tail l.1 l.2 p t.tried }

-- or fails too
pub settled_stuck : {a : Area} {v : ℕ} {b : Area} {f : Failure} {u : Choice} →
    Reach a.rules (early v) (late v) → Tries a (late v) b (Err f) → u.0 ≡ v → Settled a v b (Err u)
settled_stuck {a} {v} {b} {f} {u} p t e =
    let g = t.tried.0 in
    record { same = t.same; says = (e, t.tried.2, apart_around g.apart, g.holding.listed, (rw (opposite_late v) at g.turns, p)) }

-- early is kept
pub settled_early : {a : Area} {v : ℕ} {b : Area} {x y : Unit {0}} → Stands a → Open a v →
    Tries a (early v) b (Ok x) → Settled a v b (Ok y)
settled_early {a} {v} {b} s l t = record { same = t.same; says = settles_by_early a.n a.rules a.words a.tail v s b.words b.tail l.1 l.2 t.tried }

-- what late finds where early has failed
module _ {a : Area} {v : ℕ} {b : Area} {f : Failure} (l : Open a v) (t : Tries a (early v) b (Err f)) where
  -- both codes are still out
  pub failed_out : Open b v
  failed_out =
      let g = t.tried.0 in
      rw (t.same.choices) (l.0, g.same (late v) (omega (arith, l.0)) ∙ l.1, g.same (early v) (omega (arith, l.0)) ∙ l.2)

  -- and early leads to late
  pub failed_leads : Reach b.rules (early v) (late v)
  failed_leads =
      let g = t.tried.0 in
      rw (t.same.list) (rw (opposite_early v) at g.turns)

  -- what is learnt from it, where late is kept
  pub failed_teaches : {b' : Area} {x : Unit {0}} → Settled b v b' (Ok x) → (early v < 2 * b'.n) × Reach b'.rules (early v) (opposite (early v)) × (f.code.0 < 2 * b'.n)
  failed_teaches {b'} d =
      let g = t.tried.0 in
      rw (d.same.choices ∙ t.same.choices, d.same.list ∙ t.same.list) (omega (arith, l.0), g.turns, g.is_code)

  -- late is stuck, too
  pub settled_neither : {b' : Area} {u : Choice} → Settled b v b' (Err u) → Settled a v b' (Err u)
  settled_neither {b'} {u} d =
      let g = t.tried.0 in
      let s : SettleSays a.n a.rules v b.tail b.words b'.words b'.tail (Err u) = rw (t.same.choices, t.same.list) at d.says in
      record { same = same_trans t.same d.same; says = (s.0, s.1 ∙ t.tried.2, around_trans (apart_around g.apart) s.2, rw (t.tried.2) at s.3, s.4) }

  -- late is kept, and the failure of early is noted
  pub settled_over : {b' : Area} {x y : Unit {0}} {c : ℕ} {b'' : Area} → Settled b v b' (Ok x) → Teaches b' c b'' → Settled a v b'' (Ok y)
  settled_over {b'} {x} {y} {c} {b''} d h =
      let g = t.tried.0 in
      let s : Settles a.n a.rules v (v + 1) b.words b'.words b'.tail = rw (t.same.choices, t.same.list) at d.says in
      let k : Taught a.n a.rules c b'.tail b'.words b''.words = rw (d.same.choices ∙ t.same.choices, d.same.list ∙ t.same.list) at h.taught in
      record { same = same_trans t.same (same_trans d.same h.same); says = rw (h.stays) (settles_taught (settles_after (apart_around g.apart) g.same s) k) }

-- after late is kept, too
pub settled_stands : {a : Area} {v : ℕ} {b : Area} {x : Unit {0}} → Settled a v b (Ok x) → Stands b
settled_stands d = rw (d.same.choices, d.same.list) d.says.state
