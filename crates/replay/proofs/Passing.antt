-- The replay, the retreat and the search after it, over the whole area.
use mathlib.Core.Path.{◌≡◌, refl, sym, ◌∙◌}
use mathlib.Core.Logic.{inl}
use mathlib.Core.Bool.{Bool, true, false}
use mathlib.Core.List.{List}
use Prim.Native.Nat.{ℕ, ◌+◌, ◌-◌, ◌*◌, ◌≤◌, ◌<◌}
use native.Mathlib.Omega.{arith}
use lib.ListN.{get_or, set}
use Rattle.std.specs.Prelude.{Ok, Err, Some, None}
use Rattle.meaning.specs.Codes.{late, opposite, code_of}
use Rattle.meaning.specs.Rotas.{Rota}
use Rattle.meaning.specs.declared.answers.Moved.{Moved}
use Rattle.meaning.specs.declared.codes.Choice.{Choice}
use Rattle.moves.specs.Area.{Area, Same, IsSound, Holds, Writes, Undoes}
use Rattle.moves.specs.Layout.{spare_at, mark}
use Rattle.moves.specs.Lists.{Ready}
use Rattle.moves.specs.Walks.{Listed, Undone}
use Rattle.moves.proofs.Counts.{count_none}
use Rattle.moves.proofs.Moving.{same_refl, same_trans}
use Rattle.search.specs.Search.{Searches, Settles, Halts}
use Rattle.search.specs.State as states
use Rattle.search.proofs.Searching.{around_refl, around_trans, undone_all}
use Rattle.replay.specs.Replay.{Past, Spans, NoneFrom, length_at, Raised, JoinSays, LiftSays, Forgot, Joins, Replays, Lifts, Retreats, Forgets, Finds}
use Rattle.replay.proofs.Replaying.{unchanged_none, join_has, Replaying, replay_start, stored_stands, replay_turn, replay_stop, replay_done, lift_late, lift_by, Retreating, taken_stands, retreat_turn, retreat_found}
use Rattle.replay.proofs.Turning.{forgot_stands, begin_around, begin_raised, begin_empty, found_next, turn_ended, turn_impossible}

-- c is in the set already
pub joins_has : {a : Area} {c : ℕ} → IsSound a → Holds a → c < 2 * a.n → 0 < mark a.n a.words c → Joins a c a true
joins_has s h l p = record { same = same_refl s; says = join_has h (record { is_code = l; is_marked = p }) }

-- or its opposite is
pub joins_barred : {a : Area} {c : ℕ} → IsSound a → Holds a → opposite c < 2 * a.n → 0 < mark a.n a.words (opposite c) → Joins a c a false
joins_barred s h l p = record { same = same_refl s; says = (unchanged_none h, inl (record { is_code = l; is_marked = p }), refl) }

-- the invariant of the loop of `replay`: the choices below i are replayed
pub record Following (a : Area) (r : List ℕ) (b : Area) (i : ℕ) : Type 0 where
  pub same : Same a b
  pub start : IsSound a
  pub follows : Replaying a.n a.rules r a.words b.words i b.tail

-- at its start
pub following_start : {a : Area} (r : List ℕ) → IsSound a → ((x : ℕ) → x < 2 * a.n → mark a.n a.words x ≡ 0) → Following a r a 0
following_start {a} r s z =
    let empty : a.tail ≡ 0 = sym s.listed.count ∙ count_none (mark a.n a.words) (2 * a.n) z in
    record { same = same_refl s; start = s; follows = rw empty (replay_start z) }

-- the trail's length is remembered at the late code of choice i
module _ {a : Area} {r : List ℕ} {b : Area} {i x v : ℕ} {b' : Area} (l : i < a.n) (h : Following a r b i) (ex : x ≡ late i) (ev : v ≡ b.tail) (d : Writes b x v b') where
  written : b'.words ≡ set b.words (spare_at a.n x) v
  written = rw (h.same.choices) at d.words

  -- the set is the same
  here : Spans a.n a.rules (Past r i) b'.words b'.tail
  here = rw (d.stays) (stored_stands h.start.ready l h.follows ex ev written)

  same' : Same a b'
  same' = same_trans h.same d.same

  -- so another code can join it
  pub following_holds : Holds b'
  following_holds = rw (same'.choices, same'.list) here.holding

  -- it does
  pub following_turn : {c : ℕ} {b'' : Area} → Rota a.n r → c ≡ code_of i (get_or r i 0) → Joins b' c b'' true → Following a r b'' (i + 1)
  following_turn {c} {b''} rota ec j =
      let s : JoinSays a.n a.rules c b.tail b'.words b''.words b''.tail true = rw (same'.choices, same'.list, d.stays) at j.says in
      record { same = same_trans same' j.same; start = h.start; follows = replay_turn h.start.ready l h.follows ex ev written rota ec s }

  -- or cannot
  pub following_stop : {c : ℕ} {b'' : Area} → Rota a.n r → c ≡ code_of i (get_or r i 0) → Joins b' c b'' false → Replays a r b'' (i + 1)
  following_stop {c} {b''} rota ec j =
      let s : JoinSays a.n a.rules c b.tail b'.words b''.words b''.tail false = rw (same'.choices, same'.list, d.stays) at j.says in
      record { same = same_trans same' j.same; replayed = rw (s.2) (replay_stop h.start.ready l h.follows ex ev written rota ec s.0 s.1) }

-- at its end
pub following_done : {a : Area} {r : List ℕ} {b : Area} {i : ℕ} → a.n ≤ i → Following a r b i → Replays a r b a.n
following_done l h = record { same = h.same; replayed = replay_done l h.follows }

-- choice p is late already
pub lifts_late : {a : Area} (r : List ℕ) (p : ℕ) → IsSound a → Rota a.n r → Spans a.n a.rules (Past r p) a.words a.tail → (get_or r p 0 ≡ 0 → ⊥) → Lifts a r p a false
lifts_late r p sound rota s ne = let u = lift_late r p rota s ne in record { same = same_refl sound; says = (u.0, u.1, refl) }

-- or late p is tried
pub lifts_by : {a : Area} {c : ℕ} {b : Area} (r : List ℕ) (p : ℕ) (j : Bool) → Spans a.n a.rules (Past r p) a.words a.tail → c ≡ late p → p < a.n → get_or r p 0 ≡ 0 → Joins a c b j → Lifts a r p b j
lifts_by {a} {c} {b} r p j s ec l z d = record { same = d.same; says = lift_by a.n a.rules r p a.tail a.words b.words b.tail j s ec l z d.says }

-- the invariant of the loop of `retreat`: no allowed rota that leaves r at choice v or later comes after it
pub record Receding (a : Area) (r : List ℕ) (b : Area) (v : ℕ) : Type 0 where
  pub same : Same a b
  pub start : IsSound a
  pub recedes : Retreating a.n a.rules r a.words b.words v b.tail

-- the trail is taken back to where it ended before choice v - 1
module _ {a : Area} {r : List ℕ} {b : Area} {v e : ℕ} {b' : Area} (l : 0 < v) (h : Receding a r b v) (ee : e ≡ length_at b.n b.words (v - 1)) (u : Undoes b e b') where
  taken : e ≡ length_at a.n b.words (v - 1)
  taken = rw (h.same.choices) at ee

  undone : Undone a.n e b.words b'.words
  undone = rw (h.same.choices) at u.undone

  kept' : Same a b'
  kept' = same_trans h.same u.same

  -- what stood there before it
  pub receding_stands : Spans b'.n b'.rules (Past r (v - 1)) b'.words b'.tail
  receding_stands = rw (kept'.choices, kept'.list, u.back) (taken_stands l h.recedes taken undone)

  -- it cannot be raised
  pub receding_turn : {w : ℕ} {b'' : Area} → w ≡ v - 1 → Lifts b' r w b'' false → Receding a r b'' (v - 1)
  receding_turn {w} {b''} ew f =
      let s : LiftSays a.n a.rules r w e b'.words b''.words b''.tail false = rw (kept'.choices, kept'.list, u.back) at f.says in
      record { same = same_trans kept' f.same; start = h.start; recedes = rw (s.2) (retreat_turn l h.recedes taken undone ew (s.0, s.1)) }

  -- or it is
  pub receding_found : {w : Choice} {b'' : Area} → w.0 ≡ v - 1 → Lifts b' r w.0 b'' true → Retreats a r b'' (Some w)
  receding_found {w} {b''} ew f =
      let s : LiftSays a.n a.rules r w.0 e b'.words b''.words b''.tail true = rw (kept'.choices, kept'.list) at f.says in
      record { same = same_trans kept' f.same; says = retreat_found l h.recedes taken undone ew s }

-- at its end none is raised
pub receding_done : {a : Area} {r : List ℕ} {b : Area} → Receding a r b 0 → Retreats a r b None
receding_done h = record { same = h.same; says = (h.recedes.around, h.recedes.listed, h.recedes.none) }

-- the invariant of the loop of `forget`: the first c words are 0
pub record Forgetting (a b : Area) (c : ℕ) : Type 0 where
  pub same : Same a b
  pub start : IsSound a
  pub stays : b.tail ≡ a.tail
  pub forgot : Forgot a.n c a.words b.words

-- the search after the retreat
module _ {a b d e : Area} {r : List ℕ} {top : ℕ} {v : Choice} (rota : Rota a.n r) (p : Replays a r b top) (t : Retreats b r d (Some v)) (f : Forgets d e) where
  all : Same a e
  all = same_trans p.same (same_trans t.same f.same)

  says : Raised a.n a.rules r v.0 b.words d.words d.tail × NoneFrom a.n a.rules r (v.0 + 1)
  says = rw (p.same.choices, p.same.list) at t.says

  forgot : Forgot a.n (2 * a.n) d.words e.words
  forgot = rw (t.same.choices ∙ p.same.choices) at f.forgot

  ready : Ready a.n a.rules d.words
  ready = rw (t.same.choices ∙ p.same.choices, t.same.list ∙ p.same.list) at t.same.sound.ready

  around : states.Around a.n a.words e.words
  around = around_trans (around_trans p.replayed.around says.0.around) (begin_around ready (around_refl _ _) forgot)

  -- it begins behind the choice that is raised
  pub finds_start : states.Stands e
  finds_start = rw (all.choices, all.list, f.stays) (begin_raised ready (around_refl _ _) forgot says.0.stands)

  pub finds_within : v.0 + 1 ≤ e.n
  finds_within = rw (all.choices) (omega (arith, says.0.within))

  -- it goes through
  pub finds_moved : {g : Area} {u : Unit {0}} → Searches e (v.0 + 1) g (Ok u) → Finds a r g Moved.Moved
  finds_moved {g} s =
      let m : Settles a.n a.rules (v.0 + 1) a.n e.words g.words g.tail = rw (all.choices, all.list) at s.says in
      record {
        same = same_trans all s.same;
        says = (around_trans around m.around, found_next _ _ _ _ _ _ _ _ rota says.0.within says.0.early (forgot_stands forgot says.0.stands) says.1 m);
      }

  -- or halts
  pub finds_stuck : {g : Area} {u : Choice} → Searches e (v.0 + 1) g (Err u) → Finds a r g Moved.Impossible
  finds_stuck {g} {u} s =
      let m : Halts a.n a.rules (v.0 + 1) e.words g.words u.0 g.tail = rw (all.choices, all.list) at s.says in
      record { same = same_trans all s.same; says = turn_impossible r around m }

-- or anew, where no choice can be raised
module _ {a b d e g : Area} {r : List ℕ} {top : ℕ} (p : Replays a r b top) (t : Retreats b r d None) (f : Forgets d e) (u : Undoes e 0 g) where
  whole : Same a g
  whole = same_trans p.same (same_trans t.same (same_trans f.same u.same))

  none : states.Around a.n b.words d.words × Listed a.n d.words d.tail × NoneFrom a.n a.rules r 0
  none = rw (p.same.choices, p.same.list) at t.says

  cleared : Forgot a.n (2 * a.n) d.words e.words
  cleared = rw (t.same.choices ∙ p.same.choices) at f.forgot

  listed : Ready a.n a.rules d.words
  listed = rw (t.same.choices ∙ p.same.choices, t.same.list ∙ p.same.list) at t.same.sound.ready

  emptied : Undone a.n 0 e.words g.words
  emptied = rw (f.same.choices ∙ t.same.choices ∙ p.same.choices) at u.undone

  begun : states.Around a.n d.words g.words × states.State a.n a.rules g.words 0
  begun = begin_empty listed (around_refl _ _) cleared emptied

  outside : states.Around a.n a.words g.words
  outside = around_trans (around_trans p.replayed.around none.0) begun.0

  -- it begins from nothing
  pub finds_anew : states.Stands g
  finds_anew = rw (whole.choices, whole.list, u.back) begun.1

  -- it goes through
  pub finds_ended : {h : Area} {x : Unit {0}} → Searches g 0 h (Ok x) → Finds a r h Moved.Ended
  finds_ended {h} s =
      let m : Settles a.n a.rules 0 a.n g.words h.words h.tail = rw (whole.choices, whole.list) at s.says in
      record { same = same_trans whole s.same; says = turn_ended r (undone_all emptied) none.2 outside m }

  -- or halts
  pub finds_none : {h : Area} {x : Choice} → Searches g 0 h (Err x) → Finds a r h Moved.Impossible
  finds_none {h} {x} s =
      let m : Halts a.n a.rules 0 g.words h.words x.0 h.tail = rw (whole.choices, whole.list) at s.says in
      record { same = same_trans whole s.same; says = turn_impossible r outside m }
