-- What a move leaves of the whole area: a sound area after each move over its parts, and moves one after the other.
use mathlib.Core.Path.{◌≡◌, refl, ◌∙◌}
use mathlib.Core.List.{List}
use Prim.Native.Nat.{ℕ, ◌*◌, ◌≤◌, ◌<◌}
use lib.ListN.{length, get_or, set}
use Rattle.std.specs.Borrow.{GName}
use Rattle.std.specs.Prelude.{Ok, Err}
use Rattle.meaning.specs.Rules.{other_end}
use Rattle.moves.specs.declared.attempt.Failure.{Failure}
use Rattle.moves.specs.Area.{Area, Sound, IsSound, Same, Fresh, Begun, Spreads}
use Rattle.moves.specs.Layout.{spare_at, mark, trail, Apart}
use Rattle.moves.specs.Trials.{Grew, GaveUp, Tries}
use Rattle.moves.specs.Walks.{Listed, Touched, SpreadFrom}
use Rattle.moves.proofs.Places.{tables, ready_apart, ready_same, spare_spared}
use Rattle.moves.proofs.Steps.{other_end_below, word_below}
use Rattle.moves.proofs.Trails.{trail_none}
use Rattle.moves.proofs.Trying.{listed_spared}
use Rattle.moves.proofs.Visiting.{touching}

-- a store in the marks and the trail
pub sound_apart : {n : ℕ} {ws W : List ℕ} {t : ℕ} {W' : List ℕ} {t' : ℕ} → Sound n ws W t → Apart n W W' → Listed n W' t' → Sound n ws W' t'
sound_apart s p r = record { ready = ready_apart s.ready p; listed = r }

-- a touch
pub sound_touch : {n : ℕ} {ws W : List ℕ} {t b v : ℕ} {W' : List ℕ} {t' : ℕ} → Sound n ws W t → b < 2 * n → 0 < v → Touched n W b v t W' t' → Sound n ws W' t'
sound_touch s l p d =
    let g = touching (tables s.ready.sizes) s.listed l p d in
    sound_apart s g.apart g.onto.listed

-- a store in the spare table
pub sound_spare : {n : ℕ} {ws W : List ℕ} {t : ℕ} (x v : ℕ) → Sound n ws W t → x < 2 * n → Sound n ws (set W (spare_at n x) v) t
sound_spare {n} {ws} {W} {t} x v s l =
    let d = spare_spared n W x v l (tables s.ready.sizes) in
    record { ready = ready_same s.ready d.long d.heads d.nexts; listed = listed_spared d s.listed }

-- nothing is done
pub same_refl : {a : Area} → IsSound a → Same a a
same_refl s = record { lent = refl; choices = refl; list = refl; sound = s }

-- two moves
pub same_trans : {a b c : Area} → Same a b → Same b c → Same a c
same_trans p q = record { lent = q.lent ∙ p.lent; choices = q.choices ∙ p.choices; list = q.list ∙ p.list; sound = q.sound }

-- across an end of the list stands a code of it
pub across_below : (b : Area) {k x : ℕ} → IsSound b → k < length b.rules → x ≡ get_or b.rules (other_end k) 0 → x < 2 * b.n
across_below b {k} s l q = rw q (word_below s.ready.sizes (other_end k) (other_end_below k (length b.rules) s.ready.sizes.even l))

-- a walk from a code, over the whole area
pub spreads : {a : Area} {c : ℕ} {W : List ℕ} {t : ℕ} → IsSound a → SpreadFrom a.n a.rules c a.tail a.words W t → Spreads a c (record { name = a.name; n = a.n; rules = a.rules; words = W; tail = t })
spreads s p = record { same = record { lent = refl; choices = refl; list = refl; sound = sound_apart s p.apart p.listed }; spread = p }

-- a trial that is kept
pub tries_kept : {a : Area} {c : ℕ} {W : List ℕ} {t : ℕ} {u : Unit {0}} → IsSound a → Grew a.n a.rules c a.tail a.words W t → Tries a c (record { name = a.name; n = a.n; rules = a.rules; words = W; tail = t }) (Ok u)
tries_kept s p = record { same = record { lent = refl; choices = refl; list = refl; sound = sound_apart s p.apart p.holding.listed }; tried = p }

-- and one that is taken back
pub tries_failed : {a : Area} {c : ℕ} {W : List ℕ} {f : Failure} → IsSound a → GaveUp a.n a.rules c a.tail a.words W f.code.0 × (f.walked ≤ 2 * a.n) →
    Tries a c (record { name = a.name; n = a.n; rules = a.rules; words = W; tail = a.tail }) (Err f)
tries_failed s p = record { same = record { lent = refl; choices = refl; list = refl; sound = sound_apart s p.0.apart p.0.holding.listed }; tried = (p.0, p.1, refl) }

-- so a call begins
pub begun : (g : GName) (n : ℕ) (ws W : List ℕ) → Fresh n ws W → Begun n ws (record { name = g; n = n; rules = ws; words = W; tail = 0 })
begun g n ws W f =
    record {
      choices = refl;
      list = refl;
      empty = refl;
      sound = record { ready = f.ready; listed = trail_none (2 * n) (mark n W) (trail n W) f.unmarked };
      unmarked = f.unmarked;
      unnoted = f.unnoted;
    }
