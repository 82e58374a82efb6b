-- The moves of `learn` over the whole area: what they leave of the list and the trail, beside the spare words.
use mathlib.Core.Path.{◌≡◌, refl, ◌∙◌}
use Prim.Native.Nat.{ℕ, ◌+◌, ◌*◌, ◌%◌, ◌≤◌, ◌<◌}
use lib.ListN.{set}
use Rattle.meaning.specs.Codes.{opposite}
use Rattle.moves.specs.Area.{Area, IsSound, Holds, Same, Writes, Spreads, Undoes}
use Rattle.moves.specs.Layout.{spare_at, trail, spare}
use Rattle.moves.specs.Walks.{Undone}
use Rattle.lessons.specs.Learning.{Notes, Shaded, Noted, Plain, Shared, Flagged, Shades, Flags, NotesDown, Unshades, Shadows, Shares, Learns}
use Rattle.moves.proofs.Moving.{same_refl, same_trans}
use Rattle.moves.proofs.Places.{tables}
use Rattle.lessons.proofs.Noting.{shade_start, shade_turn, note_start, note_turn}
use Rattle.lessons.proofs.Sharing.{shadow_done, share_done, learn_done}

-- the invariant of the loop of `shade`
pub record Shading (a : Area) (from : ℕ) (b : Area) (i : ℕ) : Type 0 where
  pub same : Same a b
  pub start : IsSound a
  pub stays : b.tail ≡ a.tail
  pub shaded : Shaded a.n from i a.words b.words

-- at its start
pub shading_start : {a : Area} (from : ℕ) → IsSound a → Shading a from a from
shading_start from s = record { same = same_refl s; start = s; stays = refl; shaded = shade_start _ from _ }

-- a turn
pub shading_turn : {a : Area} {from : ℕ} {b : Area} {i x s : ℕ} {b' : Area} → Shading a from b i → from ≤ i → i < a.tail →
    x ≡ trail b.n b.words i → s ≡ spare b.n b.words x → Writes b x (s % 4 + 4) b' → Shading a from b' (i + 1)
shading_turn {a} {from} {b} {i} {x} {s} {b'} r low l qx qs d =
    let q₀ : x ≡ trail a.n b.words i = rw (r.same.choices) at qx in
    let q₁ : s ≡ spare a.n b.words x = rw (r.same.choices) at qs in
    let q₂ : b'.words ≡ set b.words (spare_at a.n x) (s % 4 + 4) = rw (r.same.choices) at d.words in
    record {
      same = same_trans r.same d.same;
      start = r.start;
      stays = d.stays ∙ r.stays;
      shaded = shade_turn (tables r.start.ready.sizes) r.start.listed low l r.shaded q₀ q₁ q₂;
    }

-- at its end
pub shading_done : {a : Area} {from : ℕ} {b : Area} {i : ℕ} → Shading a from b i → i ≡ a.tail → Shades a from b
shading_done r e = record { same = r.same; stays = r.stays; shaded = rw e at r.shaded }

-- the invariant of the loop of `note`
pub record Noting (a : Area) (from : ℕ) (b : Area) (i : ℕ) : Type 0 where
  pub same : Same a b
  pub start : IsSound a
  pub stays : b.tail ≡ a.tail
  pub noted : Noted a.n from i a.words b.words

-- at its start
pub noting_start : {a : Area} (from : ℕ) → IsSound a → Noting a from a from
noting_start from s = record { same = same_refl s; start = s; stays = refl; noted = note_start _ from _ }

-- a turn
pub noting_turn : {a : Area} {from : ℕ} {b : Area} {i x : ℕ} {b' : Area} → Noting a from b i → from ≤ i → i < a.tail →
    x ≡ trail b.n b.words i → Flags b x b' → Noting a from b' (i + 1)
noting_turn {a} {from} {b} {i} {x} {b'} r low l qx d =
    let q : x ≡ trail a.n b.words i = rw (r.same.choices) at qx in
    let f : Flagged a.n b.words x b'.words = rw (r.same.choices) at d.flagged in
    record {
      same = same_trans r.same d.same;
      start = r.start;
      stays = d.stays ∙ r.stays;
      noted = note_turn (tables r.start.ready.sizes) r.start.listed low l r.noted q f;
    }

-- at its end
pub noting_done : {a : Area} {from : ℕ} {b : Area} {i : ℕ} → Noting a from b i → i ≡ a.tail → NotesDown a from b
noting_done r e = record { same = r.same; stays = r.stays; noted = rw e at r.noted }

-- the invariant of the loop of `unshade`
pub record Clearing (a b : Area) (c : ℕ) : Type 0 where
  pub same : Same a b
  pub start : IsSound a
  pub stays : b.tail ≡ a.tail
  pub plain : Plain a.n c a.words b.words

module _ {a a₁ a₂ a₃ : Area} {c : ℕ} (h : Holds a) (sp : Spreads a c a₁) (u : Undoes a₂ a.tail a₃) where
  -- the first walk
  pub shadows : Notes a.n a.rules a.words → Shades a₁ a.tail a₂ → Shadows a c a₃
  shadows k s =
      let d : Shaded a.n a.tail a₁.tail a₁.words a₂.words = rw (sp.same.choices) at s.shaded in
      let w : Undone a.n a.tail a₂.words a₃.words = rw (s.same.choices ∙ sp.same.choices) at u.undone in
      record { same = same_trans sp.same (same_trans s.same u.same); stays = u.back; shadowed = shadow_done h sp.spread k d w }

  -- the second walk
  pub shares : NotesDown a₁ a.tail a₂ → Shares a c a₃
  shares s =
      let d : Noted a.n a.tail a₁.tail a₁.words a₂.words = rw (sp.same.choices) at s.noted in
      let w : Undone a.n a.tail a₂.words a₃.words = rw (s.same.choices ∙ sp.same.choices) at u.undone in
      record { same = same_trans sp.same (same_trans s.same u.same); stays = u.back; shared = share_done h sp.spread d w }

-- both
pub learns : {a a₁ a₂ a₃ : Area} {c : ℕ} → Notes a.n a.rules a.words → Shadows a c a₁ → Shares a₁ (opposite c) a₂ → Unshades a₂ a₃ → Learns a a₃
learns {a} {a₁} {a₂} {a₃} {c} k p q r =
    let q' : Shared a.n a.rules (opposite c) a.tail a₁.words a₂.words = rw (p.same.choices, p.same.list, p.stays) at q.shared in
    let r' : Plain a.n (2 * a.n) a₂.words a₃.words = rw (q.same.choices ∙ p.same.choices) at r.plain in
    record { same = same_trans p.same (same_trans q.same r.same); stays = r.stays ∙ q.stays ∙ p.stays; learnt = learn_done k p.shadowed q' r' }
