-- What a read puts into the rest of the area stands behind what was there, so the front grows by just the bytes that were taken.
use Rattle.std.proofs.Common.{◌≡◌, ℕ, ◌+◌, ◌-◌, ◌≤◌, List, ◌++◌, rules, length, take, sym, ap, ◌∙◌, subst, length-take-le}
use Rattle.std.proofs.Math.Seq.{take-append-add}
use Rattle.std.proofs.lemmas.List.{take-append-le}
use Rattle.std.specs.Io.KnownBytes.{Consumes}
use Rattle.std.proofs.KnownBytes.{Consumes-trans}
use borrow.Rule.Slice.PartMut.{put_mid, post_of}
use Rattle.rota.proofs.read_full.Goals as goal

-- the front of an area, c bytes past the place where ys was put
front_grows : (at room c : ℕ) (area ys : List ℕ) → at ≤ length area → c ≤ length ys → take (at + c) (put_mid at room area ys) ≡ take at area ++ take c ys
front_grows at room c area ys within fits =
    let behind = post_of at room area in
    ap (λ n. take (n + c) (take at area ++ (ys ++ behind))) (sym (length-take-le at area within))
    ∙ take-append-add (take at area) (ys ++ behind) c
    ∙ ap (λ l. take at area ++ l) (take-append-le c ys behind fits)

pub loop-at-preserved : goal.loop-at-preserved
loop-at-preserved g c = (
  search rules,
  search rules,
  subst (Consumes _ _) (sym (front_grows c.loop-at.at (length c.loop-at.area - c.loop-at.at) c.in_ok-count.count c.loop-at.area c.read.new.buf c.loop-at.invariant.1 c.in_ok-count.ensures.bound.0))
      (Consumes-trans _ _ _ _ _ c.loop-at.invariant.2 c.in_ok-count.ensures.bytes.0),
)
