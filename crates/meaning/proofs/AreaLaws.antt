-- Laws of the lent areas: what a loop that writes item after item leaves, and that what stands past the items stays.
use mathlib.Core.Path.{◌≡◌, refl, sym, ap, ◌∙◌}
use mathlib.Core.Logic.{⊎_elim}
use mathlib.Core.List.{List, [], ◌∷◌, ◌++◌, append_assoc}
use Prim.Native.Nat.{ℕ, ◌+◌, ◌-◌, ◌≤◌, ◌<◌}
use native.Mathlib.Omega.{arith}
use native.Mathlib.Decide.{ℕ_discrete}
use native.Mathlib.Numerals.{add-one}
use lib.ListN.{length, get_or, set, take, drop, length-set, length-append, length-drop, take-append-drop, get_or-append}
use lib.Seq.{length-take-le, ext_get_or, get_or-set_same, get_or-set_other, get_or-append-add, get_or-drop, set_split, take_at, drop_at, drop-drop}
use Rattle.meaning.specs.Sizes.{over, over_at}
use Rattle.meaning.proofs.General.{below_or_from, build, length_build, get_or_build}

-- the first k items of an area are f 0, f 1, .., and the rest is as it was
pub record Written (k : ℕ) (f : ℕ → ℕ) (area area' : List ℕ) : Type 0 where
  pub long : length area' ≡ length area
  pub front : (i : ℕ) → i < k → get_or area' i 0 ≡ f i
  pub rest : (i : ℕ) → k ≤ i → get_or area' i 0 ≡ get_or area i 0

-- nothing is written yet
pub written_none : (f : ℕ → ℕ) (area : List ℕ) → Written 0 f area area
written_none f area = record { long = refl; front = λ i h. absurd (omega arith); rest = λ i h. refl }

-- one item more
pub written_more : {k : ℕ} {f : ℕ → ℕ} {area area' : List ℕ} (x : ℕ) → Written k f area area' → k < length area → x ≡ f k → Written (k + 1) f area (set area' k x)
written_more {k} {f} {area} {area'} x w h e =
    record {
      long = length-set area' k x ∙ w.long;
      front = λ i l. elim (ℕ_discrete i k) [
        | yes q ↦ rw q (get_or-set_same area' k x 0 (omega (arith, w.long)) ∙ e)
        | no q ↦ get_or-set_other area' k i x 0 q ∙ w.front i (omega arith)
      ];
      rest = λ i l. get_or-set_other area' k i x 0 (omega arith) ∙ w.rest i (omega arith);
    }

-- an item of an area with xs in front: one of xs
pub over_front : (xs area : List ℕ) (i : ℕ) → i < length xs → get_or (over xs area) i 0 ≡ get_or xs i 0
over_front xs area i h = get_or-append xs (drop (length xs) area) 0 i h

-- or what was there
pub over_rest : (xs area : List ℕ) (i : ℕ) → length xs ≤ i → get_or (over xs area) i 0 ≡ get_or area i 0
over_rest xs area i h =
    let e : length xs + (i - length xs) ≡ i = omega arith in
    rw e at (get_or-append-add xs (drop (length xs) area) (i - length xs) 0 ∙ get_or-drop (length xs) area (i - length xs) 0)

-- the area keeps its length
pub over_length : (xs area : List ℕ) → length xs ≤ length area → length (over xs area) ≡ length area
over_length xs area h = simp (length-append, length-drop) (omega arith)

-- two areas of one length that agree past xs agree with xs in front
pub over_same : (xs area area' : List ℕ) → length xs ≤ length area → length area' ≡ length area → ((i : ℕ) → length xs ≤ i → get_or area' i 0 ≡ get_or area i 0) →
    over xs area' ≡ over xs area
over_same xs area area' h e same =
    ext_get_or 0 (over xs area') (over xs area) (over_length xs area' (omega arith) ∙ e ∙ sym (over_length xs area h))
    (λ i l. ⊎_elim (λ m. over_front xs area' i m ∙ sym (over_front xs area i m)) (λ m. over_rest xs area' i m ∙ same i m ∙ sym (over_rest xs area i m)) (below_or_from i (length xs)))

-- what a loop has written, as one equation
pub written_over : (n : ℕ) (f : ℕ → ℕ) (area area' : List ℕ) → n ≤ length area → Written n f area area' → area' ≡ over (build n f) area
written_over n f area area' h w =
    let e : length (build n f) ≡ n = length_build n f in
    ext_get_or 0 area' (over (build n f) area) (w.long ∙ sym (over_length (build n f) area (omega arith)))
    (λ i l. ⊎_elim (λ m. w.front i m ∙ sym (over_front (build n f) area i (omega arith) ∙ get_or_build n f i m))
    (λ m. w.rest i m ∙ sym (over_rest (build n f) area i (omega arith))) (below_or_from i n))

-- nothing written changes nothing
pub over_at_none : (at : ℕ) (area : List ℕ) → over_at at [] area ≡ area
over_at_none at area = take-append-drop at area

-- the area keeps its length
pub over_at_length : (at : ℕ) (xs area : List ℕ) → at + length xs ≤ length area → length (over_at at xs area) ≡ length area
over_at_length at xs area fits = simp (length-append, length-drop) (omega (arith, length-take-le at area (omega arith)))

-- a store writes one item
pub over_at_one : (at : ℕ) (x : ℕ) (area : List ℕ) → at < length area → set area at x ≡ over_at at (x ∷ []) area
over_at_one at x area h = set_split area at x h ∙ ap (λ (l : List ℕ). take at area ++ x ∷ l) (rw (← add-one) (sym (drop-drop 1 at area)))

-- what is written right behind xs is written with it
pub over_at_append : (at : ℕ) (xs ys area : List ℕ) → at ≤ length area → over_at (at + length xs) ys (over_at at xs area) ≡ over_at at (xs ++ ys) area
over_at_append at xs ys area h =
    let front = take at area ++ xs in
    let rest = drop (length xs) (drop at area) in
    let long : length front ≡ at + length xs = length-append (take at area) xs ∙ omega (arith, length-take-le at area h) in
    let whole : over_at at xs area ≡ front ++ rest = sym (append_assoc (take at area) xs rest) in
    rw (whole, take_at front rest (at + length xs) long, drop_at front rest (at + length xs) long, drop-drop, append_assoc, length-append, append_assoc) refl
