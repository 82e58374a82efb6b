-- The library's promise: two outcomes that it allows for one book and one area coincide, the answer and each byte afterwards.
use Rattle.std.specs.Prelude.{Option, Some, None}
use mathlib.Core.Path.{◌≡◌, refl, sym, ap, ◌∙◌}
use mathlib.Core.Logic.{⊎_elim}
use mathlib.Core.List.{List}
use Prim.Native.Nat.{ℕ, ◌≤◌}
use native.Mathlib.Omega.{arith}
use lib.ListN.{length, get_or}
use lib.Seq.{ext_get_or}
use Rattle.meaning.specs.Codes.{late, early}
use Rattle.meaning.specs.Sizes.{over, words_room}
use Rattle.meaning.specs.Refusals.{Due, refused}
use Rattle.meaning.proofs.Unique.{first_unique, forced_unique, shortest_unique, lowest_unique, first_or_clash}
use Rattle.book.specs.Checks.{choices_in, codes_in, book_due}
use Rattle.lines.proofs.Telling.{items_fit}
use Rattle.lines.specs.Promise.{PossibleTold, ImpossibleTold, ListText, DueText, BookText, Leaves, Shows}

module _ (n : ℕ) (ws : List ℕ) where
  -- of a possible list
  possible_once : (t u : List ℕ) → PossibleTold n ws t → PossibleTold n ws u → t ≡ u
  possible_once t u p q =
      let e : p.rota ≡ q.rota = first_unique n ws p.rota q.rota p.first q.first in
      let f : p.forced ≡ q.forced =
      ext_get_or 0 p.forced q.forced (p.each.long ∙ sym q.each.long)
      (λ v h. forced_unique n ws v (get_or p.forced v 0) (get_or q.forced v 0) p.rota p.first.allowed
      (p.each.each v (omega (arith, p.each.long))) (q.each.each v (omega (arith, p.each.long)))) in
      p.is ∙ rw (e, f) (sym q.is)

  -- of an impossible one
  impossible_once : (t u : List ℕ) → ImpossibleTold n ws t → ImpossibleTold n ws u → t ≡ u
  impossible_once t u p q =
      let e : p.choice ≡ q.choice = lowest_unique ws p.choice q.choice p.lowest q.lowest in
      let f : p.there ≡ q.there =
      shortest_unique ws (late q.choice) (early q.choice) p.there q.there (rw e at p.there_shortest) q.there_shortest in
      let g : p.back ≡ q.back =
      shortest_unique ws (early q.choice) (late q.choice) p.back q.back (rw e at p.back_shortest) q.back_shortest in
      p.is ∙ rw (e, f, g) (sym q.is)

  -- a list is not both
  never_both : (t u : List ℕ) → PossibleTold n ws t → ImpossibleTold n ws u → ⊥
  never_both t u p q = first_or_clash n ws p.rota q.choice p.first q.lowest

  -- a list has one text
  list_once : (t u : List ℕ) → ListText n ws t → ListText n ws u → t ≡ u
  list_once t u p q =
      ⊎_elim (λ (a : PossibleTold n ws t). ⊎_elim (possible_once t u a) (λ (b : ImpossibleTold n ws u). absurd (never_both t u a b)) q)
      (λ (a : ImpossibleTold n ws t). ⊎_elim (λ (b : PossibleTold n ws u). absurd (never_both u t b a)) (impossible_once t u a) q) p

  -- what is due has one text
  due_once : (due : Due) (t u : List ℕ) → DueText due n ws t → DueText due n ws u → t ≡ u
  due_once Due.none t u p q = list_once t u p q
  due_once (refused number place) t u p q = p ∙ sym (q)

-- a book has one text
pub text_once : (bs t u : List ℕ) → BookText bs t → BookText bs u → t ≡ u
text_once bs t u p q = due_once (choices_in bs) (codes_in bs) (book_due bs words_room) t u p q

-- two outcomes are the same
pub shows_once : (bs out : List ℕ) (r s : Option ℕ) (o o' : List ℕ) → Shows bs out r o → Shows bs out s o' → (r ≡ s) × (o ≡ o')
shows_once bs out (Some k) (Some j) o o' p q =
    let e : p.1.text ≡ q.1.text = text_once bs p.1.text q.1.text p.1.right q.1.right in
    (ap (λ (k : ℕ). Some k) (p.1.long ∙ ap length e ∙ sym q.1.long), p.1.put ∙ ap (λ (t : List ℕ). over t out) e ∙ sym q.1.put)
shows_once bs out (Some k) None o o' p q = absurd (omega (arith, p.0, q.0))
shows_once bs out None (Some j) o o' p q = absurd (omega (arith, p.0, q.0))
shows_once bs out None None o o' p q = (refl, p.1 ∙ sym q.1)

-- a text lies within its area
pub leaves_fit : {Right : List ℕ → Type 0} {out : List ℕ} {k : ℕ} {out' : List ℕ} → Leaves Right out k out' → length out' ≡ length out → k ≤ length out
leaves_fit {out = out} {out' = out'} p l = omega (arith, p.long, items_fit p.text out out' p.put l)
