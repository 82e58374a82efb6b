-- The promise on three books: case J's, case G's and the empty one, and an area that is too short.
use Rattle.std.specs.Prelude.{Some, None}
use mathlib.Core.Path.{refl}
use mathlib.Core.Logic.{inl, inr}
use mathlib.Core.List.{[], ◌∷◌}
use native.Mathlib.Omega.{arith}
use native.Mathlib.Decide.{ℕ_discrete, dec_le, dec_lt}
use lib.ListN.{get_or, replicate}
use Rattle.meaning.specs.Rotas.{Forced}
use Rattle.meaning.specs.Sizes.{over}
use Rattle.table.specs.Table.{case_j}
use Rattle.table.proofs.Marked.{right_g, right_j}
use Rattle.meaning.proofs.Tests.{shown, below?, forced?}
use Rattle.book.specs.Checks.{book_due}
use Rattle.text.specs.Text.{digits, numbers_line, possible_text, impossible_text, refusal_text}
use Rattle.lines.specs.Promise.{BookText, Shows}

-- BookText, PossibleTold: case J's book
pub text_j : BookText (3 ∷ 3 ∷ 0 ∷ 2 ∷ 3 ∷ 4 ∷ 1 ∷ 4 ∷ []) (possible_text 3 3 (0 ∷ 1 ∷ 1 ∷ []) (2 ∷ 2 ∷ 1 ∷ []))
unfolding book_due ℕ_discrete dec_le dec_lt
text_j =
    inl (record {
      rota = 0 ∷ 1 ∷ 1 ∷ [];
      forced = 2 ∷ 2 ∷ 1 ∷ [];
      first = right_j.1.0;
      each = record { long = refl; each = shown (below? {P = λ v. Forced 3 case_j.ws v (get_or (2 ∷ 2 ∷ 1 ∷ []) v 0)} 3 (λ v. forced? 3 case_j.ws v (get_or (2 ∷ 2 ∷ 1 ∷ []) v 0))) tt };
      is = refl;
    })

-- ImpossibleTold: case G's book
pub text_g : BookText (2 ∷ 4 ∷ 0 ∷ 2 ∷ 0 ∷ 3 ∷ 1 ∷ 2 ∷ 1 ∷ 3 ∷ []) (impossible_text 2 4 0 (2 ∷ 3 ∷ []) (0 ∷ 1 ∷ []))
unfolding book_due
text_g =
    inr (record { choice = 0; there = 2 ∷ 3 ∷ []; back = 0 ∷ 1 ∷ []; lowest = right_g.1; there_shortest = right_g.2; back_shortest = right_g.3; is = refl })

-- DueText: the empty book is refused by 7 at 0
pub text_empty : BookText [] (114 ∷ 101 ∷ 102 ∷ 117 ∷ 115 ∷ 101 ∷ 100 ∷ 32 ∷ 55 ∷ 32 ∷ 48 ∷ 10 ∷ [])
unfolding book_due digits numbers_line
text_empty = refl

-- Shows: the empty book is refused by 7 at 0, in twelve bytes. text_needs: an area of one byte less stays
pub show_empty : Shows [] (replicate 5200 7) (Some 12) (over (refusal_text 7 0) (replicate 5200 7))
unfolding book_due digits numbers_line
show_empty = (omega arith, record { text = refusal_text 7 0; right = refl; long = refl; put = refl })

pub show_short : Shows [] (replicate 5199 7) None (replicate 5199 7)
show_short = (omega arith, refl)
