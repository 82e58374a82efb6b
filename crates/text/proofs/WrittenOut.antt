-- Some texts, written out: the definitions give these bytes.
use mathlib.Core.Path.{◌≡◌, refl}
use mathlib.Core.List.{[], ◌∷◌}
use Rattle.text.specs.Text.{digits, numbers_line, values_line, possible_text, impossible_text, refusal_text}

-- case J: possible 3 3 / rota 011 / forced ..1
pub case_j_lem : possible_text 3 3 (0 ∷ 1 ∷ 1 ∷ []) (2 ∷ 2 ∷ 1 ∷ []) ≡ 112 ∷ 111 ∷ 115 ∷ 115 ∷ 105 ∷ 98 ∷ 108 ∷ 101 ∷ 32 ∷ 51 ∷ 32 ∷ 51 ∷ 10 ∷ 114 ∷ 111 ∷ 116 ∷ 97 ∷ 32 ∷ 48 ∷ 49 ∷ 49 ∷ 10 ∷ 102 ∷ 111 ∷ 114 ∷ 99 ∷ 101 ∷ 100 ∷ 32 ∷ 46 ∷ 46 ∷ 49 ∷ 10 ∷ []
unfolding digits numbers_line values_line
case_j_lem = refl

-- no choices: the bare words: possible 0 0 / rota / forced
pub no_choices : possible_text 0 0 [] [] ≡ 112 ∷ 111 ∷ 115 ∷ 115 ∷ 105 ∷ 98 ∷ 108 ∷ 101 ∷ 32 ∷ 48 ∷ 32 ∷ 48 ∷ 10 ∷ 114 ∷ 111 ∷ 116 ∷ 97 ∷ 10 ∷ 102 ∷ 111 ∷ 114 ∷ 99 ∷ 101 ∷ 100 ∷ 10 ∷ []
unfolding digits numbers_line values_line
no_choices = refl

-- case G: impossible 2 4 / choice 0 / late-early 2 3 / early-late 0 1
pub case_g_lem : impossible_text 2 4 0 (2 ∷ 3 ∷ []) (0 ∷ 1 ∷ []) ≡ 105 ∷ 109 ∷ 112 ∷ 111 ∷ 115 ∷ 115 ∷ 105 ∷ 98 ∷ 108 ∷ 101 ∷ 32 ∷ 50 ∷ 32 ∷ 52 ∷ 10 ∷ 99 ∷ 104 ∷ 111 ∷ 105 ∷ 99 ∷ 101 ∷ 32 ∷ 48 ∷ 10 ∷ 108 ∷ 97 ∷ 116 ∷ 101 ∷ 45 ∷ 101 ∷ 97 ∷ 114 ∷ 108 ∷ 121 ∷ 32 ∷ 50 ∷ 32 ∷ 51 ∷ 10 ∷ 101 ∷ 97 ∷ 114 ∷ 108 ∷ 121 ∷ 45 ∷ 108 ∷ 97 ∷ 116 ∷ 101 ∷ 32 ∷ 48 ∷ 32 ∷ 49 ∷ 10 ∷ []
unfolding digits numbers_line values_line
case_g_lem = refl

-- numbers of two and four digits: refused 10 8196
pub many_digits : refusal_text 10 8196 ≡ 114 ∷ 101 ∷ 102 ∷ 117 ∷ 115 ∷ 101 ∷ 100 ∷ 32 ∷ 49 ∷ 48 ∷ 32 ∷ 56 ∷ 49 ∷ 57 ∷ 54 ∷ 10 ∷ []
unfolding digits numbers_line values_line
many_digits = refl
