-- Limits, and what the lent areas have to hold.
use Rattle.std.specs.Prelude.{List, ◌++◌, ℕ, ◌+◌, ◌*◌, length, take, drop, replicate}
use Rattle.meaning.specs.Rules.{rules}

abbrev pub max_choices : ℕ
max_choices = 256

abbrev pub max_rules : ℕ
max_rules = 2048

-- the least lengths: of a rota's or a forced list's bytes, of the words for two chains, of the words for ties, and of the work area
abbrev pub rota_needs : ℕ → ℕ
rota_needs n = n

abbrev pub chains_need : ℕ → ℕ
chains_need n = 4 * n

abbrev pub ties_need : ℕ → ℕ
ties_need n = n

abbrev pub work_needs : ℕ → List ℕ → ℕ
work_needs n ws = 8 * n + 6 * rules ws + 16

-- the areas of those who bring their own, the printing library and the host's calls: the words of a book's rules, and the work area
abbrev pub words_room : ℕ
words_room = 4096

abbrev pub work_room : ℕ
work_room = 14352

-- an area with xs written at its front: what is past them stays
abbrev pub over : List ℕ → List ℕ → List ℕ
over xs area = xs ++ drop (length xs) area

-- an area with xs written from the place `at` on: the rest stays
abbrev pub over_at : ℕ → List ℕ → List ℕ → List ℕ
over_at at xs area = take at area ++ over xs (drop at area)

-- the work area after a call that is not refused: as many zeros as it needs, and the rest stays
abbrev pub cleared : ℕ → List ℕ → List ℕ → List ℕ
cleared n ws work = over (replicate (work_needs n ws) 0) work
