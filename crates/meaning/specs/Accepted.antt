-- What is accepted: the input of a call to which no refusal applies. proofs/Accepting shows both ways that this is just where nothing is due.
use Rattle.std.specs.Prelude.{◌≡◌, List, ℕ, ◌*◌, ◌≤◌, ◌<◌, length, get_or}
use Rattle.meaning.specs.Rules.{rules, InRange}
use Rattle.meaning.specs.Sizes.{max_choices, max_rules, rota_needs, work_needs}

-- a call on a list, with `area` items for its answer, of which it needs `needs`, and `work` words of work
pub record Accepted (n : ℕ) (ws : List ℕ) (area needs work : ℕ) : Type 0 where
  pub choices : n ≤ max_choices
  pub even : length ws ≡ 2 * rules ws
  pub few : rules ws ≤ max_rules
  pub room : needs ≤ area
  pub space : work_needs n ws ≤ work
  pub range : InRange n ws

-- Next's call: as on any list, and each of the rota's first n bytes is a value
pub record AcceptedNext (n : ℕ) (ws rota : List ℕ) (work : ℕ) : Type 0 where
  pub list : Accepted n ws (length rota) (rota_needs n) work
  pub values : (i : ℕ) → i < n → get_or rota i 0 ≤ 1
