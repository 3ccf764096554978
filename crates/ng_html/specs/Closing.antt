-- Which start tags close which open elements.
use Rattle.std.specs.Prelude.{Bool, ℕ, List, ◌&&◌, ◌||◌, codes}
use Rattle.std.specs.Str.{bytes_eq}

abbrev pub is_term : List ℕ → Bool
is_term n = bytes_eq n (codes "dt") || bytes_eq n (codes "dd")

abbrev pub is_data_cell : List ℕ → Bool
is_data_cell n = bytes_eq n (codes "td") || bytes_eq n (codes "th")

abbrev pub is_row_part : List ℕ → Bool
is_row_part n = is_data_cell n || bytes_eq n (codes "tr")

-- a start tag of the first name closes an open element of the second: li a li, dt and dd a dt or a dd, option an option,
-- td and th a td or a th, tr a td, a th or a tr
unfoldable pub is_closing : List ℕ → List ℕ → Bool
is_closing s n =
    (bytes_eq n (codes "li") && bytes_eq s (codes "li"))
    || (is_term n && is_term s)
    || (bytes_eq n (codes "option") && bytes_eq s (codes "option"))
    || (is_data_cell n && is_data_cell s)
    || (is_row_part n && bytes_eq s (codes "tr"))
