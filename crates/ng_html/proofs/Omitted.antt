-- What a start tag closes may be without its end tag.
use Rattle.std.proofs.Common.{◌≡◌, ℕ, Bool, true, false, ◌||◌, ◌&&◌, List, refl}
use Rattle.std.specs.Prelude.{codes}
use Rattle.std.specs.Str.{bytes_eq}
use Rattle.ng_markup.specs.Tables.{is_omittable}
use Rattle.ng_html.specs.Closing.{is_term, is_data_cell, is_closing}

listed : (li dt dd option tr td th a b c d e : Bool) → ((li && a) || ((dt || dd) && b) || (option && c) || ((td || th) && d) || (((td || th) || tr) && e)) ≡ true →
    (li || dt || dd || option || tr || td || th) ≡ true
listed true dt dd option tr td th a b c d e h = refl
listed false true dd option tr td th a b c d e h = refl
listed false false true option tr td th a b c d e h = refl
listed false false false true tr td th a b c d e h = refl
listed false false false false true td th a b c d e h = refl
listed false false false false false true th a b c d e h = refl
listed false false false false false false true a b c d e h = refl
listed false false false false false false false a b c d e h = absurd (cc)

pub closing_omittable : (s n : List ℕ) → is_closing s n ≡ true → is_omittable n ≡ true
unfolding is_closing is_omittable
closing_omittable s n h =
    listed (bytes_eq n (codes "li")) (bytes_eq n (codes "dt")) (bytes_eq n (codes "dd")) (bytes_eq n (codes "option")) (bytes_eq n (codes "tr")) (bytes_eq n (codes "td")) (bytes_eq n (codes "th"))
    (bytes_eq s (codes "li")) (is_term s) (bytes_eq s (codes "option")) (is_data_cell s) (bytes_eq s (codes "tr")) h
