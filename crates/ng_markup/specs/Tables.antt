-- The elements that have rules of their own.
use Rattle.std.specs.Prelude.{Bool, ℕ, List, ◌||◌, codes}
use Rattle.std.specs.Str.{bytes_eq}

-- elements without content and without an end tag, in the order of the HTML standard
unfoldable pub is_void : List ℕ → Bool
is_void n =
    bytes_eq n (codes "area")
    || bytes_eq n (codes "base")
    || bytes_eq n (codes "br")
    || bytes_eq n (codes "col")
    || bytes_eq n (codes "embed")
    || bytes_eq n (codes "hr")
    || bytes_eq n (codes "img")
    || bytes_eq n (codes "input")
    || bytes_eq n (codes "link")
    || bytes_eq n (codes "meta")
    || bytes_eq n (codes "param")
    || bytes_eq n (codes "source")
    || bytes_eq n (codes "track")
    || bytes_eq n (codes "wbr")

-- elements whose content follows a grammar of its own
unfoldable pub is_left_out : List ℕ → Bool
is_left_out n =
    bytes_eq n (codes "script")
    || bytes_eq n (codes "style")
    || bytes_eq n (codes "svg")
    || bytes_eq n (codes "math")
    || bytes_eq n (codes "template")
    || bytes_eq n (codes "iframe")
    || bytes_eq n (codes "noscript")
    || bytes_eq n (codes "noembed")
    || bytes_eq n (codes "noframes")
    || bytes_eq n (codes "xmp")
    || bytes_eq n (codes "plaintext")

-- elements whose content is text up to their end tag
unfoldable pub is_raw : List ℕ → Bool
is_raw n = bytes_eq n (codes "textarea") || bytes_eq n (codes "title")

-- elements whose end tag may be left out
unfoldable pub is_omittable : List ℕ → Bool
is_omittable n =
    bytes_eq n (codes "li")
    || bytes_eq n (codes "dt")
    || bytes_eq n (codes "dd")
    || bytes_eq n (codes "option")
    || bytes_eq n (codes "tr")
    || bytes_eq n (codes "td")
    || bytes_eq n (codes "th")

-- elements behind whose start tag a line feed is dropped
unfoldable pub is_line_dropping : List ℕ → Bool
is_line_dropping n = bytes_eq n (codes "pre") || bytes_eq n (codes "textarea")
