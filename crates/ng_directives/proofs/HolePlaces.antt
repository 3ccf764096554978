-- A hole reads the same wherever it stands.
use Rattle.std.proofs.Common.{◌≡◌, ℕ, List, true, false, ap, sym, ◌∙◌, length, Result, Ok, Err}
use Rattle.std.specs.Prelude.{encode_utf8_all, MatchResult}
use Rattle.ng_base.specs.Meets.{Gives, ◌>>=◌}
use Rattle.ng_base.proofs.Binds.{bind_ok}
use Rattle.ng_interp.specs.Parts.{Piece, hole, piece_of, is_free, place_behind, bytes_before, parsed_at, lexed_at, expression_at, hole_at}
use Rattle.ng_interp.specs.declared.pieces.Part.{Part}
use Rattle.ng_interp.specs.declared.pieces.InterpFault.{InterpFault}
use Rattle.ng_language.specs.Lexing.{lexed}
use Rattle.ng_language.specs.OneTime.{one_time_of}
use Rattle.ng_language.specs.Parsing.{parsed}
use Rattle.ng_language.specs.Trees.{Trees}
use Rattle.ng_language.specs.declared.syntax.Token.{Token}
use Rattle.ng_language.specs.declared.syntax.LexFault.{LexFault}
use Rattle.ng_language.specs.declared.syntax.ParseFault.{ParseFault}

parsed-moved : (p q : ℕ) (r : Result Trees ParseFault) (b : Trees) → parsed_at p r ≡ Ok b → parsed_at q r ≡ Ok b
parsed-moved p q (Ok c) b h = h
parsed-moved p q (Err f) b h = absurd (cc)

lexed-moved : (p q end : ℕ) (r : Result (List Token × List ℕ) LexFault) (b : Trees) → lexed_at p end r ≡ Ok b → lexed_at q end r ≡ Ok b
lexed-moved p q end (Ok ts) b h = parsed-moved p q (parsed ts.0 ts.1 end) b h
lexed-moved p q end (Err f) b h = absurd (cc)

pub hole_moved : (p q : ℕ) (t : List ℕ) (x : Piece) → hole_at p t ≡ Ok x → hole_at q t ≡ Ok x
hole_moved p q t x h =
    let e = one_time_of t in
    let from : ℕ → ℕ = λ k. place_behind k (bytes_before e.0 t) in
    let go : Trees → Result Piece InterpFault = λ b. Ok (hole e.0 b) in
    let (b, read, last) = bind_ok (expression_at (from p) e.1) go x h in
    ap (λ (r : Result Trees InterpFault). r >>= go) (lexed-moved (from p) (from q) (length (encode_utf8_all e.1)) (lexed (length (encode_utf8_all e.1)) e.1) b read) ∙ last

-- a hole that was read at one place is given at another, unless memory was refused
pub hole_shared : (p : ℕ) (t u : List ℕ) (r : Result Part InterpFault) → u ≡ t → MatchResult r (λ x. hole_at 0 u ≡ Ok (piece_of x)) (λ e. is_free e ≡ true) → Gives is_free piece_of (hole_at p t) r
hole_shared p t u (Ok x) e h = hole_moved 0 p t (piece_of x) (ap (λ (s : List ℕ). hole_at 0 s) (sym e) ∙ h)
hole_shared p t u (Err f) e h = λ (free : is_free f ≡ false). absurd (cc)
