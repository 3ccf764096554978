-- One event more.
use Rattle.std.proofs.Common.{◌≡◌, ◌<◌, ℕ, zero, suc, List, [], ◌∷◌, ◌++◌, length, refl, ap, ◌∙◌, arith}
use Rattle.std.specs.Prelude.{Result, Ok, Err}
use Rattle.ng_base.specs.Cells.{Cell}
use Rattle.ng_base.specs.Meets.{◌>>=◌}
use Rattle.ng_base.proofs.Binds.{bind_same}
use Rattle.ng_tags.specs.Lexing.{event_at}
use Rattle.ng_tags.specs.declared.event.Event.{Event}
use Rattle.ng_tags.specs.declared.fault.HtmlFault.{HtmlFault}
use Rattle.ng_html.proofs.Lexed.{lexed_less}
use Rattle.ng_html.specs.Building.{State, take_event}
use Rattle.ng_html.specs.Reading.{begin, reads, read_on}

-- any room for what is left is enough
pub same_room : (total k j : ℕ) (s : State) (ps : List ℕ) (cs : List Cell) → length cs < k → length cs < j → reads total k s ps cs ≡ reads total j s ps cs
same_room total zero j s ps cs h i = absurd (omega arith)
same_room total (suc k) zero s ps cs h i = absurd (omega arith)
same_room total (suc k) (suc j) s ps [] h i = refl
same_room total (suc k) (suc j) s ps (c ∷ cs) h i =
    bind_same (event_at total c cs) (λ r. take_event s r.0 >>= λ t. reads total k t (ps ++ begin r.0) r.1) (λ r. take_event s r.0 >>= λ t. reads total j t (ps ++ begin r.0) r.1)
    (λ r e. let less = lexed_less total c cs r.0 r.1 e in
    bind_same (take_event s r.0) (λ t. reads total k t (ps ++ begin r.0) r.1) (λ t. reads total j t (ps ++ begin r.0) r.1)
    (λ t f. same_room total k j t (ps ++ begin r.0) r.1 (omega (arith, less)) (omega (arith, less))))

pub read_event_on : (total : ℕ) (s t : State) (ps : List ℕ) (c : Cell) (cs rest : List Cell) (e : Event) → event_at total c cs ≡ Ok (e, rest) → take_event s e ≡ Ok t →
    read_on total s ps (c ∷ cs) ≡ read_on total t (ps ++ begin e) rest
read_event_on total s t ps c cs rest e h i =
    let less : length rest < length (c ∷ cs) = lexed_less total c cs e rest h in
    ap (λ (x : Result (Event × List Cell) HtmlFault). x >>= λ r. take_event s r.0 >>= λ u. reads total (length (c ∷ cs)) u (ps ++ begin r.0) r.1) h
    ∙ (ap (λ (x : Result State HtmlFault). x >>= λ u. reads total (length (c ∷ cs)) u (ps ++ begin e) rest) i
    ∙ same_room total (length (c ∷ cs)) (suc (length rest)) t (ps ++ begin e) rest (omega (arith, less)) (omega arith))

-- a refusal inside
pub read_event_err : (total : ℕ) (s : State) (ps : List ℕ) (c : Cell) (cs : List Cell) (f : HtmlFault) → event_at total c cs ≡ Err f → read_on total s ps (c ∷ cs) ≡ Err f
read_event_err total s ps c cs f h = ap (λ (x : Result (Event × List Cell) HtmlFault). x >>= λ r. take_event s r.0 >>= λ u. reads total (length (c ∷ cs)) u (ps ++ begin r.0) r.1) h

pub take_event_err : (total : ℕ) (s : State) (ps : List ℕ) (c : Cell) (cs rest : List Cell) (e : Event) (f : HtmlFault) → event_at total c cs ≡ Ok (e, rest) → take_event s e ≡ Err f → read_on total s ps (c ∷ cs) ≡ Err f
take_event_err total s ps c cs rest e f h i =
    ap (λ (x : Result (Event × List Cell) HtmlFault). x >>= λ r. take_event s r.0 >>= λ u. reads total (length (c ∷ cs)) u (ps ++ begin r.0) r.1) h
    ∙ ap (λ (x : Result State HtmlFault). x >>= λ u. reads total (length (c ∷ cs)) u (ps ++ begin e) rest) i

pub ruleset turns = (lexed_less, read_event_on, read_event_err, take_event_err)
