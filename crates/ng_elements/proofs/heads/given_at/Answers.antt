use Rattle.std.proofs.Common.{◌≡◌, ◌∙◌, ◌++◌, ◌∷◌, [], None, Some, Err, List, cond, length, ap, sym, arith}
use Rattle.std.proofs.lemmas.List.{length-map}
use Rattle.ng_drawing.specs.Template.{Fragment}
use Rattle.ng_html.specs.Seen.{forest_of}
use Rattle.ng_elements.specs.Elements.{Made, fragment_made, content_number, with_content}
use Rattle.ng_parts.specs.FragmentOf.{sites_of, outlets_of, fragment_of, fragments_of}
use Rattle.ng_parts.specs.Seen.{contents_of, parts_of}
use Rattle.ng_elements.specs.HeadOf.{head_of, made_of}
use Rattle.ng_elements.specs.Using.{is_blank}
use Rattle.ng_elements.proofs.Fitting.{apart_full, apart_given}
use Rattle.ng_elements.proofs.LastMade.{last_made}
use Rattle.ng_elements.proofs.heads.given_at.Goals as goal

pub returns-then-len-ge-SITE_LIMIT : goal.returns-then-len-ge-SITE_LIMIT
returns-then-len-ge-SITE_LIMIT c free =
    let m : Made = record { places = []; sites = sites_of c.args.sites.items; outlets = outlets_of c.args.outlets.items; bodies = [] } in
    apart_full (forest_of c.args.kids.now) (head_of c.args.e) m (parts_of c.args.parts, made_of c.args.after) (length c.args.after.bodies.items) (sym (length-map c.args.after.bodies.items fragment_of)) (omega arith) ∙ ap Err (sym c.worn.ensures)

pub returns : goal.returns
returns c =
    let kids = forest_of c.args.kids.now in
    let m : Made = record { places = []; sites = sites_of c.args.sites.items; outlets = outlets_of c.args.outlets.items; bodies = [] } in
    let before = c.args.after.bodies.items in
    let last : Fragment = fragment_made (parts_of c.args.parts, made_of c.args.after) in
    let grown : fragments_of c.push.new.self.items ≡ fragments_of before ++ last ∷ []
    = last_made before c.push.new.self.items c.alone-body.result last c.in_ok-push.ensures.items c.alone-body.ensures in
    let size : c.len-number.result ≡ length (fragments_of before ++ last ∷ []) = let n = ap length grown in omega (arith, n, length-map c.push.new.self.items fragment_of) in
    let content : c.content_of-content.result ≡ content_number kids (fragments_of before ++ last ∷ []) = c.content_of-content.ensures ∙ ap (λ n. cond (is_blank kids) None (Some n)) size in
    apart_given kids (head_of c.args.e) m (parts_of c.args.parts, made_of c.args.after) (length before) (sym (length-map before fragment_of)) (omega arith)
    (head_of c.with_given-given.result) (contents_of c.in_place-contents.result)
    (record { places = c.args.after.places.now; sites = sites_of c.args.sites.items; outlets = outlets_of c.args.outlets.items; bodies = fragments_of c.push.new.self.items })
    (c.with_given-given.ensures ∙ ap (λ n. with_content n (head_of c.args.e)) content) c.in_place-contents.ensures
    (ap (λ (bs : List Fragment). record { places = c.args.after.places.now; sites = sites_of c.args.sites.items; outlets = outlets_of c.args.outlets.items; bodies = bs }) grown)
