use Rattle.std.proofs.Common.{◌≡◌, List, [], ap, ◌∙◌, map, arith}
use Rattle.std.proofs.lemmas.List.{length-map}
use Rattle.ng_drawing.specs.Instance.{instance_with, outlets_from}
use Rattle.ng_drawing.specs.InstanceOf.{state_of as seen_state, group_of as seen_group}
use Rattle.ng_drawing.specs.Origins.{first_home, plain_origin}
use Rattle.ng_drawing.specs.Template.{Fragment, no_fragment}
use Rattle.ng_drawing.specs.declared.instance.SiteState as code_state
use Rattle.ng_drawing.specs.declared.instance.Instances as code_instances
use Rattle.ng_drawing.specs.declared.origin.Home.{Home}
use Rattle.ng_drawing.specs.declared.origin.Origin.{Origin}
use Rattle.ng_drawing.specs.Named.{fragments_in}
use Rattle.ng_compose.specs.Kept.{named_of}
use Rattle.ng_link.specs.State.{templates_of}
use Rattle.ng_link.proofs.Fragments.{fragment_past}
use Rattle.ng_link.proofs.Rolled.{instance_made}
use Rattle.ng_link.proofs.instance.nothing.Goals as goal

pub returns : goal.returns
returns c =
    let w = c.args.works.now in
    let all = templates_of w in
    let few = w.templates.few in
    let seen = seen_group (fragments_in all) in
    let sites : List code_state.SiteState = c.new.result.items in
    let outlets : List code_instances.Instances = c.new-2.result.items in
    let past : Origin = plain_origin (first_home (record { 0 = 4294967295 })) 0 in
    let origin : c.plain.result ≡ past = c.plain.ensures ∙ ap (λ (h : Home). plain_origin h 0) c.first.ensures in
    let fragment : fragments_in all c.plain.result ≡ no_fragment =
    ap (fragments_in all) origin ∙ fragment_past all past (omega (arith, few, length-map w.templates.items.items named_of)) in
    instance_made (fragments_in all) (record { origin = c.plain.result; scope = record { 0 = 0 }; sites = c.new.result; outlets = c.new-2.result })
    ∙ (ap (λ (f : Fragment). instance_with f 0 (map seen_state sites) (outlets_from (map seen outlets))) fragment
    ∙ (ap (λ (xs : List code_state.SiteState). instance_with no_fragment 0 (map seen_state xs) (outlets_from (map seen outlets))) c.new.ensures.items
    ∙ ap (λ (os : List code_instances.Instances). instance_with no_fragment 0 (map seen_state []) (outlets_from (map seen os))) c.new-2.ensures.items))
