use Rattle.std.proofs.Common.{◌≡◌, None, ap, ◌∙◌}
use Rattle.std.specs.Prelude.{is_some}
use Rattle.ng_base.specs.declared.path.Key.{Key}
use Rattle.ng_watch.specs.Seen.{Watcher, Watching, watching_of}
use Rattle.ng_watch.specs.Table.{Table, watchers_of, found, with_watch}
use Rattle.ng_build.proofs.Tables.{put-same}
use Rattle.ng_instances.proofs.placing.add_kept.Goals as goal

pub keep-requires : goal.keep-requires
keep-requires c =
    let k : Key = c.args.key in
    let t : Table = watchers_of c.args.watchers.now in
    let w : Watching = watching_of c.args.watch in
    let here : Watcher = record { watch = w; kept = None } in
    let added : watchers_of c.add.new.self ≡ with_watch k w t = c.in_ok-add.ensures.added in
    ap is_some (ap (found c.in_ok-copy.copy) added ∙ (ap (λ (q : Key). found q (with_watch k w t)) c.in_ok-copy.ensures ∙ put-same k here t))
