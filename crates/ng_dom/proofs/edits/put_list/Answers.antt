use Rattle.std.proofs.Common.{rules}
use Rattle.ng_dom.proofs.Places.{put_end}
use Rattle.ng_dom.proofs.edits.put_list.Goals as goal

pub returns-in_ok-push : goal.returns-in_ok-push
returns-in_ok-push c = put_end (λ g. g.items) c.args.i c.args.group c.args.groups.now.items c.push.new.self.items (search rules) (search rules)
