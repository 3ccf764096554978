use Rattle.std.proofs.Common.{length, sym, ◌≡◌, None, Some}
use Rattle.std.specs.Prelude.{slice_get}
use Rattle.ng_base.specs.Views.{views_list}
use Rattle.ng_base.specs.ViewOf.{views_of}
use Rattle.ng_core.proofs.FoundFunctions.{fun_stands, found_at, get_none}
use Rattle.ng_core.proofs.callees.find_callee.Goals as goal

pub callee_of-requires-clause-function : goal.callee_of-requires-clause-function
callee_of-requires-clause-function c =
    let e : slice_get c.args.core.now.funs.items c.args.f.0 ≡ Some c.in-Some.function.now = cc (c.in-Some.ensures) in
    fun_stands (length c.args.core.now.scopes) c.args.core.now.funs.items c.args.f.0 c.in-Some.function.now e c.requires.sound.funs

pub returns-in-None-clause-found : goal.returns-in-None-clause-found
returns-in-None-clause-found c =
    let e : slice_get c.args.core.now.funs.items c.args.f.0 ≡ None = cc (c.in-None.ensures) in
    sym (get_none c.args.core.now.store c.args.core.now.funs.items c.args.f.0 (views_list (views_of c.args.args.now)) e)

pub returns-in-Some-clause-found : goal.returns-in-Some-clause-found
returns-in-Some-clause-found c =
    let e : slice_get c.args.core.now.funs.items c.args.f.0 ≡ Some c.in-Some.function.now = cc (c.in-Some.ensures) in
    rw (found_at c.args.core.now.store c.args.core.now.funs.items c.args.f.0 c.in-Some.function.now (views_list (views_of c.args.args.now)) e) c.callee_of.ensures.found
