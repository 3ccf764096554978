-- What the rest of a directive that was read stands for.
use Rattle.ng_app.specs.Directives.{Rest}
use Rattle.ng_app.specs.declared.registering.Rest as code_rest

abbrev pub rest_of : code_rest.Rest → Rest
rest_of e = record { functions = e.functions.items; watches = e.watches.items; listeners = e.listeners.items; link = e.link }
