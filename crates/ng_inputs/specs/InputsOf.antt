-- What the values of the code stand for.
use Rattle.ng_app.specs.AppOf.{facts}
use Rattle.ng_script.specs.Acts.{entries_of}
use Rattle.ng_parts.specs.TemplateOf.{template_of}
use Rattle.ng_inputs.specs.Files as files
use Rattle.ng_inputs.specs.Refusals as refusals
use Rattle.ng_inputs.specs.declared.files.File.{File}
use Rattle.ng_inputs.specs.declared.files.Inputs.{Inputs}
use Rattle.ng_inputs.specs.declared.files.Got.{Got}
use Rattle.ng_inputs.specs.declared.files.Got.TheVariants as got
use Rattle.ng_inputs.specs.declared.files.Fetched.{Fetched}
use Rattle.ng_inputs.specs.declared.files.Fetched.TheVariants as fetched
use Rattle.ng_inputs.specs.declared.refusal.Accepted.{Accepted}

abbrev pub file_of : File → files.File
file_of f = files.file f.role f.name.now

abbrev pub inputs_of : Inputs → files.Inputs
inputs_of i = record { template = i.template.items; application = i.application.items; script = i.script.items }

abbrev pub got_of : Got → files.Got
got_of got.Failed = files.failed
got_of (got.TooLong n) = files.too_long n
got_of (got.Bytes b) = files.bytes b.items

abbrev pub fetched_of : Fetched → files.Fetched
fetched_of (fetched.Brought i) = files.brought (inputs_of i)
fetched_of (fetched.Unread f) = files.unread (file_of f)
fetched_of (fetched.Overlong role n) = files.overlong role n

abbrev pub accepted_of : Accepted → refusals.Accepted
accepted_of a = record { facts = facts a.app; template = template_of a.template; commands = entries_of a.commands }
