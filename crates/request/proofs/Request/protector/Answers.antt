-- By the function-entry bit, and then by the pointer.
use mathlib.Core.Bool.{true, false}
use mathlib.Core.Path.{◌≡◌, refl, sym, ap, ◌∙◌}
use Rattle.definition.specs.Request.{function_entry, entry_protector}
use Rattle.request.specs.Fields.{fields_of}
use Rattle.request.proofs.Request.protector.Goals as goal

pub returns-then-function_entry : goal.returns-then-function_entry
returns-then-function_entry c = let q = c.args.self in
    let f : function_entry (fields_of q) ≡ true = sym c.function_entry.ensures ∙ c.if-function_entry.true in
    rw f (c.entry_protector.ensures ∙ ap entry_protector (c.safe_pointer.ensures (fields_of q) refl))

pub returns-else-function_entry : goal.returns-else-function_entry
returns-else-function_entry c = let f : function_entry (fields_of c.args.self) ≡ false = sym c.function_entry.ensures ∙ c.if-function_entry.false in
    rw f
