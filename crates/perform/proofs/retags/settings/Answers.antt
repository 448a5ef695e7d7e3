-- Pointer, protector and freeze flag are the request's.
use mathlib.Core.Path.{refl}
use Rattle.definition.specs.Retag.{reborrow_settings}
use Rattle.request.specs.Fields.{request_of}
use Rattle.perform.proofs.retags.settings.Goals as goal

pub returns : goal.returns
returns c = λ mask ws i. reborrow_settings (c.safe_pointer.ensures (request_of c.args.q ws) refl i) (c.protector.ensures i) mask (c.freeze.ensures i)
